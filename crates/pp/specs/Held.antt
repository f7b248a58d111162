-- The relation of the state that a stream holds to that of the definition.
use Rattle.std.specs.Prelude.{◌≡◌, ◌≤◌, ◌<◌, ℕ, suc, List, length}
use Rattle.srcset.specs.NameTable.{Texts}
use Rattle.phases.specs.Token.{Token}
use Rattle.macros.specs.Table.{IsTable}
use Rattle.pp.specs.declared.places.Presumed.{Presumed as Places}
use Rattle.pp.specs.declared.state.State.{State as Held}
use Rattle.pp.specs.Phase4.{Presumed, State, max_tokens}

abbrev pub presumed_of : Places → Presumed
presumed_of p = record { from = suc p.behind; line = p.line; file = p.file }

-- the count of given tokens
abbrev pub IsGiven : ℕ → List Token → Type 0
IsGiven held given = length given ≡ held

-- where names are numbered by these texts
pub record Agrees (names : Texts) (held : Held) (s : State) : Type 0 where
  pub table_is : IsTable names held.table s.macros
  pub left_is : s.left ≡ held.budget
  pub given_is : IsGiven held.given s.given
  pub presumed_is : s.presumed ≡ presumed_of held.presumed

-- the bounds that it keeps
pub record IsSound (names : Texts) (held : Held) : Type 0 where
  pub room : held.given ≤ max_tokens
  pub has_file : held.presumed.file < length names
