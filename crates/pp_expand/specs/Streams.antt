-- A list that is expanded one token at a time, and the result of a call.
use Rattle.std.specs.Prelude.{◌≡◌, ℕ, ◌+◌, ◌*◌, ◌^◌, List, [], ◌++◌, map, length, Option, Some, None, Result, Ok, Err}
use Rattle.srcset.specs.declared.fault.Fault.{Fault as ToldFault}
use Rattle.srcset.specs.declared.refusal.Refusal.{Refusal}
use Rattle.srcset.specs.declared.refusal.Refusal.TheVariants.{Memory, At, Told}
use Rattle.srcset.specs.NameTable.{Texts}
use Rattle.srcset.specs.Refusal.{IsFaultOfRefusal}
use Rattle.phases.specs.Token.{Token}
use Rattle.macros_substitution.specs.Substitution.{Hidden}
use Rattle.macros_substitution.specs.HideSets.{Sets, NamesBelow}
use Rattle.macros_substitution.specs.Meaning.{hidden_all}
use Rattle.macros_substitution.specs.declared.piece.HiddenToken.{HiddenToken}
use Rattle.pp_expand.specs.declared.run_end.RunEnd.{RunEnd}
use Rattle.pp_expand.specs.Expansion.{unhidden}
use Rattle.pp_expand.specs.Expands.{HaveFiles}
use Rattle.pp_expand.specs.Pulled.{Pull}

-- The rest of a list: tokens with the numbers of their hide sets in a table, followed by tokens that hide nothing;
-- where it ends; how it was refused, once it was.
pub record Stream : Type 0 where
  pub list : List HiddenToken
  pub fresh : List Token
  pub sets : Sets
  pub end : RunEnd
  pub refused : Option Refusal

-- the list left, where these texts have the names of the hide sets
abbrev pub list_left : Texts → Stream → List Hidden
list_left texts s = hidden_all texts s.sets s.list ++ unhidden s.fresh

-- each name in a hide set is one of these, and the file of each token has a number
pub record Knows (names : Texts) (s : Stream) : Type 0 where
  pub names_below : NamesBelow (length names) s.sets
  pub list_files : HaveFiles names (map (λ x. x.token) s.list)
  pub fresh_files : HaveFiles names s.fresh

-- an upper bound of the work left, with `left` replacements left
abbrev pub size_left : Stream → ℕ → ℕ
size_left s left = left * 2 ^ 66 + (length s.list + length s.fresh)

abbrev pub refusal_of : {A : Type 0} → Result A Refusal → Option Refusal
refusal_of (Ok x) = None
refusal_of (Err f) = Some f

-- the result of a call, the list that it leaves, and the replacements left before and after, as the definition has them
abbrev pub IsPulled : Result (Option Token) Refusal → List Hidden → ℕ → ℕ → Pull → Type 0
IsPulled (Ok (Some x)) behind old new pull =
    (hides : List (List ℕ)) × (pull ≡ Ok (Some (record { token = x; hides = hides }), behind, new))
IsPulled (Ok None) behind old new pull = (behind ≡ []) × (pull ≡ Ok (None, [], new))
IsPulled (Err Memory) behind old new pull = new ≡ old
IsPulled (Err (At code pos)) behind old new pull = (pull ≡ Err (record { code = code; at = pos })) × (new ≡ old)
IsPulled (Err (Told code pos text)) behind old new pull = ⊥

-- a call that fails with a fault is related as one that fails with a refusal
abbrev pub IsTold : {A : Type 0} → Texts → Result A ToldFault → Result A Refusal → Type 0
IsTold texts (Ok x) answer = answer ≡ Ok x
IsTold texts (Err fault) answer = (refusal : Refusal) × IsFaultOfRefusal fault texts refusal × (answer ≡ Err refusal)
