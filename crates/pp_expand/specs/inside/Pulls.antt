-- The first token of an expansion, as the code finds it.
use Rattle.std.specs.Prelude.{◌≡◌, ℕ, ◌<◌, List, [], ◌∷◌, ◌⊎◌, Option, Some, None, Result, Ok, Err}
use Rattle.srcset.specs.NameTable.{Texts, NumbersOnce}
use Rattle.srcset.specs.declared.refusal.Refusal.{Refusal}
use Rattle.macros_substitution.specs.HideSets.{Sets}
use Rattle.macros_substitution.specs.Meaning.{hidden_of, hidden_all}
use Rattle.macros_substitution.specs.declared.piece.HiddenToken.{HiddenToken}
use Rattle.pp_expand.specs.declared.task.Step.{Step}
use Rattle.pp_expand.specs.declared.task.Step.TheVariants.{Predefined, Replaced}
use Rattle.pp_expand.specs.Expansion.{Known, Replacement, predefined_front}
use Rattle.pp_expand.specs.Pulled.{expanding, made_by, Pull, one_less}
use Rattle.pp_expand.specs.Meaning.{Refuses}
use Rattle.pp_expand.specs.inside.Turns.{IsTask}
use Rattle.pp_expand.specs.inside.Waits.{MakesAs}

-- a step, in front of a list with `left` replacements left, leaves the list `new` with `after` left
abbrev pub StepsAs : {A : Type 0} → Known → Sets → Step → List HiddenToken → ℕ → Result A Refusal → List HiddenToken → ℕ → Type 0
StepsAs known sets (Predefined x) list left result new after =
    MakesAs known.texts sets result new after (one_less x.token.pos left (λ n. Ok (predefined_front known (hidden_of known.texts sets x) ∷ hidden_all known.texts sets list, n)))
StepsAs known sets (Replaced k) list left result new after =
    (r : Replacement) → IsTask known.texts sets k list r → NumbersOnce known.texts → MakesAs known.texts sets result new after (one_less r.call.at left (made_by (expanding known) r))

-- the pulled token, the list left after it, and the number of replacements left then
abbrev pub PullsAs : Texts → Sets → Result (Option HiddenToken) Refusal → List HiddenToken → ℕ → Pull → Type 0
PullsAs texts sets (Ok (Some x)) list left pull = pull ≡ Ok (Some (hidden_of texts sets x), hidden_all texts sets list, left)
PullsAs texts sets (Ok None) list left pull = (list ≡ []) × (pull ≡ Ok (None, [], left))
PullsAs texts sets (Err refusal) list left pull = Refuses refusal pull

-- fewer replacements are left, or as many and a shorter list
abbrev pub FallsTo : ℕ → ℕ → ℕ → ℕ → Type 0
FallsTo left length after shorter = (after < left) ⊎ ((after ≡ left) × (shorter < length))
