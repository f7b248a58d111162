-- The meaning of the engine's lists: the result of the definition, with no bound on the recursion in sight.
use Rattle.std.specs.Prelude.{◌≡◌, ℕ, List, ◌++◌, Result, Ok, Err}
use Rattle.srcset.specs.declared.refusal.Refusal.{Refusal}
use Rattle.srcset.specs.declared.refusal.Refusal.TheVariants.{Memory, At, Told}
use Rattle.phases.specs.Token.{Token}
use Rattle.macros_substitution.specs.Substitution.{◌>>=◌, Hidden}
use Rattle.macros_substitution.specs.HideSets.{Sets}
use Rattle.macros_substitution.specs.Meaning.{hidden_all, AreIn}
use Rattle.pp_expand.specs.declared.level.Level.{Level}
use Rattle.pp_expand.specs.Expansion.{Known, Answer, Fault, shown_answer}
use Rattle.pp_expand.specs.Pulled.{expanding}
use Rattle.pp_expand.specs.Expands.{ending_of, put_behind}

-- after the tokens that are expanded already
abbrev pub with_list : List Hidden → Answer → Answer
with_list out answer = answer >>= λ a. Ok (out ++ a.0, a.1)

-- the expansion of the list that a level began with
abbrev pub level_meaning : Known → Sets → Level → ℕ → Answer
level_meaning known sets l left =
    with_list (hidden_all known.texts sets l.out.items) (expanding known (hidden_all known.texts sets l.rest.items) (ending_of l.end) left)

-- the hide sets of its tokens are among the first `count`
abbrev pub LevelIn : ℕ → Level → Type 0
LevelIn count l = AreIn count l.rest.items × AreIn count l.out.items

-- after existing tokens, up to `most` in all
abbrev pub behind : ℕ → List Token → Result (List Token × ℕ) Fault → Result (List Token × ℕ) Fault
behind most before r = r >>= λ a. Ok (put_behind most before a.0, a.1)

abbrev pub shown_behind : ℕ → List Token → Answer → Result (List Token × ℕ) Fault
shown_behind most before answer = behind most before (shown_answer answer)

-- a refusal of the engine
abbrev pub Refuses : {A : Type 0} → Refusal → Result A Fault → Type 0
Refuses Memory answer = Unit {0}
Refuses (At c pos) answer = answer ≡ Err (record { code = c; at = pos })
Refuses (Told c pos text) answer = ⊥
