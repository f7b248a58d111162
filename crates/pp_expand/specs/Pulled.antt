-- The first token of the expansion of a list, and the list after it: replacements are made until the first token is final.
use Rattle.std.specs.Prelude.{ℕ, zero, suc, List, [], ◌∷◌, false, Option, Some, None, Result, Ok, Err}
use Rattle.srcset.specs.declared.refusal.Pos.{Pos}
use Rattle.srcset.specs.declared.code.Code.TheVariants as code
use Rattle.macros_substitution.specs.Substitution.{◌>>=◌, Hidden, strings_made, sides, substituted}
use Rattle.pp_expand.specs.Expansion.{Ending, Known, Replacement, Turn, stands, refused, predefined, replaced, turn, Fault, Answer, Next, at_place, arguments_expanded, front_of, predefined_front, behind, expanded_by}

-- the expansion of a list whose tokens have hide sets
abbrev pub expanding : Known → Next
expanding known xs ending left = expanded_by left known xs ending left

-- the list that a replacement leaves, its tokens in front of the rest, and the replacements left after those of its arguments
unfoldable pub made_by : Next → Replacement → ℕ → Answer
made_by next r left =
    at_place r.call.at (strings_made r.call r.call.macro.body)
    >>= λ made. let pieces = sides false made in arguments_expanded next pieces 0 r.call.arguments left
    >>= λ full. at_place r.call.at (substituted r.call full.0 pieces)
    >>= λ new. Ok (front_of r new, full.1)

-- the token, none where the list ends; the list after it; the number of replacements left
abbrev pub Pull : Type 0
Pull = Result (Option Hidden × List Hidden × ℕ) Fault

-- a replacement at this place takes one of those that are left
abbrev pub one_less : {A : Type 0} → Pos → ℕ → (ℕ → Result A Fault) → Result A Fault
one_less at zero next = Err (record { code = code.ReplacementLimit; at = at })
one_less at (suc left) next = next left

-- by cases on the effect of the first token; `again` pulls from the list that a replacement makes
abbrev pub pulled_at : Known → (List Hidden → ℕ → Pull) → Turn → Hidden → List Hidden → ℕ → Pull
pulled_at known again stands x rest left = Ok (Some x, rest, left)
pulled_at known again (refused c) x rest left = Err (record { code = c; at = x.token.pos })
pulled_at known again predefined x rest left = one_less x.token.pos left (λ n. again (predefined_front known x ∷ rest) n)
pulled_at known again (replaced r) x rest left =
    one_less r.call.at left (λ n. made_by (expanding known) r n >>= λ a. again a.0 a.1)

unfoldable pub pulled_first : Known → (List Hidden → ℕ → Pull) → List Hidden → Ending → ℕ → Pull
pulled_first known again [] ending left = Ok (None, [], left)
pulled_first known again (x ∷ rest) ending left = pulled_at known again (turn known x rest ending) x rest left

-- the recursion ends on a number that is at least that of the replacements left
unfoldable pub pulled_by : ℕ → Known → List Hidden → Ending → ℕ → Pull
pulled_by zero known xs ending left = pulled_first known (λ _ _. Ok (None, [], 0)) xs ending left
pulled_by (suc n) known xs ending left = pulled_first known (λ ys m. pulled_by n known ys ending m) xs ending left

abbrev pub pulled : Known → List Hidden → Ending → ℕ → Pull
pulled known xs ending left = pulled_by left known xs ending left

-- the pulled token precedes the expansion of the list after it
abbrev pub then_expanded : Known → Ending → Option Hidden → List Hidden → ℕ → Answer
then_expanded known ending None rest left = Ok ([], left)
then_expanded known ending (Some x) rest left = behind x (expanding known rest ending left)
