-- The values of elements, whose texts are found by the literals and the unit's texts alone.
use Rattle.std.specs.Prelude.{ℕ, ◌-◌, ℤ, List, [], ◌∷◌, length, take, slice_get}
use Rattle.ctypes.specs.declared.types.IntType.{IntType}
use Rattle.ctypes.specs.Types.{converted}
use Rattle.typing_spec.specs.Verdict.{Verdict, fine, then_check}
use Rattle.typing_spec.specs.Program.{Value, Initialiser, Initialisers}
use Rattle.typing_spec.specs.Scope.{Scope, file_scope, or_empty}
use Rattle.typing_spec.specs.Constants.{folded}
use Rattle.typing_spec.specs.Initialisers as typed
use Rattle.typing_expressions.specs.Forms.{seen}

-- a scope that has these alone
abbrev pub with_both : List (List ℕ) → List ℕ → Scope
with_both texts literals = seen texts literals (file_scope [] [])

abbrev pub values_with : List (List ℕ) → List ℕ → IntType → List ℕ → Initialiser → Verdict (List ℤ)
values_with texts literals t lengths i = typed.values (with_both texts literals) t lengths i

abbrev pub all_values_with : List (List ℕ) → List ℕ → IntType → List ℕ → Initialisers → Verdict (List ℤ)
all_values_with texts literals t lengths is = typed.all_values (with_both texts literals) t lengths is

-- a number's
abbrev pub value_with : IntType → Value → Verdict (List ℤ)
value_with t e = then_check (folded e) (λ v. fine (converted t v ∷ []))

-- the characters of a text, and of the literal with this number
abbrev pub characters_with : List (List ℕ) → ℕ → List ℕ
characters_with texts n = let text = or_empty (slice_get texts n) in take (length text - 1) text

abbrev pub text_with : List (List ℕ) → List ℕ → ℕ → List ℕ
text_with texts literals n = typed.text_at (with_both texts literals) n
