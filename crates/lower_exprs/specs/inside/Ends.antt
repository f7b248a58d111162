-- Which of some arguments are the last that call and that may assign.
use Rattle.std.specs.Prelude.{ℕ, zero, suc, ◌≡◌, List, [], ◌∷◌, Bool, true, false, map, drop}
use Rattle.typed_ast.specs.declared.expressions.Argument.{Argument}
use Rattle.typed_ast.specs.View.{Given, argument_of, arguments_of}
use Rattle.lower_correct.specs.Values.{arguments_write}
use Rattle.lower_exprs.specs.declared.ends.Ends.{Ends}
use Rattle.lower_exprs.specs.inside.Given.{given_calls}

-- with one more in front
abbrev pub one_before : ℕ → Bool → ℕ
one_before zero true = 1
one_before zero false = 0
one_before (suc n) calls = suc (suc n)

-- the position of the last one that calls, counted from 1
abbrev pub calling_in : List Given → ℕ
calling_in [] = 0
calling_in (g ∷ gs) = one_before (calling_in gs) (given_calls g)

abbrev pub write_nothing : List Argument → Type 0
write_nothing xs = (x : ℕ) → arguments_write (arguments_of (map argument_of xs)) x ≡ false

abbrev pub AreEnds : Ends → List Argument → Type 0
AreEnds ends xs = (ends.calling ≡ calling_in (map argument_of xs)) × write_nothing (drop ends.writing xs)
