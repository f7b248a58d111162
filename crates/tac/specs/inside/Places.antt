-- The places of the labels of a switch.
use Rattle.std.specs.Prelude.{ℕ, ℤ, List, [], ◌∷◌, ◌++◌, Option, Some, None}
use Rattle.typing_spec.specs.Program as typed
use Rattle.typing_spec.specs.Program.{Statements}
use Rattle.lower_correct.specs.Bodies.{label_places}
use Rattle.lower_ops.specs.layer.Parts.{plus}
use Rattle.tac.specs.inside.Sizes.{statement_size}

-- the label that a statement is, if it is one
abbrev pub one_label : Option (Option ℤ) → List (Option ℤ)
one_label None = []
one_label (Some l) = l ∷ []

-- the positions of the labels among statements of a function of a program, the first of which is at pc
module _ (p : typed.Program) (f : typed.Function) where
  abbrev pub places_of : Statements → ℕ → List ℕ
  places_of typed.no_statements pc = []
  places_of (typed.and_statement x more) pc = label_places x pc ++ places_of more (plus pc (statement_size p f x))
