-- How many instructions the code of statements has.
use Rattle.std.specs.Prelude.{ℕ, ℤ, List, [], ◌∷◌, Option, Some, None, slice_get}
use Rattle.typing_spec.specs.Program as typed
use Rattle.typing_spec.specs.Program.{Value, Statement, Statements}
use Rattle.csem.specs.Statements.{labels_of}
use Rattle.lower_correct.specs.Values.{keeps}
use Rattle.lower_correct.specs.Bodies.{is_within, has_objects}
use Rattle.lower_ops.specs.declared.modes.Shape.TheVariants as shape
use Rattle.lower_ops.specs.layer.Parts.{plus}
use Rattle.lower_ops.specs.layer.FormSizes.{converts_size}
use Rattle.lower_exprs.specs.layer.Sizes.{value_size, wait_shape, rest_shape}
use Rattle.tac.specs.inside.FirstSizes.{initialises_size}

abbrev pub effects_size : Option Value → ℕ
effects_size None = 0
effects_size (Some e) = value_size e shape.Nowhere

abbrev pub repeats_size : Option Value → ℕ
repeats_size None = 1
repeats_size (Some e) = value_size e shape.Jump

abbrev pub tests_size : List (Option ℤ) → ℕ
tests_size [] = 1
tests_size (None ∷ labels) = tests_size labels
tests_size (Some c ∷ labels) = plus 1 (tests_size labels)

-- of a function of a program
module _ (p : typed.Program) (f : typed.Function) where
  abbrev mutual
    pub statement_size : Statement → ℕ
    statement_size typed.empty = 1
    statement_size (typed.evaluate e) = plus 1 (value_size e shape.Nowhere)
    statement_size (typed.declare n) = 1
    statement_size (typed.define n i) = plus 1 (initialises_size p.literals (slice_get f.objects n) i)
    statement_size (typed.block first count all) = plus 1 (statements_size all)
    statement_size (typed.branch e a) = plus 1 (plus (value_size e shape.Jump) (statement_size a))
    statement_size (typed.branches e a b) =
        plus 1 (plus (value_size e shape.Jump) (plus (statement_size a) (plus 1 (statement_size b))))
    statement_size (typed.switch u e first count all) =
        plus 1 (plus (value_size e (wait_shape e (is_within first count) (has_objects count))) (plus 1 (plus (tests_size (labels_of all)) (statements_size all))))
    statement_size (typed.case v) = 1
    statement_size typed.default = 1
    statement_size (typed.while e a) = plus 1 (plus (statement_size a) (value_size e shape.Jump))
    statement_size (typed.do_while a e) = plus 1 (plus (statement_size a) (value_size e shape.Jump))
    statement_size (typed.for declared start test step a) =
        plus 1 (plus (statements_size declared) (plus (effects_size start) (plus 1 (plus (statement_size a) (plus (effects_size step) (repeats_size test))))))
    statement_size typed.break = 1
    statement_size typed.continue = 1
    statement_size typed.return_nothing = plus 1 1
    statement_size (typed.return_value u e) = plus 1 (plus (converts_size (keeps u e) (value_size e) (rest_shape e) shape.Local) 1)

    pub statements_size : Statements → ℕ
    statements_size typed.no_statements = 0
    statements_size (typed.and_statement x more) = plus (statement_size x) (statements_size more)
