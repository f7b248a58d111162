-- A measure of the parts of expressions, so that analysing one ends.
use Rattle.std.specs.Prelude.{ℕ, ◌+◌}
use Rattle.typing_spec.specs.Program as typed
use Rattle.typing_spec.specs.Program.{Value, Place, Arguments}
use Rattle.typed_ast.specs.View.{Given, number_given, array_given}

abbrev mutual
  pub work : Value → ℕ
  work (typed.constant t v) = 1
  work (typed.read t place) = work_place place + 4
  work (typed.assigned at t place e) = work_place place + work e + 5
  work (typed.compound at op t of place e) = work_place place + work e + 5
  work (typed.stepped at moment op t of place) = work_place place + 5
  work (typed.unary at op t e) = work e + 3
  work (typed.binary at op t a b) = work a + work b + 3
  work (typed.both_true a b) = work a + work b + 3
  work (typed.one_true a b) = work a + work b + 3
  work (typed.chosen t c a b) = work c + work a + work b + 3
  work (typed.sequence a b) = work a + work b + 3
  work (typed.cast t e) = work e + 3
  work (typed.discarded e) = work e + 3
  work (typed.call at callee result used arguments) = work_arguments arguments + 4

  pub work_place : Place → ℕ
  work_place (typed.named at what) = 1
  work_place (typed.element at array index) = work_place array + work index + 4

  pub work_arguments : Arguments → ℕ
  work_arguments typed.no_arguments = 1
  work_arguments (typed.and_number t e more) = work e + work_arguments more + 4
  work_arguments (typed.and_array array more) = work_place array + work_arguments more + 4

abbrev pub work_given : Given → ℕ
work_given (number_given t e) = work e
work_given (array_given place) = work_place place
