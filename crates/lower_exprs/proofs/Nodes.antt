-- Measures of expressions.
use Rattle.std.proofs.Common.{◌≡◌, ℕ, ◌+◌, refl}
use Rattle.typing_spec.specs.Program as typed
use Rattle.typing_spec.specs.Program.{Place, Value, Arguments}
use Rattle.typed_ast.specs.View.{Given, number_given, array_given, and_given}

abbrev mutual
  pub place_nodes : Place → ℕ
  place_nodes (typed.named at what) = 1
  place_nodes (typed.element at array index) = 1 + (place_nodes array + nodes index)

  pub nodes : Value → ℕ
  nodes (typed.constant t v) = 1
  nodes (typed.read t place) = 1 + place_nodes place
  nodes (typed.assigned at t place e) = 1 + (place_nodes place + nodes e)
  nodes (typed.compound at op t of place e) = 1 + (place_nodes place + nodes e)
  nodes (typed.stepped at moment op t of place) = 1 + place_nodes place
  nodes (typed.unary at op t e) = 1 + nodes e
  nodes (typed.binary at op t a b) = 1 + (nodes a + nodes b)
  nodes (typed.both_true a b) = 1 + (nodes a + nodes b)
  nodes (typed.one_true a b) = 1 + (nodes a + nodes b)
  nodes (typed.chosen t c a b) = 1 + (nodes c + (nodes a + nodes b))
  nodes (typed.sequence a b) = 1 + (nodes a + nodes b)
  nodes (typed.cast t e) = 1 + nodes e
  nodes (typed.discarded e) = 1 + nodes e
  nodes (typed.call at callee result used arguments) = 1 + argument_nodes arguments

  pub argument_nodes : Arguments → ℕ
  argument_nodes typed.no_arguments = 0
  argument_nodes (typed.and_number t e more) = 1 + (nodes e + argument_nodes more)
  argument_nodes (typed.and_array array more) = 1 + (place_nodes array + argument_nodes more)

abbrev pub given_nodes : Given → ℕ
given_nodes (number_given t e) = nodes e
given_nodes (array_given array) = place_nodes array

pub argument_step : (g : Given) (more : Arguments) → argument_nodes (and_given g more) ≡ 1 + (given_nodes g + argument_nodes more)
argument_step (number_given t e) more = refl
argument_step (array_given array) more = refl
