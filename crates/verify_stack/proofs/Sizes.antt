-- Sizes of the parts of a program, by which adding their calls ends.
use Rattle.std.specs.Prelude.{ℕ, ◌+◌}
use Rattle.typing_spec.specs.Program as typed
use Rattle.typing_spec.specs.Program.{Place, Value, Arguments, Initialiser, Initialisers, Statement, Statements}
use Rattle.typed_ast.specs.View.{Given, number_given, array_given}

abbrev mutual
  pub place_size : Place → ℕ
  place_size (typed.named at what) = 1
  place_size (typed.element at array index) = place_size array + value_size index + 2

  pub value_size : Value → ℕ
  value_size (typed.constant t v) = 1
  value_size (typed.read t place) = place_size place + 2
  value_size (typed.assigned at t place e) = place_size place + value_size e + 2
  value_size (typed.compound at op t of place e) = place_size place + value_size e + 2
  value_size (typed.stepped at moment op t of place) = place_size place + 2
  value_size (typed.unary at op t e) = value_size e + 2
  value_size (typed.binary at op t a b) = value_size a + value_size b + 2
  value_size (typed.both_true a b) = value_size a + value_size b + 2
  value_size (typed.one_true a b) = value_size a + value_size b + 2
  value_size (typed.chosen t c a b) = value_size c + value_size a + value_size b + 3
  value_size (typed.sequence a b) = value_size a + value_size b + 2
  value_size (typed.cast t e) = value_size e + 2
  value_size (typed.discarded e) = value_size e + 2
  value_size (typed.call at callee result used arguments) = arguments_size arguments + 3

  pub arguments_size : Arguments → ℕ
  arguments_size typed.no_arguments = 1
  arguments_size (typed.and_number t e more) = value_size e + arguments_size more + 2
  arguments_size (typed.and_array array more) = place_size array + arguments_size more + 2

abbrev pub given_size : Given → ℕ
given_size (number_given t e) = value_size e
given_size (array_given place) = place_size place

abbrev mutual
  pub initialiser_size : Initialiser → ℕ
  initialiser_size (typed.one_value t e) = 1
  initialiser_size (typed.text n) = 1
  initialiser_size (typed.in_braces i) = initialiser_size i + 2
  initialiser_size (typed.list all) = initialisers_size all + 2

  pub initialisers_size : Initialisers → ℕ
  initialisers_size typed.no_initialisers = 1
  initialisers_size (typed.and_initialiser i more) = initialiser_size i + initialisers_size more + 2

abbrev mutual
  pub statement_size : Statement → ℕ
  statement_size typed.empty = 1
  statement_size (typed.evaluate e) = 1
  statement_size (typed.declare n) = 1
  statement_size (typed.define n i) = 1
  statement_size (typed.block first count all) = statements_size all + 3
  statement_size (typed.branch e a) = statement_size a + 3
  statement_size (typed.branches e a b) = statement_size a + statement_size b + 3
  statement_size (typed.switch t e first count all) = statements_size all + 3
  statement_size (typed.case v) = 1
  statement_size typed.default = 1
  statement_size (typed.while e a) = statement_size a + 3
  statement_size (typed.do_while a e) = statement_size a + 3
  statement_size (typed.for declared start test step a) = statements_size declared + statement_size a + 3
  statement_size typed.break = 1
  statement_size typed.continue = 1
  statement_size typed.return_nothing = 1
  statement_size (typed.return_value t e) = 1

  pub statements_size : Statements → ℕ
  statements_size typed.no_statements = 1
  statements_size (typed.and_statement a more) = statement_size a + statements_size more + 2
