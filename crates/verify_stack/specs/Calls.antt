-- Which functions are called in a part of a program (ISO/IEC 9899:2011 6.5.2.2): their numbers, in the order of the source, one for each call.
use Rattle.std.specs.Prelude.{ℕ, List, [], ◌∷◌, ◌++◌, Option, Some, None}
use Rattle.typing_spec.specs.Program as typed
use Rattle.typing_spec.specs.Program.{Callee, Place, Value, Arguments, Initialiser, Initialisers, Statement, Statements}

-- a built-in function calls none of the program's
abbrev pub callee_calls : Callee → List ℕ
callee_calls (typed.function f) = f ∷ []
callee_calls typed.get_byte = []
callee_calls typed.put_byte = []
callee_calls typed.exit = []
callee_calls (typed.missing name) = []

-- ---- expressions (6.5)

abbrev mutual
  pub place_calls : Place → List ℕ
  place_calls (typed.named at what) = []
  place_calls (typed.element at array index) = place_calls array ++ value_calls index

  pub value_calls : Value → List ℕ
  value_calls (typed.constant t v) = []
  value_calls (typed.read t place) = place_calls place
  value_calls (typed.assigned at t place e) = place_calls place ++ value_calls e
  value_calls (typed.compound at op t of place e) = place_calls place ++ value_calls e
  value_calls (typed.stepped at moment op t of place) = place_calls place
  value_calls (typed.unary at op t e) = value_calls e
  value_calls (typed.binary at op t a b) = value_calls a ++ value_calls b
  value_calls (typed.both_true a b) = value_calls a ++ value_calls b
  value_calls (typed.one_true a b) = value_calls a ++ value_calls b
  value_calls (typed.chosen t c a b) = value_calls c ++ (value_calls a ++ value_calls b)
  value_calls (typed.sequence a b) = value_calls a ++ value_calls b
  value_calls (typed.cast t e) = value_calls e
  value_calls (typed.discarded e) = value_calls e
  value_calls (typed.call at callee result used arguments) = argument_calls arguments ++ callee_calls callee

  pub argument_calls : Arguments → List ℕ
  argument_calls typed.no_arguments = []
  argument_calls (typed.and_number t e more) = value_calls e ++ argument_calls more
  argument_calls (typed.and_array array more) = place_calls array ++ argument_calls more

-- an expression that may be left out
abbrev pub option_calls : Option Value → List ℕ
option_calls None = []
option_calls (Some e) = value_calls e

-- ---- initialisers (6.7.9)

abbrev mutual
  pub initialiser_calls : Initialiser → List ℕ
  initialiser_calls (typed.one_value t e) = value_calls e
  initialiser_calls (typed.text n) = []
  initialiser_calls (typed.in_braces i) = initialiser_calls i
  initialiser_calls (typed.list all) = initialisers_calls all

  pub initialisers_calls : Initialisers → List ℕ
  initialisers_calls typed.no_initialisers = []
  initialisers_calls (typed.and_initialiser i more) = initialiser_calls i ++ initialisers_calls more

-- ---- statements (6.8)

abbrev mutual
  pub statement_calls : Statement → List ℕ
  statement_calls typed.empty = []
  statement_calls (typed.evaluate e) = value_calls e
  statement_calls (typed.declare n) = []
  statement_calls (typed.define n i) = initialiser_calls i
  statement_calls (typed.block first count all) = statements_calls all
  statement_calls (typed.branch e a) = value_calls e ++ statement_calls a
  statement_calls (typed.branches e a b) = value_calls e ++ (statement_calls a ++ statement_calls b)
  statement_calls (typed.switch t e first count all) = value_calls e ++ statements_calls all
  statement_calls (typed.case v) = []
  statement_calls typed.default = []
  statement_calls (typed.while e a) = value_calls e ++ statement_calls a
  statement_calls (typed.do_while a e) = statement_calls a ++ value_calls e
  statement_calls (typed.for declared start test step a) =
      statements_calls declared ++ (option_calls start ++ (option_calls test ++ (option_calls step ++ statement_calls a)))
  statement_calls typed.break = []
  statement_calls typed.continue = []
  statement_calls typed.return_nothing = []
  statement_calls (typed.return_value t e) = value_calls e

  pub statements_calls : Statements → List ℕ
  statements_calls typed.no_statements = []
  statements_calls (typed.and_statement s more) = statement_calls s ++ statements_calls more
