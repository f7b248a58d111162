-- A measure of the parts of expressions, initialisers and statements, so that evaluating one ends.
use Rattle.std.specs.Prelude.{ℕ, ◌+◌}
use Rattle.typing_spec.specs.Program as typed
use Rattle.typing_spec.specs.Program.{Place, Value, Initialiser, Initialisers, Statement, Statements}

abbrev mutual
  pub work_place : Place → ℕ
  work_place (typed.named at what) = 1
  work_place (typed.element at array index) = work_place array + work index + 3

  pub work : Value → ℕ
  work (typed.constant t v) = 1
  work (typed.read t place) = work_place place + 5
  work (typed.assigned at t place e) = work_place place + work e + 4
  work (typed.compound at op t of place e) = work_place place + work e + 4
  work (typed.stepped at moment op t of place) = work_place place + 4
  work (typed.unary at op t e) = work e + 3
  work (typed.binary at op t a b) = work a + work b + 3
  work (typed.both_true a b) = work a + work b + 3
  work (typed.one_true a b) = work a + work b + 3
  work (typed.chosen t c a b) = work c + work a + work b + 3
  work (typed.sequence a b) = work a + work b + 3
  work (typed.cast t e) = work e + 3
  work (typed.discarded e) = work e + 3
  work (typed.call at callee result used arguments) = 1

abbrev mutual
  pub work_initialiser : Initialiser → ℕ
  work_initialiser (typed.one_value t e) = 1
  work_initialiser (typed.text n) = 1
  work_initialiser (typed.in_braces i) = work_initialiser i + 3
  work_initialiser (typed.list all) = work_initialisers all + 3

  pub work_initialisers : Initialisers → ℕ
  work_initialisers typed.no_initialisers = 1
  work_initialisers (typed.and_initialiser i more) = work_initialiser i + work_initialisers more + 1

abbrev mutual
  pub work_statement : Statement → ℕ
  work_statement typed.empty = 1
  work_statement (typed.evaluate e) = 1
  work_statement (typed.declare n) = 1
  work_statement (typed.define n i) = 1
  work_statement (typed.block first count all) = work_all all + 3
  work_statement (typed.branch e a) = work_statement a + 3
  work_statement (typed.branches e a b) = work_statement a + work_statement b + 3
  work_statement (typed.switch t e first count all) = work_all all + 4
  work_statement (typed.case v) = 1
  work_statement typed.default = 1
  work_statement (typed.while e a) = work_statement a + 4
  work_statement (typed.do_while a e) = work_statement a + 4
  work_statement (typed.for declared start test step a) = work_all declared + work_statement a + 5
  work_statement typed.break = 1
  work_statement typed.continue = 1
  work_statement typed.return_nothing = 1
  work_statement (typed.return_value t e) = 1

  pub work_all : Statements → ℕ
  work_all typed.no_statements = 1
  work_all (typed.and_statement a more) = work_statement a + work_all more + 1
