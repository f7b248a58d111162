-- A measure of statements, which shows that their analysis ends.
use Rattle.std.specs.Prelude.{ℕ, ◌+◌}
use Rattle.typing_spec.specs.Program as typed
use Rattle.typing_spec.specs.Program.{Initialiser, Initialisers, Statement, Statements}

abbrev mutual
  pub work : Statement → ℕ
  work typed.empty = 1
  work (typed.evaluate e) = 1
  work (typed.declare n) = 1
  work (typed.define n i) = 1
  work (typed.block first count all) = work_all all + 3
  work (typed.branch e a) = work a + 3
  work (typed.branches e a b) = work a + work b + 3
  work (typed.switch t e first count all) = work_all all + 5
  work (typed.case v) = 1
  work typed.default = 1
  work (typed.while e a) = work a + 10
  work (typed.do_while a e) = work a + 11
  work (typed.for declared start test step a) = work_all declared + work a + 12
  work typed.break = 1
  work typed.continue = 1
  work typed.return_nothing = 1
  work (typed.return_value t e) = 1

  pub work_all : Statements → ℕ
  work_all typed.no_statements = 1
  work_all (typed.and_statement a more) = work a + work_all more + 3

abbrev mutual
  pub work_initialiser : Initialiser → ℕ
  work_initialiser (typed.one_value u e) = 1
  work_initialiser (typed.text n) = 1
  work_initialiser (typed.in_braces i) = work_initialiser i + 2
  work_initialiser (typed.list all) = work_initialisers all + 4

  pub work_initialisers : Initialisers → ℕ
  work_initialisers typed.no_initialisers = 1
  work_initialisers (typed.and_initialiser i more) = work_initialiser i + work_initialisers more + 3
