-- Which parts are evaluated at once: those that call nothing.
use Rattle.std.specs.Prelude.{Bool, true, false, ◌&&◌, Option, Some, None}
use Rattle.typing_spec.specs.Program as typed
use Rattle.typing_spec.specs.Program.{Place, Value, Initialiser, Initialisers, Statement, Statements}
use Rattle.interp_store.specs.layer.Frames as on
use Rattle.interp_store.specs.layer.Frames.{Node}

abbrev mutual
  pub quick_place : Place → Bool
  quick_place (typed.named at what) = true
  quick_place (typed.element at array index) = quick_place array && quick index

  pub quick : Value → Bool
  quick (typed.constant t v) = true
  quick (typed.read t place) = quick_place place
  quick (typed.assigned at t place e) = quick_place place && quick e
  quick (typed.compound at op t of place e) = quick_place place && quick e
  quick (typed.stepped at moment op t of place) = quick_place place
  quick (typed.unary at op t e) = quick e
  quick (typed.binary at op t a b) = quick a && quick b
  quick (typed.both_true a b) = quick a && quick b
  quick (typed.one_true a b) = quick a && quick b
  quick (typed.chosen t c a b) = quick c && quick a && quick b
  quick (typed.sequence a b) = quick a && quick b
  quick (typed.cast t e) = quick e
  quick (typed.discarded e) = quick e
  quick (typed.call at callee result used passed) = false

abbrev pub quick_or : Option Value → Bool
quick_or None = true
quick_or (Some e) = quick e

abbrev pub quick_control : (start test step : Option Value) → Bool
quick_control start test step = quick_or start && quick_or test && quick_or step

abbrev mutual
  pub quick_initialiser : Initialiser → Bool
  quick_initialiser (typed.one_value t e) = quick e
  quick_initialiser (typed.text n) = true
  quick_initialiser (typed.in_braces i) = quick_initialiser i
  quick_initialiser (typed.list all) = quick_initialisers all

  pub quick_initialisers : Initialisers → Bool
  quick_initialisers typed.no_initialisers = true
  quick_initialisers (typed.and_initialiser i more) = quick_initialiser i && quick_initialisers more

abbrev mutual
  pub quick_statement : Statement → Bool
  quick_statement typed.empty = true
  quick_statement (typed.evaluate e) = quick e
  quick_statement (typed.declare n) = true
  quick_statement (typed.define n i) = quick_initialiser i
  quick_statement (typed.block first count all) = quick_all all
  quick_statement (typed.branch e a) = quick e && quick_statement a
  quick_statement (typed.branches e a b) = quick e && quick_statement a && quick_statement b
  quick_statement (typed.switch t e first count all) = quick e && quick_all all
  quick_statement (typed.case v) = true
  quick_statement typed.default = true
  quick_statement (typed.while e a) = quick e && quick_statement a
  quick_statement (typed.do_while a e) = quick e && quick_statement a
  quick_statement (typed.for declared start test step a) = quick_control start test step && quick_all declared && quick_statement a
  quick_statement typed.break = true
  quick_statement typed.continue = true
  quick_statement typed.return_nothing = true
  quick_statement (typed.return_value t e) = quick e

  pub quick_all : Statements → Bool
  quick_all typed.no_statements = true
  quick_all (typed.and_statement a more) = quick_statement a && quick_all more

abbrev pub quick_node : Node → Bool
quick_node (on.place a) = false
quick_node (on.value e) = quick e
quick_node (on.statement objects a) = quick_statement a
quick_node (on.initialiser i t lengths r) = false
quick_node (on.element r v) = false
quick_node (on.ticking more late) = false
quick_node (on.switch_block objects v first count all) = false
quick_node (on.case_test objects v c labels n default all) = false
