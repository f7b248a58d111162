-- Whether each object with static storage that an expression designates is defined (ISO/IEC 9899:2011 6.9p3, p5): one that is only declared
-- has no bytes, and the operand of sizeof, which may name it, is no part of a typed program.
use Rattle.std.specs.Prelude.{Bool, true, false, ◌&&◌, Option, Some, None, slice_get}
use Rattle.typing_spec.specs.Program as typed
use Rattle.typing_spec.specs.Program.{Static, Storage, Place, Value, Arguments, Initialiser, Initialisers, Statement, Statements, Function, Program}

abbrev pub is_defined : Option Static → Bool
is_defined None = false
is_defined (Some o) = o.defined

abbrev pub storage_is_defined : Program → Storage → Bool
storage_is_defined p (typed.literal n) = true
storage_is_defined p (typed.static n) = is_defined (slice_get p.statics n)
storage_is_defined p (typed.automatic n) = true
storage_is_defined p (typed.parameter n) = true

module _ (p : Program) where
  abbrev mutual
    pub in_place : Place → Bool
    in_place (typed.named at what) = storage_is_defined p what
    in_place (typed.element at array index) = in_place array && in_value index

    pub in_value : Value → Bool
    in_value (typed.constant t v) = true
    in_value (typed.read t place) = in_place place
    in_value (typed.assigned at t place e) = in_place place && in_value e
    in_value (typed.compound at op t of place e) = in_place place && in_value e
    in_value (typed.stepped at moment op t of place) = in_place place
    in_value (typed.unary at op t e) = in_value e
    in_value (typed.binary at op t a b) = in_value a && in_value b
    in_value (typed.both_true a b) = in_value a && in_value b
    in_value (typed.one_true a b) = in_value a && in_value b
    in_value (typed.chosen t c a b) = in_value c && (in_value a && in_value b)
    in_value (typed.sequence a b) = in_value a && in_value b
    in_value (typed.cast t e) = in_value e
    in_value (typed.discarded e) = in_value e
    in_value (typed.call at callee result used arguments) = in_arguments arguments

    pub in_arguments : Arguments → Bool
    in_arguments typed.no_arguments = true
    in_arguments (typed.and_number t e more) = in_value e && in_arguments more
    in_arguments (typed.and_array array more) = in_place array && in_arguments more

  abbrev mutual
    pub in_initialiser : Initialiser → Bool
    in_initialiser (typed.one_value t e) = in_value e
    in_initialiser (typed.text n) = true
    in_initialiser (typed.in_braces i) = in_initialiser i
    in_initialiser (typed.list all) = in_initialisers all

    pub in_initialisers : Initialisers → Bool
    in_initialisers typed.no_initialisers = true
    in_initialisers (typed.and_initialiser i more) = in_initialiser i && in_initialisers more

  abbrev pub in_option : Option Value → Bool
  in_option None = true
  in_option (Some e) = in_value e

  abbrev mutual
    pub in_statement : Statement → Bool
    in_statement typed.empty = true
    in_statement (typed.evaluate e) = in_value e
    in_statement (typed.declare n) = true
    in_statement (typed.define n i) = in_initialiser i
    in_statement (typed.block first count all) = in_statements all
    in_statement (typed.branch e a) = in_value e && in_statement a
    in_statement (typed.branches e a b) = in_value e && (in_statement a && in_statement b)
    in_statement (typed.switch t e first count all) = in_value e && in_statements all
    in_statement (typed.case v) = true
    in_statement typed.default = true
    in_statement (typed.while e a) = in_value e && in_statement a
    in_statement (typed.do_while a e) = in_statement a && in_value e
    in_statement (typed.for declared start test step a) =
        in_statements declared && (in_option start && (in_option test && (in_option step && in_statement a)))
    in_statement typed.break = true
    in_statement typed.continue = true
    in_statement typed.return_nothing = true
    in_statement (typed.return_value t e) = in_value e

    pub in_statements : Statements → Bool
    in_statements typed.no_statements = true
    in_statements (typed.and_statement x more) = in_statement x && in_statements more

abbrev pub in_function : Program → Function → Bool
in_function p f = in_statement p f.body
