-- The objects and functions that a typed program uses (ISO/IEC 9899:2011 6.9p3, p5): those evaluated, in the order of the source.
use Rattle.std.specs.Prelude.{ℕ, Bool, true, false, not, ◌&&◌, ◌||◌, List, [], ◌∷◌, ◌++◌, Option, Some, None, nat_eq, slice_get}
use Rattle.srcset.specs.declared.refusal.Pos.{Pos}
use Rattle.srcset.specs.declared.code.Code.TheVariants as code
use Rattle.typing_spec.specs.Verdict.{Verdict, fine, refuse_if, each}
use Rattle.typing_spec.specs.Program as typed
use Rattle.typing_spec.specs.Program.{Storage, Callee, Place, Value, Arguments, Initialiser, Initialisers, Statement, Statements, Function}
use Rattle.typing_spec.specs.Scope.{Scope, StaticObject}

-- a use of an object with static storage by its number, or of a function without a definition by its name
pub data Used : Type 0 where
  an_object : (n : ℕ) → Used
  a_function : (name : ℕ) → Used

pub record Use : Type 0 where
  pub at : Pos
  pub what : Used

abbrev pub use_of : Pos → Used → List Use
use_of at what = record { at = at; what = what } ∷ []

abbrev pub use_of_storage : Pos → Storage → List Use
use_of_storage at (typed.literal n) = []
use_of_storage at (typed.static n) = use_of at (an_object n)
use_of_storage at (typed.automatic n) = []
use_of_storage at (typed.parameter n) = []

abbrev pub use_of_callee : Pos → Callee → List Use
use_of_callee at (typed.function f) = []
use_of_callee at typed.get_byte = []
use_of_callee at typed.put_byte = []
use_of_callee at typed.exit = []
use_of_callee at (typed.missing name) = use_of at (a_function name)

abbrev mutual
  pub uses_in_place : Place → List Use
  uses_in_place (typed.named at what) = use_of_storage at what
  uses_in_place (typed.element at a i) = uses_in_place a ++ uses i

  pub uses : Value → List Use
  uses (typed.constant t v) = []
  uses (typed.read t p) = uses_in_place p
  uses (typed.assigned at t p e) = uses_in_place p ++ uses e
  uses (typed.compound at op t of p e) = uses_in_place p ++ uses e
  uses (typed.stepped at m op t of p) = uses_in_place p
  uses (typed.unary at op t e) = uses e
  uses (typed.binary at op t a b) = uses a ++ uses b
  uses (typed.both_true a b) = uses a ++ uses b
  uses (typed.one_true a b) = uses a ++ uses b
  uses (typed.chosen t c a b) = uses c ++ uses a ++ uses b
  uses (typed.sequence a b) = uses a ++ uses b
  uses (typed.cast t e) = uses e
  uses (typed.discarded e) = uses e
  uses (typed.call at f t used args) = use_of_callee at f ++ uses_in_arguments args

  pub uses_in_arguments : Arguments → List Use
  uses_in_arguments typed.no_arguments = []
  uses_in_arguments (typed.and_number t e more) = uses e ++ uses_in_arguments more
  uses_in_arguments (typed.and_array p more) = uses_in_place p ++ uses_in_arguments more

abbrev pub uses_in_option : Option Value → List Use
uses_in_option None = []
uses_in_option (Some e) = uses e

abbrev mutual
  pub uses_in_initialiser : Initialiser → List Use
  uses_in_initialiser (typed.one_value t e) = uses e
  uses_in_initialiser (typed.text n) = []
  uses_in_initialiser (typed.in_braces i) = uses_in_initialiser i
  uses_in_initialiser (typed.list is) = uses_in_initialisers is

  pub uses_in_initialisers : Initialisers → List Use
  uses_in_initialisers typed.no_initialisers = []
  uses_in_initialisers (typed.and_initialiser i is) = uses_in_initialiser i ++ uses_in_initialisers is

abbrev mutual
  pub uses_in_statement : Statement → List Use
  uses_in_statement typed.empty = []
  uses_in_statement (typed.evaluate e) = uses e
  uses_in_statement (typed.declare n) = []
  uses_in_statement (typed.define n i) = uses_in_initialiser i
  uses_in_statement (typed.block first count all) = uses_in_statements all
  uses_in_statement (typed.branch e a) = uses e ++ uses_in_statement a
  uses_in_statement (typed.branches e a b) = uses e ++ uses_in_statement a ++ uses_in_statement b
  uses_in_statement (typed.switch t e first count all) = uses e ++ uses_in_statements all
  uses_in_statement (typed.case v) = []
  uses_in_statement typed.default = []
  uses_in_statement (typed.while e a) = uses e ++ uses_in_statement a
  uses_in_statement (typed.do_while a e) = uses_in_statement a ++ uses e
  uses_in_statement (typed.for all first test step a) =
      uses_in_statements all ++ uses_in_option first ++ uses_in_option test ++ uses_in_option step ++ uses_in_statement a
  uses_in_statement typed.break = []
  uses_in_statement typed.continue = []
  uses_in_statement typed.return_nothing = []
  uses_in_statement (typed.return_value t e) = uses e

  pub uses_in_statements : Statements → List Use
  uses_in_statements typed.no_statements = []
  uses_in_statements (typed.and_statement x more) = uses_in_statement x ++ uses_in_statements more

abbrev pub uses_in_functions : List Function → List Use
uses_in_functions [] = []
uses_in_functions (f ∷ fs) = uses_in_statement f.body ++ uses_in_functions fs

-- ---- each object and function used has a definition

abbrev pub is_undefined_object : Option StaticObject → Bool
is_undefined_object None = false
is_undefined_object (Some o) = not o.defined

abbrev pub is_undefined : Scope → Used → Bool
is_undefined s (an_object n) = is_undefined_object (slice_get s.statics n)
is_undefined s (a_function name) = true

abbrev pub same_use : Used → Used → Bool
same_use (an_object m) (an_object n) = nat_eq m n
same_use (a_function m) (a_function n) = nat_eq m n
same_use (an_object m) (a_function n) = false
same_use (a_function m) (an_object n) = false

abbrev pub is_used_in : List Use → Used → Bool
is_used_in [] what = false
is_used_in (u ∷ us) what = same_use u.what what || is_used_in us what

-- each first use of an object or function without a definition is a violation
abbrev pub all_defined : Scope → (before : List Use) → List Use → Verdict (Unit {0})
all_defined s before [] = fine tt
all_defined s before (u ∷ us) =
    each (refuse_if (is_undefined s u.what && not (is_used_in before u.what)) code.UsedUndefined u.at) (all_defined s (u ∷ before) us)
