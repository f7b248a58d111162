-- The result of a part of a program that is evaluated at once: the rest of the run after it.
use Rattle.std.specs.Prelude.{◌≡◌, ◌≢◌, ◌≤◌, Bool, true, ℕ, ◌+◌, ◌-◌, ℤ, List, length, map, nat_lt, Option, Some, None, Result, Ok, Err, ⊤}
use Rattle.ctypes.specs.declared.types.IntType.{IntType}
use Rattle.typing_spec.specs.Program as typed
use Rattle.typed_ast.specs.View.{program_of, object_type_of}
use Rattle.csem.specs.History.{Entry}
use Rattle.csem.specs.Machine as machine
use Rattle.csem.specs.Machine.{State, Run, Goes, Stops, then_do, choose, tick}
use Rattle.interp_store.specs.declared.scene.Scene.{Scene}
use Rattle.interp_store.specs.declared.stop.Stop.{Stop}
use Rattle.interp_store.specs.declared.stop.Stop.TheVariants as stop
use Rattle.interp_store.specs.layer.Frames.{Found}
use Rattle.interp_store.specs.layer.Agrees.{state_in}
use Rattle.interp_store.specs.layer.Presents.{call_in}
use Rattle.csem.specs.Store.{Reference, whole}
use Rattle.csem.specs.Expressions.{find, evaluate}
use Rattle.csem.specs.Statements.{Flow, Normal, Broken, Continued, Returned, after_switch, labels_at, labels_of, label_for, initialise, initialise_all, execute, execute_all, execute_from}
use Rattle.typing_spec.specs.Types.{ObjectType}
use Rattle.interp_eval.specs.declared.clock.Clock.{Clock}
use Rattle.interp_eval.specs.declared.clock.Scope.{Scope}
use Rattle.interp_eval.specs.declared.clock.Why.{Why}
use Rattle.interp_eval.specs.declared.clock.Why.TheVariants as why

-- a run, as a function of the ticks of its clock, with the input left and the history: a part that calls nothing changes neither
pub record Course : Type 0 where
  pub whole : ℕ → Run Found
  pub input : List ℕ
  pub history : List Entry

-- with n ticks left
abbrev pub state_at : Course → Scene → ℕ → State
state_at c scene n = state_in scene (record { clock = n; input = c.input; history = c.history })

-- where `spent` ticks are spent, a part of the run and its continuation are the rest of the run
pub record Leads {A : Type 0} (c : Course) (spent : ℕ) (scene : Scene) (part : State → Run A) (rest : A → State → Run Found) : Type 0 where
  pub is_left : (n : ℕ) → then_do (part (state_at c scene n)) rest ≡ c.whole (n + spent)

-- how it stops
abbrev pub StopsBy : Course → ℕ → Why → ℕ → Scene → Type 0
StopsBy c limit why.Ticks spent scene = (spent ≡ limit) × (c.whole spent ≡ Stops machine.TicksUsed (state_at c scene 0))
StopsBy c limit (why.Undefined act at) spent scene = (n : ℕ) → c.whole (n + spent) ≡ Stops (machine.Undefined act at) (state_at c scene n)
StopsBy c limit why.Memory spent scene = ⊤
StopsBy c limit why.Elsewhere spent scene = ⊤

-- the continuation gets the value, or the run stops
abbrev pub Comes : {A B : Type 0} → (A → B) → Course → (B → State → Run Found) → ℕ → Option A → Clock → Scene → Type 0
Comes view c rest limit (Some a) clock scene = (n : ℕ) → rest (view a) (state_at c scene n) ≡ c.whole (n + clock.spent)
Comes view c rest limit None clock scene = StopsBy c limit clock.why clock.spent scene

-- a part of each run is done
abbrev pub Does : {A B : Type 0} → (A → B) → Scope → (typed.Program → State → Run B) → Clock → Scene → Option A → Clock → Scene → Type 0
Does view scope part old before result new after = (c : Course) (rest : _ → State → Run Found) →
    Leads c old.spent before (part (program_of scope.program.now)) rest → Comes view c rest scope.limit result new after

-- with at most `limit` ticks, in this program
abbrev pub DoesIn : {A B : Type 0} → (A → B) → ℕ → typed.Program → (typed.Program → State → Run B) → Clock → Scene → Option A → Clock → Scene → Type 0
DoesIn view limit p part old before result new after = (c : Course) (rest : _ → State → Run Found) →
    Leads c old.spent before (part p) rest → Comes view c rest limit result new after

-- why a tick is not taken
abbrev pub Idles : Why → ℕ → ℕ → Type 0
Idles why.Ticks spent limit = spent ≡ limit
Idles (why.Undefined act at) spent limit = ⊥
Idles why.Memory spent limit = ⊥
Idles why.Elsewhere spent limit = ⊥

-- ticks were spent, and no more than are allowed
abbrev pub Spends : (old new limit : ℕ) → Type 0
Spends old new limit = (old ≤ new) × (new ≤ limit)

-- a part of an expression stops, and the program does not end in it
abbrev pub GoesOn : Stop → Type 0
GoesOn stop.Memory = ⊤
GoesOn (stop.Ended n) = ⊥
GoesOn (stop.Undefined act at) = ⊤

-- the value of a leaf
abbrev pub Gives : {A : Type 0} → Result A Stop → Option A → Why → Type 0
Gives (Ok a) r w = r ≡ Some a
Gives (Err stop.Memory) r w = (r ≡ None) × (w ≡ why.Memory)
Gives (Err (stop.Ended n)) r w = ⊥
Gives (Err (stop.Undefined act at)) r w = (r ≡ None) × (w ≡ why.Undefined act at)

abbrev pub StoppedBy : Stop → Why → Type 0
StoppedBy stop.Memory w = w ≡ why.Memory
StoppedBy (stop.Ended n) w = ⊥
StoppedBy (stop.Undefined act at) w = w ≡ why.Undefined act at

-- where the part is quick, it is not left to be evaluated elsewhere
abbrev pub StaysHere : {A : Type 0} → Bool → Option A → Why → Type 0
StaysHere quick r w = quick ≡ true → r ≡ None → w ≢ why.Elsewhere

-- ---- parts

abbrev pub valued : typed.Value → typed.Program → State → Run ℤ
valued e p s = evaluate p (call_in p) e s

abbrev pub found : typed.Place → typed.Program → State → Run Reference
found a p s = find p (call_in p) a s

abbrev pub executed : List ObjectType → typed.Statement → typed.Program → State → Run Flow
executed objects a p s = execute p (call_in p) objects a s

abbrev pub all_executed : List ObjectType → typed.Statements → typed.Program → State → Run Flow
all_executed objects all p s = execute_all p (call_in p) objects all s

-- a first value is given, which has no result
abbrev pub nothing : Unit {0} → Unit {0}
nothing u = u

abbrev pub initialised : typed.Initialiser → IntType → List ℕ → Reference → typed.Program → State → Run (Unit {0})
initialised i t lengths r p s = initialise p (call_in p) i t lengths r s

abbrev pub all_initialised : typed.Initialisers → IntType → ℕ → ℕ → List ℕ → Reference → typed.Program → State → Run (Unit {0})
all_initialised all t k i lengths r p s = initialise_all p (call_in p) all t k i lengths r s

abbrev pub objects_in : Scope → List ObjectType
objects_in s = map object_type_of s.objects.now

-- how a loop is left by its body, if it is
abbrev pub way_out : Flow → Option Flow
way_out Normal = None
way_out Continued = None
way_out Broken = Some Normal
way_out (Returned v) = Some (Returned v)

-- ---- switches (6.8.4.2)

-- the statements from the label of this number on
abbrev pub from_label : Option ℕ → typed.Statements → typed.Statements
from_label label typed.no_statements = typed.no_statements
from_label None (typed.and_statement a more) = typed.no_statements
from_label (Some k) (typed.and_statement a more) =
    choose (nat_lt k (length (labels_at a))) (typed.and_statement a more) (from_label (Some (k - length (labels_at a))) more)

-- those from the label on to which this value jumps
abbrev pub selected : ℤ → typed.Statements → State → Run typed.Statements
selected v all s = then_do (label_for v (labels_of all) 0 None s) (λ label s. Goes (from_label label all) s)

-- the effect of a switch in its block
abbrev pub jumped : List ObjectType → ℤ → typed.Statements → typed.Program → State → Run Flow
jumped objects v all p s =
    then_do (label_for v (labels_of all) 0 None s) (λ label s. then_do (execute_from p (call_in p) objects label all s) after_switch)

-- ---- whole objects and their elements

-- a name designates a whole object
abbrev pub Designates : Option ℕ → Reference → Type 0
Designates None r = ⊤
Designates (Some n) r = r ≡ whole n

-- a place is a whole object, after the tick of its name
abbrev pub IsWhole : Option ℕ → Run Reference → State → Type 0
IsWhole None run s = ⊤
IsWhole (Some n) run s = run ≡ tick s (λ s. Goes (whole n) s)

-- an element has a value
abbrev pub IsPart : Option ℤ → Run ℤ → State → Type 0
IsPart None run s = ⊤
IsPart (Some v) run s = run ≡ Goes v s
