-- The state of a run between two steps, and how it stops, over a port whose input contracts can see.
use Rattle.std.specs.Prelude.{◌≡◌, ◌≤◌, ◌<◌, ◌⊎◌, ℕ, zero, suc, ◌+◌, ◌*◌, List, [], ◌∷◌, ◌++◌, length, Bool, true, false, Option, Some, None, Result, Ok, Err, ⊤, option_map, slice_get}
use Rattle.std.specs.Bool.{OnTrue}
use Rattle.std.specs.Io.KnownBytes.{Appends}
use Rattle.csem_events.specs.Events.{Event, Put, written, taken}
use Rattle.typing_spec.specs.Program as typed
use Rattle.typed_ast.specs.View.{program_of}
use Rattle.csem.specs.History.{Entry, Entered, Left, trace_of}
use Rattle.csem.specs.Machine as machine
use Rattle.csem.specs.Machine.{Ending, State, Stops, Goes}
use Rattle.csem.specs.Store.{Store, first_store}
use Rattle.csem.specs.Expressions.{Passed}
use Rattle.csem.specs.Meaning.{word_of, words_of, value_left, last_of}
use Rattle.interp_store.specs.declared.stop.Stop.{Stop}
use Rattle.interp_store.specs.declared.stop.Stop.TheVariants as stop
use Rattle.interp_store.specs.declared.scene.Scene.{Scene}
use Rattle.interp_store.specs.declared.frames.Node.{Node}
use Rattle.interp_store.specs.declared.frames.Step.{Step}
use Rattle.interp_store.specs.declared.frames.Step.TheVariants as step
use Rattle.interp_store.specs.layer.Frames as on
use Rattle.interp_store.specs.layer.Presents.{present, resume, call_in}
use Rattle.interp_store.specs.layer.Views.{step_of, node_of}
use Rattle.interp_store.specs.layer.Agrees.{Outside, state_in, frames_of}
use Rattle.interp_transitions.specs.declared.tally.Tally.{Tally}
use Rattle.interp_transitions.specs.Tallied.{Tells}
use Rattle.io_ports.specs.declared.port.PortFault.{PortFault}
use Rattle.io_ports.specs.Port.{PortView}
use Rattle.interp_eval.specs.declared.clock.Why.{Why}
use Rattle.interp_eval.specs.declared.clock.Why.TheVariants as why
use Rattle.cabs.specs.declared.outcome.Run.{Run}
use Rattle.cabs.specs.declared.outcome.Run.TheVariants as run
use Rattle.cabs.specs.declared.state.Interpreter.{Interpreter}
use Rattle.cabs.specs.Interpreting.{Counts, Blames}

-- ---- what steps do to the history

abbrev pub is_return : on.Frame → Bool
is_return (on.returns back is_main count base arrays) = true
is_return _ = false

abbrev pub is_flow : on.Found → Bool
is_flow (on.a_value v) = false
is_flow (on.a_place r) = false
is_flow (on.a_flow flow) = true
is_flow on.initialised = false

-- the word that a call returns whose body is left in this way
abbrev pub word_left : (is_main : Bool) → on.Found → Option ℕ
word_left is_main (on.a_flow flow) = option_map word_of (value_left is_main flow)
word_left is_main _ = None

abbrev pub result_left : on.Frame → on.Found → Option ℕ
result_left (on.returns back is_main count base arrays) x = word_left is_main x
result_left _ x = None

abbrev pub left_where : Bool → Bool → (result : Option ℕ) → List Entry → List Entry
left_where false ends result h = h
left_where true false result h = h
left_where true true result h = Left result ∷ h

-- a call ends if its frame gets the flow that it waited for
abbrev pub history_left : on.Frame → on.Found → List Entry → List Entry
history_left f x h = left_where (is_flow x) (is_return f) (result_left f x) h

abbrev pub entered_where : Option typed.Function → ℕ → List Passed → List Entry → List Entry
entered_where None f passed h = h
entered_where (Some g) f passed h = Entered f (words_of passed) ∷ h

-- a call begins if its function has a definition
abbrev pub history_called : typed.Program → typed.Callee → List Passed → List Entry → List Entry
history_called p (typed.function f) passed h = entered_where (slice_get p.functions f) f passed h
history_called p typed.get_byte passed h = h
history_called p typed.put_byte passed h = h
history_called p typed.exit passed h = h
history_called p (typed.missing name) passed h = h

-- ---- what was reported to an observer

-- what is reported, if that is asked for
abbrev pub Knows : Bool → (List Entry → Type 0) → List Entry → Type 0
Knows b T h = OnTrue b (T h)

-- ---- the distance to the next node

abbrev pub distance : List on.Frame → on.Step → ℕ
distance fs (on.enters n) = 0
distance fs (on.leaves x) = 2 * length fs + 1
distance fs (on.calls at callee used passed) = 2 * length fs + 2

-- ---- the state of a run

-- a run, as a function of the number of ticks of its clock
abbrev pub Whole : Type 0
Whole = ℕ → machine.Run on.Found

-- the rest of the run, by the number of ticks that are left
unfoldable pub left_of : typed.Program → List on.Frame → Scene → on.Step → List ℕ → List Entry → ℕ → machine.Run on.Found
left_of p fs scene x input h n = resume p (call_in p) fs (present p (call_in p) x (state_in scene (record { clock = n; input = input; history = h })))

-- the pending byte, if there is one
abbrev pub waiting : Option ℕ → List ℕ
waiting None = []
waiting (Some b) = b ∷ []

-- the bytes that a history has written
abbrev pub bytes_of : List Entry → List ℕ
bytes_of h = written (trace_of h)

-- what the port showed before the run
pub record Outset : Type 0 where
  pub input : List ℕ
  pub output : Option (List ℕ)

-- the event of the pending byte
abbrev pub unsent : Option ℕ → List Event
unsent None = []
unsent (Some b) = Put b ∷ []

-- what a history did before the pending byte: its bytes were written, and what it read is gone from the input
pub record Done (start : List ℕ) (h : List Entry) (input sent : List ℕ) (kept : Option ℕ) : Type 0 where
  pub events : List Event
  pub events_are : trace_of h ≡ unsent kept ++ events
  pub sent_are : written events ≡ sent
  pub got_is : start ≡ taken events ++ input

-- this history is the first part of what the run does
abbrev pub Adds : List Entry → machine.Run on.Found → Type 0
Adds h r = (newer : List Event) × (trace_of (last_of r).history ≡ newer ++ trace_of h)

-- with each further tick a run does what it did without it, and perhaps more
abbrev pub Grows : Whole → Type 0
Grows all = (k : ℕ) → Adds (last_of (all k)).history (all (suc k))

-- what was read and written is the first part of what the run does
pub record Begins (whole : machine.Run on.Found) (o : Outset) (port : PortView) : Type 0 where
  pub events : List Event
  pub begins : (newer : List Event) × (trace_of (last_of whole).history ≡ newer ++ events)
  pub output_is : Appends o.output port.output (written events)
  pub left : List ℕ
  pub left_is : port.input ≡ Some left
  pub got_is : o.input ≡ taken events ++ left

-- a run that is given up: it did no more than it does without a further tick
abbrev pub GivenUp : Whole → Outset → PortView → Type 0
GivenUp whole o port = Begins (whole 0) o port

-- the run `whole`, a function of the ticks that are left, is at this machine and this step; the port was as o says, and the bytes
-- `sent` were written since
pub record Stands (T : List Entry → Type 0) (p : typed.Program) (whole : Whole) (o : Outset) (m : Interpreter) (x : on.Step) (port : PortView) : Type 0 where
  pub sent : List ℕ
  pub input : List ℕ
  pub history : List Entry
  pub program_is : program_of m.machine.program.now ≡ p
  pub follows : (n : ℕ) → left_of p (frames_of m.machine) m.machine.scene x input history n ≡ whole n
  pub input_is : port.input ≡ Some input
  pub output_is : Appends o.output port.output sent
  pub bytes_are : bytes_of history ≡ sent ++ waiting m.kept
  pub done : Done o.input history input sent m.kept
  pub tells : Tells p history m.tally
  pub told : T history

-- it stops with this input left and this history
pub record StopsAs (whole : machine.Run on.Found) (e : Ending) (input : List ℕ) (h : List Entry) : Type 0 where
  pub state : State
  pub is : whole ≡ Stops e state
  pub input_is : state.input ≡ input
  pub history_is : state.history ≡ h

-- for any number of ticks that are left
abbrev pub StopsAt : Whole → Ending → List ℕ → List Entry → Type 0
StopsAt whole e input h = (n : ℕ) → StopsAs (whole n) e input h

-- before the pending byte is written
pub record Stopping (T : List Entry → Type 0) (p : typed.Program) (whole : Whole) (o : Outset) (e : Ending) (m : Interpreter) (port : PortView) : Type 0 where
  pub sent : List ℕ
  pub input : List ℕ
  pub history : List Entry
  pub stops : StopsAt whole e input history
  pub input_is : port.input ≡ Some input
  pub output_is : Appends o.output port.output sent
  pub bytes_are : bytes_of history ≡ sent ++ waiting m.kept
  pub done : Done o.input history input sent m.kept
  pub tells : Tells p history m.tally
  pub told : T history

abbrev pub StoppingBy : (List Entry → Type 0) → typed.Program → Whole → Outset → Stop → Interpreter → PortView → Type 0
StoppingBy T p whole o (stop.Ended status) m port = Stopping T p whole o (machine.Ended status) m port
StoppingBy T p whole o (stop.Undefined act at) m port = Stopping T p whole o (machine.Undefined act at) m port
StoppingBy T p whole o stop.Memory m port = GivenUp whole o port

-- and after it
pub record Stopped (T : List Entry → Type 0) (p : typed.Program) (whole : Whole) (o : Outset) (e : Ending) (tally : Tally) (port : PortView) : Type 0 where
  pub input : List ℕ
  pub history : List Entry
  pub stops : StopsAt whole e input history
  pub input_is : port.input ≡ Some input
  pub output_is : Appends o.output port.output (bytes_of history)
  pub tells : Tells p history tally
  pub told : T history

-- a run that no definition gives: no frame waits, and there is a result
abbrev pub Rests : Whole → Type 0
Rests whole = (n : ℕ) → (x : on.Found) × ((s : State) × (whole n ≡ Goes x s))

-- how a run stops between two ticks
abbrev pub StoppedBy : (List Entry → Type 0) → typed.Program → Whole → Outset → Run → Tally → PortView → Type 0
StoppedBy T p whole o (run.Ended status) tally port = Stopped T p whole o (machine.Ended status) tally port
StoppedBy T p whole o (run.Undefined act at) tally port = Stopped T p whole o (machine.Undefined act at) tally port
StoppedBy T p whole o run.TicksUsed tally port = Rests whole
StoppedBy T p whole o (run.Port fault) tally port = GivenUp whole o port
StoppedBy T p whole o run.Memory tally port = GivenUp whole o port

abbrev pub IsLeft : Step → Type 0
IsLeft (step.Enters n) = ⊥
IsLeft (step.Leaves x) = ⊤
IsLeft (step.Calls at callee used passed) = ⊥

-- a step that takes no tick leads to one that is nearer to the next node
abbrev pub Nears : List on.Frame → on.Step → Result Step Run → List on.Frame → Type 0
Nears fs x (Ok y) gs = distance gs (step_of y) < distance fs x
Nears fs x (Err r) gs = ⊤

abbrev pub NearsFrom : List on.Frame → on.Step → Result Step Run → List on.Frame → Type 0
NearsFrom fs (on.enters n) r gs = ⊤
NearsFrom fs (on.leaves x) r gs = Nears fs (on.leaves x) r gs
NearsFrom fs (on.calls at callee used passed) r gs = Nears fs (on.calls at callee used passed) r gs

-- the result of one step
abbrev pub ActMeets : (List Entry → Type 0) → typed.Program → Whole → Outset → Result Step Run → Interpreter → PortView → Type 0
ActMeets T p whole o (Ok x) m port = Stands T p whole o m (step_of x) port
ActMeets T p whole o (Err r) m port = StoppedBy T p whole o r m.tally port

-- ---- the count of failures, and the fault

abbrev pub CountsUntil : {A : Type 0} → Result A Run → ℕ → ℕ → Type 0
CountsUntil (Ok x) old new = new ≡ old
CountsUntil (Err r) old new = Counts r old new

abbrev pub BlamesUntil : {A : Type 0} → (PortFault → Type 0) → Result A Run → Type 0
BlamesUntil P (Ok x) = ⊤
BlamesUntil P (Err r) = Blames P r

-- ---- nodes and ticks

-- a node takes the next tick, and no byte is pending
abbrev pub SettleMeets : (List Entry → Type 0) → typed.Program → Whole → Outset → Result Node Run → Interpreter → PortView → Type 0
SettleMeets T p whole o (Ok n) m port = Stands T p whole o m (on.enters (node_of n)) port × (m.kept ≡ None)
SettleMeets T p whole o (Err r) m port = StoppedBy T p whole o r m.tally port

-- the run `all`, a function of its clock, of which that many ticks are spent
pub record Runs (T : List Entry → Type 0) (p : typed.Program) (all : Whole) (o : Outset) (spent : ℕ) (m : Interpreter) (x : on.Step) (port : PortView) : Type 0 where
  pub grows : Grows all
  pub stands : Stands T p (λ n. all (n + spent)) o m x port

-- a run of no more ticks is given up: what was read and written is the first part of what it does
abbrev pub GivenUpBy : Whole → Outset → ℕ → PortView → Type 0
GivenUpBy all o spent port = (clock : ℕ) × ((clock ≤ spent) × Begins (all clock) o port)

-- how a run stops that has at least that many ticks
abbrev pub StopsBy : (List Entry → Type 0) → typed.Program → Whole → Outset → ℕ → Run → Tally → PortView → Type 0
StopsBy T p all o spent (run.Ended status) tally port = Stopped T p (λ n. all (n + spent)) o (machine.Ended status) tally port
StopsBy T p all o spent (run.Undefined act at) tally port = Stopped T p (λ n. all (n + spent)) o (machine.Undefined act at) tally port
StopsBy T p all o spent run.TicksUsed tally port = Rests (λ n. all (n + spent))
StopsBy T p all o spent (run.Port fault) tally port = GivenUpBy all o spent port
StopsBy T p all o spent run.Memory tally port = GivenUpBy all o spent port

-- ---- the whole run

-- before main is called
pub record Fresh (m : Interpreter) : Type 0 where
  pub frames_are : frames_of m.machine ≡ []
  pub state_is : (o : Outside) → state_in m.machine.scene o ≡
      record { clock = o.clock; store = first_store (program_of m.machine.program.now); base = 0; arrays = []; input = o.input; history = o.history }
  pub none_kept : m.kept ≡ None
  pub none_told : (p : typed.Program) → Tells p [] m.tally

-- the run stops in this way, with this input left and this history
pub record EndsAs (T : List Entry → Type 0) (p : typed.Program) (whole : machine.Run on.Found) (o : Outset) (e : Ending) (tally : Tally) (port : PortView) : Type 0 where
  pub input : List ℕ
  pub history : List Entry
  pub stops : StopsAs whole e input history
  pub input_is : port.input ≡ Some input
  pub output_is : Appends o.output port.output (bytes_of history)
  pub tells : Tells p history tally
  pub told : T history

-- how a run of that many ticks stops
abbrev pub RunStops : (List Entry → Type 0) → typed.Program → Whole → Outset → ℕ → Run → Tally → PortView → Type 0
RunStops T p all o ticks (run.Ended status) tally port = EndsAs T p (all ticks) o (machine.Ended status) tally port
RunStops T p all o ticks (run.Undefined act at) tally port = EndsAs T p (all ticks) o (machine.Undefined act at) tally port
RunStops T p all o ticks run.TicksUsed tally port = EndsAs T p (all ticks) o machine.TicksUsed tally port ⊎ ((x : on.Found) × ((s : State) × (all ticks ≡ Goes x s)))
RunStops T p all o ticks (run.Port fault) tally port = GivenUpBy all o ticks port
RunStops T p all o ticks run.Memory tally port = GivenUpBy all o ticks port

-- ---- parts that are evaluated as a whole

abbrev pub stopped_for : Why → Run
stopped_for why.Ticks = run.TicksUsed
stopped_for (why.Undefined act at) = run.Undefined act at
stopped_for why.Memory = run.Memory
stopped_for why.Elsewhere = run.Memory

-- the run goes on with that many ticks spent, or it stops with at most the allowed number
abbrev pub MeetsAt : (List Entry → Type 0) → typed.Program → Whole → Outset → ℕ → Result Step Run → ℕ → Interpreter → PortView → Type 0
MeetsAt T p all o limit (Ok x) spent m port = Runs T p all o spent m (step_of x) port
MeetsAt T p all o limit (Err r) spent m port = RunStops T p all o limit r m.tally port

abbrev pub Spends : Result Step Run → ℕ → ℕ → ℕ → Type 0
Spends (Ok x) old new limit = (old < new) × (new ≤ limit)
Spends (Err r) old new limit = ⊤

-- the port was not used
abbrev pub IsCalm : Result Step Run → Type 0
IsCalm (Ok x) = ⊤
IsCalm (Err (run.Ended status)) = ⊤
IsCalm (Err (run.Undefined act at)) = ⊤
IsCalm (Err run.TicksUsed) = ⊤
IsCalm (Err (run.Port fault)) = ⊥
IsCalm (Err run.Memory) = ⊤

-- ---- what an observer was shown

-- the objects with which the first k of these runs stop, those of the last first
abbrev pub moments_of : Whole → ℕ → List Store
moments_of all zero = []
moments_of all (suc k) = (last_of (all k)).store ∷ moments_of all k

-- a run stops because no tick is left
abbrev pub Waits : machine.Run on.Found → Type 0
Waits whole = (s : State) × (whole ≡ Stops machine.TicksUsed s)

-- k ticks were taken, and each was shown
pub record Showing (S : List Store → Type 0) (all : Whole) (k : ℕ) : Type 0 where
  pub shown : S (moments_of all k)
  pub waits : (j : ℕ) → j < k → Waits (all j)

-- and the run stops there
pub record ShowsWhole (S : List Store → Type 0) (all : Whole) (ticks : ℕ) (e : Ending) : Type 0 where
  pub taken : ℕ
  pub within : taken ≤ ticks
  pub shows : Showing S all taken
  pub state : State
  pub stops : all taken ≡ Stops e state

abbrev pub ShowsSome : (List Store → Type 0) → Whole → ℕ → Type 0
ShowsSome S all ticks = (k : ℕ) × ((k ≤ ticks) × Showing S all k)

-- what was shown of a run of that many ticks that stops in this way
abbrev pub ShowsUntil : (List Store → Type 0) → Whole → ℕ → Run → Type 0
ShowsUntil S all ticks (run.Ended status) = ShowsWhole S all ticks (machine.Ended status)
ShowsUntil S all ticks (run.Undefined act at) = ShowsWhole S all ticks (machine.Undefined act at)
ShowsUntil S all ticks run.TicksUsed = Showing S all ticks ⊎ ((k : ℕ) × ((x : on.Found) × ((s : State) × (all k ≡ Goes x s))))
ShowsUntil S all ticks (run.Port fault) = ShowsSome S all ticks
ShowsUntil S all ticks run.Memory = ShowsSome S all ticks

-- the run goes on with that many ticks spent, or it stops with at most the allowed number
abbrev pub ShowsAt : (List Store → Type 0) → Whole → ℕ → Result Step Run → ℕ → Type 0
ShowsAt S all limit (Ok x) spent = Showing S all spent
ShowsAt S all limit (Err r) spent = ShowsUntil S all limit r
