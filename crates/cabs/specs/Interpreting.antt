-- The result of interpreting a program over a port whose input, and perhaps whose output, contracts can see.
use Rattle.std.specs.Prelude.{◌≡◌, ◌≤◌, ◌<◌, ◌⊎◌, ℕ, zero, suc, List, [], ◌∷◌, ◌++◌, Option, None, Some, ⊤}
use Rattle.std.specs.Io.KnownBytes.{Appends}
use Rattle.typing_spec.specs.Program.{Program}
use Rattle.csem.specs.Machine.{Ending, Ended, Undefined, TicksUsed}
use Rattle.csem_events.specs.Events.{Event, Got, GotEnd, written, taken}
use Rattle.csem.specs.History.{Entry, trace_of}
use Rattle.csem.specs.Store.{Store}
use Rattle.csem.specs.Meaning.{Answer, answer, cstep, last_of}
use Rattle.io_ports.specs.declared.port.PortFault.{PortFault}
use Rattle.io_ports.specs.Port.{PortView, Rises}
use Rattle.cabs.specs.declared.outcome.Run.{Run}
use Rattle.cabs.specs.declared.outcome.Run.TheVariants as run

-- the answer ends in this way; the input left, the bytes written and the greatest sum are those of the answer
pub record IsAnswer (a : Answer) (e : Ending) (greatest : ℕ) (old new : PortView) : Type 0 where
  pub ending_is : a.ending ≡ e
  pub input_is : new.input ≡ Some a.input_left
  pub output_is : Appends old.output new.output a.output
  pub greatest_is : greatest ≡ a.greatest

-- the bytes written are those of the answer for this clock
abbrev pub IsAtClock : Program → List ℕ → PortView → PortView → ℕ → Type 0
IsAtClock p input old new clock = Appends old.output new.output (answer clock p input).output

-- the tick after this clock writes several bytes, of which some were written and some not. main may do that if it calls itself: its
-- value is 0 where its body ends, and no tick lies between the end and the call that passes this 0 on
pub record IsInsideTick (p : Program) (input : List ℕ) (old new : PortView) (clock : ℕ) : Type 0 where
  pub first : ℕ
  pub some : List ℕ
  pub next : ℕ
  pub rest : List ℕ
  pub tick_is : (answer (suc clock) p input).output ≡ ((answer clock p input).output ++ first ∷ some) ++ next ∷ rest
  pub output_is : Appends old.output new.output ((answer clock p input).output ++ first ∷ some)

-- the bytes written are those of the answer for a clock that is no greater, or a tick that writes several bytes was not ended
abbrev pub IsGivenUp : Program → List ℕ → ℕ → PortView → PortView → Type 0
IsGivenUp p input ticks old new = (clock : ℕ) × (((clock ≤ ticks) × IsAtClock p input old new clock) ⊎ ((clock < ticks) × IsInsideTick p input old new clock))

-- what was read and written together is a beginning of what the run does with some clock that is no greater: all events up to one of them,
-- the newest first. So no byte is held back that was written before another was read
pub record IsBegun (p : Program) (input : List ℕ) (ticks : ℕ) (old new : PortView) : Type 0 where
  pub clock : ℕ
  pub within : clock ≤ ticks
  pub events : List Event
  pub begins : (newer : List Event) × (trace_of (last_of (cstep clock p input)).history ≡ newer ++ events)
  pub output_is : Appends old.output new.output (written events)
  pub left : List ℕ
  pub left_is : new.input ≡ Some left
  pub got_is : input ≡ taken events ++ left

-- the result of the run of p on this input with that many ticks: that of the definition, or the run was given up
abbrev pub RunMeets : Program → List ℕ → ℕ → Run → ℕ → PortView → PortView → Type 0
RunMeets p input ticks (run.Ended status) greatest old new = IsAnswer (answer ticks p input) (Ended status) greatest old new
RunMeets p input ticks (run.Undefined act at) greatest old new = IsAnswer (answer ticks p input) (Undefined act at) greatest old new
RunMeets p input ticks run.TicksUsed greatest old new = IsAnswer (answer ticks p input) TicksUsed greatest old new
RunMeets p input ticks (run.Port fault) greatest old new = IsGivenUp p input ticks old new × IsBegun p input ticks old new
RunMeets p input ticks run.Memory greatest old new = IsGivenUp p input ticks old new × IsBegun p input ticks old new

-- ---- what was reported to an observer

-- what was read: a byte, or the end of the input
abbrev pub got_of : Option ℕ → Event
got_of None = GotEnd
got_of (Some b) = Got b

-- if the run was not given up, what was reported is the history of the definition's run
abbrev pub IsTold : (List Entry → Type 0) → Program → List ℕ → ℕ → Run → Type 0
IsTold T p input ticks (run.Ended status) = T (last_of (cstep ticks p input)).history
IsTold T p input ticks (run.Undefined act at) = T (last_of (cstep ticks p input)).history
IsTold T p input ticks run.TicksUsed = T (last_of (cstep ticks p input)).history
IsTold T p input ticks (run.Port fault) = ⊤
IsTold T p input ticks run.Memory = ⊤

-- ---- what an observer was shown

-- the objects at the first k ticks of the run of p on this input, those of the last tick first. Tick number k, counted from 0, is
-- the one for which a clock of k ticks has none left
abbrev pub moments : Program → List ℕ → ℕ → List Store
moments p input zero = []
moments p input (suc k) = (last_of (cstep k p input)).store ∷ moments p input k

-- the run takes k ticks and ends in this way: no smaller clock suffices for it
pub record Lasts (p : Program) (input : List ℕ) (k : ℕ) (e : Ending) : Type 0 where
  pub ends : (answer k p input).ending ≡ e
  pub waits : (j : ℕ) → j < k → (answer j p input).ending ≡ TicksUsed

-- each tick of the run that ends in this way was shown, and nothing else
abbrev pub IsShownWhole : (List Store → Type 0) → Program → List ℕ → ℕ → Ending → Type 0
IsShownWhole S p input ticks e = (k : ℕ) × ((k ≤ ticks) × (Lasts p input k e × S (moments p input k)))

-- its first ticks were shown, and nothing else
abbrev pub IsShownSome : (List Store → Type 0) → Program → List ℕ → ℕ → Type 0
IsShownSome S p input ticks = (k : ℕ) × ((k ≤ ticks) × S (moments p input k))

-- what was shown are the objects of the definition's run at its ticks, each tick once, in order; if the run was given up, at its
-- first ticks
abbrev pub IsShown : (List Store → Type 0) → Program → List ℕ → ℕ → Run → Type 0
IsShown S p input ticks (run.Ended status) = IsShownWhole S p input ticks (Ended status)
IsShown S p input ticks (run.Undefined act at) = IsShownWhole S p input ticks (Undefined act at)
IsShown S p input ticks run.TicksUsed = S (moments p input ticks)
IsShown S p input ticks (run.Port fault) = IsShownSome S p input ticks
IsShown S p input ticks run.Memory = IsShownSome S p input ticks

-- ---- the port's failures

-- the port's count of failures rose if its fault is returned, and otherwise not
abbrev pub Counts : Run → ℕ → ℕ → Type 0
Counts (run.Ended status) old new = new ≡ old
Counts (run.Undefined act at) old new = new ≡ old
Counts run.TicksUsed old new = new ≡ old
Counts (run.Port fault) old new = Rises old new
Counts run.Memory old new = new ≡ old

-- what the port states of its fault holds of the fault that is returned
abbrev pub Blames : (PortFault → Type 0) → Run → Type 0
Blames P (run.Ended status) = ⊤
Blames P (run.Undefined act at) = ⊤
Blames P run.TicksUsed = ⊤
Blames P (run.Port fault) = P fault
Blames P run.Memory = ⊤
