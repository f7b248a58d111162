-- The laws of the machine with an explicit stack: the remainder of a run is the same after each step, so that the run of a program
-- is that of the definition.
use Rattle.std.specs.Prelude.{◌≡◌, ℕ, List, [], ◌++◌, Bool, slice_get}
use Rattle.srcset.specs.declared.refusal.Pos.{Pos}
use Rattle.typing_spec.specs.Program.{Callee, Program}
use Rattle.csem.specs.Machine.{State, Run, tick}
use Rattle.csem.specs.Expressions.{Passed, Calling}
use Rattle.csem.specs.Statements.{Returned}
use Rattle.csem.specs.Meaning.{start, cstep}
use Rattle.interp_store.specs.layer.Frames.{Found, a_flow, Node, enters, calls, to_end, Frame}
use Rattle.interp_store.specs.layer.Presents.{given, present, after, resume, resumed, Real, call_in}
use Rattle.interp_store.specs.layer.Steps.{entered, left, entered_call, called}

-- each node takes one tick, and its result is its remainder
abbrev pub NodeEnters : Type 0
NodeEnters = (p : Program) (call : Calling) → Real p call → (n : Node) (s : State) →
    present p call (enters n) s ≡ tick s (λ s. resumed p call (entered p n s))

-- a frame that receives the result it waited for takes none
abbrev pub FrameLeaves : Type 0
FrameLeaves = (p : Program) (call : Calling) → Real p call → (f : Frame) (x : Found) (s : State) → after p call f x s ≡ resumed p call (left p f x s)

-- nor does a call before its definition is entered
abbrev pub CallActs : Type 0
CallActs = (p : Program) (call : Calling) → Real p call → (at : Pos) (callee : Callee) (used : Bool) (passed : List Passed) (s : State) →
    present p call (calls at callee used passed) s ≡ resumed p call (called p at callee used passed s)

-- the frames outside wait for those inside
abbrev pub StackResumes : Type 0
StackResumes = (p : Program) (call : Calling) (fs gs : List Frame) (r : Run Found) → resume p call (fs ++ gs) r ≡ resume p call fs (resume p call gs r)

-- calls nested as deep as the ticks allow, and loops of as many turns, satisfy the assumptions of these laws on a call
abbrev pub CallIsReal : Type 0
CallIsReal = (p : Program) → Real p (call_in p)

-- the run of a program is the remainder when main is called from nothing
abbrev pub RunBegins : Type 0
RunBegins = (p : Program) (n : ℕ) (input : List ℕ) →
    given (λ v. a_flow (Returned v)) (cstep n p input) ≡ resumed p (call_in p) (entered_call p to_end (slice_get p.functions p.main) p.main [] (start n p input))
