-- Several ticks of the machine at once: the rest of the run after them, whatever its clock.
use Rattle.std.specs.Prelude.{◌≡◌, ℕ, ◌+◌, List, [], ◌∷◌, ◌++◌, Bool, Option, Some, None}
use Rattle.srcset.specs.declared.refusal.Pos.{Pos}
use Rattle.typing_spec.specs.Program as typed
use Rattle.typed_ast.specs.View.{Given, number_given, array_given, arguments_of, program_of}
use Rattle.csem.specs.Expressions as meaning
use Rattle.csem.specs.Machine.{State}
use Rattle.interp_store.specs.declared.machine.Machine.{Machine}
use Rattle.interp_store.specs.declared.scene.Scene.{Scene}
use Rattle.interp_store.specs.layer.Frames as on
use Rattle.interp_store.specs.layer.Frames.{Moved, moves}
use Rattle.interp_store.specs.layer.Presents.{resume, resumed, call_in}
use Rattle.interp_store.specs.layer.Steps.{asked_for, left, waits}
use Rattle.interp_store.specs.layer.Views.{passed_of}
use Rattle.interp_store.specs.declared.frames.Passed.{Passed}
use Rattle.interp_store.specs.layer.Agrees.{frames_of}
use Rattle.interp_eval.specs.declared.clock.Clock.{Clock}
use Rattle.interp_eval.specs.layer.Quick.{quick, quick_place}
use Rattle.interp_eval.specs.layer.Comes.{Course, state_at, StopsBy}

-- where that many ticks are spent, what the machine does next, behind these frames, is the rest of the run
pub record After (c : Course) (p : typed.Program) (spent : ℕ) (fs : List on.Frame) (scene : Scene) (next : State → Moved) : Type 0 where
  pub is_left : (n : ℕ) → resume p (call_in p) fs (resumed p (call_in p) (next (state_at c scene n))) ≡ c.whole (n + spent)

-- a step without more frames
abbrev pub steps_to : on.Step → State → Moved
steps_to x s = moves [] x s

-- the run goes on with what was found next, or it stops
abbrev pub ComesTo : {A : Type 0} → (A → State → Moved) → Course → typed.Program → ℕ → Option A → Clock → Machine → Type 0
ComesTo view c p limit (Some a) clock m = After c p clock.spent (frames_of m) m.scene (view a)
ComesTo view c p limit None clock m = StopsBy c limit clock.why clock.spent m.scene

-- the machine does this in each run
abbrev pub Sweeps : {A : Type 0} → (A → State → Moved) → ℕ → (typed.Program → State → Moved) → Clock → Machine → Option A → Clock → Machine → Type 0
Sweeps view limit next old before result new after = (c : Course) →
    After c (program_of before.program.now) old.spent (frames_of before) before.scene (next (program_of before.program.now)) →
    ComesTo view c (program_of before.program.now) limit result new after

-- ---- parts that are evaluated on the spot

-- a frame that waited for what was found goes on, or the run stops
abbrev pub FoundFor : {A : Type 0} → (A → on.Found) → Course → typed.Program → on.Frame → ℕ → Option A → Clock → Machine → Type 0
FoundFor view c p f limit (Some a) clock m = After c p clock.spent (frames_of m) m.scene (λ s. left p f (view a) s)
FoundFor view c p f limit None clock m = StopsBy c limit clock.why clock.spent m.scene

-- the node is evaluated, whatever the frame that waits for it
abbrev pub FindsHere : {A B : Type 0} → (B → on.Found) → (A → B) → ℕ → on.Node → Clock → Machine → Option A → Clock → Machine → Type 0
FindsHere as_found view limit x old before result new after = (c : Course) (f : on.Frame) →
    After c (program_of before.program.now) old.spent (frames_of before) before.scene (λ s. waits f x s) →
    FoundFor (λ a. as_found (view a)) c (program_of before.program.now) f limit result new after

-- an argument calls nothing
abbrev pub quick_given : Given → Bool
quick_given (number_given ty e) = quick e
quick_given (array_given a) = quick_place a

-- one more argument of a call is done, or the run stops
abbrev pub AskedOn : Course → typed.Program → Pos → typed.Callee → Bool → List Given → List meaning.Passed → ℕ → Option Passed → Clock → Machine → Type 0
AskedOn c p at callee used more before limit (Some x) clock m =
    After c p clock.spent (frames_of m) m.scene (λ s. asked_for at callee used (arguments_of more) (before ++ passed_of x ∷ []) s)
AskedOn c p at callee used more before limit None clock m = StopsBy c limit clock.why clock.spent m.scene

abbrev pub AsksOn : ℕ → Given → Clock → Machine → Option Passed → Clock → Machine → Type 0
AsksOn limit argument old before result new after = (c : Course) (at : Pos) (callee : typed.Callee) (used : Bool) (more : List Given) (done : List meaning.Passed) →
    After c (program_of before.program.now) old.spent (frames_of before) before.scene (λ s. asked_for at callee used (arguments_of (argument ∷ more)) done s) →
    AskedOn c (program_of before.program.now) at callee used more done limit result new after
