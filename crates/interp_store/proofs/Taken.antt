-- Steps taken one after the other.
use Rattle.std.proofs.Common.{◌≡◌, ℤ, List, [], ◌∷◌, ◌++◌, refl, sym, ap, subst, ◌∙◌, append_assoc, Bor}
use Rattle.std.specs.Prelude.{Result}
use Rattle.typing_spec.specs.Program as typed
use Rattle.typed_ast.specs.declared.units.Program.{Program}
use Rattle.typed_ast.specs.View.{program_of}
use Rattle.csem.specs.Store.{Reference}
use Rattle.csem.specs.Machine.{State}
use Rattle.interp_store.specs.declared.stop.Stop.{Stop}
use Rattle.interp_store.specs.declared.scene.Scene.{Scene}
use Rattle.interp_store.specs.declared.machine.Machine.{Machine}
use Rattle.interp_store.specs.declared.frames.Step.{Step}
use Rattle.interp_store.specs.layer.Frames as on
use Rattle.interp_store.specs.layer.Frames.{Moved, moves, halts}
use Rattle.interp_store.specs.layer.Steps.{behind, left_by_place, left_by_value}
use Rattle.interp_store.specs.layer.Views.{operand_frame, place_frame}
use Rattle.interp_store.specs.declared.frames.OperandFrame.{OperandFrame}
use Rattle.interp_store.specs.declared.frames.PlaceFrame.{PlaceFrame}
use Rattle.interp_store.specs.layer.Agrees.{state_in, onto, Agrees, Takes, frames_of}

-- a step is the same as another one
pub agrees_as : (m m2 : Moved) (fs gs : List on.Frame) (r : Result Step Stop) (t : State) → m2 ≡ m → Agrees (onto fs m2) r gs t → Agrees (onto fs m) r gs t
agrees_as m m2 fs gs r t e h = let P : Moved → Type 0 = λ m. Agrees (onto fs m) r gs t in subst P e h

-- a frame that was pushed before waits after it
pub onto_behind : (fs : List on.Frame) (f : on.Frame) (m : Moved) → onto (fs ++ f ∷ []) m ≡ onto fs (behind f m)
onto_behind fs f (moves pushed step s) = ap (λ l. moves l step s) (append_assoc fs (f ∷ []) pushed)
onto_behind fs f (halts e s) = refl

-- the machine that pushed a frame takes a step
module _ (old pushed new : Machine) (f : on.Frame) (r : Result Step Stop) (step : typed.Program → State → Moved)
    (frames : frames_of pushed ≡ frames_of old ++ f ∷ []) (scene : pushed.scene ≡ old.scene) (program : pushed.program ≡ old.program) where
  pub takes_behind : Takes step pushed r new → Takes (λ p s. behind f (step p s)) old r new
  takes_behind h = λ o.
      let P : Moved → Type 0 = λ m. Agrees m r (frames_of new) (state_in new.scene o) in
      let at : Bor Program → Scene → Moved = λ p s. step (program_of p.now) (state_in s o) in
      subst P (ap (λ fs. onto fs (at pushed.program pushed.scene)) frames ∙ onto_behind (frames_of old) f (at pushed.program pushed.scene)
      ∙ ap (λ p. onto (frames_of old) (behind f (at p pushed.scene))) program ∙ ap (λ s. onto (frames_of old) (behind f (at old.program s))) scene) (h o)

-- a step that is the same as another one for every program and state
pub takes_as : (old new : Machine) (r : Result Step Stop) (step step2 : typed.Program → State → Moved) → ((p : typed.Program) (s : State) → step2 p s ≡ step p s) →
    Takes step2 old r new → Takes step old r new
takes_as old new r step step2 e h = λ o.
    agrees_as (step (program_of old.program.now) (state_in old.scene o)) (step2 (program_of old.program.now) (state_in old.scene o)) (frames_of old) (frames_of new) r
    (state_in new.scene o) (e (program_of old.program.now) (state_in old.scene o)) (h o)

-- ---- the steps of frames

-- equal frames and values take the same step
pub left_as : (frame f : OperandFrame) (v v2 : ℤ) (old new : Machine) (r : Result Step Stop) → frame ≡ f → v2 ≡ v →
    Takes (λ p s. left_by_value p (operand_frame f) v2 s) old r new → Takes (λ p s. left_by_value p (operand_frame frame) v s) old r new
left_as frame f v v2 old new r e same h =
    takes_as old new r (λ p s. left_by_value p (operand_frame frame) v s) (λ p s. left_by_value p (operand_frame f) v2 s)
    (λ p s. ap (λ v. left_by_value p (operand_frame f) v s) same ∙ ap (λ f. left_by_value p (operand_frame f) v s) (sym e)) h

-- and so do equal places
pub place_left_as : (frame f : PlaceFrame) (at : Reference) (old new : Machine) (r : Result Step Stop) → frame ≡ f →
    Takes (λ p s. left_by_place p (place_frame f) at s) old r new → Takes (λ p s. left_by_place p (place_frame frame) at s) old r new
place_left_as frame f at old new r e h =
    takes_as old new r (λ p s. left_by_place p (place_frame frame) at s) (λ p s. left_by_place p (place_frame f) at s)
    (λ p s. ap (λ f. left_by_place p (place_frame f) at s) (sym e)) h
