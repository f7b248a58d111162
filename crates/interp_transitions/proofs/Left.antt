-- Steps of nodes and frames, and the outside.
use Rattle.std.proofs.Common.{◌≡◌, ℤ, List, refl, sym, ap, subst, ◌∙◌}
use Rattle.std.specs.Prelude.{Result, Ok, Err}
use Rattle.typing_spec.specs.Program as typed
use Rattle.typed_ast.specs.View.{program_of}
use Rattle.csem.specs.Store.{Reference}
use Rattle.csem.specs.Machine.{State, Ended, Undefined}
use Rattle.csem.specs.Statements as statements
use Rattle.interp_store.specs.declared.stop.Stop.{Stop}
use Rattle.interp_store.specs.declared.stop.Stop.TheVariants as stop
use Rattle.interp_store.specs.declared.scene.Scene.{Scene}
use Rattle.interp_store.specs.declared.machine.Machine.{Machine}
use Rattle.interp_store.specs.declared.frames.Step.{Step}
use Rattle.interp_store.specs.layer.Frames as on
use Rattle.interp_store.specs.layer.Frames.{Moved, moves, halts, a_value, a_place, a_flow, initialised}
use Rattle.interp_store.specs.layer.Steps.{left, left_by_value, left_by_place, left_by_flow, left_initialised}
use Rattle.interp_store.specs.layer.Views.{step_of}
use Rattle.interp_store.specs.layer.Agrees.{Outside, state_in, onto, Agrees, Takes, frames_of}
use Rattle.interp_store.proofs.Taken.{takes_as}
use Rattle.interp_transitions.specs.Acts.{outside_of, outside_behind, Acts}

-- ---- a step that leaves the outside as it is

unmoved : (fs : List on.Frame) (m : Moved) → outside_behind (onto fs m) ≡ outside_behind m
unmoved fs (moves pushed step s) = refl
unmoved fs (halts e s) = refl

same_outside : (fs : List on.Frame) (m n : Moved) (o : Outside) → onto fs m ≡ n → outside_behind n ≡ o → o ≡ outside_behind m
same_outside fs m n o h e = sym (sym (unmoved fs m) ∙ ap outside_behind h ∙ e)

agrees_outside : (fs gs : List on.Frame) (m : Moved) (r : Result Step Stop) (new : Machine) (o : Outside) →
    Agrees (onto fs m) r gs (state_in new.scene o) → Agrees (onto fs m) r gs (state_in new.scene (outside_behind m))
agrees_outside fs gs m (Ok x) new o h =
    h ∙ ap (λ o. moves gs (step_of x) (state_in new.scene o)) (same_outside fs m (moves gs (step_of x) (state_in new.scene o)) o h refl)
agrees_outside fs gs m (Err stop.Memory) new o h = tt
agrees_outside fs gs m (Err (stop.Ended n)) new o h =
    h ∙ ap (λ o. halts (Ended n) (state_in new.scene o)) (same_outside fs m (halts (Ended n) (state_in new.scene o)) o h refl)
agrees_outside fs gs m (Err (stop.Undefined act at)) new o h =
    h ∙ ap (λ o. halts (Undefined act at) (state_in new.scene o)) (same_outside fs m (halts (Undefined act at) (state_in new.scene o)) o h refl)

pub takes_acts : (old new : Machine) (r : Result Step Stop) (step : typed.Program → State → Moved) → Takes step old r new → Acts step old r new
takes_acts old new r step h = λ o.
    agrees_outside (frames_of old) (frames_of new) (step (program_of old.program.now) (state_in old.scene o)) r new o (h o)

-- a step whose state is that of the machine with something done outside
pub at_scene : (fs gs : List on.Frame) (m : Moved) (r : Result Step Stop) (s : State) (scene : Scene) (o : Outside) → s ≡ state_in scene o → outside_behind m ≡ outside_of s →
    Agrees (onto fs m) r gs s → Agrees (onto fs m) r gs (state_in scene (outside_behind m))
at_scene fs gs m r s scene o e f h =
    let P : State → Type 0 = λ t. Agrees (onto fs m) r gs t in
    subst P (e ∙ ap (state_in scene) (sym (f ∙ ap outside_of e))) h

-- ---- a frame is the one that it is

pub place_as : (whole part : on.Frame) (at : Reference) (old new : Machine) (r : Result Step Stop) → whole ≡ part →
    Takes (λ p s. left_by_place p part at s) old r new → Takes (λ p s. left_by_place p whole at s) old r new
place_as whole part at old new r e h =
    takes_as old new r (λ p s. left_by_place p whole at s) (λ p s. left_by_place p part at s) (λ p s. ap (λ f. left_by_place p f at s) (sym e)) h

pub value_as : (whole part : on.Frame) (v v2 : ℤ) (old new : Machine) (r : Result Step Stop) → whole ≡ part → v2 ≡ v →
    Takes (λ p s. left_by_value p part v2 s) old r new → Takes (λ p s. left_by_value p whole v s) old r new
value_as whole part v v2 old new r e same h =
    takes_as old new r (λ p s. left_by_value p whole v s) (λ p s. left_by_value p part v2 s)
    (λ p s. ap (λ v. left_by_value p part v s) same ∙ ap (λ f. left_by_value p f v s) (sym e)) h

pub first_as : (whole part : on.Frame) (old new : Machine) (r : Result Step Stop) → whole ≡ part →
    Takes (λ p s. left_initialised p part s) old r new → Takes (λ p s. left_initialised p whole s) old r new
first_as whole part old new r e h =
    takes_as old new r (λ p s. left_initialised p whole s) (λ p s. left_initialised p part s) (λ p s. ap (λ f. left_initialised p f s) (sym e)) h

-- ---- and so with effects on the outside

pub acts_as : (old new : Machine) (r : Result Step Stop) (st st2 : typed.Program → State → Moved) → ((p : typed.Program) (s : State) → st2 p s ≡ st p s) →
    Acts st2 old r new → Acts st old r new
acts_as old new r st st2 e h = λ o.
    let P : Moved → Type 0 = λ m. Agrees (onto (frames_of old) m) r (frames_of new) (state_in new.scene (outside_behind m)) in
    subst P (e (program_of old.program.now) (state_in old.scene o)) (h o)

pub flow_as : (whole part : on.Frame) (flow : statements.Flow) (old new : Machine) (r : Result Step Stop) → whole ≡ part →
    Acts (λ p s. left_by_flow p part flow s) old r new → Acts (λ p s. left_by_flow p whole flow s) old r new
flow_as whole part flow old new r e h =
    acts_as old new r (λ p s. left_by_flow p whole flow s) (λ p s. left_by_flow p part flow s) (λ p s. ap (λ f. left_by_flow p f flow s) (sym e)) h

pub found_as : (whole part : on.Found) (f : on.Frame) (old new : Machine) (r : Result Step Stop) → whole ≡ part →
    Acts (λ p s. left p f part s) old r new → Acts (λ p s. left p f whole s) old r new
found_as whole part f old new r e h =
    acts_as old new r (λ p s. left p f whole s) (λ p s. left p f part s) (λ p s. ap (λ x. left p f x s) (sym e)) h
