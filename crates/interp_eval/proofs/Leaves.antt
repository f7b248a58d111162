-- Leaves whose numbers went through a machine word, and the part that a test chooses.
use Rattle.std.proofs.Common.{◌≡◌, ℕ, Option, ap, subst, ◌∙◌}
use Rattle.std.specs.Prelude.{Bool, Result}
use Rattle.csem.specs.Machine.{State, Run, then_do, choose}
use Rattle.interp_store.specs.declared.scene.Scene.{Scene}
use Rattle.interp_store.specs.declared.stop.Stop.{Stop}
use Rattle.interp_store.specs.layer.Frames.{Found}
use Rattle.interp_store.specs.layer.Agrees.{Outside, state_in, Runs}
use Rattle.interp_eval.specs.declared.clock.Clock.{Clock}
use Rattle.interp_eval.specs.layer.Comes.{Course, Leads, Comes, Gives}
use Rattle.interp_eval.proofs.Comings.{gave, leads_as}

pub runs_as : {A B : Type 0} (view : A → B) (x y : Run B) (r : Result A Stop) (s : State) → x ≡ y → Runs view x r s → Runs view y r s
runs_as view x y r s e h = let P : Run _ → Type 0 = λ x. Runs view x r s in subst P e h

-- a leaf of one operand that is the same as another
pub gave_with : {A B D : Type 0} (view : A → B) (c : Course) (limit k : ℕ) (before later : Scene) (part : D → State → Run B) (rest : B → State → Run Found) (new : Clock) → new.spent ≡ k →
    (d d2 : D) → d ≡ d2 → Leads c k before (part d2) rest → (x : Result A Stop) (r : Option A) → ((o : Outside) → Runs view (part d (state_in before o)) x (state_in later o)) →
    Gives x r new.why → Comes view c rest limit r new later
gave_with view c limit k before later part rest new same d d2 e h x r runs g =
    gave view c limit k before later (part d2) rest new same h x r
    (λ o. runs_as view (part d (state_in before o)) (part d2 (state_in before o)) x (state_in later o) (ap (λ d. part d (state_in before o)) e) (runs o)) g

-- and of two
pub gave_with_both : {A B D E : Type 0} (view : A → B) (c : Course) (limit k : ℕ) (before later : Scene) (part : D → E → State → Run B) (rest : B → State → Run Found) (new : Clock) → new.spent ≡ k →
    (d d2 : D) (e e2 : E) → d ≡ d2 → e ≡ e2 → Leads c k before (part d2 e2) rest → (x : Result A Stop) (r : Option A) →
    ((o : Outside) → Runs view (part d e (state_in before o)) x (state_in later o)) → Gives x r new.why → Comes view c rest limit r new later
gave_with_both view c limit k before later part rest new same d d2 e e2 is is2 h x r runs g =
    gave view c limit k before later (part d2 e2) rest new same h x r
    (λ o. runs_as view (part d e (state_in before o)) (part d2 e2 (state_in before o)) x (state_in later o)
    (ap (λ d. part d e (state_in before o)) is ∙ ap (λ e. part d2 e (state_in before o)) is2) (runs o)) g

-- the part that a test chooses
pub chose : {A : Type 0} (c : Course) (k : ℕ) (scene : Scene) (b d : Bool) (f g : State → Run A) (rest : A → State → Run Found) → b ≡ d →
    Leads c k scene (λ s. choose b (f s) (g s)) rest → Leads c k scene (λ s. choose d (f s) (g s)) rest
chose c k scene b d f g rest e h = leads_as c k scene (λ s. choose b (f s) (g s)) (λ s. choose d (f s) (g s)) rest (λ s. ap (λ b. choose b (f s) (g s)) e) h

-- the part that a test chooses, and then the next one
pub leads_chosen : {A B : Type 0} (c : Course) (k : ℕ) (scene : Scene) (b d : Bool) (f g : State → Run A) (next : A → State → Run B) (rest : B → State → Run Found) → b ≡ d →
    Leads c k scene (λ s. then_do (choose b (f s) (g s)) next) rest → Leads c k scene (λ s. then_do (choose d (f s) (g s)) next) rest
leads_chosen c k scene b d f g next rest e h =
    leads_as c k scene (λ s. then_do (choose b (f s) (g s)) next) (λ s. then_do (choose d (f s) (g s)) next) rest (λ s. ap (λ b. then_do (choose b (f s) (g s)) next) e) h
