use Rattle.std.proofs.Common.{◌≡◌, ◌<◌, List, [], ◌∷◌, ◌++◌, ap, sym, subst, ◌∙◌}
use Rattle.typed_ast.specs.View.{program_of}
use Rattle.interp_store.specs.declared.machine.Machine.{Machine}
use Rattle.interp_store.specs.layer.Frames as on
use Rattle.interp_store.specs.layer.Views.{found_of, frame_of, step_of}
use Rattle.interp_store.specs.layer.Agrees.{frames_of}
use Rattle.csem.specs.History.{Entry}
use Rattle.cabs.specs.inside.Standing.{Knows, distance, history_left}
use Rattle.cabs.proofs.Following.{outside, frame_nears}
use Rattle.cabs.proofs.Told.{known}
use Rattle.cabs.proofs.Acts.{nothing_waits, frame_stands, frame_stopping}
use Rattle.cabs.proofs.acting.act_found.Goals as goal

pub returns-in_default-clause-meets : goal.returns-in_default-clause-meets
returns-in_default-clause-meets g c b p whole o s =
    let m = c.args.interpreter.now in
    nothing_waits (Knows b (g.O.Observer.told c.args.observer.now)) (Knows b (g.O.Observer.told c.args.observer.now)) p whole o m (found_of c.args.found) _ c.in_default.ensures.empty s

pub returns-in-Ok-clause-meets : goal.returns-in-Ok-clause-meets
returns-in-Ok-clause-meets g c b p whole o s =
    let T = g.O.Observer.told c.args.observer.now in
    let U = g.O.Observer.told c.count_end.new.observer in
    let f = frame_of c.in-Some.frame in
    let x = found_of c.args.found in
    let ended : (h : List Entry) → T h → U (history_left f x h) = λ h t. c.count_end.ensures.told h (c.finds.ensures.told h t) in
    let V = g.O.Observer.told c.has_done.new.self in
    let old = c.args.interpreter.now in
    let mid = c.count_end.new.self.machine in
    let top : frames_of old.machine ≡ frames_of c.pop.new.self ++ f ∷ [] = c.in-Some.ensures.frame in
    let popped : frames_of old.machine ≡ frames_of mid ++ f ∷ [] = top ∙ ap (λ (m : Machine). frames_of m ++ f ∷ []) (sym c.count_end.ensures.machine) in
    frame_stands (Knows b T) (Knows b V) p whole o old _ mid f (found_of c.args.found) _ popped (ap (λ (m : Machine). m.scene) c.count_end.ensures.machine ∙ c.in-Some.ensures.scene)
    (ap (λ (m : Machine). m.program) c.count_end.ensures.machine ∙ c.in-Some.ensures.program)
    (λ h. c.count_end.ensures.tells p h) (known b T V (history_left f x) (λ h t. c.has_done.ensures.told (history_left f x h) (ended h t))) c.count_end.ensures.kept s c.in-Ok.step c.in-Ok.ensures.acts c.in-Ok.ensures.program

pub returns-in-Ok-clause-nears : goal.returns-in-Ok-clause-nears
returns-in-Ok-clause-nears g c =
    let old = c.args.interpreter.now in
    let mid = c.count_end.new.self.machine in
    let new = c.leave.new.machine in
    let f = frame_of c.in-Some.frame in
    let x = found_of c.args.found in
    let top : frames_of old.machine ≡ frames_of c.pop.new.self ++ f ∷ [] = c.in-Some.ensures.frame in
    let popped : frames_of old.machine ≡ frames_of mid ++ f ∷ [] = top ∙ ap (λ (m : Machine). frames_of m ++ f ∷ []) (sym c.count_end.ensures.machine) in
    let P : List on.Frame → Type 0 = λ fs. distance (frames_of new) (step_of c.in-Ok.step) < distance fs (on.leaves x) in
    subst P (sym popped) (frame_nears (program_of mid.program.now) (frames_of mid) (frames_of new) f x (step_of c.in-Ok.step) mid.scene new.scene (outside 0 [] [])
    (c.in-Ok.ensures.acts (outside 0 [] [])))

pub returns-in-Err-clause-meets : goal.returns-in-Err-clause-meets
returns-in-Err-clause-meets g c b p whole o s =
    let T = g.O.Observer.told c.args.observer.now in
    let U = g.O.Observer.told c.count_end.new.observer in
    let f = frame_of c.in-Some.frame in
    let x = found_of c.args.found in
    let ended : (h : List Entry) → T h → U (history_left f x h) = λ h t. c.count_end.ensures.told h (c.finds.ensures.told h t) in
    let old = c.args.interpreter.now in
    let mid = c.count_end.new.self.machine in
    let top : frames_of old.machine ≡ frames_of c.pop.new.self ++ f ∷ [] = c.in-Some.ensures.frame in
    let popped : frames_of old.machine ≡ frames_of mid ++ f ∷ [] = top ∙ ap (λ (m : Machine). frames_of m ++ f ∷ []) (sym c.count_end.ensures.machine) in
    c.finish.ensures.meets b p whole o (frame_stopping (Knows b T) (Knows b U) p whole o old _ mid f (found_of c.args.found) _ popped
    (ap (λ (m : Machine). m.scene) c.count_end.ensures.machine ∙ c.in-Some.ensures.scene) (ap (λ (m : Machine). m.program) c.count_end.ensures.machine ∙ c.in-Some.ensures.program)
    (λ h. c.count_end.ensures.tells p h) (known b T U (history_left f x) ended) c.count_end.ensures.kept s c.in-Err.stop c.in-Err.ensures.acts)

pub returns-then-not-wants_ticks-clause-meets : goal.returns-then-not-wants_ticks-clause-meets
returns-then-not-wants_ticks-clause-meets g c b p whole o s = c.act_unseen.ensures.meets b p whole o s

pub returns-then-not-wants_ticks-clause-nears : goal.returns-then-not-wants_ticks-clause-nears
returns-then-not-wants_ticks-clause-nears g c = c.act_unseen.ensures.nears
