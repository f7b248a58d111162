use Rattle.std.proofs.Common.{◌<◌, ◌∙◌, refl, subst, map, []}
use Rattle.typed_ast.specs.View.{program_of, callee_of}
use Rattle.typing_spec.specs.Program as typed
use Rattle.interp_store.specs.declared.machine.Machine.{Machine}
use Rattle.interp_store.specs.layer.Frames as on
use Rattle.interp_store.specs.layer.Views.{passed_of, step_of}
use Rattle.interp_store.specs.layer.Agrees.{frames_of}
use Rattle.cabs.specs.inside.Standing.{Knows, distance, history_called}
use Rattle.cabs.proofs.Following.{outside, call_nears}
use Rattle.cabs.proofs.Begun.{given_up_here}
use Rattle.cabs.proofs.Told.{known}
use Rattle.cabs.proofs.Acts.{called_as, tells_at, told_at, still_stands, call_stands, call_stopping}
use Rattle.cabs.proofs.acting.act_call.Goals as goal

pub returns-in-Ok-Step-clause-meets : goal.returns-in-Ok-Step-clause-meets
returns-in-Ok-Step-clause-meets g c b p whole o s =
    let q = program_of c.args.interpreter.now.machine.program.now in
    let T = g.O.Observer.told c.args.observer.now in
    let U = g.O.Observer.told c.count_call.new.observer in
    let begun = told_at p q (callee_of c.args.callee) (map passed_of c.args.passed.now) T U s.program_is (c.in-Ok.ensures.told (map passed_of c.args.passed.now)) in
    let mid = c.count_call.new.self.machine in
    let callee = callee_of c.args.callee in
    let passed = map passed_of c.args.passed.now in
    let a = called_as mid c.call.new.machine c.args.at callee c.args.used passed _ _ c.in-Ok-Step.field-0-is c.in-Ok-Step.ensures.acts in
    let V = g.O.Observer.told c.tell_call.new.observer in
    call_stands (Knows b T) (Knows b V) p whole o c.args.interpreter.now _ mid c.args.at callee c.args.used passed _ c.in-Ok.ensures.machine
    (tells_at T U p whole o q callee passed c.args.interpreter.now.tally c.count_call.new.self.tally s.program_is (c.in-Ok.ensures.tells passed)) (known b T V (history_called p callee passed) (λ h t. c.tell_call.ensures.told (history_called p callee passed h) (begun h t))) c.in-Ok.ensures.kept s c.in-Ok-Step.step a.0 a.1 c.in-Ok-Step.ensures.program

pub returns-in-Ok-Step-clause-nears : goal.returns-in-Ok-Step-clause-nears
returns-in-Ok-Step-clause-nears g c =
    let mid = c.count_call.new.self.machine in
    let new = c.call.new.machine in
    let callee = callee_of c.args.callee in
    let passed = map passed_of c.args.passed.now in
    let a = called_as mid new c.args.at callee c.args.used passed _ _ c.in-Ok-Step.field-0-is c.in-Ok-Step.ensures.acts in
    let P : Machine → Type 0 = λ m. distance (frames_of new) (step_of c.in-Ok-Step.step) < distance (frames_of m) (on.calls c.args.at callee c.args.used passed) in
    subst P c.in-Ok.ensures.machine (call_nears (program_of mid.program.now) (frames_of mid) (frames_of new) c.args.at callee c.args.used passed (step_of c.in-Ok-Step.step) mid.scene new.scene (outside 0 [] []) a.0 (a.1 (outside 0 [] [])))

pub returns-in-Ok-Gets-clause-meets : goal.returns-in-Ok-Gets-clause-meets
returns-in-Ok-Gets-clause-meets g c b p whole o s =
    let q = program_of c.args.interpreter.now.machine.program.now in
    let T = g.O.Observer.told c.args.observer.now in
    let U = g.O.Observer.told c.count_call.new.observer in
    let begun = told_at p q (callee_of c.args.callee) (map passed_of c.args.passed.now) T U s.program_is (c.in-Ok.ensures.told (map passed_of c.args.passed.now)) in
    let mid = c.count_call.new.self.machine in
    let callee = callee_of c.args.callee in
    let passed = map passed_of c.args.passed.now in
    let a = called_as mid c.call.new.machine c.args.at callee c.args.used passed _ _ c.in-Ok-Gets.field-0-is c.in-Ok-Gets.ensures.acts in
    c.get.ensures.meets b p whole o c.args.at c.args.used passed
    (still_stands (Knows b T) (Knows b U) p whole o c.args.interpreter.now _ c.args.at callee typed.get_byte c.args.used passed _ a.0 (a.1 ∙ c.in-Ok.ensures.machine)
    (tells_at T U p whole o q callee passed c.args.interpreter.now.tally c.count_call.new.self.tally s.program_is (c.in-Ok.ensures.tells passed)) (known b T U (history_called p callee passed) begun) (λ h. refl) c.in-Ok.ensures.kept s)

pub returns-in-Ok-Puts-clause-meets : goal.returns-in-Ok-Puts-clause-meets
returns-in-Ok-Puts-clause-meets g c b p whole o s =
    let q = program_of c.args.interpreter.now.machine.program.now in
    let T = g.O.Observer.told c.args.observer.now in
    let U = g.O.Observer.told c.count_call.new.observer in
    let begun = told_at p q (callee_of c.args.callee) (map passed_of c.args.passed.now) T U s.program_is (c.in-Ok.ensures.told (map passed_of c.args.passed.now)) in
    let mid = c.count_call.new.self.machine in
    let callee = callee_of c.args.callee in
    let passed = map passed_of c.args.passed.now in
    let a = called_as mid c.call.new.machine c.args.at callee c.args.used passed _ _ c.in-Ok-Puts.field-0-is c.in-Ok-Puts.ensures.acts in
    c.put.ensures.meets b p whole o c.args.at c.args.used passed a.1
    (still_stands (Knows b T) (Knows b U) p whole o c.args.interpreter.now _ c.args.at callee typed.put_byte c.args.used passed _ a.0 (a.2 ∙ c.in-Ok.ensures.machine)
    (tells_at T U p whole o q callee passed c.args.interpreter.now.tally c.count_call.new.self.tally s.program_is (c.in-Ok.ensures.tells passed)) (known b T U (history_called p callee passed) begun) (λ h. refl) c.in-Ok.ensures.kept s)

pub returns-in-Err-call-clause-meets : goal.returns-in-Err-call-clause-meets
returns-in-Err-call-clause-meets g c b p whole o s =
    let q = program_of c.args.interpreter.now.machine.program.now in
    let T = g.O.Observer.told c.args.observer.now in
    let U = g.O.Observer.told c.count_call.new.observer in
    let begun = told_at p q (callee_of c.args.callee) (map passed_of c.args.passed.now) T U s.program_is (c.in-Ok.ensures.told (map passed_of c.args.passed.now)) in
    let mid = c.count_call.new.self.machine in
    let callee = callee_of c.args.callee in
    let passed = map passed_of c.args.passed.now in
    c.finish.ensures.meets b p whole o (call_stopping (Knows b T) (Knows b U) p whole o c.args.interpreter.now _ mid c.args.at callee c.args.used passed _ c.in-Ok.ensures.machine
    (tells_at T U p whole o q callee passed c.args.interpreter.now.tally c.count_call.new.self.tally s.program_is (c.in-Ok.ensures.tells passed)) (known b T U (history_called p callee passed) begun) c.in-Ok.ensures.kept s c.in-Err-call.stop c.in-Err-call.ensures.acts.0 c.in-Err-call.ensures.acts.1)

pub returns-in-Err-clause-meets : goal.returns-in-Err-clause-meets
returns-in-Err-clause-meets g c b p whole o s =
    given_up_here (Knows b (g.O.Observer.told c.args.observer.now)) p whole o c.args.interpreter.now (on.calls c.args.at (callee_of c.args.callee) c.args.used (map passed_of c.args.passed.now)) (g.P.Port.seen c.args.port.now) s
