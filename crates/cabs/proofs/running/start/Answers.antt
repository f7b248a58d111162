use Rattle.std.proofs.Common.{ap, refl, arith, ◌+◌, []}
use Rattle.std.specs.Prelude.{false}
use Rattle.typing_spec.specs.Program as typed
use Rattle.typed_ast.specs.View.{program_of}
use Rattle.interp_store.specs.declared.machine.Machine.{Machine}
use Rattle.cabs.specs.declared.state.Interpreter.{Interpreter}
use Rattle.cabs.specs.inside.Standing.{Knows, history_called}
use Rattle.cabs.proofs.Told.{asked, known, nothing_told}
use Rattle.cabs.proofs.Showing.{is_shown, none_shown, nothing_shown, shown_until}
use Rattle.cabs.proofs.Ticking.{outset, run_of, answered, told_as, given_up_first, main_runs, main_stopping, main_stopped}
use Rattle.cabs.proofs.running.start.Goals as goal

pub returns-in-Err-clause-meets : goal.returns-in-Err-clause-meets
returns-in-Err-clause-meets g c b input given fresh told = (given_up_first (program_of c.args.interpreter.now.machine.program.now) input c.args.ticks (g.P.Port.seen c.args.port.now) given, nothing_told b)

pub returns-in-Ok-call_function-clause-meets : goal.returns-in-Ok-call_function-clause-meets
returns-in-Ok-call_function-clause-meets g c b input given fresh told =
    let old = c.args.interpreter.now in
    let p = program_of old.machine.program.now in
    let mid = c.count_call.new.self.machine in
    let T = g.O.Observer.told c.args.observer.now in
    let U = g.O.Observer.told c.enters.new.self in
    let W = g.O.Observer.told c.run_on.new.observer in
    let called = history_called p (typed.function p.main) [] in
    let stops = c.run_on.ensures.meets b p (run_of p input) _ (main_runs (Knows b U) p input old _ mid old.machine.program.now.main _ fresh c.in-Ok.ensures.machine
    (ap (λ (m : Machine). program_of m.program.now) c.in-Ok.ensures.machine) refl given (c.in-Ok.ensures.tells []) (known b T U called (λ h t. c.enters.ensures.told (called h) (c.in-Ok.ensures.told [] h t)) [] told)
    c.in-Ok.ensures.kept c.in-Ok-call_function.first c.in-Ok-call_function.ensures.acts c.in-Ok-call_function.ensures.program) in
    (answered (Knows b W) p input c.args.ticks _ _ _ _ stops, asked b W p input c.args.ticks _ (told_as (Knows b W) p input c.args.ticks _ (g.P.Port.seen c.args.port.now) (g.P.Port.seen c.run_on.new.port) _ stops))

pub returns-in-Err-call_function-clause-meets : goal.returns-in-Err-call_function-clause-meets
returns-in-Err-call_function-clause-meets g c b input given fresh told =
    let old = c.args.interpreter.now in
    let new : Interpreter = record { machine = c.call_function.new.machine; tally = c.count_call.new.self.tally; kept = c.count_call.new.self.kept } in
    let p = program_of old.machine.program.now in
    let port = g.P.Port.seen c.args.port.now in
    let mid = c.count_call.new.self.machine in
    let main = old.machine.program.now.main in
    let same = c.in-Ok.ensures.machine in
    let prog = ap (λ (m : Machine). program_of m.program.now) c.in-Ok.ensures.machine in
    let T = g.O.Observer.told c.args.observer.now in
    let U = g.O.Observer.told c.count_call.new.observer in
    let W = g.O.Observer.told c.finish.new.observer in
    let begun = known b T U (history_called p (typed.function p.main) []) (c.in-Ok.ensures.told []) [] told in
    let stops = main_stopped (Knows b W) p input port c.args.ticks _ _ (g.P.Port.seen c.finish.new.port)
    (c.finish.ensures.meets b p (λ n. run_of p input (n + 0)) (outset input port) (main_stopping (Knows b U) p input old new mid main port fresh same prog refl given (c.in-Ok.ensures.tells []) begun c.in-Ok.ensures.kept c.in-Err-call_function.stop c.in-Err-call_function.ensures.acts)) in
    (answered (Knows b W) p input c.args.ticks _ _ _ _ stops, asked b W p input c.args.ticks _ (told_as (Knows b W) p input c.args.ticks _ (g.P.Port.seen c.args.port.now) (g.P.Port.seen c.finish.new.port) _ stops))

pub returns-in-Err-clause-shown : goal.returns-in-Err-clause-shown
returns-in-Err-clause-shown g c input given fresh always shown =
    none_shown (program_of c.args.interpreter.now.machine.program.now) input (g.O.Observer.shown c.count_call.new.observer) c.args.ticks (c.in-Err.ensures.shown [] shown)

pub returns-in-Ok-call_function-clause-shown : goal.returns-in-Ok-call_function-clause-shown
returns-in-Ok-call_function-clause-shown g c input given fresh always shown =
    let old = c.args.interpreter.now in
    let p = program_of old.machine.program.now in
    let mid = c.count_call.new.self.machine in
    let U = g.O.Observer.told c.enters.new.self in
    let S = g.O.Observer.shown c.enters.new.self in
    let runs = main_runs (Knows false U) p input old _ mid old.machine.program.now.main _ fresh c.in-Ok.ensures.machine
    (ap (λ (m : Machine). program_of m.program.now) c.in-Ok.ensures.machine) refl given (c.in-Ok.ensures.tells []) tt
    c.in-Ok.ensures.kept c.in-Ok-call_function.first c.in-Ok-call_function.ensures.acts c.in-Ok-call_function.ensures.program in
    is_shown p input (g.O.Observer.shown c.run_on.new.observer) c.args.ticks _
    (c.run_on.ensures.shows false p (run_of p input) _ runs (c.enters.ensures.always (c.in-Ok.ensures.always always)) (nothing_shown S (run_of p input) (c.enters.ensures.shown [] (c.in-Ok.ensures.shown [] shown))))

pub returns-in-Err-call_function-clause-shown : goal.returns-in-Err-call_function-clause-shown
returns-in-Err-call_function-clause-shown g c input given fresh always shown =
    let old = c.args.interpreter.now in
    let new : Interpreter = record { machine = c.call_function.new.machine; tally = c.count_call.new.self.tally; kept = c.count_call.new.self.kept } in
    let p = program_of old.machine.program.now in
    let port = g.P.Port.seen c.args.port.now in
    let mid = c.count_call.new.self.machine in
    let main = old.machine.program.now.main in
    let same = c.in-Ok.ensures.machine in
    let prog = ap (λ (m : Machine). program_of m.program.now) c.in-Ok.ensures.machine in
    let U = g.O.Observer.told c.count_call.new.observer in
    let W = g.O.Observer.told c.finish.new.observer in
    let S = g.O.Observer.shown c.finish.new.observer in
    let shows = nothing_shown S (run_of p input) (c.finish.ensures.shown [] (c.in-Ok.ensures.shown [] shown)) in
    is_shown p input S c.args.ticks _ (shown_until S (run_of p input) 0 c.args.ticks (omega arith) shows (Knows false W) p (outset input port) _ _ (g.P.Port.seen c.finish.new.port)
    (c.finish.ensures.meets false p (λ n. run_of p input (n + 0)) (outset input port) (main_stopping (Knows false U) p input old new mid main port fresh same prog refl given (c.in-Ok.ensures.tells []) tt c.in-Ok.ensures.kept c.in-Err-call_function.stop c.in-Err-call_function.ensures.acts)))
