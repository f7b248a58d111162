use Rattle.std.specs.Prelude.{true, false}
use Rattle.typed_ast.specs.View.{program_of}
use Rattle.cabs.proofs.Ticking.{given_up_first, fresh_new, meets_new, told_new}
use Rattle.cabs.proofs.Showing.{none_shown, shown_new}
use Rattle.cabs.proofs.running.observe.Goals as goal

pub returns-in-Err-clause-meets : goal.returns-in-Err-clause-meets
returns-in-Err-clause-meets g c input given = given_up_first (program_of c.args.program.now) input c.args.ticks (g.P.Port.seen c.args.port.now) given

pub returns-clause-meets : goal.returns-clause-meets
returns-clause-meets g c input given =
    let i = c.in-Ok.interpreter in
    let fresh = fresh_new i c.args.program c.in-Ok.ensures.program c.in-Ok.ensures.frames c.in-Ok.ensures.state c.in-Ok.ensures.kept c.in-Ok.ensures.tally in
    meets_new i.machine.program c.args.program input c.args.ticks _ _ _ _ c.in-Ok.ensures.program (c.start-run.ensures.meets false input given fresh tt).0

pub returns-clause-told : goal.returns-clause-told
returns-clause-told g c input given told =
    let i = c.in-Ok.interpreter in
    let fresh = fresh_new i c.args.program c.in-Ok.ensures.program c.in-Ok.ensures.frames c.in-Ok.ensures.state c.in-Ok.ensures.kept c.in-Ok.ensures.tally in
    told_new (g.O.Observer.told c.start-run.new.observer) i.machine.program c.args.program input c.args.ticks _ c.in-Ok.ensures.program (c.start-run.ensures.meets true input given fresh told).1

pub returns-in-Err-clause-shown : goal.returns-in-Err-clause-shown
returns-in-Err-clause-shown g c input given always shown = none_shown (program_of c.args.program.now) input (g.O.Observer.shown c.args.observer.now) c.args.ticks shown

pub returns-clause-shown : goal.returns-clause-shown
returns-clause-shown g c input given always shown =
    let i = c.in-Ok.interpreter in
    let fresh = fresh_new i c.args.program c.in-Ok.ensures.program c.in-Ok.ensures.frames c.in-Ok.ensures.state c.in-Ok.ensures.kept c.in-Ok.ensures.tally in
    shown_new (g.O.Observer.shown c.start-run.new.observer) i.machine.program c.args.program input c.args.ticks _ c.in-Ok.ensures.program (c.start-run.ensures.shown input given fresh always shown)
