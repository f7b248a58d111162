use Rattle.typed_ast.specs.View.{program_of}
use Rattle.interp_store.specs.layer.Agrees.{frames_of}
use Rattle.interp_store.specs.layer.Views.{node_of}
use Rattle.cabs.proofs.Sweeps.{ticked, unticked}
use Rattle.cabs.proofs.opening.enter_other.Goals as goal

pub returns-then-not-tick-clause-does : goal.returns-then-not-tick-clause-does
returns-then-not-tick-clause-does c = λ run h.
    let m = c.args.machine.now in
    unticked run (program_of m.program.now) c.args.limit c.args.clock.now.spent c.tick.new.self (frames_of m) m.scene (node_of c.args.node) c.tick.result c.if-not-tick.true c.tick.ensures.idle c.tick.ensures.same h

pub returns-clause-does : goal.returns-clause-does
returns-clause-does c = λ run h.
    let m = c.args.machine.now in
    c.enter_slowly.ensures.does c.args.limit run (ticked run (program_of m.program.now) c.args.clock.now.spent c.tick.new.self.spent (frames_of m) m.scene (node_of c.args.node) c.tick.result c.if-not-tick.false c.tick.ensures.taken h)
