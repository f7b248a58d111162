use Rattle.std.proofs.Common.{inl, inr, refl}
use Rattle.sim.specs.Runs.{start_world}
use Rattle.cc.proofs.Outcomes.{begins, load_fails}
use Rattle.cc.proofs.performing.run.Goals as goal

pub returns-in-Ok : goal.returns-in-Ok
returns-in-Ok g c =
    let old = g.P.Port.seen c.args.port.now in
    let fresh = c.new-machine.ensures.stopped in
    inl (
      _,
      c.in-Ok.ensures,
      record {
        run = c.run-outcome.result;
        machine = _;
        status_is = c.status.ensures.status;
        says = c.status.ensures.says;
        meets = λ input told. c.run-outcome.ensures.meets fresh old.output (start_world _ input) (begins old _ input _ c.new-machine.ensures.start told);
        counts = c.run-outcome.ensures.counts fresh;
        blames = c.run-outcome.ensures.fault fresh;
      },
    )

pub returns-in-Err : goal.returns-in-Err
returns-in-Err g c =
    inr (refl, refl, (c.to_fault.result, load_fails c.args.file.now c.args.name.now c.in-Err.fault c.load_stop.result c.to_fault.result c.in-Err.ensures c.load_stop.ensures c.to_fault.ensures, c.say_fault.ensures))
