use Rattle.std.proofs.Common.{[], Some, inl, refl, subst}
use Rattle.rv32.specs.Step.{machine_of}
use Rattle.loader.specs.Loading.{loaded_image}
use Rattle.sim.specs.Runs.{start_world}
use Rattle.zikorape.specs.Got.{Got}
use Rattle.zikorape.proofs.Runs.{at_start}
use Rattle.zikorape.proofs.standing.stand.Goals as goal

pub returns-in-Ok-load : goal.returns-in-Ok-load
returns-in-Ok-load c =
    let image = loaded_image c.in-Ok-load.program in
    let w = start_world image c.args.input.now in
    let at = at_start image c.args.input.now _ _ c.start-state.ensures c.in-Ok.ensures in
    inl (record {
      image = image;
      loads = c.in-Ok-load.ensures;
      run = c.run_to-reached.result.outcome;
      machine = machine_of c.run_to-reached.new.state;
      after = c.run_to-reached.new.port;
      meets = c.run_to-reached.ensures.meets (Some []) w at;
      passes = c.run_to-reached.ensures.passes (Some []) w at;
      most = c.run_to-reached.ensures.most;
      halts = c.run_to-reached.ensures.halts;
      answer_is = c.number.ensures;
      detail_is = c.detail-standing.ensures;
      pc_is = refl;
      registers_are = refl;
      output_got = subst (Got _) c.output.ensures c.give-standing.ensures;
      window_shows = record { same = c.show.ensures.same; bytes_are = c.show.ensures.shows };
    })
