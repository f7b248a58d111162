use Rattle.cc.proofs.performing.interpret_observed.Goals as goal

pub returns : goal.returns
returns g c = record {
  run = c.observe-done.result.run;
  greatest = c.observe-done.result.greatest;
  status_is = c.run_status.ensures.status;
  says = c.run_status.ensures.says;
  meets = c.observe-done.ensures.meets;
  counts = c.observe-done.ensures.counts;
  blames = c.observe-done.ensures.fault;
}
