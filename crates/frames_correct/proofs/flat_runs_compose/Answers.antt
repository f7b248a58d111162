use Rattle.frames_correct.proofs.Runs.{run_both}
use Rattle.frames_correct.proofs.flat_runs_compose.Goals as goal

pub returns : goal.returns
returns c = run_both
