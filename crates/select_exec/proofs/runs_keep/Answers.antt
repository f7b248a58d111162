use Rattle.select_exec.proofs.Keeping as keeping
use Rattle.select_exec.proofs.runs_keep.Goals as goal

pub returns : goal.returns
returns c = keeping.runs_keep
