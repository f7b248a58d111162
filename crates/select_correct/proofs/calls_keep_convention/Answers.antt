use Rattle.select_correct.proofs.Conventions as laws
use Rattle.select_correct.proofs.calls_keep_convention.Goals as goal

pub returns : goal.returns
returns c = laws.calls_keep
