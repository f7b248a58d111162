use Rattle.select_correct.proofs.Keeping as laws
use Rattle.select_correct.proofs.machine_calls_keep.Goals as goal

pub returns : goal.returns
returns c = laws.calls_keep
