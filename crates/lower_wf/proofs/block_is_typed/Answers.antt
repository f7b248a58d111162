use Rattle.lower_wf.proofs.Whole as laws
use Rattle.lower_wf.proofs.block_is_typed.Goals as goal

pub returns : goal.returns
returns c = laws.block_is_typed
