use Rattle.lower_bounds.proofs.Whole as laws
use Rattle.lower_bounds.proofs.code_is_lowered.Goals as goal

pub returns : goal.returns
returns c = laws.code_is_lowered
