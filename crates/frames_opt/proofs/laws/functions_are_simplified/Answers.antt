use Rattle.frames_opt.proofs.Whole.{is_simplified}
use Rattle.frames_opt.proofs.laws.functions_are_simplified.Goals as goal

pub returns : goal.returns
returns c = is_simplified
