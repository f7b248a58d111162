use Rattle.frames_layout.proofs.Whole as laws
use Rattle.frames_layout.proofs.laws.functions_are_laid_out.Goals as goal

pub returns : goal.returns
returns c = laws.laid_out
