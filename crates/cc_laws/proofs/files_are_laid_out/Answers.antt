use Rattle.cc_laws.proofs.Made as laws
use Rattle.cc_laws.proofs.files_are_laid_out.Goals as goal

pub returns : goal.returns
returns c = laws.files_are_laid_out
