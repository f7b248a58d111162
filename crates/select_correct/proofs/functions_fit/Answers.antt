use Rattle.select_correct.proofs.Fits.{function_fits}
use Rattle.select_correct.proofs.functions_fit.Goals as goal

pub returns : goal.returns
returns c = function_fits
