use Rattle.csem.proofs.Fits.{new_fits}
use Rattle.csem.proofs.new_fits.Goals as goal

pub returns : goal.returns
returns c = new_fits
