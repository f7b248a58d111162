use Rattle.csem.proofs.Fits.{static_fits}
use Rattle.csem.proofs.static_fits.Goals as goal

pub returns : goal.returns
returns c = static_fits
