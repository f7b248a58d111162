use Rattle.csem.proofs.Fits.{set_fits}
use Rattle.csem.proofs.set_fits.Goals as goal

pub returns : goal.returns
returns c = set_fits
