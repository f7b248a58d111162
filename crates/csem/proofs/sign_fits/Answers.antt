use Rattle.csem.proofs.Fits.{sign_fits}
use Rattle.csem.proofs.sign_fits.Goals as goal

pub returns : goal.returns
returns c = sign_fits
