use Rattle.csem.proofs.Fits.{write_fits}
use Rattle.csem.proofs.write_fits.Goals as goal

pub returns : goal.returns
returns c = write_fits
