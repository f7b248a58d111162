use Rattle.csem.proofs.Fits.{read_fits}
use Rattle.csem.proofs.read_fits.Goals as goal

pub returns : goal.returns
returns c = read_fits
