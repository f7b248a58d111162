use Rattle.csem.proofs.Fits.{operation_fits}
use Rattle.csem.proofs.operation_fits.Goals as goal

pub returns : goal.returns
returns c = operation_fits
