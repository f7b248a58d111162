use Rattle.cc_backend.proofs.ShortPrograms as laws
use Rattle.cc_backend.proofs.laws.code_fits.Goals as goal

pub returns : goal.returns
returns c = laws.code_fits
