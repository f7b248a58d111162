use Rattle.cc_laws.proofs.Conventions as laws
use Rattle.cc_laws.proofs.files_keep_convention.Goals as goal

pub returns : goal.returns
returns c = laws.files_keep_convention
