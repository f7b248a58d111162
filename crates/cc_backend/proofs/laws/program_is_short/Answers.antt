use Rattle.cc_backend.proofs.ShortPrograms as laws
use Rattle.cc_backend.proofs.laws.program_is_short.Goals as goal

pub returns : goal.returns
returns c = laws.program_is_short
