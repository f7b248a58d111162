use Rattle.cc_laws.proofs.Whole as laws
use Rattle.cc_laws.proofs.never_traps.Goals as goal

pub returns : goal.returns
returns c = laws.never_traps
