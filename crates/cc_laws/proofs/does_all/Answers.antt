use Rattle.cc_laws.proofs.Whole as laws
use Rattle.cc_laws.proofs.does_all.Goals as goal

pub returns : goal.returns
returns c = laws.does_all
