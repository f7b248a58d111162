use Rattle.cc_laws.proofs.Whole as laws
use Rattle.cc_laws.proofs.ends_only_so.Goals as goal

pub returns : goal.returns
returns c = laws.ends_only_so
