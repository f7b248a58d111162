use Rattle.cc_laws.proofs.Whole as laws
use Rattle.cc_laws.proofs.does_no_more.Goals as goal

pub returns : goal.returns
returns c = laws.does_no_more
