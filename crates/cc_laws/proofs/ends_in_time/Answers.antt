use Rattle.cc_laws.proofs.Whole as laws
use Rattle.cc_laws.proofs.ends_in_time.Goals as goal

pub returns : goal.returns
returns c = laws.ends_in_time
