use Rattle.cc_laws.proofs.Inputs as laws
use Rattle.cc_laws.proofs.reads_as_it_goes.Goals as goal

pub returns : goal.returns
returns c = laws.reads_as_it_goes
