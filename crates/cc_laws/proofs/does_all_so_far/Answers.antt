use Rattle.cc_laws.proofs.Inputs as laws
use Rattle.cc_laws.proofs.does_all_so_far.Goals as goal

pub returns : goal.returns
returns c = laws.does_all_so_far
