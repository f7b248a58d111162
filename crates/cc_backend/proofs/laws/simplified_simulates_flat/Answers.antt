use Rattle.cc_backend.proofs.Optimising as laws
use Rattle.cc_backend.proofs.laws.simplified_simulates_flat.Goals as goal

pub returns : goal.returns
returns c = laws.simplified_simulates_flat
