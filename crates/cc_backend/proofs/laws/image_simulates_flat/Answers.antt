use Rattle.cc_backend.proofs.Chain as laws
use Rattle.cc_backend.proofs.laws.image_simulates_flat.Goals as goal

pub returns : goal.returns
returns c = laws.image_simulates_flat
