use Rattle.cc_backend.proofs.Renumbering as laws
use Rattle.cc_backend.proofs.laws.renumbered_simulates_flat.Goals as goal

pub returns : goal.returns
returns c = laws.renumbered_simulates_flat
