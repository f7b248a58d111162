use Rattle.cc_backend.proofs.Bounds as laws
use Rattle.cc_backend.proofs.laws.units_are_small.Goals as goal

pub returns : goal.returns
returns c = laws.units_are_small
