use Rattle.cc_backend.proofs.FlatImages as laws
use Rattle.cc_backend.proofs.laws.image_main_keeps_convention.Goals as goal

pub returns : goal.returns
returns c = laws.main_keeps_convention
