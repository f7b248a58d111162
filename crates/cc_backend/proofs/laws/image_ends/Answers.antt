use Rattle.cc_backend.proofs.FlatImages as laws
use Rattle.cc_backend.proofs.laws.image_ends.Goals as goal

pub returns : goal.returns
returns c = laws.image_ends
