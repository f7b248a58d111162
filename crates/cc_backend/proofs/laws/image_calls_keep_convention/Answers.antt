use Rattle.cc_backend.proofs.FlatImages as laws
use Rattle.cc_backend.proofs.laws.image_calls_keep_convention.Goals as goal

pub returns : goal.returns
returns c = laws.calls_keep_convention
