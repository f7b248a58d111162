use Rattle.cc_backend.proofs.Conventions as laws
use Rattle.cc_backend.proofs.laws.frames_are_weighed.Goals as goal

pub returns : goal.returns
returns c = laws.frames_are_weighed
