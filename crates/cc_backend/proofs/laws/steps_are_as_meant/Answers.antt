use Rattle.cc_backend.proofs.Words as laws
use Rattle.cc_backend.proofs.laws.steps_are_as_meant.Goals as goal

pub returns : goal.returns
returns c = laws.steps_are_as_meant
