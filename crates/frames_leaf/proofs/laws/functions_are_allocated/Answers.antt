use Rattle.frames_leaf.proofs.Whole.{is_allocated}
use Rattle.frames_leaf.proofs.laws.functions_are_allocated.Goals as goal

pub returns : goal.returns
returns c = is_allocated
