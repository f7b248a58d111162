use Rattle.frames_hoist.proofs.Whole.{is_optimised}
use Rattle.frames_hoist.proofs.laws.functions_are_hoisted.Goals as goal

pub returns : goal.returns
returns c = is_optimised
