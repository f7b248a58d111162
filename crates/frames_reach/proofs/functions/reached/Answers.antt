use Rattle.frames_reach.proofs.Staying.{stays}
use Rattle.frames_reach.proofs.functions.reached.Goals as goal

pub returns-else-has_unreachable : goal.returns-else-has_unreachable
returns-else-has_unreachable c = stays c.args.code.items
