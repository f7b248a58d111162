use Rattle.select_correct.proofs.Calls as laws
use Rattle.select_correct.proofs.calls_follow.Goals as goal

pub returns : goal.returns
returns c = laws.call_follows
