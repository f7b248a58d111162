use Rattle.select_correct.proofs.Watching as laws
use Rattle.select_correct.proofs.each_call_keeps.Goals as goal

pub returns : goal.returns
returns c = laws.each_call_keeps
