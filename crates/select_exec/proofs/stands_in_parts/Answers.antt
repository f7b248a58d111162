use Rattle.select_exec.proofs.Placing as laws
use Rattle.select_exec.proofs.stands_in_parts.Goals as goal

pub returns : goal.returns
returns c = laws.stands_parts
