use Rattle.select_correct.proofs.Table as laws
use Rattle.select_correct.proofs.rows_are_few.Goals as goal

pub returns : goal.returns
returns c = laws.rows_are_few
