use Rattle.select_correct.proofs.Lengths as laws
use Rattle.select_correct.proofs.rows_are_lengths.Goals as goal

pub returns : goal.returns
returns c = laws.rows_are_lengths
