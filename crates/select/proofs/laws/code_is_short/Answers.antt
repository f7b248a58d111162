use Rattle.select.proofs.Lengths as lengths
use Rattle.select.proofs.laws.code_is_short.Goals as goal

pub returns : goal.returns
returns c = lengths.code_is_short
