use Rattle.tac.proofs.Whole as laws
use Rattle.tac.proofs.laws.functions_are_code.Goals as goal

pub returns : goal.returns
returns c = laws.functions_are_code
