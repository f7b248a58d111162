use Rattle.tac.proofs.Whole as laws
use Rattle.tac.proofs.laws.function_is_code.Goals as goal

pub returns : goal.returns
returns c = laws.function_is_code
