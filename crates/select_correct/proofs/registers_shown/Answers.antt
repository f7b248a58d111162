use Rattle.select_correct.proofs.Standing as laws
use Rattle.select_correct.proofs.registers_shown.Goals as goal

pub returns : goal.returns
returns c = laws.register_shown
