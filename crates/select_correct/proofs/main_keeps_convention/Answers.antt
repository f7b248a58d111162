use Rattle.select_correct.proofs.Conventions as laws
use Rattle.select_correct.proofs.main_keeps_convention.Goals as goal

pub returns : goal.returns
returns c = laws.main_keeps
