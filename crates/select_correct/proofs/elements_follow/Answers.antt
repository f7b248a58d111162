use Rattle.select_correct.proofs.Elements as laws
use Rattle.select_correct.proofs.elements_follow.Goals as goal

pub returns : goal.returns
returns c = laws.element_follows
