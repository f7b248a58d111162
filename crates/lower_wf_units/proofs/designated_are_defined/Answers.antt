use Rattle.lower_wf_units.proofs.Present as laws
use Rattle.lower_wf_units.proofs.designated_are_defined.Goals as goal

pub returns : goal.returns
returns c = laws.designated_are_defined
