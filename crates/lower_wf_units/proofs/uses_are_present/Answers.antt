use Rattle.lower_wf_units.proofs.Present as laws
use Rattle.lower_wf_units.proofs.uses_are_present.Goals as goal

pub returns : goal.returns
returns c = laws.uses_are_present
