use Rattle.lower_wf_units.proofs.Joined as laws
use Rattle.lower_wf_units.proofs.typed_is_checked.Goals as goal

pub returns : goal.returns
returns c = laws.typed_is_checked
