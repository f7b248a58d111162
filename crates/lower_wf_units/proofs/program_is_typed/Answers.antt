use Rattle.lower_wf_units.proofs.Whole as laws
use Rattle.lower_wf_units.proofs.program_is_typed.Goals as goal

pub returns : goal.returns
returns c = laws.program_is_typed
