use Rattle.lower_wf.proofs.Measured as laws
use Rattle.lower_wf.proofs.program_is_measured.Goals as goal

pub returns : goal.returns
returns c = laws.program_is_measured
