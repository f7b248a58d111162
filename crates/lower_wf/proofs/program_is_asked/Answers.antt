use Rattle.lower_wf.proofs.AskedStatements as laws
use Rattle.lower_wf.proofs.program_is_asked.Goals as goal

pub returns : goal.returns
returns c = laws.program_is_asked
