use Rattle.lower_wf.proofs.Bodies as laws
use Rattle.lower_wf.proofs.function_is_typed.Goals as goal

pub returns : goal.returns
returns c = laws.function_is_typed
