use Rattle.cc_laws.proofs.Calls as laws
use Rattle.cc_laws.proofs.files_call_as_meant.Goals as goal

pub returns : goal.returns
returns c = laws.files_call_as_meant
