use Rattle.cc_laws.proofs.Following as laws
use Rattle.cc_laws.proofs.files_stay_above.Goals as goal

pub returns : goal.returns
returns c = laws.files_stay_above
