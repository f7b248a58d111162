use Rattle.cc_laws.proofs.Reserved as laws
use Rattle.cc_laws.proofs.files_leave_reserved.Goals as goal

pub returns : goal.returns
returns c = laws.files_leave_reserved
