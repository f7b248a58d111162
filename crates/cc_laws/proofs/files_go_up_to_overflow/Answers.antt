use Rattle.cc_laws.proofs.Overflowing as laws
use Rattle.cc_laws.proofs.files_go_up_to_overflow.Goals as goal

pub returns : goal.returns
returns c = laws.files_go_up_to_overflow
