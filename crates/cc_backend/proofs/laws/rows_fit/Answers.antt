use Rattle.cc_backend.proofs.Rows as laws
use Rattle.cc_backend.proofs.laws.rows_fit.Goals as goal

pub returns : goal.returns
returns c = laws.rows_fit
