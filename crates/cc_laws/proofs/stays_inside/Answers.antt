use Rattle.cc_laws.proofs.Whole as laws
use Rattle.cc_laws.proofs.stays_inside.Goals as goal

pub returns : goal.returns
returns c = laws.stays_inside
