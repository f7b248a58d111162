use Rattle.cc_laws.proofs.Mains as laws
use Rattle.cc_laws.proofs.units_have_main.Goals as goal

pub returns : goal.returns
returns c = laws.units_have_main
