use Rattle.cc_laws.proofs.NothingBelow as laws
use Rattle.cc_laws.proofs.files_touch_nothing_below.Goals as goal

pub returns : goal.returns
returns c = laws.files_touch_nothing_below
