use Rattle.select_correct.proofs.Steps as laws
use Rattle.select_correct.proofs.input_stays_bytes.Goals as goal

pub returns : goal.returns
returns c = laws.input_stays_bytes
