use Rattle.lower_correct.proofs.Program as laws
use Rattle.lower_correct.proofs.code_behaves.Goals as goal

-- src/lib.rt
pub returns : goal.returns
returns c = laws.code_behaves
