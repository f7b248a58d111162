use Rattle.lower_correct.proofs.History as laws
use Rattle.lower_correct.proofs.returns_pass_words.Goals as goal

-- src/lib.rt
pub returns : goal.returns
returns c = laws.returns_pass_words
