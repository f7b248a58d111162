use Rattle.lower_correct.proofs.History as laws
use Rattle.lower_correct.proofs.calls_pass_words.Goals as goal

-- src/lib.rt
pub returns : goal.returns
returns c = laws.calls_pass_words
