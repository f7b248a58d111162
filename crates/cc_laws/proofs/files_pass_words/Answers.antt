use Rattle.cc_laws.proofs.Words as laws
use Rattle.cc_laws.proofs.files_pass_words.Goals as goal

pub returns : goal.returns
returns c = laws.files_pass_words
