use Rattle.lexer.proofs.ReadingLemmas.{kept_law, taken_up_law}
use Rattle.lexer.proofs.laws.what_is_read.Goals as goal

pub returns : goal.returns
returns c = record { kept = kept_law; taken_up = taken_up_law }
