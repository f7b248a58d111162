use Rattle.rv32.proofs.Inverse.{decode_again}
use Rattle.rv32.proofs.laws.word_is_read.Goals as goal

pub returns : goal.returns
returns c = decode_again
