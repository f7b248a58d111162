use Rattle.csem.proofs.Writes.{written_is_read}
use Rattle.csem.proofs.written_is_read.Goals as goal

-- src/lib.rt
pub returns : goal.returns
returns c = written_is_read
