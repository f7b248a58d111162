use Rattle.rv32.proofs.Uses.{reads_written, reads_other}
use Rattle.rv32.proofs.laws.read_after_write.Goals as goal

pub returns-clause-written : goal.returns-clause-written
returns-clause-written c = reads_written

pub returns-clause-other : goal.returns-clause-other
returns-clause-other c = reads_other
