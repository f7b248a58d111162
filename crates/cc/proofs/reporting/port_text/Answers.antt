use Rattle.std.proofs.Common.{refl}
use Rattle.std.specs.Fmt.{digits}
use Rattle.cc.proofs.reporting.port_text.Goals as goal

pub returns-in-Memory : goal.returns-in-Memory
unfolding digits
returns-in-Memory c = rw c.in-Memory.is refl

pub returns-in-Read : goal.returns-in-Read
unfolding digits
returns-in-Read c = rw c.in-Read.is refl

pub returns-in-Write : goal.returns-in-Write
unfolding digits
returns-in-Write c = rw c.in-Write.is refl
