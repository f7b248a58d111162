use Rattle.std.proofs.Common.{rules}
use Rattle.cc.specs.Reported.{trap_text}
use Rattle.cc.proofs.Sayings.{holds}
use Rattle.cc.proofs.reporting.put_trap.Goals as goal

pub returns : goal.returns
returns c = holds c.write.result c.args.line.now c.write.new.self _ (trap_text c.args.pc c.args.cause) (search rules) c.write.ensures.writes
