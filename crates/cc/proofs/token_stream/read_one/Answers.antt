use Rattle.std.proofs.Common.{inl, arith}
use Rattle.cc.proofs.Streams.{same_table}
use Rattle.cc.proofs.token_stream.read_one.Goals as goal

pub returns-else-len-count-clause-table : goal.returns-else-len-count-clause-table
returns-else-len-count-clause-table c = inl (same_table c.args.names.now c.try_take.new.names c.try_take.ensures.keeps (omega (arith, c.if-len-count.false, c.len.ensures, c.len-count.ensures)))
