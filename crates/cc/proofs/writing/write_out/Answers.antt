use Rattle.cc.proofs.Outcomes.{port_fails}
use Rattle.cc.proofs.writing.write_out.Goals as goal

pub returns-in-Err : goal.returns-in-Err
returns-in-Err g c = record {
  count = c.in-Err.ensures.puts.0;
  puts = c.in-Err.ensures.puts.1;
  refusal = c.in-Err.fault;
  refused_with = c.in-Err.ensures.fault;
  told = port_fails c.args.name.now c.in-Err.fault c.port_stop.result c.to_fault.result c.port_stop.ensures c.to_fault.ensures;
}
