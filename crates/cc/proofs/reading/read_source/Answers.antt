use Rattle.cc.proofs.reading.read_source.Goals as goal

pub returns-in-Err : goal.returns-in-Err
returns-in-Err g c = c.in-Err.ensures c.args.name.now c.to_fault.result c.to_fault.ensures
