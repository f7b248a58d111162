use Rattle.std.proofs.Common.{rules}
use Rattle.cc.proofs.Getting.{got_unheld, got_refused}
use Rattle.cc.proofs.reading.read_bytes.Goals as goal

pub returns-in_default : goal.returns-in_default
returns-in_default g c =
    let start = g.P.Port.seen c.args.port.now in
    let before = g.P.Port.seen c.loop-port.port in
    let after = g.P.Port.seen c.get.new.self in
    let gets = c.loop-port.invariant.gets in
    λ name fault told.
    got_unheld name (g.P.Port.refused_with c.get.new.self) start fault before after c.loop-port.bytes.items c.in-Ok-Some.byte gets (search rules) told

pub returns-in-Err : goal.returns-in-Err
returns-in-Err g c =
    let start = g.P.Port.seen c.args.port.now in
    let before = g.P.Port.seen c.loop-port.port in
    let after = g.P.Port.seen c.get.new.self in
    let gets = c.loop-port.invariant.gets in
    λ name fault told.
    got_refused name (g.P.Port.refused_with c.get.new.self) start fault before after c.loop-port.bytes.items c.in-Err.fault c.port_stop.result
    gets c.in-Err.ensures.gets (search rules) c.in-Err.ensures.fault c.port_stop.ensures told
