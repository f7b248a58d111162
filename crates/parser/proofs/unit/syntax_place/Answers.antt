use Rattle.std.proofs.Common.{arith}
use Rattle.parser.proofs.UnitParts.{tail_of_length}
use Rattle.parser.proofs.unit.syntax_place.Goals as goal

pub returns : goal.returns
returns c =
    let t = tail_of_length c.args.tokens.now c.min.result (omega arith) in
    let last = c.place_before.ensures t.0 t.1 t.2 in
    (last.0, t.0, last.1)
