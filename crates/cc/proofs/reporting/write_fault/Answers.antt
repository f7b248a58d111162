use Rattle.std.proofs.Common.{rules}
use Rattle.cc.proofs.Sayings.{says_place_only, says_all}
use Rattle.cc.proofs.reporting.write_fault.Goals as goal

pub returns-then-not-write_message : goal.returns-then-not-write_message
returns-then-not-write_message g c =
    let before = g.E.Write.contents c.args.err.now in
    let placed = g.E.Write.contents c.write_place.new.err in
    let after = g.E.Write.contents c.write_message.new.err in
    says_place_only c.args.fault.now before placed after (search rules) (search rules)

pub returns : goal.returns
returns g c =
    let before = g.E.Write.contents c.args.err.now in
    let placed = g.E.Write.contents c.write_place.new.err in
    let told = g.E.Write.contents c.write_message.new.err in
    let after = g.E.Write.contents c.write_both.new.err in
    says_all c.args.fault.now before placed told after (search rules) (search rules) (search rules)
