use Rattle.std.proofs.Common.{rules}
use Rattle.cc.proofs.Sayings.{says_place}
use Rattle.cc.proofs.reporting.write_place.Goals as goal

pub returns-clause-some : goal.returns-clause-some
returns-clause-some g c =
    let before = g.E.Write.contents c.args.err.now in
    let between = g.E.Write.contents c.write_both.new.err in
    let after = g.E.Write.contents c.write_both-2.new.err in
    says_place before between after c.args.file.now c.args.line (search rules) (search rules) (search rules)
