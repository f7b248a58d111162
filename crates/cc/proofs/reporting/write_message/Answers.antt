use Rattle.std.proofs.Common.{rules, decimal, codes, ◌++◌}
use Rattle.srcset.specs.Codes.{message_of}
use Rattle.cc.proofs.Sayings.{joined}
use Rattle.cc.proofs.reporting.write_message.Goals as goal

pub returns-clause-some : goal.returns-clause-some
returns-clause-some g c =
    let before = g.E.Write.contents c.args.err.now in
    let between = g.E.Write.contents c.write_both.new.err in
    let after = g.E.Write.contents c.write_text.new.writer in
    joined before between after (decimal c.args.code ++ codes " ") (message_of c.args.code) (search rules) (search rules)
