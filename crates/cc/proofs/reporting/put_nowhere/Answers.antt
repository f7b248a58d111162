use Rattle.std.proofs.Common.{rules, [], Some, codes, decimal, ◌++◌}
use Rattle.cc.specs.Reported.{undefined_text}
use Rattle.cc.proofs.Sayings.{holds}
use Rattle.cc.proofs.reporting.put_nowhere.Goals as goal

pub returns : goal.returns
returns c =
    let text = codes "cc: undefined U" ++ decimal c.number.result ++ codes "\n" in
    holds c.write.result c.args.line.now c.write.new.self (Some text) (undefined_text [] 0 c.args.act) (search rules) c.write.ensures.writes
