use Rattle.std.proofs.Common.{Some, codes, decimal, ◌++◌}
use Rattle.cc.specs.Reported.{behind_file}
use Rattle.cc.proofs.Sayings.{holds, behind_is}
use Rattle.cc.proofs.reporting.put_somewhere.Goals as goal

pub returns : goal.returns
returns c =
    let text = codes ":" ++ (decimal c.args.at ++ (codes ": undefined U" ++ (decimal c.number.result ++ codes "\n"))) in
    let told = behind_is c.args.at c.number.result c.args.act c.number.ensures in
    holds c.write.result c.args.line.now c.write.new.self (Some text) (behind_file c.args.at c.args.act) told c.write.ensures.writes
