use Rattle.std.proofs.Common.{ap, arith}
use Rattle.std.specs.Option.{option_copied}
use Rattle.macros_substitution.proofs.Tables.{first_seen, first_unseen}
use Rattle.macros_substitution.proofs.hide_sets.HideSets.first.Goals as goal

pub returns : goal.returns
returns c = first_seen c.self.inside.nodes.keys c.args.self.now c.set.inside.number c.args.set (option_copied c.get_index.result) c.in-Some.node.now
    c.self.invariant.stand.ordered c.self.view_is c.set.view_is (omega arith) c.get_index.ensures.key (ap option_copied c.in-Some.is)

pub returns-in_default : goal.returns-in_default
returns-in_default c = first_unseen c.self.inside.nodes.keys c.args.self.now c.set.inside.number c.args.set (option_copied c.get_index.result)
    c.self.view_is c.set.view_is (omega arith) c.get_index.ensures.key (ap option_copied c.in_default.is)
