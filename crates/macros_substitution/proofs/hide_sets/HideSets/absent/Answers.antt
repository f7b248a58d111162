use Rattle.macros_substitution.proofs.FirstLemmas.{is_absent}
use Rattle.macros_substitution.proofs.hide_sets.HideSets.absent.Goals as goal

pub returns : goal.returns
returns c = is_absent c.self.inside.nodes.keys c.self.inside.firsts c.args.self.now c.args.name c.get.result c.self.invariant.stand c.self.view_is c.get.ensures
