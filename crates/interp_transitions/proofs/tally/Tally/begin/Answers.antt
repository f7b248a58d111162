use Rattle.std.proofs.Common.{◌∙◌}
use Rattle.csem.specs.History.{active, weight_in}
use Rattle.interp_transitions.proofs.Tallies.{begun}
use Rattle.interp_transitions.proofs.tally.Tally.begin.Goals as goal

pub returns-in-Ok-clause-ok : goal.returns-in-Ok-clause-ok
returns-in-Ok-clause-ok c = λ p h f arguments e t.
    let sum = c.with_one_more-sum.ensures (weight_in p) (active h) (c.as_slice.ensures.value ∙ t.0) t.1 in
    begun p h f arguments c.args.weight c.with_one_more-sum.result c.greater-self.result c.push.new.self.items c.args.self.now t e c.in-Ok.ensures.items sum c.greater-self.ensures
