use Rattle.std.proofs.Common.{refl, rules}
use Rattle.interp_transitions.proofs.Tallies.{innermost_ends}
use Rattle.interp_transitions.proofs.tally.Tally.end.Goals as goal

pub returns-in-Some : goal.returns-in-Some
returns-in-Some c = λ p h value t. innermost_ends p h value c.in-Some.weight c.saturating_sub-self.result c.args.self.now.greatest c.pop.new.self.items c.args.self.now t c.in-Some.ensures.items
    (search rules) refl
