use Rattle.std.proofs.Common.{arith}
use Rattle.std.proofs.lemmas.List.{nil_from_length}
use Rattle.typing_units.proofs.Values.{none_set, one_set, all_set}
use Rattle.typing_units.proofs.first_values.set_values.Goals as goal

pub loop-last-init : goal.loop-last-init
loop-last-init c = λ os e. none_set os c.args.given.items c.args.all.now.items e

pub loop-last-preserved : goal.loop-last-preserved
loop-last-preserved c = λ os e.
    one_set os c.args.given.items c.loop-last.given.items c.pop.new.self.items c.in-Some.last c.loop-last.all.items c.with_values.new.all.items (c.loop-last.invariant os e) c.in-Some.ensures.items (c.with_values.ensures os)

pub returns : goal.returns
returns c = λ os e.
    all_set os c.args.given.items c.loop-last.given.items c.loop-last.all.items (c.loop-last.invariant os e)
    (nil_from_length c.loop-last.given.items (omega (arith, c.in_default.ensures.cases.0, c.loop-last.given.ok.0)))
