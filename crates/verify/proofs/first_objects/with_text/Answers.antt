use Rattle.verify.proofs.FirstFacts.{no_facts, text_next}
use Rattle.verify.proofs.first_objects.with_text.Goals as goal

pub returns-then-not-followed : goal.returns-then-not-followed
returns-then-not-followed c = no_facts _ _ _

pub loop-j-init : goal.loop-j-init
loop-j-init c = no_facts _ _ _

pub loop-j-preserved : goal.loop-j-preserved
loop-j-preserved c = text_next c.args.text.now c.args.x c.loop-j.j _ c.in-Ok.index _ _ _ _ c.loop-j-test.true c.in-Ok.ensures.1 c.byte_interval-interval.ensures c.loop-j.invariant c.in_ok-next.ensures

pub returns : goal.returns
returns c = c.loop-j.invariant
