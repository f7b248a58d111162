use Rattle.verify.proofs.Steps.{all_texts, text_at}
use Rattle.verify.proofs.first_objects.literals.Goals as goal

pub loop-n-preserved : goal.loop-n-preserved
loop-n-preserved c = text_at c.args.texts.now c.loop-n.n c.index-texts-n.result _ _ _ c.loop-n-test.true c.index-texts-n.is c.deref.ensures.value c.in_ok-next.ensures c.loop-n.invariant

pub returns : goal.returns
returns c = all_texts c.args.texts.now c.loop-n.n _ c.loop-n-test.false c.loop-n.invariant
