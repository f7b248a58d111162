use Rattle.cc.proofs.Texts.{one_text, all_texts}
use Rattle.cc.proofs.front.texts_are_bytes.Goals as goal

pub loop-number-preserved : goal.loop-number-preserved
loop-number-preserved c = one_text c.args.names.now c.loop-number.number c.loop-number.invariant c.text_is_bytes.ensures

pub returns : goal.returns
returns c = all_texts c.args.names.now c.loop-number.number c.len-number-end.result c.len-number-end.ensures c.loop-number-test.false c.loop-number.invariant
