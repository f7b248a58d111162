use Rattle.std.proofs.Common.{map}
use Rattle.csem.specs.Store.{literal_object}
use Rattle.verify.specs.Says.{texts_of}
use Rattle.verify.proofs.Steps.{all_statics, begin_statics, static_at}
use Rattle.verify.proofs.first_objects.statics.Goals as goal

pub loop-n-init : goal.loop-n-init
loop-n-init c = begin_statics (map literal_object (texts_of c.args.texts.now)) _ c.in_ok-current.ensures

pub loop-n-preserved : goal.loop-n-preserved
loop-n-preserved c = static_at (map literal_object (texts_of c.args.texts.now)) c.args.objects.now c.loop-n.n c.index-objects-n.result _ _ c.loop-n-test.true c.index-objects-n.is c.in_ok-next.ensures c.loop-n.invariant

pub returns : goal.returns
returns c = all_statics (map literal_object (texts_of c.args.texts.now)) c.args.objects.now c.loop-n.n _ c.loop-n-test.false c.loop-n.invariant
