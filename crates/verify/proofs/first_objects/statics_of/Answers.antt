use Rattle.std.proofs.Common.{map}
use Rattle.csem.specs.Store.{literal_object}
use Rattle.verify.specs.Says.{texts_of}
use Rattle.verify.proofs.Steps.{statics_there}
use Rattle.verify.proofs.first_objects.statics_of.Goals as goal

pub returns : goal.returns
returns c = statics_there c.in_ok-all.all (map literal_object (texts_of c.args.texts.now)) _ _ c.deref.ensures.value c.in_ok-all.ensures
