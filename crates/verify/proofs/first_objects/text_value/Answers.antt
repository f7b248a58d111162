use Rattle.verify.proofs.Steps.{known_text}
use Rattle.verify.proofs.first_objects.text_value.Goals as goal

pub returns : goal.returns
returns c = known_text _ _ c.args.text.now c.initialised-k.ensures c.in-Some.ensures
