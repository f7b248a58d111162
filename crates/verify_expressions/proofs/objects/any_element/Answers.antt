use Rattle.verify_logic.proofs.Facts.{contents_read}
use Rattle.verify_expressions.proofs.objects.any_element.Goals as goal

pub returns : goal.returns
returns c = contents_read _ _ _ _ c.in-Some.ensures
