use Rattle.verify.proofs.Steps.{adds_object}
use Rattle.verify.proofs.first_objects.with_literal.Goals as goal

pub returns : goal.returns
returns c = adds_object _ _ _ _ _ _ _ _ c.in_ok-all.ensures.objects c.in_ok-all.ensures.outer c.in_ok-lengths.ensures c.in-Some.ensures c.count_of-x.ensures c.in_ok-all.ensures.facts c.in_ok-facts.ensures
