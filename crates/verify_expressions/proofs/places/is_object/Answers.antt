use Rattle.verify_expressions.proofs.Summaries.{array_there}
use Rattle.verify_expressions.proofs.places.is_object.Goals as goal

pub returns-in-Some : goal.returns-in-Some
returns-in-Some c = λ t. array_there c.args.scope.now.outer.now c.args.scope.now.objects.now _ _ c.in-Some.ensures (c.is_below.ensures t)
