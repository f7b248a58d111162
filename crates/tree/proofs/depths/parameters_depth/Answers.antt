use Rattle.std.proofs.Common.{List, map, refl}
use Rattle.tree.specs.Counts.{parameter_depth, parameters_depth}
use Rattle.tree.specs.View.{parameter_of}
use Rattle.tree.specs.declared.declaration.Parameter.{Parameter}
use Rattle.tree.proofs.Sums.{next_max}
use Rattle.tree.proofs.depths.parameters_depth.Goals as goal

pub loop-parameter-preserved : goal.loop-parameter-preserved
loop-parameter-preserved c = next_max (λ (xs : List Parameter). parameters_depth (map parameter_of xs)) (λ (x : Parameter). parameter_depth (parameter_of x))
    refl (λ _ _. refl) c.args.parameters.now c.loop-parameter.parameter-index c.parameter-item.result c.loop-parameter-test.true _ _ _
    c.loop-parameter.invariant c.parameter-item.is c.parameter_depth.ensures c.greater-deepest.ensures
