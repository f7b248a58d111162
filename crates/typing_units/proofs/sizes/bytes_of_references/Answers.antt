use Rattle.std.proofs.Common.{List, map, refl}
use Rattle.typed_ast.specs.declared.types.ParameterType.{ParameterType}
use Rattle.typed_ast.specs.View.{parameter_type_of}
use Rattle.typing_spec.specs.Units.{bytes_of_references}
use Rattle.typing_units.specs.inside.Parts.{reference_bytes}
use Rattle.typing_units.proofs.Sums.{next_sum}
use Rattle.typing_units.proofs.Bytes.{references_step}
use Rattle.typing_units.proofs.sizes.bytes_of_references.Goals as goal

pub loop-parameter-preserved : goal.loop-parameter-preserved
loop-parameter-preserved c = next_sum (λ (xs : List ParameterType). bytes_of_references (map parameter_type_of xs)) (λ (x : ParameterType). reference_bytes (parameter_type_of x)) refl
    (λ x xs. references_step (parameter_type_of x) (map parameter_type_of xs)) c.args.parameters.now c.loop-parameter.parameter-index c.parameter-item.result c.loop-parameter-test.true _ _ _ c.loop-parameter.invariant
    c.parameter-item.is c.reference_size.ensures c.sum-total.ensures
