use Rattle.std.proofs.Common.{List, map, refl}
use Rattle.typed_ast.specs.declared.types.ObjectType.{ObjectType}
use Rattle.typed_ast.specs.View.{object_type_of}
use Rattle.typing_spec.specs.Types.{size_of_object}
use Rattle.typing_spec.specs.Units.{in_words, bytes_of_objects}
use Rattle.typing_units.proofs.Sums.{next_sum}
use Rattle.typing_units.proofs.sizes.bytes_of_objects.Goals as goal

pub loop-object-preserved : goal.loop-object-preserved
loop-object-preserved c = next_sum (λ (xs : List ObjectType). bytes_of_objects (map object_type_of xs)) (λ (x : ObjectType). in_words (size_of_object (object_type_of x))) refl (λ _ _. refl)
    c.args.objects.now c.loop-object.object-index c.object-item.result c.loop-object-test.true _ _ _ c.loop-object.invariant c.object-item.is (c.in_words.ensures _ c.object_size.ensures) c.sum-total.ensures
