use Rattle.std.proofs.Common.{List, map, refl}
use Rattle.typing_scopes.specs.declared.bindings.StaticObject.{StaticObject}
use Rattle.typing_scopes.specs.Scopes.{static_of}
use Rattle.typing_spec.specs.Units.{bytes_of_statics}
use Rattle.typing_units.specs.inside.Parts.{static_bytes}
use Rattle.typing_units.proofs.Sums.{next_sum}
use Rattle.typing_units.proofs.limits.bytes_of_statics.Goals as goal

pub loop-object-preserved : goal.loop-object-preserved
loop-object-preserved c = next_sum (λ (xs : List StaticObject). bytes_of_statics (map static_of xs)) (λ (x : StaticObject). static_bytes (static_of x)) refl (λ _ _. refl)
    c.args.statics.now c.loop-object.object-index c.object-item.result c.loop-object-test.true _ _ _ c.loop-object.invariant c.object-item.is c.static_size.ensures c.sum-total.ensures
