use Rattle.std.proofs.Common.{refl, map, length}
use Rattle.typing_spec.specs.Types.{size_of_object}
use Rattle.typed_ast.specs.View.{object_type_of, static_of}
use Rattle.tac_code.specs.Sound.{static_bytes}
use Rattle.frames.specs.Data.{bytes_of_static, bytes_of_statics}
use Rattle.frames.specs.Sizes.{statics_bytes}
use Rattle.frames.proofs.Filling.{one_more_item, one_counted, longer}
use Rattle.frames.proofs.Whole.{length_static}
use Rattle.frames.proofs.statics.put_statics.Goals as goal

pub loop-object-preserved : goal.loop-object-preserved
loop-object-preserved c =
    let old = c.loop-object.bytes.items in
    let put = c.in_ok-put_static.ensures in
    let o = c.object-item.result in
    record {
      counted = one_counted (λ x. static_bytes x.defined (size_of_object (object_type_of x.object_type))) (λ xs. statics_bytes (map static_of xs)) (λ x xs. refl) c.args.statics.now c.loop-object.object-index o (length old) (length c.put_static.new.bytes.items) _
          c.loop-object-test.true c.object-item.is (longer old (bytes_of_static (static_of o)) c.put_static.new.bytes.items (static_bytes o.defined (size_of_object (object_type_of o.object_type))) put (length_static (static_of o))) c.loop-object.invariant.counted;
      done = one_more_item (λ x. bytes_of_static (static_of x)) (λ xs. bytes_of_statics (map static_of xs)) (λ x xs. refl) c.args.statics.now c.loop-object.object-index o old c.put_static.new.bytes.items _
          c.loop-object-test.true c.object-item.is put c.loop-object.invariant.done;
    }
