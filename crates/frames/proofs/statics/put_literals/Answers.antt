use Rattle.std.proofs.Common.{◌∙◌, ap, refl, map, length, ◌++◌}
use Rattle.typing_spec.specs.Units.{in_words}
use Rattle.frames.specs.Data.{filled_up, bytes_of_literals}
use Rattle.frames.specs.Sizes.{literal_bytes}
use Rattle.frames.proofs.Filling.{one_more_item, one_counted, longer}
use Rattle.frames.proofs.Whole.{length_filled}
use Rattle.frames.proofs.statics.put_literals.Goals as goal

pub loop-text-preserved : goal.loop-text-preserved
loop-text-preserved c =
    let old = c.loop-text.bytes.items in
    let put = c.in_ok-put_literal.ensures ∙ ap (λ t. old ++ filled_up (in_words (length t)) t) c.deref.ensures.value in
    let text = c.text-item.result.items in
    record {
      counted = one_counted (λ t. in_words (length t.items)) (λ ts. literal_bytes (map (λ t. t.items) ts)) (λ x xs. refl) c.args.literals.now c.loop-text.text-index c.text-item.result (length old) (length c.put_literal.new.bytes.items) _
          c.loop-text-test.true c.text-item.is (longer old (filled_up (in_words (length text)) text) c.put_literal.new.bytes.items (in_words (length text)) put (length_filled (in_words (length text)) text)) c.loop-text.invariant.counted;
      done = one_more_item (λ t. filled_up (in_words (length t.items)) t.items) (λ ts. bytes_of_literals (map (λ t. t.items) ts)) (λ x xs. refl) c.args.literals.now c.loop-text.text-index c.text-item.result old c.put_literal.new.bytes.items _
          c.loop-text-test.true c.text-item.is put c.loop-text.invariant.done;
    }
