use Rattle.std.proofs.Common.{◌≡◌, ◌∙◌, ap, pos, ℤ, ◌++◌, get_or, to_z, of_z, w64, rules}
use Rattle.std.proofs.Math.Facts.{to_z-of_z}
use Rattle.ctypes.specs.Types.{bytes_of, modulo}
use Rattle.frames.specs.Data.{low_bytes}
use Rattle.frames.proofs.Filling.{one_more_number}
use Rattle.frames.proofs.statics.put_values.Goals as goal

pub loop-value-preserved : goal.loop-value-preserved
loop-value-preserved c =
    let old = c.loop-value.bytes.items in
    let v : ℤ = get_or c.args.values.now c.loop-value.value-index (pos 0) in
    let same : to_z w64 (of_z w64 v) ≡ v = search (rules, to_z-of_z) in
    let put = c.in_ok-put_low_bytes.ensures ∙ ap (λ n. old ++ low_bytes n c.word_of.result) c.size_of.ensures ∙ ap (λ w. old ++ low_bytes (bytes_of c.args.element) w) (c.word_of.ensures ∙ ap (modulo 32) same) in
    one_more_number c.args.element c.args.values.now c.loop-value.value-index (pos 0) old c.put_low_bytes.new.bytes.items _ c.loop-value-test.true put c.loop-value.invariant
