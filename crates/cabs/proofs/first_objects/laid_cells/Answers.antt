use Rattle.std.proofs.Common.{◌≡◌, ◌+◌, ◌∙◌, ℤ, List, ap, length, rules, to_z, of_z, w64}
use Rattle.std.specs.Prelude.{slice_get}
use Rattle.std.proofs.lemmas.Int.{to_z-of_z}
use Rattle.cabs.proofs.Laid.{one_laid, size_behind}
use Rattle.cabs.proofs.first_objects.laid_cells.Goals as goal

pub loop-k-preserved : goal.loop-k-preserved
loop-k-preserved c =
    let value : to_z w64 (of_z w64 c.value_or_zero.result) ≡ c.value_or_zero.result = search (rules, to_z-of_z) in
    record {
      size = ap (λ (ns : List ℤ). length ns) c.in-Ok-push.ensures.items ∙ size_behind c.loop-k.cells.items _ ∙ ap (λ n. n + 1) c.loop-k.invariant.size;
      each = λ j h. ap (λ (ns : List ℤ). slice_get ns j) c.in-Ok-push.ensures.items
          ∙ one_laid c.loop-k.cells.items c.args.values.now _ c.loop-k.k c.loop-k.invariant.size (value ∙ c.value_or_zero.ensures) c.loop-k.invariant.each j h;
    }
