use Rattle.std.proofs.Common.{◌≡◌, ◌*◌, ◌-◌, ◌^◌, ◌≤◌, drop}
use Rattle.std.specs.Prelude.{min}
use Rattle.typing_spec.specs.Types.{elements_in}
use Rattle.interp_store.proofs.grid.element_count.Given as goal

abbrev pub invariant-loop-n : goal.invariant-loop-n
invariant-loop-n l = record {
  is : min (l.product * elements_in (drop l.n-index l.lengths)) (2 ^ 64 - 1) ≡ min (elements_in l.lengths) (2 ^ 64 - 1);
  fits : l.product ≤ 2 ^ 64 - 1;
}
