use Rattle.std.proofs.Common.{◌≡◌, ◌*◌, ◌-◌, ◌^◌, get_or, rules, arith}
use Rattle.std.specs.Prelude.{min}
use Rattle.interp_store.proofs.Capped.{one_counted}
use Rattle.interp_store.proofs.grid.element_count.Goals as goal

pub loop-n-preserved : goal.loop-n-preserved
loop-n-preserved c =
    let next : c.saturating_mul-product.result ≡ min (c.loop-n.product * get_or c.args.lengths.now c.loop-n.n-index 0) (2 ^ 64 - 1) = search rules in
    record {
      is = one_counted c.args.lengths.now c.loop-n.n-index c.loop-n.product c.saturating_mul-product.result (2 ^ 64 - 1) _ c.loop-n-test.true next c.loop-n.invariant.is;
      fits = omega (arith, next);
    }
