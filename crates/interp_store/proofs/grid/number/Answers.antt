use Rattle.std.proofs.Common.{◌≡◌, ◌+◌, ◌*◌, ◌-◌, ◌^◌, ◌∷◌, get_or, rules, arith}
use Rattle.std.specs.Prelude.{min}
use Rattle.interp_store.proofs.Capped.{counts_on, counts_no_further}
use Rattle.interp_store.proofs.grid.number.Goals as goal

pub returns-in_default : goal.returns-in_default
returns-in_default c = counts_no_further c.args.path.now c.loop-i.i-index c.loop-i.rest.now c.loop-i.k (2 ^ 64 - 1) _ c.loop-i.invariant.fits c.in_default.ensures.cases c.loop-i-test.true c.loop-i.invariant.is

pub loop-i-preserved : goal.loop-i-preserved
loop-i-preserved c =
    let more : c.loop-i.rest.now ≡ c.in-Some.n.now ∷ c.in-Some.inner.now = search rules in
    let product : c.saturating_mul.result ≡ min (c.loop-i.k * c.in-Some.n.now) (2 ^ 64 - 1) = search rules in
    let sum : c.saturating_add-k.result ≡ min (c.saturating_mul.result + get_or c.args.path.now c.loop-i.i-index 0) (2 ^ 64 - 1) = search rules in
    let next : c.saturating_add-k.result ≡ min (min (c.loop-i.k * c.in-Some.n.now) (2 ^ 64 - 1) + get_or c.args.path.now c.loop-i.i-index 0) (2 ^ 64 - 1) = omega (arith, product, sum) in
    record {
      is = counts_on c.args.path.now c.loop-i.i-index c.loop-i.rest.now c.in-Some.inner.now c.in-Some.n.now c.loop-i.k c.saturating_add-k.result (2 ^ 64 - 1) _ more c.loop-i-test.true next
          c.loop-i.invariant.is;
      fits = omega (arith, sum);
    }
