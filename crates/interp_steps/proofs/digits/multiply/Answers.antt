use Rattle.std.proofs.Common.{◌≡◌, ◌+◌, ◌*◌, ◌<◌, ◌≤◌, length, get_or, ap, ◌∙◌, arith}
use Rattle.std.proofs.lemmas.List.{length-set}
use Rattle.std.proofs.lemmas.Grind.{get_or_default_zero}
use Rattle.interp_steps.proofs.Weights.{multiplied, rest_behind, all_multiplied}
use Rattle.interp_steps.proofs.digits.multiply.Goals as goal

pub loop-k-preserved : goal.loop-k-preserved
loop-k-preserved c =
    let ds = c.loop-k.digits.items in
    let ws = c.args.digits.now.items in
    let i = c.loop-k.invariant in
    let h : c.loop-k.k < length ds = omega (arith, c.loop-k-test.true, c.len-k-end.ensures, c.loop-k.invariant.size, c.args.digits.now.ok.0) in
    let digit : c.index.result.now ≡ get_or ds c.loop-k.k 0 = c.index.ensures ∙ get_or_default_zero ds c.loop-k.k _ h in
    record {
      size = length-set ds c.loop-k.k c.product-digit.result.0 ∙ i.size;
      rest = rest_behind ds ws c.loop-k.k i.rest i.size h c.product-digit.result.0;
      is = multiplied ds ws c.loop-k.k i.rest i.size h c.args.n c.product-digit.result.0 c.loop-k.more c.product-digit.result.1
          (c.product-digit.ensures ∙ ap (λ d. d * c.args.n + c.loop-k.more) digit) i.is;
    }

pub returns : goal.returns
returns c =
    let ds = c.loop-k.digits.items in
    let past : length c.args.digits.now.items ≤ c.loop-k.k = omega (arith, c.loop-k-test.false, c.len-k-end.ensures, c.args.digits.now.ok.0) in
    let within : c.loop-k.k ≤ length ds = omega (arith, c.loop-k.auto.k-end, c.len-k-end.ensures, c.loop-k.invariant.size, c.args.digits.now.ok.0) in
    all_multiplied ds c.args.digits.now.items c.push.new.self.items c.loop-k.k c.args.n c.loop-k.more c.loop-k.invariant.size past within c.in_ok-push.ensures.items c.loop-k.invariant.is
