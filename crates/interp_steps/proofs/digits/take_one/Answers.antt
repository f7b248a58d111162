use Rattle.std.proofs.Common.{◌≡◌, ◌+◌, ◌-◌, ◌^◌, ◌<◌, length, get_or, ap, sym, ◌∙◌, arith}
use Rattle.std.specs.Prelude.{slice_set}
use Rattle.std.proofs.lemmas.List.{length-set}
use Rattle.std.proofs.lemmas.Grind.{get_or_default_zero}
use Rattle.interp_store.specs.layer.Digits.{number_of}
use Rattle.interp_steps.proofs.Weights.{borrowed, none_yet, rest_behind, taken}
use Rattle.interp_steps.proofs.digits.take_one.Goals as goal

pub returns-then-index-gt0-clause-taken : goal.returns-then-index-gt0-clause-taken
returns-then-index-gt0-clause-taken c = λ _.
    let ds = c.loop-k.digits.items in
    let ws = c.args.digits.now.items in
    let i = c.loop-k.invariant in
    let h : c.loop-k.k < length ds = omega (arith, c.loop-k-test.true, c.len-k-end.ensures, c.loop-k.invariant.size, c.args.digits.now.ok.0) in
    let digit = c.index.ensures ∙ get_or_default_zero ds c.loop-k.k _ h in
    let same = c.index_mut.ensures.value ∙ get_or_default_zero ds c.loop-k.k _ h in
    taken ds ws c.loop-k.k i.rest i.size h (omega (arith, c.if-index-gt0.true, digit)) i.is
    ∙ sym (ap (λ d. number_of (slice_set ds c.loop-k.k (d - 1)) + 1) same)

pub loop-k-preserved : goal.loop-k-preserved
loop-k-preserved c =
    let ds = c.loop-k.digits.items in
    let ws = c.args.digits.now.items in
    let i = c.loop-k.invariant in
    let h : c.loop-k.k < length ds = omega (arith, c.loop-k-test.true, c.len-k-end.ensures, c.loop-k.invariant.size, c.args.digits.now.ok.0) in
    let digit = c.index.ensures ∙ get_or_default_zero ds c.loop-k.k _ h in
    let none : get_or ds c.loop-k.k 0 ≡ 0 = omega (arith, c.if-index-gt0.false, digit) in
    record {
      size = length-set ds c.loop-k.k (2 ^ 64 - 1) ∙ i.size;
      rest = rest_behind ds ws c.loop-k.k i.rest i.size h (2 ^ 64 - 1);
      is = borrowed ds ws c.loop-k.k i.rest i.size h none i.is;
      none = none_yet ds ws c.loop-k.k i.rest i.size h none i.none;
    }
