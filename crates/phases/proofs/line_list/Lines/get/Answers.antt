use Rattle.std.proofs.Common.{◌≡◌, ◌<◌, length, arith, sym, ap, ◌∙◌, get_or, Some, slice_range}
use Rattle.phases.specs.inside.Cut.{line_start}
use Rattle.phases.proofs.CutLemmas.{cut_past, cut_get, ascend_get, lent_range}
use Rattle.phases.proofs.line_list.Lines.get.Goals as goal

pub returns-in_err-end : goal.returns-in_err-end
returns-in_err-end c = rw (c.from_residual.ensures, ← c.self.view_is) (sym (cut_past 0 c.self.inside.ends.items c.self.inside.tokens.items c.args.index (omega (arith, c.in_err-end.ensures.lookup))))

pub returns : goal.returns
returns c =
    let s = c.self.inside in
    let e = c.in_ok-end.field-0.now in
    let i = c.args.index in
    let some : i < length s.ends.items = omega (arith, c.in_ok-end.ensures.lookup.3.0, ap length c.deref.ensures.value) in
    let e_is : e ≡ get_or s.ends.items i e = c.in_ok-end.ensures.lookup.1 ∙ ap (λ es. get_or es i e) c.deref.ensures.value in
    let start_is = c.line_start-start.ensures ∙ ap (λ es. line_start 0 es i) c.deref-2.ensures.value in
    let low = ascend_get 0 s.ends.items (length s.tokens.items) i e c.self.invariant some in
    let lent = lent_range c.deref-3.result.now c.line_start-start.result e c.get-2.result c.get-2.ensures.lookup (omega (arith, low.0, start_is, e_is), omega (arith, low.1, e_is, ap length c.deref-3.ensures.value)) in
    lent ∙ rw (c.deref-3.ensures.value, start_is, ← c.self.view_is) (ap (λ k. Some (slice_range s.tokens.items (line_start 0 s.ends.items i) k)) e_is ∙ sym (cut_get 0 s.ends.items s.tokens.items i e some))
