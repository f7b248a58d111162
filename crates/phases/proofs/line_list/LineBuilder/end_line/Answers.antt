use Rattle.std.proofs.Common.{◌≡◌, ◌∙◌, arith, length}
use Rattle.phases.proofs.CutLemmas.{ascend_more, cut_ended}
use Rattle.phases.proofs.line_list.LineBuilder.end_line.Goals as goal

pub invariant_of-self-2 : goal.invariant_of-self-2
invariant_of-self-2 c =
    let s = c.self.inside in
    let n : c.len-end.result ≡ length s.tokens.items = c.len-end.ensures ∙ s.tokens.ok.0 in
    rw (c.in_ok-push.ensures.items, n) (omega arith, ascend_more 0 s.ends.items s.start (length s.tokens.items) c.self.invariant.1 c.self.invariant.0)

pub returns : goal.returns
returns c =
    let s = c.self.inside in
    let n : c.len-end.result ≡ length s.tokens.items = c.len-end.ensures ∙ s.tokens.ok.0 in
    record { ok = rw (← c.self.view_is, c.in_ok-push.ensures.items, n) (cut_ended s.ends.items s.start s.tokens.items c.self.invariant.1) }
