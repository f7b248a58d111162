use Rattle.phases.proofs.CutLemmas.{cut_pushed}
use Rattle.phases.proofs.line_list.LineBuilder.push.Goals as goal

pub returns : goal.returns
returns c =
    let s = c.self.inside in
    record { ok = rw (← c.self.view_is, c.in_ok-push.ensures.items) (cut_pushed s.ends.items s.start s.tokens.items c.args.token c.self.invariant.1 c.self.invariant.0) }
