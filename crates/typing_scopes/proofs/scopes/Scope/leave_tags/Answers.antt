use Rattle.std.proofs.Common.{ap, arith, length}
use Rattle.typing_scopes.proofs.Lookups.{step_tags, end_tags, newest_tags_length}
use Rattle.typing_scopes.proofs.scopes.Scope.leave_tags.Goals as goal

pub loop-preserved : goal.loop-preserved
loop-preserved c = step_tags c.args.self.now c.loop.self c.drop_tag.new.self c.loop.counter c.drop_tag.ensures c.loop.invariant

pub returns : goal.returns
returns c =
    let l = newest_tags_length c.self.inside.tags.items in
    let v = ap (λ s. length s.tags) c.self.view_is in
    end_tags c.args.self.now c.loop.self c.loop.counter c.args.count (omega (arith, l, v, c.len.ensures, c.saturating_sub-end.ensures, c.self.inside.tags.ok.0, c.loop.auto.counter-end, c.loop-test.false)) c.loop.invariant
