use Rattle.std.proofs.Common.{◌≤◌, ◌∙◌, arith}
use Rattle.interp_store.specs.View.{reference_of}
use Rattle.interp_store.specs.layer.Agrees.{state_in}
use Rattle.interp_steps.proofs.Cleared.{all_cleared, none_left, one_cleared}
use Rattle.interp_steps.proofs.elements.clear.Goals as goal

pub loop-i-preserved : goal.loop-i-preserved
loop-i-preserved c = λ o. one_cleared (reference_of c.args.r.now) c.args.first c.loop-i.i c.min-end.result (state_in c.loop-i.scene o) (state_in c.clear_part.new.scene o) _
    c.loop-i-test.true (c.in-Ok.ensures.ok o) (c.loop-i.invariant o)

pub returns-clause-ok : goal.returns-clause-ok
returns-clause-ok c = λ o.
    let done : c.min-end.result ≤ c.loop-i.i = omega (arith, c.loop-i-test.false) in
    none_left (reference_of c.args.r.now) c.args.first c.loop-i.i c.min-end.result (state_in c.loop-i.scene o) _ done (c.loop-i.invariant o)
    ∙ all_cleared c.args.count c.args.first c.min-end.result c.saturating_sub.result c.length.result (reference_of c.args.r.now) (state_in c.args.scene.now o)
    c.length.ensures c.saturating_sub.ensures c.min-end.ensures
