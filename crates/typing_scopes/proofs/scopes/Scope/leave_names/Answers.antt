use Rattle.std.proofs.Common.{ap, arith, length}
use Rattle.typing_scopes.proofs.Lookups.{step_names, end_names, newest_length}
use Rattle.typing_scopes.proofs.scopes.Scope.leave_names.Goals as goal

pub loop-preserved : goal.loop-preserved
loop-preserved c = step_names c.args.self.now c.loop.self c.drop_name.new.self c.loop.counter c.drop_name.ensures c.loop.invariant

pub returns : goal.returns
returns c =
    let l = newest_length c.self.inside.bindings.items in
    let v = ap (λ s. length s.bindings) c.self.view_is in
    end_names c.args.self.now c.loop.self c.loop.counter c.args.count (omega (arith, l, v, c.len.ensures, c.saturating_sub-end.ensures, c.self.inside.bindings.ok.0, c.loop.auto.counter-end, c.loop-test.false)) c.loop.invariant
