use Rattle.std.proofs.Common.{◌≡◌, ◌∷◌, length, arith, rules}
use Rattle.frames_regalloc.proofs.Pairs.{one_more_renumbered, all_renumbered}
use Rattle.frames_regalloc.proofs.functions.renumber_functions.Goals as goal

pub loop-function-preserved : goal.loop-function-preserved
loop-function-preserved c =
    let split : c.loop-function.function-iterator.rest.items ≡ c.in-Some.function ∷ c.next.new.self.rest.items = search rules in
    one_more_renumbered c.args.functions.items c.loop-function.function-iterator.rest.items c.next.new.self.rest.items c.in-Some.function c.in_ok-renumber_function.field-0 c.loop-function.list.items c.push.new.self.items
    split c.in_ok-push.ensures.items c.in_ok-renumber_function.ensures c.loop-function.invariant

pub returns : goal.returns
returns c =
    let end : length c.loop-function.function-iterator.rest.items ≡ 0 = omega (arith, c.in-None.ensures.steps.0, c.loop-function.function-iterator.rest.ok.0) in
    all_renumbered c.args.functions.items c.loop-function.function-iterator.rest.items c.loop-function.list.items end c.loop-function.invariant
