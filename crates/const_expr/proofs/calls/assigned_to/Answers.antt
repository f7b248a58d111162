use Rattle.std.proofs.Common.{◌≡◌, ◌∷◌, [], get_or, length, length-append, ap, ◌∙◌, arith}
use Rattle.const_expr.proofs.Given.{count_differs, assigned_stops}
use Rattle.const_expr.proofs.calls.assigned_to.Goals as goal

pub returns-then-len-parameters-clause-err : goal.returns-then-len-parameters-clause-err
returns-then-len-parameters-clause-err c = count_differs c.args.pos c.args.parameters.now c.args.xs.items c.broken.result (omega arith) c.broken.ensures

pub returns-in-Err-clause-err : goal.returns-in-Err-clause-err
returns-in-Err-clause-err c =
    let popped = c.in-Some.ensures.items in
    let longer = ap length popped ∙ length-append c.pop.new.self.items (c.in-Some.x ∷ []) in
    let room = c.loop-x.invariant.room in
    let at : c.len-in-Some.result ≡ length c.pop.new.self.items = omega (arith, c.len-in-Some.ensures, c.pop.new.self.ok.0) in
    assigned_stops c.args.pos c.args.parameters.now c.args.xs.items c.loop-x.xs.items c.pop.new.self.items c.in-Some.x c.index-parameters-len.result c.loop-x.all.items c.in-Err.refusal
    (record { popped = popped; read = c.index-parameters-len.is ∙ ap (λ n. get_or c.args.parameters.now n c.index-parameters-len.result) at; within = omega (arith, longer, room) }) c.loop-x.invariant c.in-Err.ensures.err
