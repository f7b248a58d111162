use Rattle.std.proofs.Common.{◌≡◌, ◌<◌, [], ◌∷◌, ◌++◌, length, refl, ap, ◌∙◌, subst, arith, length-append}
use Rattle.pp_expand.specs.inside.Waits.{weights, TakesArgument}
use Rattle.pp_expand.proofs.Sets.{waitings_in_append, waitings_in_more}
use Rattle.pp_expand.proofs.Steps.{weights_push}
use Rattle.pp_expand.proofs.Proceeds.{takes_is, skips_is, used_as, taken_in, taken_length, skipped_in, level_known, proceed_from}
use Rattle.pp_expand.proofs.waiting.proceed.Goals as goal

pub returns-then-used-clause-proceeds : goal.returns-then-used-clause-proceeds
returns-then-used-clause-proceeds c = λ known later once below grown onward left.
    let q = c.loop-at.at in
    let i = c.loop-at.invariant in
    let n : c.len-index.result ≡ length q.full.items = omega arith in
    let inside : length q.full.items < length q.arguments.items = omega arith in
    let u = used_as (length c.args.sets.now) q i.known c.len-index.result n inside c.index-used.result.now c.index-used.ensures known.texts later in
    let t = subst (λ m. TakesArgument q.arguments.items m c.index-used.result.now.beside c.in_ok-rest.rest.items c.take_argument.new.arguments.items) n c.in_ok-rest.ensures.ok in
    takes_is known later c.args.at q (record q { arguments = c.take_argument.new.arguments }) c.index-used.result.now c.in_ok-rest.rest.items (i.same known later) u t refl c.args.waiting.now.items c.push.new.self.items (record { rest = c.in_ok-rest.rest; out = c.new.result; end = _ }) c.if-used.true refl c.new.ensures.items refl (c.in_ok-push.ensures.items ∙ ap (λ l. l ++ record q { arguments = c.take_argument.new.arguments } ∷ []) i.waiting) onward left

pub returns-then-used-clause-known : goal.returns-then-used-clause-known
returns-then-used-clause-known c =
    let q = c.loop-at.at in
    let i = c.loop-at.invariant in
    let k = taken_in (length c.args.sets.now) q i.known c.len-index.result c.index-used.result.now.beside c.in_ok-rest.rest.items c.take_argument.new.arguments c.in_ok-rest.ensures.ok in
    let e = c.in_ok-push.ensures.items ∙ ap (λ l. l ++ record q { arguments = c.take_argument.new.arguments } ∷ []) i.waiting in
    ((k.0, rw c.new.ensures.items tt), rw e (waitings_in_append (length c.args.sets.now) c.args.waiting.now.items _ c.requires.others (k.1, tt)))

pub returns-then-used-clause-bound : goal.returns-then-used-clause-bound
returns-then-used-clause-bound c =
    let q = c.loop-at.at in
    let i = c.loop-at.invariant in
    let e = ap weights (c.in_ok-push.ensures.items ∙ ap (λ l. l ++ record q { arguments = c.take_argument.new.arguments } ∷ []) i.waiting) ∙ weights_push c.args.waiting.now.items (record q { arguments = c.take_argument.new.arguments }) in
    let n = taken_length (length c.args.sets.now) q i.known c.len-index.result c.index-used.result.now.beside c.in_ok-rest.rest.items c.take_argument.new.arguments c.in_ok-rest.ensures.ok in
    omega (arith, e, n, i.count, i.more)

pub loop-at-preserved : goal.loop-at-preserved
loop-at-preserved c =
    let q = c.loop-at.at in
    let i = c.loop-at.invariant in
    let n : c.len-index.result ≡ length q.full.items = omega arith in
    let inside : length q.full.items < length q.arguments.items = omega arith in
    record {
      waiting = i.waiting;
      sets = i.sets;
      known = skipped_in (length c.args.sets.now) q i.known c.new-in-loop-at.result c.push-in-loop-at.new.self c.new-in-loop-at.ensures.items c.in_ok-push-2.ensures.items;
      count = i.count;
      more = omega (arith, ap length c.in_ok-push-2.ensures.items, length-append q.full.items (c.new-in-loop-at.result ∷ []), i.more);
      same = λ known later onward left. skips_is known later c.args.at q (record q { full = c.push-in-loop-at.new.self }) c.index-used.result.now c.new-in-loop-at.result (i.same known later) (used_as (length c.args.sets.now) q i.known c.len-index.result n inside c.index-used.result.now c.index-used.ensures known.texts later) inside c.if-used.false c.new-in-loop-at.ensures.items refl c.in_ok-push-2.ensures.items onward left;
    }

pub returns-clause-proceeds : goal.returns-clause-proceeds
returns-clause-proceeds c = λ known later once below grown.
    let i = c.loop-at.invariant in
    proceed_from known later c.args.waiting.now.items c.loop-at.waiting.items c.args.at c.loop-at.at c.finish.result i.waiting (i.same known later) (c.finish.ensures.finishes known later once below grown)

pub returns-clause-known : goal.returns-clause-known
returns-clause-known c =
    let i = c.loop-at.invariant in
    level_known (length c.finish.new.sets) c.finish.result c.loop-at.waiting.items c.finish.ensures.known (rw i.waiting (waitings_in_more _ _ c.finish.ensures.keeps.longer c.args.waiting.now.items c.requires.others))
