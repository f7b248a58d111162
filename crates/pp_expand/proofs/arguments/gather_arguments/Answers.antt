use Rattle.std.proofs.Common.{◌≡◌, ◌+◌, ◌-◌, length, sym, ap, refl, ◌∙◌, arith}
use Rattle.pp_expand.proofs.FirstTokens.{none_left}
use Rattle.pp_expand.specs.inside.Turns.{mark_as}
use Rattle.pp_expand.proofs.Gather.{separator, parts, stays, held_open, held_inner_close, held_kept_comma, held_other, held_in, held_close, close_in, held_comma, comma_in, held_none}
use Rattle.pp_expand.proofs.arguments.gather_arguments.Goals as goal

pub loop-token-preserved-in-Continue-1 : goal.loop-token-preserved-in-Continue-1
loop-token-preserved-in-Continue-1 c =
    let i = c.loop-token in
    let n = ap length c.in-Some.ensures.items in
    record {
      same = held_open c.args.variadic c.args.named c.args.rest.now.items i.before.items i.now.items i.rest.items i.depth c.in-Some.token c.pop_front.new.self.items c.in-Some.ensures.items c.push.new.self.items c.in_ok-push-in-Opens.ensures.items (i.depth + 1) (omega arith) (sym c.mark_of.ensures ∙ ap mark_as c.in-Opens.is) i.invariant.same;
      known = held_in c.args.variadic c.args.named c.args.rest.now.items i.before.items i.now.items i.rest.items i.depth c.in-Some.token c.pop_front.new.self.items c.in-Some.ensures.items c.push.new.self.items c.in_ok-push-in-Opens.ensures.items i.invariant.known;
      bound = omega arith;
    }

pub returns-then-depth-eq0-clause-gathers : goal.returns-then-depth-eq0-clause-gathers
returns-then-depth-eq0-clause-gathers c =
    let i = c.loop-token in
    held_close c.args.variadic c.args.named c.args.rest.now.items i.before.items i.now.items i.rest.items i.depth c.in-Some.token c.pop_front.new.self.items c.in-Some.ensures.items c.push-then-depth-eq0.new.self.items i.now refl c.in_ok-push-in-Closes.ensures.items c.if-depth-eq0.true (sym c.mark_of.ensures ∙ ap mark_as c.in-Closes.is) i.invariant.same

pub returns-then-depth-eq0-clause-known : goal.returns-then-depth-eq0-clause-known
returns-then-depth-eq0-clause-known c =
    let i = c.loop-token in
    close_in c.args.variadic c.args.named c.args.rest.now.items i.before.items i.now.items i.rest.items i.depth c.in-Some.token c.pop_front.new.self.items c.in-Some.ensures.items c.push-then-depth-eq0.new.self.items i.now refl c.in_ok-push-in-Closes.ensures.items i.invariant.known

pub loop-token-preserved-in-Continue-branch-3 : goal.loop-token-preserved-in-Continue-branch-3
loop-token-preserved-in-Continue-branch-3 c =
    let i = c.loop-token in
    let n = ap length c.in-Some.ensures.items in
    record {
      same = held_inner_close c.args.variadic c.args.named c.args.rest.now.items i.before.items i.now.items i.rest.items i.depth c.in-Some.token c.pop_front.new.self.items c.in-Some.ensures.items c.push-in-Closes.new.self.items c.in_ok-push-in-Closes-2.ensures.items (i.depth - 1) (omega arith) (sym c.mark_of.ensures ∙ ap mark_as c.in-Closes.is) i.invariant.same;
      known = held_in c.args.variadic c.args.named c.args.rest.now.items i.before.items i.now.items i.rest.items i.depth c.in-Some.token c.pop_front.new.self.items c.in-Some.ensures.items c.push-in-Closes.new.self.items c.in_ok-push-in-Closes-2.ensures.items i.invariant.known;
      bound = omega arith;
    }

pub loop-token-preserved-in_ok-push-in-Separates : goal.loop-token-preserved-in_ok-push-in-Separates
loop-token-preserved-in_ok-push-in-Separates c =
    let i = c.loop-token in
    let n = ap length c.in-Some.ensures.items in
    let l : length i.before.items ≡ c.len.result = omega (arith, c.len.ensures) in
    let p = parts i.depth (separator c.args.variadic c.args.named c.len.result) (sym c.is_separator.ensures ∙ c.if-is_separator.true) in
    record {
      same = held_comma c.args.variadic c.args.named c.args.rest.now.items i.before.items i.now.items i.rest.items i.depth c.in-Some.token c.pop_front.new.self.items c.in-Some.ensures.items c.push-then-is_separator.new.self.items i.now refl c.in_ok-push-in-Separates.ensures.items c.new-now-then-is_separator.result.items c.new-now-then-is_separator.ensures.items p.0 (ap (separator c.args.variadic c.args.named) l ∙ p.1) (sym c.mark_of.ensures ∙ ap mark_as c.in-Separates.is) i.invariant.same;
      known = comma_in c.args.variadic c.args.named c.args.rest.now.items i.before.items i.now.items i.rest.items i.depth c.in-Some.token c.pop_front.new.self.items c.in-Some.ensures.items c.push-then-is_separator.new.self.items i.now refl c.in_ok-push-in-Separates.ensures.items c.new-now-then-is_separator.result.items c.new-now-then-is_separator.ensures.items i.invariant.known;
      bound = omega arith;
    }

pub loop-token-preserved-in_ok-push-in-Separates-2 : goal.loop-token-preserved-in_ok-push-in-Separates-2
loop-token-preserved-in_ok-push-in-Separates-2 c =
    let i = c.loop-token in
    let n = ap length c.in-Some.ensures.items in
    let l : length i.before.items ≡ c.len.result = omega (arith, c.len.ensures) in
    let p = parts i.depth (separator c.args.variadic c.args.named c.len.result) (sym c.is_separator.ensures ∙ c.if-is_separator.true) in
    record {
      same = held_comma c.args.variadic c.args.named c.args.rest.now.items i.before.items i.now.items i.rest.items i.depth c.in-Some.token c.pop_front.new.self.items c.in-Some.ensures.items c.push-then-is_separator.new.self.items i.now refl c.in_ok-push-in-Separates.ensures.items c.new-now-then-is_separator.result.items c.new-now-then-is_separator.ensures.items p.0 (ap (separator c.args.variadic c.args.named) l ∙ p.1) (sym c.mark_of.ensures ∙ ap mark_as c.in-Separates.is) i.invariant.same;
      known = comma_in c.args.variadic c.args.named c.args.rest.now.items i.before.items i.now.items i.rest.items i.depth c.in-Some.token c.pop_front.new.self.items c.in-Some.ensures.items c.push-then-is_separator.new.self.items i.now refl c.in_ok-push-in-Separates.ensures.items c.new-now-then-is_separator.result.items c.new-now-then-is_separator.ensures.items i.invariant.known;
      bound = omega arith;
    }

pub loop-token-preserved-in-Continue-branch-5 : goal.loop-token-preserved-in-Continue-branch-5
loop-token-preserved-in-Continue-branch-5 c =
    let i = c.loop-token in
    let n = ap length c.in-Some.ensures.items in
    let l : length i.before.items ≡ c.len.result = omega (arith, c.len.ensures) in
    let s = stays i.depth (separator c.args.variadic c.args.named c.len.result) (sym c.is_separator.ensures ∙ c.if-is_separator.false) in
    record {
      same = held_kept_comma c.args.variadic c.args.named c.args.rest.now.items i.before.items i.now.items i.rest.items i.depth c.in-Some.token c.pop_front.new.self.items c.in-Some.ensures.items c.keep_comma.new.argument.items c.in_ok-keep_comma-in-Separates.ensures.ok (λ q. ap (separator c.args.variadic c.args.named) l ∙ s q) (sym c.mark_of.ensures ∙ ap mark_as c.in-Separates.is) i.invariant.same;
      known = held_in c.args.variadic c.args.named c.args.rest.now.items i.before.items i.now.items i.rest.items i.depth c.in-Some.token c.pop_front.new.self.items c.in-Some.ensures.items c.keep_comma.new.argument.items c.in_ok-keep_comma-in-Separates.ensures.ok i.invariant.known;
      bound = omega arith;
    }

pub loop-token-preserved : goal.loop-token-preserved
loop-token-preserved c =
    let i = c.loop-token in
    let n = ap length c.in-Some.ensures.items in
    record {
      same = held_other c.args.variadic c.args.named c.args.rest.now.items i.before.items i.now.items i.rest.items i.depth c.in-Some.token c.pop_front.new.self.items c.in-Some.ensures.items c.push-in-Other.new.self.items c.in_ok-push-in-Other.ensures.items (sym c.mark_of.ensures ∙ ap mark_as c.in-Other.is) i.invariant.same;
      known = held_in c.args.variadic c.args.named c.args.rest.now.items i.before.items i.now.items i.rest.items i.depth c.in-Some.token c.pop_front.new.self.items c.in-Some.ensures.items c.push-in-Other.new.self.items c.in_ok-push-in-Other.ensures.items i.invariant.known;
      bound = omega arith;
    }

pub returns-clause-gathers : goal.returns-clause-gathers
returns-clause-gathers c =
    let i = c.loop-token in
    held_none c.args.variadic c.args.named c.args.rest.now.items i.before.items i.now.items i.rest.items i.depth (none_left i.rest.items c.pop_front.new.self.items c.in_default.ensures.items c.in_default.ensures.rest) i.invariant.same
