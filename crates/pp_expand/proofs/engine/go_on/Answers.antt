use Rattle.std.proofs.Common.{length, Ok, Some, refl, ap, ◌∙◌, subst, arith}
use Rattle.std.proofs.lemmas.Result.{err_from_is_err_and}
use Rattle.pp_expand.specs.inside.Turns.{AdvanceIs, AdvancedIn, StepIn}
use Rattle.pp_expand.specs.inside.Waits.{weights, WaitingsIn}
use Rattle.pp_expand.proofs.Sets.{extends_both, waitings_in_more, waitings_in_front}
use Rattle.pp_expand.proofs.Steps.{weights_push}
use Rattle.pp_expand.proofs.Runs.{advance_fails, budget_used, predefined_next, begun, joined, falls_by_join}
use Rattle.pp_expand.proofs.engine.go_on.Goals as goal

pub returns-in_err-step-clause-goes : goal.returns-in_err-step-clause-goes
returns-in_err-step-clause-goes c = λ macros later is_table once below grown.
    let p = err_from_is_err_and c.from_residual.result c.from_residual.ensures.1 in
    rw (p.1, p.2) (advance_fails (record { macros = macros; texts = c.args.names.now }) later c.args.waiting.now.items c.requires.some c.args.level c.args.left.now c.advance.new.level c.args.waiting.now.items c.args.left.now c.in_err-step.field-0.0 (c.in_err-step.ensures.advances macros later is_table below grown))

pub join-requires-clause-known : goal.join-requires-clause-known
join-requires-clause-known c =
    let all = waitings_in_more _ _ c.advance.ensures.keeps.longer c.args.waiting.now.items c.requires.others in
    (waitings_in_front (length c.advance.new.sets) c.pop.new.self.items c.in-Some-pop.at (subst (λ ws. WaitingsIn (length c.advance.new.sets) ws) c.in-Some-pop.ensures.items all)).1

pub join-requires-clause-others : goal.join-requires-clause-others
join-requires-clause-others c =
    let all = waitings_in_more _ _ c.advance.ensures.keeps.longer c.args.waiting.now.items c.requires.others in
    (waitings_in_front (length c.advance.new.sets) c.pop.new.self.items c.in-Some-pop.at (subst (λ ws. WaitingsIn (length c.advance.new.sets) ws) c.in-Some-pop.ensures.items all)).0

pub returns-in_default-clause-goes : goal.returns-in_default-clause-goes
returns-in_default-clause-goes c = λ macros later is_table once below grown.
    let h = subst (λ z. AdvanceIs (record { macros = macros; texts = c.args.names.now }) later c.args.level (Ok z) c.advance.new.level) c.in_default.is (c.in_ok-step.ensures.advances macros later is_table below (extends_both _ _ _ c.join.ensures.keeps grown)) in
    joined (record { macros = macros; texts = c.args.names.now }) later c.args.waiting.now.items c.requires.some c.args.level c.args.left.now c.advance.new.level h c.pop.new.self.items c.in-Some-pop.at c.in-Some-pop.ensures.items c.join.new.waiting.items c.join.result (c.join.ensures.joins (record { macros = macros; texts = c.args.names.now }) later once (c.advance.ensures.names below) grown)

pub returns-in_default-clause-names : goal.returns-in_default-clause-names
returns-in_default-clause-names c = λ below. c.join.ensures.names (length c.args.names.now) (c.advance.ensures.names below)

pub returns-in_default-clause-falls : goal.returns-in_default-clause-falls
returns-in_default-clause-falls c =
    falls_by_join c.join.result _ _ _ _ _ (ap weights c.in-Some-pop.ensures.items ∙ weights_push c.pop.new.self.items c.in-Some-pop.at) c.join.ensures.bound

pub returns-in_err-count_one-clause-goes : goal.returns-in_err-count_one-clause-goes
returns-in_err-count_one-clause-goes c = λ macros later is_table once below grown.
    let p = err_from_is_err_and c.from_residual-in_err-count_one.result c.from_residual-in_err-count_one.ensures.1 in
    let h = subst (λ z. AdvanceIs (record { macros = macros; texts = c.args.names.now }) later c.args.level (Ok z) c.advance.new.level) c.in-Some.is (c.in_ok-step.ensures.advances macros later is_table below grown) in
    rw (p.1, p.2) (budget_used (record { macros = macros; texts = c.args.names.now }) later c.args.waiting.now.items c.requires.some c.args.level c.args.left.now c.advance.new.level c.args.waiting.now.items c.count_one.new.left c.in-Some.step h c.in_err-count_one.ensures.err.0 c.in_err-count_one.field-0.0 c.in_err-count_one.ensures.err.1)

pub begin-requires-clause-others : goal.begin-requires-clause-others
begin-requires-clause-others c = waitings_in_more _ _ c.advance.ensures.keeps.longer c.args.waiting.now.items c.requires.others

pub returns-in_ok-push_front-in-Predefined-clause-goes : goal.returns-in_ok-push_front-in-Predefined-clause-goes
returns-in_ok-push_front-in-Predefined-clause-goes c = λ macros later is_table once below grown.
    let y = c.in_ok-predefined-in-Predefined in
    let h = subst (λ z. AdvanceIs (record { macros = macros; texts = c.args.names.now }) later c.args.level (Ok z) c.advance.new.level) c.in-Some.is (c.in_ok-step.ensures.advances macros later is_table below grown) in
    let h2 = subst (λ z. AdvanceIs (record { macros = macros; texts = c.args.names.now }) later c.args.level (Ok (Some z)) c.advance.new.level) c.in-Predefined.is h in
    predefined_next (record { macros = macros; texts = c.args.names.now }) later c.args.waiting.now.items c.requires.some c.args.level c.args.left.now c.advance.new.level c.in-Predefined.x y.field-0 c.count_one.new.left (record { rest = c.push_front.new.self; out = c.advance.new.level.out; end = c.advance.new.level.end }) h2 c.in_ok-count_one.ensures.ok (y.ensures.ok.1 macros later) c.in_ok-push_front-in-Predefined.ensures.items refl refl

pub returns-in_ok-push_front-in-Predefined-clause-known : goal.returns-in_ok-push_front-in-Predefined-clause-known
returns-in_ok-push_front-in-Predefined-clause-known c =
    let k = c.in_ok-step.ensures.known in
    let s = subst (λ z. StepIn (length c.advance.new.sets) z) c.in-Predefined.is (subst (λ z. AdvancedIn (length c.advance.new.sets) z) c.in-Some.is k.0) in
    ((rw c.in_ok-push_front-in-Predefined.ensures.items (omega (arith, s, c.in_ok-predefined-in-Predefined.ensures.ok.0), k.1.0), k.1.1), waitings_in_more _ _ c.advance.ensures.keeps.longer c.args.waiting.now.items c.requires.others)

pub returns-in-Replaced-clause-goes : goal.returns-in-Replaced-clause-goes
returns-in-Replaced-clause-goes c = λ macros later is_table once below grown.
    let h = subst (λ z. AdvanceIs (record { macros = macros; texts = c.args.names.now }) later c.args.level (Ok z) c.advance.new.level) c.in-Some.is (c.in_ok-step.ensures.advances macros later is_table below (extends_both _ _ _ c.begin.ensures.keeps grown)) in
    let h2 = subst (λ z. AdvanceIs (record { macros = macros; texts = c.args.names.now }) later c.args.level (Ok (Some z)) c.advance.new.level) c.in-Replaced.is h in
    begun (record { macros = macros; texts = c.args.names.now }) later c.args.waiting.now.items c.requires.some c.args.level c.args.left.now c.advance.new.level c.in-Replaced.task h2 c.count_one.new.left c.in_ok-count_one.ensures.ok c.begin.new.waiting.items c.begin.result (λ r task. c.begin.ensures.begins (record { macros = macros; texts = c.args.names.now }) later r task once (c.advance.ensures.names below) grown)

pub returns-in-Replaced-clause-names : goal.returns-in-Replaced-clause-names
returns-in-Replaced-clause-names c = λ below. c.begin.ensures.names (length c.args.names.now) (c.advance.ensures.names below)
