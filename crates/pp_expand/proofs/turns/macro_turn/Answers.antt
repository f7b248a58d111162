use Rattle.std.proofs.Common.{◌∷◌, refl, sym, ap, ◌∙◌, arith}
use Rattle.pp_expand.specs.inside.Turns.{mark_as}
use Rattle.pp_expand.proofs.Sets.{are_in_more}
use Rattle.pp_expand.proofs.Tasks.{no_parameters, some_parameters, ok_name, err_name, object_name, opens_call, is_open, first_rest}
use Rattle.pp_expand.proofs.turns.macro_turn.Goals as goal

pub returns-in-Ok-clause-turn : goal.returns-in-Ok-clause-turn
returns-in-Ok-clause-turn c = λ texts later m is_macro number once below grown.
    let e = no_parameters texts c.args.definition.now.parameters m.parameters is_macro.parameters_are (sym c.parameters.ensures ∙ c.in_default.is) in
    ok_name texts later c.args.x m c.args.rest.now.items _ _ (object_name texts later c.args.x m c.args.rest.now.items _ e) c.in-Ok.task c.args.rest.now.items (c.in-Ok.ensures.task texts later m c.args.rest.now.items is_macro number grown)

pub returns-in-Ok-clause-known : goal.returns-in-Ok-clause-known
returns-in-Ok-clause-known c =
    (c.in-Ok.ensures.known, are_in_more _ _ c.object_task.ensures.keeps.longer c.args.rest.now.items c.requires.behind)

pub returns-in-Err-clause-turn : goal.returns-in-Err-clause-turn
returns-in-Err-clause-turn c = λ texts later m is_macro number once below grown.
    let e = no_parameters texts c.args.definition.now.parameters m.parameters is_macro.parameters_are (sym c.parameters.ensures ∙ c.in_default.is) in
    err_name texts later c.args.x m c.args.rest.now.items _ _ (object_name texts later c.args.x m c.args.rest.now.items _ e) c.in-Err.refusal c.args.rest.now.items (c.in-Err.ensures.task texts later m c.args.rest.now.items is_macro number grown)

pub returns-in-Ok-call_task-clause-turn : goal.returns-in-Ok-call_task-clause-turn
returns-in-Ok-call_task-clause-turn c = λ texts later m is_macro number once below grown.
    let e = some_parameters texts c.args.definition.now.parameters m.parameters c.in-Some.parameters is_macro.parameters_are (sym c.parameters.ensures ∙ c.in-Some.is) in
    let r = first_rest c.args.rest.now.items c.in-Some-front.next.now (omega (arith, c.in-Some-front.ensures.variant.0 refl)) c.in-Some-front.ensures.lookup ∙ ap (λ l. c.in-Some-front.next.now ∷ l) (sym c.pop_front.ensures.rest) in
    ok_name texts later c.args.x m c.args.rest.now.items _ _ (opens_call texts later c.args.x m c.args.rest.now.items _ e.0 e.1.0 c.in-Some-front.next.now c.pop_front.new.self.items r (is_open c.in-Some-front.next.now.token (sym c.mark_of.ensures ∙ ap mark_as c.in-Opens.is))) c.in-Ok-call_task.task c.call_task.new.rest.items (c.in-Ok-call_task.ensures.task texts later m e.0 e.1.0 e.1.1 is_macro number once below grown)

pub returns-in-Err-call_task-clause-turn : goal.returns-in-Err-call_task-clause-turn
returns-in-Err-call_task-clause-turn c = λ texts later m is_macro number once below grown.
    let e = some_parameters texts c.args.definition.now.parameters m.parameters c.in-Some.parameters is_macro.parameters_are (sym c.parameters.ensures ∙ c.in-Some.is) in
    let r = first_rest c.args.rest.now.items c.in-Some-front.next.now (omega (arith, c.in-Some-front.ensures.variant.0 refl)) c.in-Some-front.ensures.lookup ∙ ap (λ l. c.in-Some-front.next.now ∷ l) (sym c.pop_front.ensures.rest) in
    err_name texts later c.args.x m c.args.rest.now.items _ _ (opens_call texts later c.args.x m c.args.rest.now.items _ e.0 e.1.0 c.in-Some-front.next.now c.pop_front.new.self.items r (is_open c.in-Some-front.next.now.token (sym c.mark_of.ensures ∙ ap mark_as c.in-Opens.is))) c.in-Err-call_task.refusal c.call_task.new.rest.items (c.in-Err-call_task.ensures.task texts later m e.0 e.1.0 e.1.1 is_macro number once below grown)
