use Rattle.std.proofs.Common.{sym, ap, ◌∙◌, subst}
use Rattle.macros_substitution.specs.Meaning.{hidden_all}
use Rattle.pp_expand.specs.Expands.{ending_of}
use Rattle.pp_expand.specs.Pulled.{pulled}
use Rattle.pp_expand.specs.Meaning.{Refuses}
use Rattle.pp_expand.proofs.Sets.{extends_both}
use Rattle.pp_expand.proofs.FirstTokens.{none_left}
use Rattle.pp_expand.proofs.Pulls.{pulled_none}
use Rattle.pp_expand.proofs.PullSteps.{stays, refuses, stepped, step_fails, falls_more}
use Rattle.pp_expand.proofs.pulling.pull.Goals as goal

pub returns-in-Ok-Stays-clause-pulls : goal.returns-in-Ok-Stays-clause-pulls
returns-in-Ok-Stays-clause-pulls c = λ macros later is_table below grown.
    let i = c.loop-x.invariant in
    i.same macros later is_table below (extends_both _ _ _ c.take_turn.ensures.keeps grown) ∙ stays (record { macros = macros; texts = c.args.names.now }) later c.args.end c.in-Some.x c.pop_front.new.self.items c.loop-x.list.items c.in-Some.ensures.items c.loop-x.left c.in-Ok-Stays.field-0 c.in-Ok-Stays.x c.take_turn.new.rest.items c.in-Ok-Stays.field-0-is (c.in-Ok-Stays.ensures.turn macros later is_table (i.names below) grown)

pub returns-in-Err-take_step-clause-pulls : goal.returns-in-Err-take_step-clause-pulls
returns-in-Err-take_step-clause-pulls c = λ macros later is_table below grown.
    let i = c.loop-x.invariant in
    let grown_turn = extends_both _ _ _ c.take_step.ensures.keeps grown in
    subst (Refuses c.in-Err-take_step.refusal) (sym (i.same macros later is_table below (extends_both _ _ _ c.take_turn.ensures.keeps grown_turn))) (step_fails (record { macros = macros; texts = c.args.names.now }) later c.args.end c.in-Some.x c.pop_front.new.self.items c.loop-x.list.items c.in-Some.ensures.items c.loop-x.left c.in-Ok-Takes.field-0 c.in-Ok-Takes.step c.in-Ok-Takes.field-0-is c.take_turn.new.rest.items (c.in-Ok-Takes.ensures.turn macros later is_table (i.names below) grown_turn) c.in-Ok-Takes.ensures.once c.take_step.new.list.items c.take_step.new.left c.in-Err-take_step.refusal (c.in-Err-take_step.ensures.steps macros later is_table (c.take_turn.ensures.names (i.names below)) grown))

pub loop-x-preserved : goal.loop-x-preserved
loop-x-preserved c =
    let i = c.loop-x.invariant in
    record {
      known = c.in_default-take_step.ensures.known;
      keeps = extends_both _ _ _ i.keeps (extends_both _ _ _ c.take_turn.ensures.keeps c.take_step.ensures.keeps);
      names = λ below. c.take_step.ensures.names (c.take_turn.ensures.names (i.names below));
      fewer = falls_more _ _ _ _ _ _ i.fewer c.in_default-take_step.ensures.left;
      same = λ macros later is_table below grown.
          let grown_turn = extends_both _ _ _ c.take_step.ensures.keeps grown in
          i.same macros later is_table below (extends_both _ _ _ c.take_turn.ensures.keeps grown_turn) ∙ stepped (record { macros = macros; texts = c.args.names.now }) later c.args.end c.in-Some.x c.pop_front.new.self.items c.loop-x.list.items c.in-Some.ensures.items c.loop-x.left c.in-Ok-Takes.field-0 c.in-Ok-Takes.step c.in-Ok-Takes.field-0-is c.take_turn.new.rest.items (c.in-Ok-Takes.ensures.turn macros later is_table (i.names below) grown_turn) c.in-Ok-Takes.ensures.once c.take_step.new.list.items c.take_step.new.left tt (c.in_default-take_step.ensures.steps macros later is_table (c.take_turn.ensures.names (i.names below)) grown);
    }

pub returns-in-Err-clause-pulls : goal.returns-in-Err-clause-pulls
returns-in-Err-clause-pulls c = λ macros later is_table below grown.
    let i = c.loop-x.invariant in
    subst (Refuses c.in-Err.refusal) (sym (i.same macros later is_table below (extends_both _ _ _ c.take_turn.ensures.keeps grown))) (refuses (record { macros = macros; texts = c.args.names.now }) later c.args.end c.in-Some.x c.pop_front.new.self.items c.loop-x.list.items c.in-Some.ensures.items c.loop-x.left c.in-Err.refusal c.take_turn.new.rest.items (c.in-Err.ensures.turn macros later is_table (i.names below) grown))

pub returns-clause-pulls : goal.returns-clause-pulls
returns-clause-pulls c = λ macros later is_table below grown.
    let i = c.loop-x.invariant in
    let e = none_left c.loop-x.list.items c.pop_front.new.self.items c.in_default.ensures.items c.in_default.ensures.rest in
    (sym c.in_default.ensures.items ∙ e, i.same macros later is_table below grown ∙ ap (λ l. pulled (record { macros = macros; texts = c.args.names.now }) (hidden_all c.args.names.now later l) (ending_of c.args.end) c.loop-x.left) e ∙ pulled_none (record { macros = macros; texts = c.args.names.now }) (ending_of c.args.end) c.loop-x.left)
