use Rattle.std.proofs.Common.{◌∷◌, [], length, Ok, Err, Some, refl, ◌∙◌, subst}
use Rattle.pp_expand.specs.inside.Turns.{TurnedIn}
use Rattle.pp_expand.proofs.Sets.{extends_both, are_in_more, are_in_append}
use Rattle.pp_expand.proofs.Advances.{stays_on, takes_step, fails_step, ends_list, from_start}
use Rattle.pp_expand.proofs.FirstTokens.{none_left}
use Rattle.pp_expand.proofs.turns.advance.Goals as goal

pub loop-x-preserved : goal.loop-x-preserved
loop-x-preserved c =
    let i = c.loop-x.invariant in
    let k = c.in-Ok-Stays.ensures.known in
    let x_in = subst (λ t. TurnedIn (length c.take_turn.new.sets) t) c.in-Ok-Stays.field-0-is k.0 in
    let out_in = are_in_append (length c.take_turn.new.sets) c.loop-x.level.out.items (c.in-Ok-Stays.x ∷ []) (are_in_more _ _ c.take_turn.ensures.keeps.longer c.loop-x.level.out.items i.known.1) (x_in, tt) in
    record {
      known = (k.1, rw c.in_ok-push-in-Ok-Stays.ensures.items out_in);
      keeps = extends_both _ _ _ i.keeps c.take_turn.ensures.keeps;
      names = λ below. c.take_turn.ensures.names (i.names below);
      same_end = i.same_end;
      same = λ macros later is_table below grown left.
          i.same macros later is_table below (extends_both _ _ _ c.take_turn.ensures.keeps grown) left ∙ stays_on (record { macros = macros; texts = c.args.names.now }) later c.loop-x.level c.in-Some.x c.pop_front.new.self.items c.in-Some.ensures.items c.in-Ok-Stays.field-0 c.in-Ok-Stays.x c.take_turn.new.rest.items (record { rest = c.take_turn.new.rest; out = c.push.new.self; end = c.loop-x.level.end }) c.in-Ok-Stays.field-0-is (c.in-Ok-Stays.ensures.turn macros later is_table (i.names below) grown) refl c.in_ok-push-in-Ok-Stays.ensures.items refl left;
    }

pub returns-in-Ok-Takes-clause-advances : goal.returns-in-Ok-Takes-clause-advances
returns-in-Ok-Takes-clause-advances c = λ macros later is_table below grown.
    let i = c.loop-x.invariant in
    from_start (record { macros = macros; texts = c.args.names.now }) later c.args.level.now c.loop-x.level (Ok (Some c.in-Ok-Takes.step)) (record { rest = c.take_turn.new.rest; out = c.loop-x.level.out; end = c.loop-x.level.end }) i.same_end (i.same macros later is_table below (extends_both _ _ _ c.take_turn.ensures.keeps grown)) (takes_step (record { macros = macros; texts = c.args.names.now }) later c.loop-x.level c.in-Some.x c.pop_front.new.self.items c.in-Some.ensures.items c.in-Ok-Takes.field-0 c.in-Ok-Takes.step c.take_turn.new.rest.items (record { rest = c.take_turn.new.rest; out = c.loop-x.level.out; end = c.loop-x.level.end }) c.in-Ok-Takes.field-0-is (c.in-Ok-Takes.ensures.turn macros later is_table (i.names below) grown) refl refl refl)

pub returns-in-Ok-Takes-clause-known : goal.returns-in-Ok-Takes-clause-known
returns-in-Ok-Takes-clause-known c =
    let k = c.in-Ok-Takes.ensures.known in
    (subst (λ t. TurnedIn (length c.take_turn.new.sets) t) c.in-Ok-Takes.field-0-is k.0, (k.1, are_in_more _ _ c.take_turn.ensures.keeps.longer c.loop-x.level.out.items c.loop-x.invariant.known.1))

pub returns-in-Err-clause-advances : goal.returns-in-Err-clause-advances
returns-in-Err-clause-advances c = λ macros later is_table below grown.
    let i = c.loop-x.invariant in
    from_start (record { macros = macros; texts = c.args.names.now }) later c.args.level.now c.loop-x.level (Err c.in-Err.refusal) (record { rest = c.take_turn.new.rest; out = c.loop-x.level.out; end = c.loop-x.level.end }) i.same_end (i.same macros later is_table below (extends_both _ _ _ c.take_turn.ensures.keeps grown)) (fails_step (record { macros = macros; texts = c.args.names.now }) later c.loop-x.level c.in-Some.x c.pop_front.new.self.items c.in-Some.ensures.items c.in-Err.refusal c.take_turn.new.rest.items (record { rest = c.take_turn.new.rest; out = c.loop-x.level.out; end = c.loop-x.level.end }) (c.in-Err.ensures.turn macros later is_table (i.names below) grown))

pub returns-clause-advances : goal.returns-clause-advances
returns-clause-advances c = λ macros later is_table below grown left.
    let i = c.loop-x.invariant in
    i.same macros later is_table below grown left ∙ ends_list (record { macros = macros; texts = c.args.names.now }) later c.loop-x.level c.loop-x.level (none_left c.loop-x.level.rest.items c.pop_front.new.self.items c.in_default.ensures.items c.in_default.ensures.rest) refl left
