use Rattle.std.proofs.Common.{List, length, sym, ap, subst, arith}
use Rattle.std.proofs.lemmas.Result.{err_from_is_err_and}
use Rattle.macros_substitution.specs.declared.piece.HiddenToken.{HiddenToken}
use Rattle.pp_expand.specs.inside.Turns.{IsTask}
use Rattle.pp_expand.proofs.Sets.{extends_both}
use Rattle.pp_expand.proofs.Runs.{make_begins, make_refused, make_fails, make_ends, no_item}
use Rattle.pp_expand.proofs.engine.make.Goals as goal

pub returns-in_err-level-clause-makes : goal.returns-in_err-level-clause-makes
returns-in_err-level-clause-makes c = λ macros later r task is_table once below grown.
    let p = err_from_is_err_and c.from_residual.result c.from_residual.ensures.1 in
    let t = subst (λ (l : List HiddenToken). IsTask c.args.names.now later c.args.task l r) (sym (ap (λ q. q.items) c.replace.ensures.value)) task in
    rw (p.1, p.2) (make_refused (record { macros = macros; texts = c.args.names.now }) later r c.args.left.now c.new-waiting.result.items c.new-waiting.ensures.items (record { rest = c.replace.result; out = c.new-2.result; end = c.args.end }) c.begin.new.waiting.items c.in_err-level.field-0.0 (c.in_err-level.ensures.begins (record { macros = macros; texts = c.args.names.now }) later r t once below grown))

pub returns-in_err-level-clause-names : goal.returns-in_err-level-clause-names
returns-in_err-level-clause-names c = λ below. c.begin.ensures.names (length c.args.names.now) below

pub loop-alloc-init : goal.loop-alloc-init
loop-alloc-init c = record {
  level_known = c.in_ok-level.ensures.known.0;
  waiting_known = c.in_ok-level.ensures.known.1;
  keeps = c.begin.ensures.keeps;
  names_below = λ below. c.begin.ensures.names (length c.args.names.now) below;
  fewer = omega arith;
  same = λ macros later r task is_table once below grown.
      let t = subst (λ (l : List HiddenToken). IsTask c.args.names.now later c.args.task l r) (sym (ap (λ q. q.items) c.replace.ensures.value)) task in
      make_begins (record { macros = macros; texts = c.args.names.now }) later r c.args.left.now c.new-waiting.result.items c.new-waiting.ensures.items (record { rest = c.replace.result; out = c.new-2.result; end = c.args.end }) c.in_ok-level.level c.begin.new.waiting.items (c.in_ok-level.ensures.begins (record { macros = macros; texts = c.args.names.now }) later r t once below grown);
}

pub returns-in_err-level-2-clause-makes : goal.returns-in_err-level-2-clause-makes
returns-in_err-level-2-clause-makes c = λ macros later r task is_table once below grown.
    let l = c.loop-alloc in
    let p = err_from_is_err_and c.from_residual-in_err-level-2.result c.from_residual-in_err-level-2.ensures.1 in
    rw (p.1, p.2) (make_fails (record { macros = macros; texts = c.args.names.now }) later r c.args.left.now l.waiting.items l.level l.left (l.invariant.same macros later r task is_table once below (extends_both _ _ _ c.go_on.ensures.keeps grown)) c.in_err-level-2.field-0.0 c.go_on.new.waiting.items c.go_on.new.left (c.in_err-level-2.ensures.goes macros later is_table once (l.invariant.names_below below) grown))

pub returns-clause-makes : goal.returns-clause-makes
returns-clause-makes c = λ macros later r task is_table once below grown.
    let l = c.loop-alloc in
    make_ends (record { macros = macros; texts = c.args.names.now }) later r c.args.left.now l.waiting.items l.level l.left (l.invariant.same macros later r task is_table once below grown) (no_item l.waiting.items l.waiting.len c.is_empty.result l.waiting.ok.0 c.is_empty.ensures c.loop-alloc-test.false)
