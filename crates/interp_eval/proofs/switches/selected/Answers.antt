use Rattle.std.proofs.Common.{rules, arith, ◌≡◌, suc, sym, ap, refl, ◌∙◌, to_z, of_z, w64, length, map}
use Rattle.std.proofs.Math.Facts.{to_z-of_z}
use Rattle.std.specs.Prelude.{true, false}
use Rattle.typed_ast.specs.View.{statement_of, statements_of}
use Rattle.csem.specs.Machine.{Goes}
use Rattle.csem.specs.Statements.{same_value}
use Rattle.interp_steps.specs.Labels.{label_kind}
use Rattle.interp_eval.proofs.Comings.{after_tick, no_tick, gave_now}
use Rattle.interp_eval.proofs.Leaves.{chose}
use Rattle.interp_eval.proofs.Jumps.{those, choosing, selects_with, chooses_all, chooses_default, at_case, at_default, at_none, next_part, no_part}
use Rattle.interp_eval.proofs.switches.selected.Goals as goal

pub loop-a-init : goal.loop-a-init
loop-a-init c = record {
  spends = (omega arith, c.requires.room);
  left = (0, refl);
  passed = (length c.args.all.now, no_part c.args.all.now);
  leads = λ run scene rest h. chooses_all run c.args.clock.now.spent scene (to_z w64 (of_z w64 c.args.value)) rest (statements_of (map statement_of c.args.all.now)) h;
}

pub returns-then-not-tick-clause-does : goal.returns-then-not-tick-clause-does
returns-then-not-tick-clause-does c = λ scene run rest h.
    let v = to_z w64 (of_z w64 c.args.value) in
    let same : c.args.value ≡ v = sym (search (rules, to_z-of_z)) in
    let l = c.loop-a in
    no_tick run c.args.scope.now.limit l.clock.spent c.tick.new.self scene _ rest c.tick.result c.if-not-tick.true c.tick.ensures.idle c.tick.ensures.same
    (at_case run l.clock.spent scene v rest l.rest.now c.in-Some.a.now c.in-Some.more.now (statements_of (map statement_of l.default.now)) c.in-Case.c c.in-Some.ensures.cases.0
    (c.label_of.ensures ∙ ap label_kind c.in-Case.is)
    (l.invariant.leads run scene rest (selects_with run c.args.clock.now.spent scene c.args.value v rest (statements_of (map statement_of c.args.all.now)) same h)))

pub returns-then-same_value-clause-does : goal.returns-then-same_value-clause-does
returns-then-same_value-clause-does c = λ scene run rest h.
    let v = to_z w64 (of_z w64 c.args.value) in
    let same : c.args.value ≡ v = sym (search (rules, to_z-of_z)) in
    let sw : to_z w64 (of_z w64 c.in-Case.c) ≡ c.in-Case.c = search (rules, to_z-of_z) in
    let l = c.loop-a in
    let test : same_value c.in-Case.c v ≡ true = ap (λ w. same_value w v) (sym sw) ∙ sym c.same_value.ensures ∙ c.if-same_value.true in
    gave_now those run c.args.scope.now.limit scene (statements_of (map statement_of l.rest.now)) rest l.rest c.tick.new.self refl
    (chose run c.tick.new.self.spent scene (same_value c.in-Case.c v) true (λ s. Goes (statements_of (map statement_of l.rest.now)) s)
    (λ s. choosing v (statements_of (map statement_of c.in-Some.more.now)) (statements_of (map statement_of l.default.now)) s) rest test
    (after_tick run l.clock.spent c.tick.new.self.spent scene _ rest c.tick.result c.if-not-tick.false c.tick.ensures.taken
    (at_case run l.clock.spent scene v rest l.rest.now c.in-Some.a.now c.in-Some.more.now (statements_of (map statement_of l.default.now)) c.in-Case.c c.in-Some.ensures.cases.0
    (c.label_of.ensures ∙ ap label_kind c.in-Case.is)
    (l.invariant.leads run scene rest (selects_with run c.args.clock.now.spent scene c.args.value v rest (statements_of (map statement_of c.args.all.now)) same h)))))

pub loop-a-preserved-else-same_value : goal.loop-a-preserved-else-same_value
loop-a-preserved-else-same_value c =
    let v = to_z w64 (of_z w64 c.args.value) in
    let sw : to_z w64 (of_z w64 c.in-Case.c) ≡ c.in-Case.c = search (rules, to_z-of_z) in
    let l = c.loop-a in
    let test : same_value c.in-Case.c v ≡ false = ap (λ w. same_value w v) (sym sw) ∙ sym c.same_value.ensures ∙ c.if-same_value.false in
    record {
      spends = (omega (arith, l.invariant.spends.0, c.tick.ensures.spends.0), c.tick.ensures.spends.1);
      left = (suc l.invariant.left.0, next_part l.invariant.left.0 c.args.all.now l.rest.now c.in-Some.a.now c.in-Some.more.now l.invariant.left.1 c.in-Some.ensures.cases.0);
      passed = l.invariant.passed;
      leads = λ run scene rest h. chose run c.tick.new.self.spent scene (same_value c.in-Case.c v) false (λ s. Goes (statements_of (map statement_of l.rest.now)) s)
          (λ s. choosing v (statements_of (map statement_of c.in-Some.more.now)) (statements_of (map statement_of l.default.now)) s) rest test
          (after_tick run l.clock.spent c.tick.new.self.spent scene _ rest c.tick.result c.if-not-tick.false c.tick.ensures.taken
          (at_case run l.clock.spent scene v rest l.rest.now c.in-Some.a.now c.in-Some.more.now (statements_of (map statement_of l.default.now)) c.in-Case.c c.in-Some.ensures.cases.0
          (c.label_of.ensures ∙ ap label_kind c.in-Case.is) (l.invariant.leads run scene rest h)));
    }

pub loop-a-preserved-in-Default : goal.loop-a-preserved-in-Default
loop-a-preserved-in-Default c =
    let v = to_z w64 (of_z w64 c.args.value) in
    let l = c.loop-a in
    record {
      spends = l.invariant.spends;
      left = (suc l.invariant.left.0, next_part l.invariant.left.0 c.args.all.now l.rest.now c.in-Some.a.now c.in-Some.more.now l.invariant.left.1 c.in-Some.ensures.cases.0);
      passed = l.invariant.left;
      leads = λ run scene rest h. at_default run l.clock.spent scene v rest l.rest.now c.in-Some.a.now c.in-Some.more.now (statements_of (map statement_of l.default.now)) c.in-Some.ensures.cases.0
          (c.label_of.ensures ∙ ap label_kind c.in-Default.is) (l.invariant.leads run scene rest h);
    }

pub loop-a-preserved : goal.loop-a-preserved
loop-a-preserved c =
    let v = to_z w64 (of_z w64 c.args.value) in
    let l = c.loop-a in
    record {
      spends = l.invariant.spends;
      left = (suc l.invariant.left.0, next_part l.invariant.left.0 c.args.all.now l.rest.now c.in-Some.a.now c.in-Some.more.now l.invariant.left.1 c.in-Some.ensures.cases.0);
      passed = l.invariant.passed;
      leads = λ run scene rest h. at_none run l.clock.spent scene v rest l.rest.now c.in-Some.a.now c.in-Some.more.now (statements_of (map statement_of l.default.now)) c.in-Some.ensures.cases.0
          (c.label_of.ensures ∙ ap label_kind c.in-None.is) (l.invariant.leads run scene rest h);
    }

pub returns-clause-does : goal.returns-clause-does
returns-clause-does c = λ scene run rest h.
    let v = to_z w64 (of_z w64 c.args.value) in
    let same : c.args.value ≡ v = sym (search (rules, to_z-of_z)) in
    let l = c.loop-a in
    gave_now those run c.args.scope.now.limit scene (statements_of (map statement_of l.default.now)) rest l.default l.clock refl
    (chooses_default run l.clock.spent scene v rest l.rest.now (statements_of (map statement_of l.default.now)) c.in_default.ensures.cases
    (l.invariant.leads run scene rest (selects_with run c.args.clock.now.spent scene c.args.value v rest (statements_of (map statement_of c.args.all.now)) same h)))
