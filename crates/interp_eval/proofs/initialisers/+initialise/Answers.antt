use Rattle.std.proofs.Common.{rules, arith, ◌≡◌, ◌≤◌, ◌-◌, ap, ◌∙◌, length}
use Rattle.typed_ast.specs.View.{program_of}
use Rattle.csem.specs.Store.{into}
use Rattle.csem.specs.Statements.{first_length, inner_lengths}
use Rattle.interp_store.specs.View.{reference_of}
use Rattle.interp_eval.specs.layer.Comes.{nothing}
use Rattle.interp_eval.proofs.Comings.{after_tick, no_tick, gone_none}
use Rattle.interp_eval.proofs.Firsts.{these, part_first, parts_left, parts_at, parts_end, clears_at, one_fewer, work_more, quick_first, quick_more}
use Rattle.interp_eval.proofs.initialisers.+initialise.Goals as goal

pub list-returns-then-not-tick-clause-does : goal.list-returns-then-not-tick-clause-does
list-returns-then-not-tick-clause-does t c = λ run rest h.
    no_tick run c.args.scope.now.limit c.args.clock.now.spent c.tick.new.self c.args.scene.now _ rest c.tick.result c.if-not-tick.true c.tick.ensures.idle c.tick.ensures.same h

pub list-returns-then-not-tick-clause-here : goal.list-returns-then-not-tick-clause-here
list-returns-then-not-tick-clause-here t c = λ q none. c.tick.ensures.here c.if-not-tick.true

pub list-returns-clause-does : goal.list-returns-clause-does
list-returns-clause-does t c = λ run rest h.
    c.parts.ensures.does run rest (after_tick run c.args.clock.now.spent c.tick.new.self.spent c.args.scene.now _ rest c.tick.result c.if-not-tick.false c.tick.ensures.taken h)

pub in_braces-returns-then-not-tick-clause-does : goal.in_braces-returns-then-not-tick-clause-does
in_braces-returns-then-not-tick-clause-does t c = λ run rest h.
    no_tick run c.args.scope.now.limit c.args.clock.now.spent c.tick.new.self c.args.scene.now _ rest c.tick.result c.if-not-tick.true c.tick.ensures.idle c.tick.ensures.same h

pub in_braces-returns-then-not-tick-clause-here : goal.in_braces-returns-then-not-tick-clause-here
in_braces-returns-then-not-tick-clause-here t c = λ q none. c.tick.ensures.here c.if-not-tick.true

pub in_braces-returns-clause-does : goal.in_braces-returns-clause-does
in_braces-returns-clause-does t c = λ run rest h.
    c.initialise.ensures.does run rest (after_tick run c.args.clock.now.spent c.tick.new.self.spent c.args.scene.now _ rest c.tick.result c.if-not-tick.false c.tick.ensures.taken h)

pub parts-loop-x-init : goal.parts-loop-x-init
parts-loop-x-init t c =
    let l = length c.args.all.now in
    let none : 0 ≡ l - l = omega arith in
    let all : first_length c.args.of.lengths.now ≡ first_length c.args.of.lengths.now - (l - l) = omega arith in
    record {
      spends = (omega arith, c.requires.room);
      below = omega arith;
      fewer = omega arith;
      here = λ q. q;
      leads = λ run rest h. parts_at run c.args.clock.now.spent c.args.scene.now (program_of c.args.scope.now.program.now) c.args.of.ty (reference_of c.args.r.now) rest
          (these c.args.all.now) _ _ _ _ (inner_lengths c.args.of.lengths.now) all none h;
    }

pub parts-returns-in_default-initialise-clause-does : goal.parts-returns-in_default-initialise-clause-does
parts-returns-in_default-initialise-clause-does t c = λ run rest h.
    let l = c.loop-x in
    let p = program_of c.args.scope.now.program.now in
    let number = ap (into (reference_of c.args.r.now)) (search (rules)) in
    gone_none nothing run c.args.scope.now.limit l.clock.spent l.scene _ _ rest c.initialise.result c.initialise.new.clock c.initialise.new.scene c.in_default-initialise.is (c.initialise.ensures.does run)
    (part_first run l.clock.spent (first_length c.args.of.lengths.now) l.scene p c.args.of.ty (reference_of c.args.r.now) (inner_lengths c.args.of.lengths.now) rest
    c.args.all.now l.rest.now c.in-Some.x.now c.in-Some.more.now c.in-Some.ensures.cases.0 (l.invariant.leads run rest h)
    c.inner_of.result.now (reference_of c.in-Ok.to) c.inner_of.ensures (c.in-Ok.ensures.ok ∙ number))

pub parts-returns-in_default-initialise-clause-here : goal.parts-returns-in_default-initialise-clause-here
parts-returns-in_default-initialise-clause-here t c = λ q none.
    c.initialise.ensures.here (quick_first c.loop-x.rest.now c.in-Some.x.now c.in-Some.more.now c.in-Some.ensures.cases.0 (c.loop-x.invariant.here q)) c.in_default-initialise.is

pub parts-loop-x-preserved : goal.parts-loop-x-preserved
parts-loop-x-preserved t c =
    let l = c.loop-x in
    let p = program_of c.args.scope.now.program.now in
    let spent : c.args.clock.now.spent ≤ c.initialise.new.clock.spent = omega (arith, l.invariant.spends.0, c.initialise.ensures.spends.0) in
    let number = ap (into (reference_of c.args.r.now)) (search (rules)) in
    record {
      spends = (spent, c.initialise.ensures.spends.1);
      below = work_more l.rest.now c.in-Some.x.now c.in-Some.more.now c.in-Some.ensures.cases.0 _ l.invariant.below;
      fewer = one_fewer l.rest.now c.in-Some.x.now c.in-Some.more.now c.in-Some.ensures.cases.0 _ l.invariant.fewer;
      here = λ q. quick_more l.rest.now c.in-Some.x.now c.in-Some.more.now c.in-Some.ensures.cases.0 (l.invariant.here q);
      leads = λ run rest h. parts_left run l.clock.spent (first_length c.args.of.lengths.now) l.scene p c.args.of.ty (reference_of c.args.r.now) (inner_lengths c.args.of.lengths.now) rest
          c.args.all.now l.rest.now c.in-Some.x.now c.in-Some.more.now c.in-Some.ensures.cases.0 (l.invariant.leads run rest h)
          c.inner_of.result.now (reference_of c.in-Ok.to) c.inner_of.ensures (c.in-Ok.ensures.ok ∙ number)
          l.invariant.fewer c.args.scope.now.limit c.initialise.result c.in-Some-initialise.field-0 c.initialise.new.clock c.initialise.new.scene c.in-Some-initialise.is (c.initialise.ensures.does run);
    }

pub parts-loop-x-preserved-in-Some-initialise : goal.parts-loop-x-preserved-in-Some-initialise
parts-loop-x-preserved-in-Some-initialise t c =
    let l = c.loop-x in
    let p = program_of c.args.scope.now.program.now in
    let spent : c.args.clock.now.spent ≤ c.initialise.new.clock.spent = omega (arith, l.invariant.spends.0, c.initialise.ensures.spends.0) in
    let number = ap (into (reference_of c.args.r.now)) (search (rules)) in
    record {
      spends = (spent, c.initialise.ensures.spends.1);
      below = work_more l.rest.now c.in-Some.x.now c.in-Some.more.now c.in-Some.ensures.cases.0 _ l.invariant.below;
      fewer = one_fewer l.rest.now c.in-Some.x.now c.in-Some.more.now c.in-Some.ensures.cases.0 _ l.invariant.fewer;
      here = λ q. quick_more l.rest.now c.in-Some.x.now c.in-Some.more.now c.in-Some.ensures.cases.0 (l.invariant.here q);
      leads = λ run rest h. parts_left run l.clock.spent (first_length c.args.of.lengths.now) l.scene p c.args.of.ty (reference_of c.args.r.now) (inner_lengths c.args.of.lengths.now) rest
          c.args.all.now l.rest.now c.in-Some.x.now c.in-Some.more.now c.in-Some.ensures.cases.0 (l.invariant.leads run rest h)
          c.inner_of.result.now (reference_of c.in-Ok.to) c.inner_of.ensures (c.in-Ok.ensures.ok ∙ number)
          l.invariant.fewer c.args.scope.now.limit c.initialise.result c.in-Some-initialise.field-0 c.initialise.new.clock c.initialise.new.scene c.in-Some-initialise.is (c.initialise.ensures.does run);
    }

pub parts-returns-clause-does : goal.parts-returns-clause-does
parts-returns-clause-does t c = λ run rest h.
    let l = c.loop-x in
    let none = c.in_default.ensures.cases in
    let all = length c.args.all.now in
    let k = first_length c.args.of.lengths.now in
    let left : k - (all - length l.rest.now) ≡ k - all = omega (arith, none) in
    let number : all - length l.rest.now ≡ all = omega (arith, none) in
    c.zeros.ensures.does run rest (clears_at run l.clock.spent l.scene (reference_of c.args.r.now) rest _ _ _ _ (inner_lengths c.args.of.lengths.now) left number
    (parts_end run l.clock.spent l.scene (program_of c.args.scope.now.program.now) c.args.of.ty (reference_of c.args.r.now) rest _ _ (inner_lengths c.args.of.lengths.now) l.rest.now none
    (l.invariant.leads run rest h)))
