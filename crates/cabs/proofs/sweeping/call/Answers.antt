use Rattle.std.proofs.Common.{◌∙◌, ◌++◌, ◌∷◌, [], List, Bor, ap, arith, map, sym}
use Rattle.std.proofs.lemmas.List.{map-append}
use Rattle.typed_ast.specs.declared.expressions.Argument.{Argument}
use Rattle.typed_ast.specs.declared.units.Program as unit
use Rattle.typed_ast.specs.View.{argument_of, arguments_of, callee_of, program_of}
use Rattle.csem.specs.Expressions as meaning
use Rattle.csem.specs.Machine.{State}
use Rattle.interp_store.specs.layer.Agrees.{frames_of}
use Rattle.interp_store.specs.layer.Frames.{Moved}
use Rattle.interp_store.specs.layer.Steps.{asked_for}
use Rattle.interp_store.specs.layer.Views.{passed_of, step_of}
use Rattle.cabs.specs.inside.Sweeping.{steps_to}
use Rattle.cabs.proofs.Sweeps.{after_as, asked_head, asked_none, asked_some, asks_with, no_items, on_with}
use Rattle.cabs.proofs.sweeping.call.Goals as goal

pub returns-then-not-is_quick_argument-clause-does : goal.returns-then-not-is_quick_argument-clause-does
returns-then-not-is_quick_argument-clause-does c = λ run h.
    let p = program_of c.args.machine.now.program.now in
    let a = c.args.asked in
    let l = c.loop-argument in
    on_with (λ x. steps_to (step_of x)) c.args.limit (λ p s. asked_for a.at (callee_of a.callee) a.used (arguments_of (map argument_of l.rest.now)) (map passed_of l.done.items) s) run p l.machine c.ask_slowly.new.machine l.clock
    c.ask_slowly.new.clock c.ask_slowly.result (ap (λ (b : Bor unit.Program). program_of b.now) l.invariant.program) (c.ask_slowly.ensures.does c.args.limit) (l.invariant.does run h)

pub returns-in_default-argument_here-clause-does : goal.returns-in_default-argument_here-clause-does
returns-in_default-argument_here-clause-does c = λ run h.
    let p = program_of c.args.machine.now.program.now in
    let a = c.args.asked in
    let l = c.loop-argument in
    let x = c.in-Some.argument.now in
    let more = c.in-Some.more.now in
    let done = map passed_of l.done.items in
    asked_none run p a.at (callee_of a.callee) a.used (map argument_of more) done c.args.limit c.argument_here.result c.argument_here.new.clock c.argument_here.new.machine c.in_default-argument_here.is
    (asks_with run p a.at (callee_of a.callee) a.used c.args.limit (argument_of x) l.machine c.argument_here.new.machine l.clock c.argument_here.new.clock c.argument_here.result
    (ap (λ (b : Bor unit.Program). program_of b.now) l.invariant.program) c.argument_here.ensures.does (map argument_of more) done
    (asked_head run p a.at (callee_of a.callee) a.used l.clock.spent (frames_of l.machine) l.machine.scene l.rest.now x more done c.in-Some.ensures.cases.0 (l.invariant.does run h)))

pub returns-in-Err-clause-does : goal.returns-in-Err-clause-does
returns-in-Err-clause-does c = λ run h. tt

pub returns-clause-does : goal.returns-clause-does
returns-clause-does c = λ run h.
    let a = c.args.asked in
    let l = c.loop-argument in
    after_as run (program_of c.args.machine.now.program.now) l.clock.spent (frames_of l.machine) l.machine.scene
    (λ s. asked_for a.at (callee_of a.callee) a.used (arguments_of (map argument_of l.rest.now)) (map passed_of l.done.items) s) (λ s. asked_for a.at (callee_of a.callee) a.used (arguments_of []) (map passed_of l.done.items) s)
    (λ s. ap (λ (xs : List Argument). asked_for a.at (callee_of a.callee) a.used (arguments_of (map argument_of xs)) (map passed_of l.done.items) s) (no_items l.rest.now (c.in_default.ensures.cases)))
    (l.invariant.does run h)

pub loop-argument-preserved : goal.loop-argument-preserved
loop-argument-preserved c =
    let p = program_of c.args.machine.now.program.now in
    let a = c.args.asked in
    let l = c.loop-argument in
    let x = c.in-Some.argument.now in
    let more = c.in-Some.more.now in
    let done = map passed_of l.done.items in
    let new = c.argument_here.new.machine in
    let asks : List meaning.Passed → State → Moved = λ done s. asked_for a.at (callee_of a.callee) a.used (arguments_of (map argument_of more)) done s in
    record {
      program = c.argument_here.ensures.program ∙ l.invariant.program;
      spends = (omega (arith, l.invariant.spends.0, c.argument_here.ensures.spends.0), c.argument_here.ensures.spends.1);
      does = λ run h.
          after_as run p c.argument_here.new.clock.spent (frames_of new) new.scene (asks (done ++ passed_of c.in-Some-argument_here.passed ∷ [])) (asks (map passed_of c.push.new.self.items))
          (λ s. ap (λ done. asks done s) (sym (ap (map passed_of) c.in-Ok.ensures.items ∙ map-append _ _ _)))
          (asked_some run p a.at (callee_of a.callee) a.used (map argument_of more) done c.args.limit c.argument_here.result c.in-Some-argument_here.passed c.argument_here.new.clock new c.in-Some-argument_here.is
          (asks_with run p a.at (callee_of a.callee) a.used c.args.limit (argument_of x) l.machine new l.clock c.argument_here.new.clock c.argument_here.result
          (ap (λ (b : Bor unit.Program). program_of b.now) l.invariant.program) c.argument_here.ensures.does (map argument_of more) done
          (asked_head run p a.at (callee_of a.callee) a.used l.clock.spent (frames_of l.machine) l.machine.scene l.rest.now x more done c.in-Some.ensures.cases.0 (l.invariant.does run h))));
    }
