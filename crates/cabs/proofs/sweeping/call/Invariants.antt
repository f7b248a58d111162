use Rattle.std.proofs.Common.{◌≡◌, map, length}
use Rattle.typed_ast.specs.View.{argument_of, arguments_of, callee_of, program_of}
use Rattle.interp_store.specs.layer.Agrees.{frames_of}
use Rattle.interp_store.specs.layer.Steps.{asked_for}
use Rattle.interp_store.specs.layer.Views.{passed_of}
use Rattle.interp_eval.specs.layer.Comes.{Course, Spends}
use Rattle.cabs.specs.inside.Sweeping.{After}
use Rattle.cabs.proofs.sweeping.call.Given as goal

abbrev pub invariant-loop-argument : goal.invariant-loop-argument
invariant-loop-argument l = record {
  program : l.machine.program ≡ l.initial.machine.program;
  spends : Spends l.initial.clock.spent l.clock.spent l.limit;
  does : (c : Course) →
      let p = program_of l.initial.machine.program.now in
      After c p l.initial.clock.spent (frames_of l.initial.machine) l.initial.machine.scene (λ s. asked_for l.at (callee_of l.callee) l.used (arguments_of (map argument_of l.fn.asked.more.now)) (map passed_of l.initial.done.items) s) →
      After c p l.clock.spent (frames_of l.machine) l.machine.scene (λ s. asked_for l.at (callee_of l.callee) l.used (arguments_of (map argument_of l.rest)) (map passed_of l.done.items) s);
}

abbrev pub decreases-loop-argument : goal.decreases-loop-argument
decreases-loop-argument l = length l.rest
