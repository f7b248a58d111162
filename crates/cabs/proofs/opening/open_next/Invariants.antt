use Rattle.std.proofs.Common.{◌≡◌, ◌-◌}
use Rattle.typed_ast.specs.View.{program_of}
use Rattle.interp_store.specs.layer.Agrees.{frames_of}
use Rattle.interp_store.specs.layer.Views.{step_of}
use Rattle.interp_eval.specs.layer.Comes.{Course, Spends}
use Rattle.cabs.specs.inside.Sweeping.{After, steps_to}
use Rattle.cabs.proofs.opening.open_next.Given as goal

abbrev pub invariant-loop-next : goal.invariant-loop-next
invariant-loop-next l = record {
  program : l.machine.program ≡ l.initial.machine.program;
  spends : Spends l.initial.clock.spent l.clock.spent l.limit;
  does : (c : Course) →
      let p = program_of l.initial.machine.program.now in
      After c p l.initial.clock.spent (frames_of l.initial.machine) l.initial.machine.scene (λ s. steps_to (step_of l.initial.next) s) →
      After c p l.clock.spent (frames_of l.machine) l.machine.scene (λ s. steps_to (step_of l.next) s);
}

abbrev pub decreases-loop-next : goal.decreases-loop-next
decreases-loop-next l = l.limit - l.clock.spent
