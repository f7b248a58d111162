use Rattle.std.proofs.Common.{◌≡◌, map, length}
use Rattle.typed_ast.specs.View.{object_type_of, program_of, statement_of, statements_of}
use Rattle.interp_store.specs.layer.Agrees.{frames_of}
use Rattle.interp_store.specs.layer.Steps.{started}
use Rattle.interp_eval.specs.layer.Comes.{Course, Spends}
use Rattle.cabs.specs.inside.Sweeping.{After}
use Rattle.cabs.proofs.opening.sequence.Given as goal

abbrev pub invariant-loop-a : goal.invariant-loop-a
invariant-loop-a l = record {
  program : l.machine.program ≡ l.initial.machine.program;
  spends : Spends l.initial.clock.spent l.clock.spent l.limit;
  does : (c : Course) →
      let p = program_of l.initial.machine.program.now in
      After c p l.initial.clock.spent (frames_of l.initial.machine) l.initial.machine.scene (λ s. started (map object_type_of l.objects) (statements_of (map statement_of l.all)) s) →
      After c p l.clock.spent (frames_of l.machine) l.machine.scene (λ s. started (map object_type_of l.objects) (statements_of (map statement_of l.rest)) s);
}

abbrev pub decreases-loop-a : goal.decreases-loop-a
decreases-loop-a l = length l.rest
