use Rattle.std.proofs.Common.{◌≡◌, ◌+◌, ◌-◌, ◌≤◌, map, length}
use Rattle.std.specs.Prelude.{true}
use Rattle.typed_ast.specs.View.{initialiser_of, initialisers_of, program_of}
use Rattle.csem.specs.Machine.{State, Run}
use Rattle.csem.specs.Statements.{first_length, inner_lengths}
use Rattle.interp_store.specs.View.{reference_of}
use Rattle.interp_store.specs.layer.Frames.{Found}
use Rattle.interp_eval.specs.layer.Comes.{Course, Leads, Spends, all_initialised}
use Rattle.interp_eval.specs.layer.Quick.{quick_initialisers}
use Rattle.interp_eval.proofs.Work.{work_initialiser, work_initialisers}
use Rattle.interp_eval.proofs.initialisers.+initialise.Given as goal

abbrev pub decreases-initialise : goal.decreases-initialise
decreases-initialise l = work_initialiser (initialiser_of l.i.now)

abbrev pub decreases-in_braces : goal.decreases-in_braces
decreases-in_braces l = work_initialiser (initialiser_of l.i.now) + 2

abbrev pub decreases-list : goal.decreases-list
decreases-list l = work_initialisers (initialisers_of (map initialiser_of l.all.now)) + 2

abbrev pub decreases-parts : goal.decreases-parts
decreases-parts l = work_initialisers (initialisers_of (map initialiser_of l.all.now)) + 1

abbrev pub decreases-parts-loop-x : goal.decreases-parts-loop-x
decreases-parts-loop-x l = length l.rest

abbrev pub invariant-parts-loop-x : goal.invariant-parts-loop-x
invariant-parts-loop-x l = record {
  spends : Spends l.initial.clock.spent l.clock.spent l.scope.limit;
  below : work_initialisers (initialisers_of (map initialiser_of l.rest)) ≤ work_initialisers (initialisers_of (map initialiser_of l.all));
  fewer : length l.rest ≤ length l.all;
  here : quick_initialisers (initialisers_of (map initialiser_of l.all)) ≡ true → quick_initialisers (initialisers_of (map initialiser_of l.rest)) ≡ true;
  leads : (c : Course) (rest : Unit {0} → State → Run Found) →
      Leads c l.initial.clock.spent l.initial.scene (all_initialised (initialisers_of (map initialiser_of l.all)) l.of.ty (first_length l.of.lengths.now) 0
      (inner_lengths l.of.lengths.now) (reference_of l.r) (program_of l.scope.program.now)) rest →
      Leads c l.clock.spent l.scene (all_initialised (initialisers_of (map initialiser_of l.rest)) l.of.ty (first_length l.of.lengths.now - (length l.all - length l.rest))
      (length l.all - length l.rest) (inner_lengths l.of.lengths.now) (reference_of l.r) (program_of l.scope.program.now)) rest;
}
