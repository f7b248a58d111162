use Rattle.std.proofs.Common.{◌≡◌, ◌+◌, ◌≤◌, map, length}
use Rattle.typed_ast.specs.View.{initialiser_of, initialisers_of}
use Rattle.interp_eval.specs.layer.Quick.{quick_initialisers}
use Rattle.interp_eval.proofs.Work.{work_initialiser, work_initialisers}
use Rattle.interp_eval.proofs.quick.+quick_initialisers.Given as goal

abbrev pub decreases-are_quick_parts : goal.decreases-are_quick_parts
decreases-are_quick_parts l = work_initialisers (initialisers_of (map initialiser_of l.all.now)) + 1

abbrev pub decreases-is_quick_initialiser : goal.decreases-is_quick_initialiser
decreases-is_quick_initialiser l = work_initialiser (initialiser_of l.i.now)

abbrev pub decreases-are_quick_parts-loop-i : goal.decreases-are_quick_parts-loop-i
decreases-are_quick_parts-loop-i l = length l.rest

abbrev pub invariant-are_quick_parts-loop-i : goal.invariant-are_quick_parts-loop-i
invariant-are_quick_parts-loop-i l = record {
  below : work_initialisers (initialisers_of (map initialiser_of l.rest)) ≤ work_initialisers (initialisers_of (map initialiser_of l.all));
  same : quick_initialisers (initialisers_of (map initialiser_of l.rest)) ≡ quick_initialisers (initialisers_of (map initialiser_of l.all));
}
