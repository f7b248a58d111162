use Rattle.std.proofs.Common.{◌≡◌, ◌++◌, ◌+◌, ◌≤◌, map, length}
use Rattle.typed_ast.specs.View.{initialiser_of, initialisers_of}
use Rattle.verify_stack.specs.Calls.{initialisers_calls}
use Rattle.verify_stack.proofs.Sizes.{initialiser_size, initialisers_size}
use Rattle.verify_stack.proofs.calls.+initialisers.Given as goal

abbrev pub decreases-add_initialiser : goal.decreases-add_initialiser
decreases-add_initialiser l = initialiser_size (initialiser_of l.i.now)

abbrev pub decreases-add_initialisers : goal.decreases-add_initialisers
decreases-add_initialisers l = initialisers_size (initialisers_of (map initialiser_of l.all.now)) + 1

abbrev pub decreases-add_initialisers-loop-i : goal.decreases-add_initialisers-loop-i
decreases-add_initialisers-loop-i l = length l.rest

abbrev pub invariant-add_initialisers-loop-i : goal.invariant-add_initialisers-loop-i
invariant-add_initialisers-loop-i l = record {
  below : initialisers_size (initialisers_of (map initialiser_of l.rest)) ≤ initialisers_size (initialisers_of (map initialiser_of l.all));
  left : l.calls.items ++ initialisers_calls (initialisers_of (map initialiser_of l.rest)) ≡ l.initial.calls.items ++ initialisers_calls (initialisers_of (map initialiser_of l.initial.rest));
}
