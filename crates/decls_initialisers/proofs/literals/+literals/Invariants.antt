use Rattle.std.proofs.Common.{◌≡◌, drop}
use Rattle.typing_spec.specs.Scope.{with_literals}
use Rattle.decls_initialisers.proofs.Strings.{left_of}
use Rattle.decls_initialisers.proofs.literals.+literals.Given as goal

abbrev pub invariant-all_past-loop-part : goal.invariant-all_past-loop-part
invariant-all_past-loop-part l = with_literals l.scope (left_of (drop l.part-index l.parts)) ≡ with_literals l.initial.scope (left_of l.parts)
