use Rattle.std.proofs.Common.{◌≡◌, drop}
use Rattle.typing_spec.specs.Scope.{with_literals}
use Rattle.decls_declarators.proofs.Strings.{left_of}
use Rattle.decls_declarators.proofs.literals.+literals.Given as goal

abbrev pub invariant-all_past-loop-e : goal.invariant-all_past-loop-e
invariant-all_past-loop-e l = with_literals l.scope (left_of (drop l.e-index l.es)) ≡ with_literals l.initial.scope (left_of l.es)
