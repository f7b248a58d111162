use Rattle.std.proofs.Common.{◌≡◌, drop}
use Rattle.typing_scopes.proofs.scopes.Scope.leave_names.Given as goal

abbrev pub invariant-loop : goal.invariant-loop
invariant-loop l = l.self ≡ record l.initial.self { bindings = drop l.counter l.initial.self.bindings }
