use Rattle.std.proofs.Common.{◌≡◌, drop}
use Rattle.typing_spec.specs.Specifiers as typed
use Rattle.const_expr.proofs.specifiers.is_const.Given as goal

abbrev pub invariant-loop-specifier : goal.invariant-loop-specifier
invariant-loop-specifier l = typed.is_const (drop l.specifier-index l.specifiers) ≡ typed.is_const l.specifiers
