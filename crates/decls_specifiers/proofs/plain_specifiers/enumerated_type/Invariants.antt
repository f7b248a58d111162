use Rattle.std.proofs.Common.{◌≡◌, drop}
use Rattle.typing_spec.specs.Scope.{Scope}
use Rattle.typing_spec.specs.Declarations as typed
use Rattle.decls_specifiers.proofs.Lists.{base_with}
use Rattle.decls_specifiers.proofs.plain_specifiers.enumerated_type.Given as goal

abbrev pub invariant-loop-specifier : goal.invariant-loop-specifier
invariant-loop-specifier l = (s : Scope) → base_with s l.pos l.constant (drop l.specifier-index l.specifiers) ≡ typed.base_in s l.pos 1 l.specifiers
