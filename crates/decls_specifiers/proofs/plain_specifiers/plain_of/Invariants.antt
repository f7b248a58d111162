use Rattle.std.proofs.Common.{◌≡◌, ◌++◌, map, drop}
use Rattle.tree.specs.View.{specifier_of}
use Rattle.typing_spec.specs.Declarations as typed
use Rattle.decls_specifiers.proofs.plain_specifiers.plain_of.Given as goal

abbrev pub invariant-loop-specifier : goal.invariant-loop-specifier
invariant-loop-specifier l = l.plain.items ++ typed.plain_of (map specifier_of (drop l.specifier-index l.specifiers)) ≡ typed.plain_of (map specifier_of l.specifiers)
