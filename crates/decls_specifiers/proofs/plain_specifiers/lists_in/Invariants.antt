use Rattle.std.proofs.Common.{◌≡◌, ◌+◌, ◌≤◌, map, drop}
use Rattle.tree.specs.View.{specifier_of}
use Rattle.typing_spec.specs.Declarations as typed
use Rattle.decls_specifiers.proofs.plain_specifiers.lists_in.Given as goal

abbrev pub invariant-loop-specifier : goal.invariant-loop-specifier
invariant-loop-specifier l = (l.count + typed.lists_in (map specifier_of (drop l.specifier-index l.specifiers)) ≡ typed.lists_in (map specifier_of l.specifiers)) × (l.count ≤ l.specifier-index)
