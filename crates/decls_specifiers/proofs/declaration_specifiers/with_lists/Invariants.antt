use Rattle.std.proofs.Common.{◌≡◌, map, drop}
use Rattle.tree.specs.View.{specifier_of}
use Rattle.typing_spec.specs.Declarations as typed
use Rattle.typing_scopes.specs.Scopes.{with_texts}
use Rattle.decls_specifiers.proofs.declaration_specifiers.with_lists.Given as goal

abbrev pub invariant-loop-specifier : goal.invariant-loop-specifier
invariant-loop-specifier l =
    typed.with_lists (with_texts l.names l.scope) l.pos (map specifier_of (drop l.specifier-index l.specifiers)) ≡ typed.with_lists (with_texts l.names l.initial.scope) l.pos (map specifier_of l.specifiers)
