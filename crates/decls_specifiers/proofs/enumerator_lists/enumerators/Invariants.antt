use Rattle.std.proofs.Common.{◌≡◌, pos, map, drop}
use Rattle.tree.specs.View.{enumerator_of}
use Rattle.typing_spec.specs.Declarations as typed
use Rattle.typing_scopes.specs.Scopes.{with_texts}
use Rattle.decls_specifiers.proofs.enumerator_lists.enumerators.Given as goal

abbrev pub invariant-loop-enumerator : goal.invariant-loop-enumerator
invariant-loop-enumerator l =
    typed.enumerators (with_texts l.names l.scope) l.next (map enumerator_of (drop l.enumerator-index l.list)) ≡ typed.enumerators (with_texts l.names l.initial.scope) (pos 0) (map enumerator_of l.list)
