use Rattle.std.proofs.Common.{◌≡◌, map, take}
use Rattle.typed_ast.specs.View.{initialisers_of, initialiser_of}
use Rattle.typing_scopes.specs.Scopes.{static_of}
use Rattle.typing_spec.specs.Uses.{uses_in_initialisers}
use Rattle.typing_units.specs.inside.Undefined.{undefined_in}
use Rattle.typing_units.proofs.value_uses.+uses_of_initialisers.Given as goal

abbrev pub invariant-in_initialisers-loop-initialiser : goal.invariant-in_initialisers-loop-initialiser
invariant-in_initialisers-loop-initialiser l = l.found ≡ undefined_in (map static_of l.statics) (uses_in_initialisers (initialisers_of (map initialiser_of (take l.initialiser-index l.initialisers))))
