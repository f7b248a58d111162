use Rattle.std.proofs.Common.{List, map, refl}
use Rattle.typed_ast.specs.declared.initialisers.Initialiser.{Initialiser}
use Rattle.typed_ast.specs.View.{initialisers_of, initialiser_of}
use Rattle.typing_scopes.specs.Scopes.{static_of}
use Rattle.typing_spec.specs.Uses.{uses_in_initialisers, uses_in_initialiser}
use Rattle.typing_units.proofs.Firsts.{next_use}
use Rattle.typing_units.proofs.value_uses.+uses_of_initialisers.Goals as goal

pub in_initialisers-loop-initialiser-preserved : goal.in_initialisers-loop-initialiser-preserved
in_initialisers-loop-initialiser-preserved t c = next_use (map static_of c.args.statics.now) (λ (xs : List Initialiser). uses_in_initialisers (initialisers_of (map initialiser_of xs))) (λ (x : Initialiser). uses_in_initialiser (initialiser_of x)) refl
    (λ _ _. refl) c.args.initialisers.now c.loop-initialiser.initialiser-index c.initialiser-item.result c.loop-initialiser-test.true _ _ _ c.loop-initialiser.invariant
    c.initialiser-item.is c.in_initialiser.ensures (c.earlier-found.ensures (map static_of c.args.statics.now))
