use Rattle.std.proofs.Common.{ℕ, ◌+◌, ◌<◌, ◌^◌, sym, subst, arith}
use Rattle.typing_spec.specs.Types.{elements_in}
use Rattle.typed_ast.specs.View.{object_type_of}
use Rattle.tac.proofs.SizedObjects.{has_elements, has_few}
use Rattle.tac.proofs.initialisers.put_object.Goals as goal

pub put_fills-requires-clause-some : goal.put_fills-requires-clause-some
put_fills-requires-clause-some c = subst (λ l. 0 < elements_in l) (sym c.deref.ensures.value) (has_elements (object_type_of c.args.found.now) c.requires)

pub put_fills-requires-clause-small : goal.put_fills-requires-clause-small
put_fills-requires-clause-small c =
    from_first (elements_in c.deref.result.now) (subst (λ l. elements_in l < 2 ^ 32) (sym c.deref.ensures.value) (has_few (object_type_of c.args.found.now) c.requires))
  where
    from_first : (n : ℕ) → n < 2 ^ 32 → 0 + n < 2 ^ 32
    from_first n h = omega (arith, h)
