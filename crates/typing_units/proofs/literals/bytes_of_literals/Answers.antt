use Rattle.std.proofs.Common.{List, ℕ, get_or, refl}
use Rattle.std.proofs.lemmas.List.{get_or_default}
use Rattle.typing_units.proofs.Sums.{capped32_none}
use Rattle.typing_scopes.specs.Scopes.{with_texts}
use Rattle.typing_spec.specs.Units.{bytes_of_literals, literals_of}
use Rattle.typing_units.specs.inside.Parts.{literal_bytes}
use Rattle.typing_units.proofs.Sums.{next_sum}
use Rattle.typing_units.proofs.literals.bytes_of_literals.Goals as goal

pub loop-name-init : goal.loop-name-init
loop-name-init c = λ s. capped32_none

pub loop-name-preserved : goal.loop-name-preserved
loop-name-preserved c = λ s.
    next_sum (λ (ns : List ℕ). bytes_of_literals (literals_of (with_texts c.args.names.now s) ns)) (λ (n : ℕ). literal_bytes (with_texts c.args.names.now s) n) refl (λ _ _. refl) c.args.literals.now c.loop-name.name-index
    (get_or c.args.literals.now c.loop-name.name-index 0) c.loop-name-test.true _ _ _ (c.loop-name.invariant s) (get_or_default c.args.literals.now c.loop-name.name-index 0 _ c.loop-name-test.true) (c.literal_size.ensures s)
    c.sum-total.ensures
