use Rattle.std.proofs.Common.{refl}
use Rattle.tree.proofs.Rows.{nested_depth}
use Rattle.tree.proofs.laws.known_counts.Goals as goal

pub returns : goal.returns
returns c = record {
  answer = λ p. record { counted = refl; weighed = refl };
  countdown = λ p. record { counted = refl; weighed = refl };
  padded = λ p. record { counted = refl; weighed = refl };
  nested = nested_depth;
}
