use Rattle.typing_units.proofs.Bytes.{capped32_product}
use Rattle.typing_units.proofs.sizes.product.Goals as goal

pub returns : goal.returns
returns c = λ x y e f. capped32_product _ _ _ x y c.saturating_mul.ensures e f
