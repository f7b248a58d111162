use Rattle.std.proofs.Common.{length, ap}
use Rattle.typing_units.proofs.literals.literal_length.Goals as goal

pub returns : goal.returns
returns c = λ s. ap (λ l. length l) (c.characters.ensures s)
