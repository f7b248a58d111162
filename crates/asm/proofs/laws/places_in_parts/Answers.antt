use Rattle.asm.proofs.Parts as parts
use Rattle.asm.proofs.laws.places_in_parts.Goals as goal

pub returns : goal.returns
returns c = parts.places_in_parts
