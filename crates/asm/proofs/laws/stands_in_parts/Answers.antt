use Rattle.asm.proofs.Standing.{in_parts}
use Rattle.asm.proofs.laws.stands_in_parts.Goals as goal

pub returns : goal.returns
returns c = in_parts
