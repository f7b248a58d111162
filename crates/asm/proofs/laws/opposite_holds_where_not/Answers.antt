use Rattle.asm.proofs.Opposites.{opposite_is_not}
use Rattle.asm.proofs.laws.opposite_holds_where_not.Goals as goal

pub returns : goal.returns
returns c = opposite_is_not
