use Rattle.asm.proofs.Ends.{ends}
use Rattle.asm.proofs.laws.ends_after_longest.Goals as goal

pub returns : goal.returns
returns c = ends
