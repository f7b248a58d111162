use Rattle.std.proofs.Common.{rules, append_assoc}
use Rattle.asm.proofs.listing.put_line.Goals as goal

pub returns : goal.returns
returns c = search (rules, append_assoc)
