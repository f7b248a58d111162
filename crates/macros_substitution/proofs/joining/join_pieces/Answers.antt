use Rattle.std.proofs.Common.{length}
use Rattle.macros_substitution.proofs.joining.join_pieces.Goals as goal

pub returns-clause-known : goal.returns-clause-known
returns-clause-known c = c.join_placemarker.ensures.known (length c.args.sets.now) c.requires.right
