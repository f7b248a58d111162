use Rattle.std.proofs.Common.{length}
use Rattle.pp_expand.proofs.turns.take_turn.Goals as goal

pub returns-in-Defined-clause-names : goal.returns-in-Defined-clause-names
returns-in-Defined-clause-names c =
    λ below. c.macro_turn.ensures.names (length c.args.names.now) c.in-Defined.ensures.below below
