use Rattle.phases.proofs.PunctuatorLemmas.{no_pair}
use Rattle.phases.proofs.punctuators.is_pair.Goals as goal

pub returns-else-is_second : goal.returns-else-is_second
returns-else-is_second c =
    no_pair c.args.first c.args.second c.is_second.result c.is_second.ensures c.if-is_second.false
