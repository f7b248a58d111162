use Rattle.frames.proofs.WordsOf.{operations_agree, comparison_is}
use Rattle.frames.proofs.Narrow.{conversions_agree}
use Rattle.frames.proofs.laws.words_agree.Goals as goal

pub returns : goal.returns
returns c = record { operations = operations_agree; comparisons = comparison_is; conversions = conversions_agree }
