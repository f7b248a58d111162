use Rattle.std.proofs.Common.{◌∙◌}
use Rattle.typing_units.proofs.Readings.{no_parameters}
use Rattle.typing_units.proofs.entries.is_without_parameters.Goals as goal

pub returns : goal.returns
returns c = c.is_empty.ensures ∙ no_parameters c.args.parameters.now
