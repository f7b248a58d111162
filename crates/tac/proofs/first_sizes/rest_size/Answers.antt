use Rattle.std.proofs.Common.{◌-◌, ◌^◌, ◌∙◌, arith}
use Rattle.typing_spec.specs.Types.{elements_in}
use Rattle.tac.proofs.Counted.{clears_counted}
use Rattle.tac.proofs.first_sizes.rest_size.Goals as goal

pub returns : goal.returns
returns c =
    c.clears_size.ensures ∙ clears_counted (2 ^ 64 - 1) (omega arith) c.args.rows c.elements_counted.result c.saturating_mul.result (elements_in c.args.lengths.now) c.saturating_mul.ensures c.elements_counted.ensures
