use Rattle.std.proofs.Common.{ap, ◌∙◌}
use Rattle.frames_opt.specs.inside.Sweep.{are_right}
use Rattle.frames_opt.proofs.Positions.{none_right}
use Rattle.frames_opt.proofs.analysis.states_of.Goals as goal

pub returns-else-are_right : goal.returns-else-are_right
returns-else-are_right c = ap (λ m. are_right c.args.room m c.args.list.now 0 c.args.code.now) c.new.ensures.items ∙ none_right c.args.room c.args.list.now 0 c.args.code.now
