use Rattle.lower_exprs.proofs.Behind.{calls_where}
use Rattle.lower_exprs.proofs.ends.Ends.call.Goals as goal

pub returns : goal.returns
returns c = λ arguments are. calls_where c.args.self.calling arguments are.0
