use Rattle.verify_statements.proofs.Switches.{default_there}
use Rattle.verify_statements.proofs.labels.any_default.Goals as goal

pub returns-then-found : goal.returns-then-found
returns-then-found c = λ t. default_there c.args.all.now c.loop-n.n c.index-all-n.result _ c.loop-n-test.true c.index-all-n.is c.is_default-found.ensures c.if-found.true
