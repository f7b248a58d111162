use Rattle.phases.proofs.RunLemmas.{sure_step}
use Rattle.phases.proofs.cursor.Cursor.read.Goals as goal

pub returns-in-Some : goal.returns-in-Some
returns-in-Some c = sure_step c.args.self c.in-Some.step c.in-Some.ensures
