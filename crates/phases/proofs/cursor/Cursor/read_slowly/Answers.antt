use Rattle.phases.proofs.ReadingLemmas.{read_after}
use Rattle.phases.proofs.cursor.Cursor.read_slowly.Goals as goal

pub returns : goal.returns
returns c = read_after c.args.self c.past_splices.result c.mapped.result c.past_splices.ensures.skips c.past_splices.ensures.past c.mapped.ensures
