use Rattle.phases.proofs.PieceLemmas.{line_front}
use Rattle.phases.proofs.cursor.Cursor.front.Goals as goal

pub returns-then-opens : goal.returns-then-opens
returns-then-opens c =
    line_front c.args.self c.args.place c.args.first c.line-rest.result c.requires.step c.if-first-eq10.false (cc) (cc) c.line-rest.ensures
