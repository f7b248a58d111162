use Rattle.std.proofs.Common.{true, false}
use Rattle.phases.proofs.PieceLemmas.{opened_front}
use Rattle.phases.proofs.cursor.Cursor.comment_front.Goals as goal

pub returns-then-comment : goal.returns-then-comment
returns-then-comment c =
    opened_front c.args.self c.args.first c.ahead-second.result c.comment-comment.result true c.requires.step c.requires.opened c.ahead-second.ensures c.comment-comment.ensures c.if-comment.true

pub returns : goal.returns
returns c =
    opened_front c.args.self c.args.first c.ahead-second.result c.comment-comment.result false c.requires.step c.requires.opened c.ahead-second.ensures c.comment-comment.ensures c.if-comment.false
