use Rattle.std.proofs.Common.{◌≡◌, sym, subst}
use Rattle.phases.specs.inside.Along.{longer}
use Rattle.phases.specs.inside.Pieces.{comment_len}
use Rattle.phases.specs.inside.Reading.{bytes_at}
use Rattle.phases.proofs.RunLemmas.{comment_pass}
use Rattle.phases.proofs.cursor.Cursor.within_comment.Goals as goal

pub returns-clause-left : goal.returns-clause-left
returns-clause-left c =
    subst (λ k. comment_len k (bytes_at c.args.self) ≡ longer c.ordinary.result.count (comment_len k (bytes_at c.ordinary.result.after))) (sym c.if-star.false) (comment_pass c.args.self c.ordinary.result c.ordinary.ensures)
