use Rattle.phases.proofs.PieceLemmas.{no_header}
use Rattle.phases.proofs.cursor.Cursor.header_or_token.Goals as goal

pub returns-in_default : goal.returns-in_default
returns-in_default c =
    no_header c.args.self _ _ c.plain_token-token.result c.in_default.ensures c.plain_token-token.ensures
