use Rattle.std.proofs.Common.{sym, ◌∙◌}
use Rattle.lexer.proofs.CarryLemmas.{string_refused}
use Rattle.lexer.proofs.lexing.Stored.take.Goals as goal

pub returns-then-is_string-clause-err : goal.returns-then-is_string-clause-err
returns-then-is_string-clause-err c =
    string_refused c.args.token.now c.kind.result c.pos.result c.spelling.result.now c.kind.ensures (sym c.is_string.ensures ∙ c.if-is_string.true) c.pos.ensures c.spelling.ensures c.take_string.result c.take_string.ensures.err
