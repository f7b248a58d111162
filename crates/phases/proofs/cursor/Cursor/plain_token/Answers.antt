use Rattle.phases.proofs.PieceLemmas.{punctuator_lexeme}
use Rattle.phases.proofs.cursor.Cursor.plain_token.Goals as goal

pub returns-in-Some-punctuator : goal.returns-in-Some-punctuator
returns-in-Some-punctuator c =
    punctuator_lexeme c.args.self c.in-Some-punctuator.span c.in_default.ensures c.in_default-string.ensures c.in_default-name.ensures c.in_default-number.ensures c.in-Some-punctuator.ensures
