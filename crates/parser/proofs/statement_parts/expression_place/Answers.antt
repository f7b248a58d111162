use Rattle.std.proofs.Common.{refl}
use Rattle.parser.proofs.StmtAct.{starts_front}
use Rattle.parser.proofs.statement_parts.expression_place.Goals as goal

pub returns-then-begins_expression : goal.returns-then-begins_expression
returns-then-begins_expression c = (c.if-begins_expression.ensures.0 refl, starts_front _ _ (c.if-begins_expression.ensures.0 refl))
