use Rattle.verify_expressions.proofs.Steps.{literal_named, static_named}
use Rattle.verify_expressions.proofs.places.object.Goals as goal

pub returns-in-Literal : goal.returns-in-Literal
returns-in-Literal c = literal_named _ _ _ c.in-Literal.is

pub returns-in-Static : goal.returns-in-Static
returns-in-Static c = static_named _ _ _ _ c.add_usize.result c.in-Static.is c.literal_count.ensures c.add_usize.ensures
