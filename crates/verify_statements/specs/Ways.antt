-- What the code's values stand for.
use Rattle.verify_logic.specs.Statements.{Ways}
use Rattle.verify_expressions.specs.Views.{state_of}
use Rattle.verify_statements.specs.declared.ways.Left.{Left}

abbrev pub ways_of : Left → Ways
ways_of l = record { normal = state_of l.normal; broken = state_of l.broken; continued = state_of l.continued; returned = state_of l.returned; value = l.value }
