use Rattle.std.proofs.Common.{◌≡◌, ℕ, List, map, take}
use Rattle.macros.specs.Definition.{with_variable}
use Rattle.macros.specs.Table.{AreNumbered, with_parameter}
use Rattle.macros.proofs.reading.body_of.Given as goal

abbrev pub invariant-loop-token : goal.invariant-loop-token
invariant-loop-token l =
    (texts : List (List ℕ)) → AreNumbered l.names l.parameters.keys texts → l.body.items ≡ map (with_parameter (with_variable l.variadic texts)) (take l.token-index l.tokens)
