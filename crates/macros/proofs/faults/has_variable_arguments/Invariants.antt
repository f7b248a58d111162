use Rattle.std.proofs.Common.{◌≡◌, ◌||◌, drop}
use Rattle.std.specs.List.{list_any}
use Rattle.macros.specs.inside.Faults.{is_replaced}
use Rattle.macros.proofs.faults.has_variable_arguments.Given as goal

abbrev pub invariant-loop-x : goal.invariant-loop-x
invariant-loop-x l = list_any is_replaced l.body ≡ l.any || list_any is_replaced (drop l.x-index l.body)
