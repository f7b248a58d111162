use Rattle.std.proofs.Common.{◌≡◌, ◌||◌, drop}
use Rattle.std.specs.List.{list_any}
use Rattle.macros.specs.inside.Faults.{is_number_reserved}
use Rattle.macros.proofs.faults.is_one_reserved.Given as goal

abbrev pub invariant-loop-number : goal.invariant-loop-number
invariant-loop-number l = list_any (is_number_reserved l.names) l.numbers ≡ l.any || list_any (is_number_reserved l.names) (drop l.number-index l.numbers)
