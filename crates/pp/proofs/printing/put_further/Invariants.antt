use Rattle.std.proofs.Common.{◌≡◌, ◌++◌, take}
use Rattle.std.specs.List.{flat_map}
use Rattle.pp.specs.Printed.{behind_space}
use Rattle.pp.proofs.printing.put_further.Given as goal

abbrev pub invariant-loop-token : goal.invariant-loop-token
invariant-loop-token l = l.text.items ≡ l.initial.text.items ++ flat_map behind_space (take l.token-index l.further)
