use Rattle.std.proofs.Common.{◌≡◌, ◌++◌}
use Rattle.frames_code.specs.Code.{function_of}
use Rattle.select.specs.Selected.{restores}
use Rattle.select.proofs.calls.put_restores.Given as goal

abbrev pub invariant-loop-number : goal.invariant-loop-number
invariant-loop-number l = l.items.items ≡ l.initial.items.items ++ restores (function_of l.function) l.number
