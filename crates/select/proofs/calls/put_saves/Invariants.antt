use Rattle.std.proofs.Common.{◌≡◌, ◌++◌}
use Rattle.frames_code.specs.Code.{function_of}
use Rattle.select.specs.Selected.{saves}
use Rattle.select.proofs.calls.put_saves.Given as goal

abbrev pub invariant-loop-number : goal.invariant-loop-number
invariant-loop-number l = l.items.items ≡ l.initial.items.items ++ saves (function_of l.function) l.number
