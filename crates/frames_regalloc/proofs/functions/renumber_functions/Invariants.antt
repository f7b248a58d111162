use Rattle.std.proofs.Common.{List, ◌++◌, map}
use Rattle.frames_code.specs.Code.{Function, function_of}
use Rattle.frames_regalloc.specs.Renumbered.{AreRenumbered}
use Rattle.frames_regalloc.proofs.functions.renumber_functions.Given as goal

abbrev pub invariant-loop-function : goal.invariant-loop-function
invariant-loop-function l =
    (more : List Function) → AreRenumbered (map function_of l.function-iterator.rest.items) more → AreRenumbered (map function_of l.fn.functions.items) (map function_of l.list.items ++ more)
