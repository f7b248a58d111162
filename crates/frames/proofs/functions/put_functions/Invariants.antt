use Rattle.std.proofs.Common.{◌≡◌, ◌++◌, drop, map}
use Rattle.tac_code.specs.Code as three_address
use Rattle.frames_code.specs.Code as flat
use Rattle.frames.specs.Translated.{flat_function}
use Rattle.frames.specs.layer.Alone.{starts_in}
use Rattle.frames.proofs.functions.put_functions.Given as goal

abbrev pub invariant-loop-function : goal.invariant-loop-function
invariant-loop-function l =
    map flat.function_of l.list.items ++ map (flat_function (starts_in l.starts)) (map three_address.function_of (drop l.function-index l.functions)) ≡ map flat.function_of l.initial.list.items ++ map (flat_function (starts_in l.starts)) (map three_address.function_of l.functions)
