use Rattle.std.proofs.Common.{◌≡◌, ◌+◌, ◌++◌, drop, length, map}
use Rattle.frames_code.specs.Code.{function_of}
use Rattle.frames_code.specs.Sound.{places_of}
use Rattle.select.specs.Program.{functions_items}
use Rattle.select.proofs.program.put_functions.Given as goal

abbrev pub invariant-loop-function : goal.invariant-loop-function
invariant-loop-function l = record {
  at : l.number ≡ l.function-index;
  counted : l.label + places_of (map function_of (drop l.function-index l.functions)) ≡ length l.functions + places_of (map function_of l.functions);
  done : l.items.items ++ functions_items l.function-index l.label (map function_of (drop l.function-index l.functions)) ≡ l.initial.items.items ++ functions_items 0 (length l.functions) (map function_of l.functions);
}
