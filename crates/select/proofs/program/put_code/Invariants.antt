use Rattle.std.proofs.Common.{◌≡◌, ◌++◌, drop}
use Rattle.frames_code.specs.Code.{function_of}
use Rattle.select.specs.Program.{code_items}
use Rattle.select.proofs.program.put_code.Given as goal

abbrev pub invariant-loop-instruction : goal.invariant-loop-instruction
invariant-loop-instruction l = record {
  at : l.number ≡ l.instruction-index;
  done : l.items.items ++ code_items (function_of l.function) l.first l.instruction-index (drop l.instruction-index l.function.code.items) ≡ l.initial.items.items ++ code_items (function_of l.function) l.first 0 l.function.code.items;
}
