use Rattle.std.proofs.Common.{◌≡◌, map, drop, ◌++◌, ◌-◌, length}
use Rattle.typed_ast.specs.View.{function_of}
use Rattle.cc.specs.Compiled.{shown_entry, entries}
use Rattle.cc.proofs.compiling.put_entries.Given as goal

abbrev pub invariant-loop-done : goal.invariant-loop-done
invariant-loop-done l =
    map shown_entry l.list.items ++ entries l.names (map function_of (drop l.done l.functions)) (drop l.done l.frames)
    ≡ map shown_entry l.initial.list.items ++ entries l.names (map function_of l.functions) l.frames

abbrev pub decreases-loop-done : goal.decreases-loop-done
decreases-loop-done l = length l.functions - l.done
