use Rattle.std.proofs.Common.{length, map}
use Rattle.typed_ast.specs.View.{function_of}
use Rattle.verify_stack.specs.Usages.{EachCovers}
use Rattle.verify_stack.proofs.usages.each_covers.Given as goal

abbrev pub invariant-loop-function : goal.invariant-loop-function
invariant-loop-function l = EachCovers l.usages (map function_of l.rest) l.left l.own → EachCovers l.usages (map function_of l.initial.rest) l.initial.left l.initial.own

abbrev pub decreases-loop-function : goal.decreases-loop-function
decreases-loop-function l = length l.rest
