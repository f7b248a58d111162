use Rattle.std.proofs.Common.{◌≡◌, ◌++◌, length, map}
use Rattle.typing_spec.specs.Program.{Function}
use Rattle.typed_ast.specs.View.{function_of}
use Rattle.verify_stack.proofs.bounds.weights.Given as goal

abbrev pub invariant-loop-function : goal.invariant-loop-function
invariant-loop-function l = l.weights.items ++ map (λ (g : Function). g.weight) (map function_of l.rest) ≡ map (λ (g : Function). g.weight) (map function_of l.functions)

abbrev pub decreases-loop-function : goal.decreases-loop-function
decreases-loop-function l = length l.rest
