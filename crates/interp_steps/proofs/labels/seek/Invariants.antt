use Rattle.std.proofs.Common.{◌≡◌, ◌+◌, ◌<◌, ◌^◌, ℤ, List, length, map}
use Rattle.typing_spec.specs.Types as type
use Rattle.typing_spec.specs.Program as typed
use Rattle.typed_ast.specs.View.{statement_of, statements_of}
use Rattle.csem.specs.Machine.{State}
use Rattle.csem.specs.Statements.{labels_of}
use Rattle.interp_store.specs.layer.Steps as step
use Rattle.interp_steps.proofs.labels.seek.Given as goal

abbrev pub decreases-loop-a : goal.decreases-loop-a
decreases-loop-a l = length l.rest

abbrev pub invariant-loop-a : goal.invariant-loop-a
invariant-loop-a l = record {
  sought : (objects : List type.ObjectType) (v : ℤ) (whole : typed.Statements) (s : State) →
      step.sought objects v (labels_of (statements_of (map statement_of l.rest))) l.number l.passed whole s ≡
      step.sought objects v (labels_of (statements_of (map statement_of l.all))) l.fn.n l.fn.default whole s;
  room : l.number + length l.rest < 2 ^ 64;
}
