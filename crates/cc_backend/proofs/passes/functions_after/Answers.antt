use Rattle.std.proofs.Common.{◌≡◌, ◌+◌, map, ap, subst}
use Rattle.std.specs.Prelude.{List, Some, slice_get}
use Rattle.typed_ast.specs.declared.units.Function.{Function}
use Rattle.typed_ast.specs.View as view
use Rattle.cc_backend.proofs.Plain.{item_in_map}
use Rattle.cc_backend.proofs.passes.functions_after.Goals as goal

pub function_after-requires-clause-own : goal.function_after-requires-clause-own
function_after-requires-clause-own c =
    let n = c.loop-function.function-index in
    let f = c.function-item.result in (
      n,
      subst (λ (fs : List Function). slice_get (map view.function_of fs) n ≡ Some (view.function_of f)) c.deref-function-items.ensures.value
          (item_in_map view.function_of c.deref-function-items.result.now n f c.loop-function-test.true c.function-item.is),
    )

pub loop-function-preserved : goal.loop-function-preserved
loop-function-preserved c = ap (λ k. k + 1) c.loop-function.invariant
