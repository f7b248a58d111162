use Rattle.std.proofs.Common.{◌≡◌, map, subst}
use Rattle.std.specs.Prelude.{List, Some, slice_get}
use Rattle.typed_ast.specs.declared.units.Function.{Function}
use Rattle.typed_ast.specs.View as view
use Rattle.forms_text.proofs.Items.{item_in_map}
use Rattle.forms_text.proofs.code_form.put_tac.Goals as goal

pub put_function-requires-clause-own : goal.put_function-requires-clause-own
put_function-requires-clause-own c =
    let n = c.loop-function.function-index in
    let f = c.function-item.result in (
      n,
      subst (λ (fs : List Function). slice_get (map view.function_of fs) n ≡ Some (view.function_of f)) c.deref-function-items.ensures.value
          (item_in_map view.function_of c.deref-function-items.result.now n f c.loop-function-test.true c.function-item.is),
    )
