use Rattle.std.proofs.Common.{◌≡◌, ◌+◌, [], ◌∷◌, ◌++◌, map, ap, sym, subst, ◌∙◌}
use Rattle.std.specs.Prelude.{nat_eq, List, Some, slice_get}
use Rattle.typed_ast.specs.declared.units.Function.{Function}
use Rattle.std.proofs.lemmas.List.{map-append}
use Rattle.typed_ast.specs.View as view
use Rattle.tac_code.specs.Code as three_address
use Rattle.tac.specs.layer.Functions.{IsFunctionWith}
use Rattle.tac.specs.inside.Functions.{AreFunctionsOf}
use Rattle.tac.proofs.Whole.{item_in_map, one_more_function}
use Rattle.tac.proofs.programs.lowered_functions.Goals as goal

pub lower_function-requires-clause-own : goal.lower_function-requires-clause-own
lower_function-requires-clause-own c =
    let n = c.loop-function.function-index in
    let f = c.function-item.result in (
      n,
      subst (λ (fs : List Function). slice_get (map view.function_of fs) n ≡ Some (view.function_of f)) c.deref-function-items.ensures.value
          (item_in_map view.function_of c.deref-function-items.result.now n f c.loop-function-test.true c.function-item.is),
    )

pub loop-function-preserved : goal.loop-function-preserved
loop-function-preserved c =
    let p = view.program_of c.args.program.now in
    let old = map three_address.function_of c.loop-function.list.items in
    let n = c.loop-function.function-index in
    let f = c.function-item.result in
    let there = subst (λ (fs : List Function). slice_get (map view.function_of fs) n ≡ Some (view.function_of f)) c.deref-function-items.ensures.value
    (item_in_map view.function_of c.deref-function-items.result.now n f c.loop-function-test.true c.function-item.is) in
    let g = c.in_ok-lower_function.field-0 in
    let put : map three_address.function_of c.push.new.self.items ≡ old ++ three_address.function_of g ∷ [] =
    ap (map three_address.function_of) c.in_ok-push.ensures.items ∙ map-append three_address.function_of c.loop-function.list.items (g ∷ []) in
    let it = subst (λ k. IsFunctionWith p (nat_eq k p.main) (view.function_of f) (three_address.function_of g)) c.loop-function.invariant.at c.in_ok-lower_function.ensures in
    record {
      at = ap (λ k. k + 1) c.loop-function.invariant.at;
      all = subst (λ gs. AreFunctionsOf p (n + 1) gs) (sym put) (one_more_function p n old (view.function_of f) (three_address.function_of g)
          there c.loop-function.invariant.all it);
    }
