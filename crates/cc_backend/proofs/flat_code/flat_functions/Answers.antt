use Rattle.std.proofs.Common.{◌≡◌, ◌+◌, [], ◌∷◌, ◌++◌, map, ap, sym, subst, ◌∙◌}
use Rattle.std.specs.Prelude.{nat_eq, List, Some, slice_get}
use Rattle.std.proofs.lemmas.List.{map-append}
use Rattle.typed_ast.specs.declared.units.Function.{Function}
use Rattle.typed_ast.specs.View as view
use Rattle.frames_code.specs.Code as flat
use Rattle.frames.specs.layer.Alone.{starts_in}
use Rattle.cc_backend.proofs.Plain.{item_in_map}
use Rattle.cc_backend.specs.inside.FlatFunctions.{IsFlatFunctionOf, AreFlatFunctionsOf}
use Rattle.cc_backend.proofs.FlatFunctions.{one_more_function}
use Rattle.cc_backend.proofs.flat_code.flat_functions.Goals as goal

pub flat_function-requires-clause-own : goal.flat_function-requires-clause-own
flat_function-requires-clause-own c =
    let n = c.loop-function.function-index in
    let f = c.function-item.result in (
      n,
      subst (λ (fs : List Function). slice_get (map view.function_of fs) n ≡ Some (view.function_of f)) c.deref-function-items.ensures.value
          (item_in_map view.function_of c.deref-function-items.result.now n f c.loop-function-test.true c.function-item.is),
    )

pub loop-function-preserved : goal.loop-function-preserved
loop-function-preserved c =
    let p = view.program_of c.args.program.now in
    let s = starts_in c.args.starts.now in
    let old = map flat.function_of c.loop-function.list.items in
    let n = c.loop-function.function-index in
    let f = c.function-item.result in
    let there = subst (λ (fs : List Function). slice_get (map view.function_of fs) n ≡ Some (view.function_of f)) c.deref-function-items.ensures.value
    (item_in_map view.function_of c.deref-function-items.result.now n f c.loop-function-test.true c.function-item.is) in
    let h = c.in_ok-flat_function.field-0 in
    let put : map flat.function_of c.push.new.self.items ≡ old ++ flat.function_of h ∷ [] =
    ap (map flat.function_of) c.in_ok-push.ensures.items ∙ map-append flat.function_of c.loop-function.list.items (h ∷ []) in
    let it = subst (λ k. IsFlatFunctionOf p s (nat_eq k p.main) (view.function_of f) (flat.function_of h)) c.loop-function.invariant.at c.in_ok-flat_function.ensures in
    record {
      at = ap (λ k. k + 1) c.loop-function.invariant.at;
      all = subst (λ hs. AreFlatFunctionsOf p s (n + 1) hs) (sym put) (one_more_function p s n old (view.function_of f) (flat.function_of h) there c.loop-function.invariant.all it);
    }
