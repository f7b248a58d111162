use Rattle.std.proofs.Common.{◌∙◌, ap, map, [], ◌∷◌}
use Rattle.std.proofs.lemmas.List.{map-append}
use Rattle.tac_code.specs.Code.{function_of}
use Rattle.frames_code.specs.Code as flat
use Rattle.frames.specs.Translated.{flat_function}
use Rattle.frames.specs.layer.Alone.{starts_in}
use Rattle.frames.proofs.Elements.{item_in_map, one_more_held}
use Rattle.frames.proofs.functions.put_functions.Goals as goal

pub flatten_function-requires-clause-fits : goal.flatten_function-requires-clause-fits
flatten_function-requires-clause-fits c =
    let x = c.function-item.result in
    (c.requires.fit.0, (c.requires.fit.1 c.loop-function.function-index (function_of x) (item_in_map function_of c.args.functions.now c.loop-function.function-index x c.loop-function-test.true c.function-item.is)).0)

pub flatten_function-requires-clause-code : goal.flatten_function-requires-clause-code
flatten_function-requires-clause-code c =
    let x = c.function-item.result in
    (c.requires.fit.1 c.loop-function.function-index (function_of x) (item_in_map function_of c.args.functions.now c.loop-function.function-index x c.loop-function-test.true c.function-item.is)).1

pub loop-function-preserved : goal.loop-function-preserved
loop-function-preserved c =
    let old = c.loop-function.list.items in
    let y = c.in_ok-flatten_function.field-0 in
    let put = ap (map flat.function_of) c.in_ok-push.ensures.items ∙ map-append flat.function_of old (y ∷ []) in
    one_more_held function_of (flat_function (starts_in c.args.starts.now)) c.args.functions.now c.loop-function.function-index c.function-item.result (flat.function_of y)
    (map flat.function_of old) (map flat.function_of c.push.new.self.items) _ c.loop-function-test.true c.function-item.is put c.in_ok-flatten_function.ensures c.loop-function.invariant
