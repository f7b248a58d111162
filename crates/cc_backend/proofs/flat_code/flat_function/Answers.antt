use Rattle.std.proofs.Common.{◌≤◌, subst}
use Rattle.std.specs.Prelude.{sum_by}
use Rattle.typed_ast.specs.View as view
use Rattle.tac_code.specs.Code as three_address
use Rattle.frames_code.specs.Code as flat
use Rattle.frames.specs.Costs.{code_bytes}
use Rattle.frames.specs.layer.Alone.{starts_in}
use Rattle.cc_backend.proofs.FlatFunctions.{types_sized, function_fits, function_in}
use Rattle.cc_backend.proofs.flat_code.flat_function.Goals as goal

pub lower_function-requires-clause-sized : goal.lower_function-requires-clause-sized
lower_function-requires-clause-sized c = types_sized (view.program_of c.args.program.now) c.requires.ready

pub flatten_function-requires-clause-fits : goal.flatten_function-requires-clause-fits
flatten_function-requires-clause-fits c =
    (function_fits (view.program_of c.args.program.now) c.requires.ready c.requires.own.0 (view.function_of c.args.function.now) c.requires.own.1 c.args.is_main (three_address.function_of c.in_ok-code.code) c.in_ok-code.ensures).0

pub flatten_function-requires-clause-code : goal.flatten_function-requires-clause-code
flatten_function-requires-clause-code c =
    (function_fits (view.program_of c.args.program.now) c.requires.ready c.requires.own.0 (view.function_of c.args.function.now) c.requires.own.1 c.args.is_main (three_address.function_of c.in_ok-code.code) c.in_ok-code.ensures).1

pub returns : goal.returns
returns c =
    let few : c.known_bytes-most.result ≤ sum_by code_bytes c.in_ok-long.long.code.items = subst (λ xs. c.known_bytes-most.result ≤ sum_by code_bytes xs) c.deref.ensures.value c.known_bytes-most.ensures in
    function_in (view.program_of c.args.program.now) (starts_in c.args.starts.now) c.args.is_main (view.function_of c.args.function.now) (three_address.function_of c.in_ok-code.code) (flat.function_of c.in_ok-long.long) (flat.function_of c.in_ok-simple.simple) (flat.function_of c.in_ok-reached.reached) (flat.function_of c.in_ok-laid.laid) (flat.function_of c.in_ok-hoisted.hoisted) (flat.function_of c.in_ok-allocated.allocated) c.known_bytes-most.result
    c.in_ok-code.ensures c.in_ok-long.ensures few c.in_ok-simple.ensures c.in_ok-reached.ensures c.in_ok-laid.ensures c.in_ok-hoisted.ensures c.in_ok-allocated.ensures c.renumber_function.result c.renumber_function.ensures
