use Rattle.typed_ast.specs.View as view
use Rattle.tac_code.specs.Code as three_address
use Rattle.cc_backend.proofs.FlatFunctions.{types_sized, function_fits}
use Rattle.cc_backend.proofs.homes.homes_of.Goals as goal

pub lower_function-requires-clause-sized : goal.lower_function-requires-clause-sized
lower_function-requires-clause-sized c = types_sized (view.program_of c.args.program.now) c.requires.ready

pub object_homes-requires : goal.object_homes-requires
object_homes-requires c = record {
  fits =
      (function_fits (view.program_of c.args.program.now) c.requires.ready c.requires.own.0 (view.function_of c.args.function.now) c.requires.own.1 c.args.is_main (three_address.function_of c.in_ok-code.code) c.in_ok-code.ensures).0;
}

pub flatten_function-requires-clause-fits : goal.flatten_function-requires-clause-fits
flatten_function-requires-clause-fits c =
    (function_fits (view.program_of c.args.program.now) c.requires.ready c.requires.own.0 (view.function_of c.args.function.now) c.requires.own.1 c.args.is_main (three_address.function_of c.in_ok-code.code) c.in_ok-code.ensures).0

pub flatten_function-requires-clause-code : goal.flatten_function-requires-clause-code
flatten_function-requires-clause-code c =
    (function_fits (view.program_of c.args.program.now) c.requires.ready c.requires.own.0 (view.function_of c.args.function.now) c.requires.own.1 c.args.is_main (three_address.function_of c.in_ok-code.code) c.in_ok-code.ensures).1
