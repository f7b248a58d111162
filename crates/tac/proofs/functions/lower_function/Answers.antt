use Rattle.typed_ast.specs.View.{function_of, program_of}
use Rattle.tac.proofs.SizedObjects.{rows_small, objects_sized}
use Rattle.tac.proofs.functions.lower_function.Goals as goal

pub body_of-requires-clause-rows : goal.body_of-requires-clause-rows
body_of-requires-clause-rows c = rows_small (program_of c.args.program.now) c.requires.own.0 (function_of c.args.function.now) c.requires.own.1 c.requires.sized

pub body_of-requires-clause-objects : goal.body_of-requires-clause-objects
body_of-requires-clause-objects c = objects_sized (program_of c.args.program.now) c.requires.own.0 (function_of c.args.function.now) c.requires.own.1 c.requires.sized
