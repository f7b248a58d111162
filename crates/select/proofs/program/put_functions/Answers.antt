use Rattle.std.proofs.Common.{length}
use Rattle.frames_code.specs.Code.{function_of}
use Rattle.select.proofs.Lists.{got_in_map}
use Rattle.select.proofs.program.put_functions.Goals as goal

pub put_function-requires-clause-fits : goal.put_function-requires-clause-fits
put_function-requires-clause-fits c =
    let x = c.function-item.result in
    (length c.args.functions.now, c.requires.fit c.loop-function.function-index (function_of x) (got_in_map function_of c.args.functions.now c.loop-function.function-index x c.loop-function-test.true c.function-item.is))
