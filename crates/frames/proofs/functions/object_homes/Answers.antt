use Rattle.std.proofs.Common.{ap}
use Rattle.tac_code.specs.Code.{function_of}
use Rattle.frames.proofs.Near.{few_bytes, few_parameters}
use Rattle.frames.proofs.functions.object_homes.Goals as goal

pub new-requires-clause-objects : goal.new-requires-clause-objects
new-requires-clause-objects c = few_bytes c.requires.fits.0 (function_of c.args.function.now) c.requires.fits.1

pub new-requires-clause-parameters : goal.new-requires-clause-parameters
new-requires-clause-parameters c = few_parameters c.requires.fits.0 (function_of c.args.function.now) c.requires.fits.1

pub returns : goal.returns
returns c = ap (λ l. l.homes) c.in_ok-layout.ensures.layout
