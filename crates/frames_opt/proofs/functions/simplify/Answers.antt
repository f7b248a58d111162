use Rattle.std.proofs.Common.{refl}
use Rattle.frames_code.specs.Code.{program_of}
use Rattle.frames_opt.proofs.Whole.{is_simplified}
use Rattle.frames_opt.proofs.functions.simplify.Goals as goal

pub returns : goal.returns
returns c = is_simplified (program_of c.args.program) _ c.in_ok-functions.ensures refl refl
