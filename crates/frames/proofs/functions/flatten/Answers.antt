use Rattle.std.proofs.Common.{◌∙◌, ap, sym, subst}
use Rattle.std.specs.Prelude.{slice_get}
use Rattle.frames_code.specs.Sound.{IsSoundProgram}
use Rattle.tac_code.specs.Code.{program_of}
use Rattle.frames.proofs.Whole.{flat_is_sound, each_is_code}
use Rattle.frames.proofs.functions.flatten.Goals as goal

pub returns-clause-sound : goal.returns-clause-sound
returns-clause-sound c = subst IsSoundProgram (sym c.in-Ok.ensures) (flat_is_sound (program_of c.args.program.now) c.requires.sound)

pub returns-clause-each : goal.returns-clause-each
returns-clause-each c k g h e there =
    each_is_code (program_of c.args.program.now) k g h e (ap (λ p. slice_get p.functions k) (sym c.in-Ok.ensures) ∙ there)
