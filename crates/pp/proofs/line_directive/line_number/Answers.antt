use Rattle.pp.proofs.LineLemmas.{no_digit}
use Rattle.pp.proofs.line_directive.line_number.Goals as goal

pub returns-in_default : goal.returns-in_default
returns-in_default c = no_digit c.args.text.now c.loop-byte.value c.loop-byte.byte-index c.loop-byte-test.true c.loop-byte.invariant.digits c.loop-byte.invariant.number c.in_default.ensures
