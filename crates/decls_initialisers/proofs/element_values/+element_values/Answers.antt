use Rattle.std.proofs.Common.{arith}
use Rattle.decls_initialisers.proofs.Layouts.{ended}
use Rattle.decls_initialisers.proofs.element_values.+element_values.Goals as goal

pub push_parts-returns-clause-ok : goal.push_parts-returns-clause-ok
push_parts-returns-clause-ok t c =
    ended c.args.names.now c.args.literals.now c.args.element c.args.lengths.now c.args.parts.now c.loop-part.part-index c.args.all.now.items c.loop-part.all.items (omega (arith, c.loop-part-test.false)) c.loop-part.invariant
