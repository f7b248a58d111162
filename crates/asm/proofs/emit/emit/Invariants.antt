use Rattle.std.proofs.Common.{[]}
use Rattle.asm.specs.inside.Choice.{longs}
use Rattle.asm.specs.inside.Code.{code, address, Writes}
use Rattle.asm.proofs.emit.emit.Given as goal

abbrev pub invariant-loop-i : goal.invariant-loop-i
invariant-loop-i l = Writes [] l.code.items (code (address l.homes l.places) l.data_start (longs l.long) l.base l.items l.i)
