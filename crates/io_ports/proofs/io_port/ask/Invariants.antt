use Rattle.std.specs.Io.KnownBytes.{Keeps}
use Rattle.io_ports.proofs.io_port.ask.Given as goal

abbrev pub invariant-loop-turn : goal.invariant-loop-turn
invariant-loop-turn g l = Keeps (g.R.Read.remaining l.initial.reader) (g.R.Read.remaining l.reader)
