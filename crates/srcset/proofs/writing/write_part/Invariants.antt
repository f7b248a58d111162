use Rattle.std.specs.Io.KnownBytes.{Keeps}
use Rattle.srcset.proofs.writing.write_part.Given as goal

-- nothing was taken so far
abbrev pub invariant-loop : goal.invariant-loop
invariant-loop g l = Keeps (g.W.Write.contents l.initial.writer) (g.W.Write.contents l.writer)
