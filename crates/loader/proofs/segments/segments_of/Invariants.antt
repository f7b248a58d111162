use Rattle.std.proofs.Common.{take}
use Rattle.loader.specs.inside.Segments.{AreLoaded}
use Rattle.loader.proofs.segments.segments_of.Given as goal

abbrev pub invariant-loop-load : goal.invariant-loop-load
invariant-loop-load l = AreLoaded l.bytes (take l.load-index l.loads) l.segments.items
