use Rattle.std.proofs.Common.{length}
use Rattle.phases.specs.inside.Scanning.{Goes}
use Rattle.phases.proofs.scanner.Scanner.put_quick.Given as goal

abbrev pub invariant-loop-first : goal.invariant-loop-first
invariant-loop-first l = Goes l.initial.self l.self l.initial.start (record { count = l.count; after = l.at })

abbrev pub decreases-loop-first : goal.decreases-loop-first
decreases-loop-first l = length l.at.rest.now
