use Rattle.std.proofs.Common.{length}
use Rattle.tac.proofs.switches.+put_tests.Given as goal

abbrev pub decreases-put_tests : goal.decreases-put_tests
decreases-put_tests l = length l.all.now
