use Rattle.pp.proofs.GuardLemmas.{divides_skipped}
use Rattle.pp.proofs.guards.divides_passed.Goals as goal

pub returns-in-Skipped : goal.returns-in-Skipped
returns-in-Skipped c = record {
  passes = λ t guard.
      divides_skipped guard c.args.line.now c.args.conditionals.now c.pop.new.self c.put.new.conditionals c.in-Some.innermost c.requires.role c.in-Some.ensures.first c.in-Some.ensures.rest
      c.if-innermost.false c.in-Skipped.is (c.put.ensures t);
}
