use Rattle.csem.specs.Store.{literal_object}
use Rattle.verify.specs.Says.{TreeFacts}
use Rattle.verify.proofs.first_objects.with_text.Given as goal

abbrev pub invariant-loop-j : goal.invariant-loop-j
invariant-loop-j l = TreeFacts (literal_object l.text) l.x l.fn.facts.items l.out.items
