use Rattle.verify.proofs.FirstFacts.{no_facts, row_facts}
use Rattle.verify.proofs.first_objects.with_elements.Goals as goal

pub returns-in_default : goal.returns-in_default
returns-in_default c = no_facts _ _ _

pub returns-then-not-followed : goal.returns-then-not-followed
returns-then-not-followed c = no_facts _ _ _

pub returns : goal.returns
returns c = row_facts _ _ _ _ _ _ c.in-Some.ensures c.in_ok-out.ensures
