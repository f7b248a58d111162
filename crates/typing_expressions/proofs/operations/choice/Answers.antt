use Rattle.typing_expressions.proofs.operations.choice.Goals as goal

pub returns-in-Nothing-clause-ok : goal.returns-in-Nothing-clause-ok
returns-in-Nothing-clause-ok c = rw c.in-Nothing.is (c.choice_beside_nothing.ensures.ok c.in-Nothing.field-0)
