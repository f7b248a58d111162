use Rattle.std.proofs.Common.{◌≡◌, subst, IfOk, IfErr}
use Rattle.tree.specs.Tree.{string}
use Rattle.typing_spec.specs.Verdict.{fine}
use Rattle.typing_expressions.specs.Refused.{Tells}
use Rattle.typing_expressions.specs.Forms.{checked_of}
use Rattle.typing_expressions.specs.Numbered.{typing_at}
use Rattle.typing_expressions.proofs.literals.next_literal.Goals as goal

pub returns-clause-ok : goal.returns-clause-ok
returns-clause-ok c = λ s. subst (λ k. IfOk c.literal.result (λ x. typing_at c.args.names.now k s (string c.args.pos c.args.name) ≡ fine (checked_of x))) c.in-Ok.ensures.ok (c.literal.ensures.ok s)

pub returns-clause-err : goal.returns-clause-err
returns-clause-err c = λ s. subst (λ k. IfErr c.literal.result (λ r. Tells r (typing_at c.args.names.now k s (string c.args.pos c.args.name)))) c.in-Ok.ensures.ok (c.literal.ensures.err s)
