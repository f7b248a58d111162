use Rattle.std.proofs.Common.{ap}
use Rattle.typing_spec.specs.Initialisers as typed
use Rattle.typing_expressions.specs.Numbered.{numbered}
use Rattle.decls_initialisers.proofs.Rules.{gives, tells}
use Rattle.decls_initialisers.proofs.parts.text_if.Goals as goal

pub returns-then-characters-clause-ok : goal.returns-then-characters-clause-ok
returns-then-characters-clause-ok c = λ s. gives c.text_from.result _ _ (ap (λ b. typed.text_if b c.args.top (numbered c.args.names.now c.args.literals.now s) c.args.pos c.args.own c.args.room c.args.name) c.if-characters.true) (c.text_from.ensures.ok s)

pub returns-then-characters-clause-err : goal.returns-then-characters-clause-err
returns-then-characters-clause-err c = λ s. tells c.text_from.result _ _ (ap (λ b. typed.text_if b c.args.top (numbered c.args.names.now c.args.literals.now s) c.args.pos c.args.own c.args.room c.args.name) c.if-characters.true) (c.text_from.ensures.err s)
