use Rattle.std.proofs.lemmas.Result.{IfOk-weaker}
use Rattle.srcset.specs.declared.refusal.Pos.{Pos}
use Rattle.lexer.specs.declared.token.Kind.TheVariants as kind
use Rattle.lexer.specs.declared.token.Punctuator.TheVariants as sign
use Rattle.parser_grammar.specs.Tokens.{Own}
use Rattle.parser_declarations.specs.inside.InitAnswers.{Closes}
use Rattle.parser_declarations.proofs.InitFacts.{closes_comma, closes_bare}
use Rattle.parser_declarations.proofs.initialisers.list_end.Goals as goal

pub returns-in-Some-clause-ok : goal.returns-in-Some-clause-ok
returns-in-Some-clause-ok c = IfOk-weaker c.expect_sign.result (λ rest. (at : Pos) × Own (kind.Punctuator sign.BraceClose) at c.in-Some.rest.now rest.now)
    (λ rest. Closes c.args.tokens.now rest.now) (λ x h. closes_comma _ _ _ _ c.in-Some.ensures h) c.expect_sign.ensures.ok

pub returns-in-None-clause-ok : goal.returns-in-None-clause-ok
returns-in-None-clause-ok c = IfOk-weaker c.expect_sign-in-None.result (λ rest. (at : Pos) × Own (kind.Punctuator sign.BraceClose) at c.args.tokens.now
    rest.now) (λ rest. Closes c.args.tokens.now rest.now) (λ x h. closes_bare _ _ h) c.expect_sign-in-None.ensures.ok
