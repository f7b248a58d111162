use Rattle.std.proofs.Common.{List, inl, inr, refl}
use Rattle.srcset.specs.declared.refusal.Pos.{Pos}
use Rattle.lexer.specs.declared.token.Token.{Token}
use Rattle.lexer.specs.declared.token.Kind.TheVariants as kind
use Rattle.lexer.specs.declared.token.Punctuator.TheVariants as sign
use Rattle.parser_grammar.specs.Tokens.{Own}
use Rattle.parser_grammar.specs.Declarations.{Trailing}
use Rattle.parser_grammar.proofs.Exits.{ok_gives}
use Rattle.parser_declarations.proofs.enumerators.expect_end.Goals as goal

pub returns-in-Some-clause-ok : goal.returns-in-Some-clause-ok
returns-in-Some-clause-ok c = ok_gives (λ rest. (at : Pos) × Own (kind.Punctuator sign.BraceClose) at c.in-Some.after.now rest.now) (λ rest. (t1 : List Token)
    × (at : Pos) × Trailing c.args.tokens.now t1 × Own (kind.Punctuator sign.BraceClose) at t1 rest.now) _
    (λ rest h. (c.in-Some.after.now, h.0, inr (c.in-Some.field-0-0, c.in-Some.ensures), h.1)) c.expect_sign.ensures.ok

pub returns-in-None-clause-ok : goal.returns-in-None-clause-ok
returns-in-None-clause-ok c = ok_gives (λ rest. (at : Pos) × Own (kind.Punctuator sign.BraceClose) at c.args.tokens.now rest.now) (λ rest. (t1 : List Token)
    × (at : Pos) × Trailing c.args.tokens.now t1 × Own (kind.Punctuator sign.BraceClose) at t1 rest.now) _ (λ rest h. (c.args.tokens.now, h.0, inl refl, h.1))
    c.expect_sign-in-None.ensures.ok
