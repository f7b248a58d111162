-- The tokens that an expression may begin with (ISO/IEC 9899:2011 6.5.1 to 6.5.4).
use Rattle.std.specs.Prelude.{List, [], ◌∷◌}
use Rattle.lexer.specs.declared.token.Token.{Token}
use Rattle.lexer.specs.declared.token.Kind.{Kind}
use Rattle.lexer.specs.declared.token.Kind.TheVariants as kind
use Rattle.lexer.specs.declared.token.Keyword.{Keyword}
use Rattle.lexer.specs.declared.token.Keyword.TheVariants as keyword
use Rattle.lexer.specs.declared.token.Punctuator.{Punctuator}
use Rattle.lexer.specs.declared.token.Punctuator.TheVariants as sign

abbrev pub SignBeginsExpression : Punctuator → Type 0
SignBeginsExpression sign.ParenOpen = Unit {0}
SignBeginsExpression sign.PlusPlus = Unit {0}
SignBeginsExpression sign.MinusMinus = Unit {0}
SignBeginsExpression sign.Plus = Unit {0}
SignBeginsExpression sign.Minus = Unit {0}
SignBeginsExpression sign.Tilde = Unit {0}
SignBeginsExpression sign.Bang = Unit {0}
SignBeginsExpression _ = ⊥

abbrev pub KeywordBeginsExpression : Keyword → Type 0
KeywordBeginsExpression keyword.Sizeof = Unit {0}
KeywordBeginsExpression _ = ⊥

abbrev pub KindBeginsExpression : Kind → Type 0
KindBeginsExpression (kind.Keyword k) = KeywordBeginsExpression k
KindBeginsExpression (kind.Punctuator p) = SignBeginsExpression p
KindBeginsExpression _ = Unit {0}

abbrev pub BeginsExpression : List Token → Type 0
BeginsExpression [] = ⊥
BeginsExpression (t ∷ ts) = KindBeginsExpression t.kind
