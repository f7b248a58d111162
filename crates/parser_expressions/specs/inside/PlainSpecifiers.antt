-- Type specifiers of one keyword.
use Rattle.std.specs.Prelude.{◌≡◌}
use Rattle.lexer.specs.declared.token.Keyword.{Keyword}
use Rattle.lexer.specs.declared.token.Keyword.TheVariants as keyword
use Rattle.tree.specs.declared.expression.TypeSpecifier.{TypeSpecifier}
use Rattle.tree.specs.declared.expression.TypeSpecifier.TheVariants as specifier
use Rattle.parser_grammar.specs.Expressions.{word_keyword}

-- a specifier that is this one keyword (6.7.2, 6.7.3)
abbrev pub IsPlain : TypeSpecifier → Keyword → Type 0
IsPlain specifier.Const k = k ≡ keyword.Const
IsPlain (specifier.Word w) k = k ≡ word_keyword w
IsPlain (specifier.Enum tag) k = ⊥
