-- Which kinds of preprocessing tokens exclude each other, by their whole texts (ISO/IEC 9899:2011 6.4).
use Rattle.std.specs.Prelude.{◌≡◌, ℕ, ◌&&◌, Bool, true, false, List, codes, refl}
use Rattle.phases.specs.declared.token.Kind.{Kind}
use Rattle.phases.specs.declared.token.Kind.TheVariants.{Identifier, Number, CharacterConstant, StringLiteral, HeaderName, Punctuator, Other}
use Rattle.phases.specs.Grammar.{is_of}

-- the kinds of 6.4 that may occur at each place. A header name in quotes may also be the text of a string literal, and occurs
-- only after `# include` (6.4.7); every remaining character has the kind Other
abbrev pub is_plain : Kind → Bool
is_plain Identifier = true
is_plain Number = true
is_plain CharacterConstant = true
is_plain StringLiteral = true
is_plain HeaderName = false
is_plain Punctuator = true
is_plain Other = false

-- no text is of two plain kinds
abbrev pub KindsExclude : Type 0
KindsExclude = (text : List ℕ) (k l : Kind) → is_plain k ≡ true → is_plain l ≡ true → is_of k text ≡ true → is_of l text ≡ true → k ≡ l

-- two texts of two kinds each, of which one is not plain
pub row_quotes : (is_of StringLiteral (codes "\"a.h\"") && is_of HeaderName (codes "\"a.h\"")) ≡ true
row_quotes = refl

pub row_letter : (is_of Identifier (codes "a") && is_of Other (codes "a")) ≡ true
row_letter = refl
