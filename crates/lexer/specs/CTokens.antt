-- C tokens: translation phases 5 to 7 (ISO/IEC 9899:2011 5.1.1.2).
use Rattle.std.specs.Prelude.{ℕ, Option, Some, None, Result, Ok, Err, List, [], ◌∷◌, ◌++◌}
use Rattle.srcset.specs.declared.code.Code.{Code}
use Rattle.srcset.specs.declared.code.Code.TheVariants.{NotAToken}
use Rattle.srcset.specs.declared.refusal.Pos.{Pos}
use Rattle.srcset.specs.declared.refusal.Refusal.{Refusal}
use Rattle.srcset.specs.declared.refusal.Refusal.TheVariants.{At}
use Rattle.phases.specs.declared.token.Kind.{Kind}
use Rattle.phases.specs.declared.token.Kind.TheVariants.{Identifier, Number, CharacterConstant, StringLiteral, HeaderName, Punctuator, Other}
use Rattle.phases.specs.Token.{Token}
use Rattle.lexer.specs.declared.numbers.Constant.{Constant}
use Rattle.lexer.specs.Meanings.{Meaning, constant, text, CToken}
use Rattle.lexer.specs.Words.{word}
use Rattle.lexer.specs.Punctuators.{mark}
use Rattle.lexer.specs.Numbers.{number}
use Rattle.lexer.specs.Literals.{character, string}

abbrev pub as_constant : Result Constant Code → Result Meaning Code
as_constant (Ok c) = Ok (constant c.of c.value)
as_constant (Err code) = Err code

abbrev pub as_text : Result (List ℕ) Code → Result Meaning Code
as_text (Ok bytes) = Ok (text bytes)
as_text (Err code) = Err code

-- the meaning of a preprocessing token, by its kind and spelling, or the code of its fault (6.4p3, and phases 5 and 7)
abbrev pub meaning : Kind → List ℕ → Result Meaning Code
meaning Identifier s = word s
meaning Number s = as_constant (number s)
meaning CharacterConstant s = as_constant (character s)
meaning StringLiteral s = as_text (string s)
meaning Punctuator s = mark s
meaning HeaderName s = Err NotAToken
meaning Other s = Err NotAToken

-- phase 6: adjacent string literals are one, at the place of the first of them
abbrev pub join : Meaning → Meaning → CToken → CToken → List CToken → List CToken
join (text a) (text b) c d ds = record { meaning = text (a ++ b); pos = c.pos } ∷ ds
join m n c d ds = c ∷ d ∷ ds

abbrev pub before : CToken → List CToken → List CToken
before c [] = c ∷ []
before c (d ∷ ds) = join c.meaning d.meaning c d ds

-- tokens, up to the first fault, and this fault, if there is one
pub record CTokens : Type 0 where
  pub tokens : List CToken
  pub fault : Option Refusal

abbrev pub nothing : CTokens
nothing = record { tokens = []; fault = None }

-- a token at its place, before the tokens after it
abbrev pub put : Pos → Result Meaning Code → CTokens → CTokens
put pos (Ok m) r = record { tokens = before (record { meaning = m; pos = pos }) r.tokens; fault = r.fault }
put pos (Err code) r = record { tokens = []; fault = Some (At code pos) }

-- the C tokens of preprocessing tokens
abbrev pub ctokens : List Token → CTokens
ctokens [] = nothing
ctokens (t ∷ ts) = put t.pos (meaning t.kind t.spelling) (ctokens ts)
