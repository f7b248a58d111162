-- C tokens whose texts are numbered by a table of texts.
use Rattle.std.specs.Prelude.{◌≡◌, ℕ, Option, Some, None, List, [], ◌∷◌, ◌++◌, slice_get}
use Rattle.srcset.specs.declared.fault.Fault.{Fault}
use Rattle.srcset.specs.declared.refusal.Refusal.{Refusal}
use Rattle.srcset.specs.Fault.{IsMemoryFault}
use Rattle.srcset.specs.NameTable.{Texts, with_text}
use Rattle.srcset.specs.Refusal.{IsFaultOfRefusal}
use Rattle.lexer.specs.declared.token.Kind.{Kind}
use Rattle.lexer.specs.declared.token.Kind.TheVariants.{Keyword, Identifier, Constant, StringLiteral, Punctuator}
use Rattle.lexer.specs.declared.token.Token.{Token}
use Rattle.lexer.specs.Meanings.{Meaning, keyword, name, constant, text, punctuator, CToken}
use Rattle.lexer.specs.CTokens.{CTokens}

-- the number of an identifier is that of its spelling; of a string literal, that of its bytes and a zero byte (6.4.5p6)
abbrev pub IsKindOf : Texts → Meaning → Kind → Type 0
IsKindOf texts (keyword k) (Keyword j) = k ≡ j
IsKindOf texts (name s) (Identifier n) = slice_get texts n ≡ Some s
IsKindOf texts (constant t v) (Constant u w) = (t ≡ u) × (v ≡ w)
IsKindOf texts (text bytes) (StringLiteral n) = slice_get texts n ≡ Some (bytes ++ 0 ∷ [])
IsKindOf texts (punctuator p) (Punctuator q) = p ≡ q
IsKindOf texts m x = ⊥

abbrev pub IsTokenOf : Texts → CToken → Token → Type 0
IsTokenOf texts c t = IsKindOf texts c.meaning t.kind × (c.pos ≡ t.pos)

abbrev pub AreTokensOf : Texts → List CToken → List Token → Type 0
AreTokensOf texts [] [] = Unit {0}
AreTokensOf texts (c ∷ cs) (t ∷ ts) = IsTokenOf texts c t × AreTokensOf texts cs ts
AreTokensOf texts cs ts = ⊥

-- the texts that get numbers
abbrev pub texts_in : Meaning → List (List ℕ)
texts_in (name s) = s ∷ []
texts_in (text bytes) = (bytes ++ 0 ∷ []) ∷ []
texts_in m = []

abbrev pub texts_of : List CToken → List (List ℕ)
texts_of [] = []
texts_of (c ∷ cs) = texts_in c.meaning ++ texts_of cs

-- the table once these texts have numbers, in their order
abbrev pub with_texts : Texts → List (List ℕ) → Texts
with_texts texts [] = texts
with_texts texts (s ∷ ss) = with_texts (with_text texts s) ss

-- these are all the C tokens, none of them at fault, and the table has taken up their texts and no others
pub record AreAll (old texts : Texts) (c : CTokens) (ts : List Token) : Type 0 where
  pub no_fault : c.fault ≡ None
  pub tokens_are : AreTokensOf texts c.tokens ts
  pub texts_are : texts ≡ with_texts old (texts_of c.tokens)

-- the table has taken up the texts of the first of these tokens, and no others
pub record TakesUp (old texts : Texts) (cs : List CToken) : Type 0 where
  pub front : List CToken
  pub back : List CToken
  pub splits : cs ≡ front ++ back
  pub texts_are : texts ≡ with_texts old (texts_of front)

-- the fault of the first faulty token, or out of memory
abbrev pub IsTokenFault : Fault → Texts → Option Refusal → Type 0
IsTokenFault fault texts None = IsMemoryFault fault
IsTokenFault fault texts (Some refusal) = IsFaultOfRefusal fault texts refusal
