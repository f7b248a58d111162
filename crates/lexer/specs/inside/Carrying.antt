-- How far a list of preprocessing tokens is read.
use Rattle.std.specs.Prelude.{◌≡◌, ℕ, Bool, true, false, not, Option, Some, None, Result, Ok, Err, List, [], ◌∷◌, ◌++◌}
use Rattle.srcset.specs.declared.code.Code.{Code}
use Rattle.srcset.specs.declared.refusal.Pos.{Pos}
use Rattle.srcset.specs.NameTable.{Texts}
use Rattle.phases.specs.declared.token.Kind.{Kind as PpKind}
use Rattle.phases.specs.declared.token.Kind.TheVariants.{StringLiteral}
use Rattle.phases.specs.Token.{Token as PpToken}
use Rattle.lexer.specs.declared.token.Kind.{Kind}
use Rattle.lexer.specs.declared.token.Kind.TheVariants as kind
use Rattle.lexer.specs.declared.token.Token.{Token}
use Rattle.lexer.specs.declared.lexing.Stored.{Stored}
use Rattle.lexer.specs.Meanings.{Meaning, text, CToken}
use Rattle.lexer.specs.CTokens.{CTokens, before, put, as_text, meaning}
use Rattle.lexer.specs.Reading.{is_text}
use Rattle.lexer.specs.Numbering.{IsKindOf, AreTokensOf, texts_in, texts_of, with_texts, TakesUp}

abbrev pub is_string : PpKind → Bool
is_string StringLiteral = true
is_string k = false

-- the kind of a token that has this meaning
abbrev pub IsKindFor : Texts → Result Meaning Code → Kind → Type 0
IsKindFor texts (Ok m) k = IsKindOf texts m k
IsKindFor texts (Err code) k = ⊥

-- the table once a token with this meaning has a kind
abbrev pub with_meaning : Texts → Result Meaning Code → Texts
with_meaning texts (Ok m) = with_texts texts (texts_in m)
with_meaning texts (Err code) = texts

-- a string literal that may not be complete, before the tokens after it
abbrev pub pending_before : Option Pos → List ℕ → List CToken → List CToken
pending_before None bytes cs = cs
pending_before (Some p) bytes cs = before (record { meaning = text bytes; pos = p }) cs

-- there is a meaning, and it is no string literal's; or there is a fault
abbrev pub has_no_text : Result Meaning Code → Bool
has_no_text (Ok m) = not (is_text m)
has_no_text (Err code) = true

abbrev pub begins_text : List CToken → Bool
begins_text [] = false
begins_text (c ∷ cs) = is_text c.meaning

-- the tokens so far, and `rest` of those after them, are `total`; the table took up their texts
pub record Carries (old texts : Texts) (stored : Stored) (rest total : CTokens) : Type 0 where
  pub done : List CToken
  pub done_is : AreTokensOf texts done stored.tokens.items
  pub texts_are : texts ≡ with_texts old (texts_of done)
  pub tokens_are : total.tokens ≡ done ++ pending_before stored.pending stored.bytes.items rest.tokens
  pub fault_is : total.fault ≡ rest.fault

-- whatever is carried up to a token is carried past it
abbrev pub Passes : Texts → Stored → Texts → Stored → PpToken → Type 0
Passes texts stored texts' stored' t =
    (old : Texts) (rest total : CTokens) → Carries old texts stored (put t.pos (meaning t.kind t.spelling) rest) total → Carries old texts' stored' rest total

-- the same of a string literal
abbrev pub PassesText : Texts → Stored → Stored → Pos → Result (List ℕ) Code → Type 0
PassesText texts stored stored' pos r =
    (old : Texts) (rest total : CTokens) → Carries old texts stored (put pos (as_text r) rest) total → Carries old texts stored' rest total

-- the token is appended
pub record IsPushed (old new : Stored) (t : Token) : Type 0 where
  pub tokens_are : new.tokens.items ≡ old.tokens.items ++ t ∷ []
  pub pending_is : new.pending ≡ old.pending

-- if `rest` begins with no string literal, tokens carried before are still carried after
abbrev pub Closes : Texts → Stored → Texts → Stored → Type 0
Closes texts stored texts' stored' =
    (old : Texts) (rest total : CTokens) → begins_text rest.tokens ≡ false → Carries old texts stored rest total → Carries old texts' stored' rest total

-- of whatever is carried up to a token, the table has taken up the first texts
abbrev pub Stops : Texts → Stored → Texts → PpToken → Type 0
Stops texts stored texts' t =
    (old : Texts) (rest total : CTokens) → Carries old texts stored (put t.pos (meaning t.kind t.spelling) rest) total → TakesUp old texts' total.tokens

abbrev pub StopsClosing : Texts → Stored → Texts → Type 0
StopsClosing texts stored texts' =
    (old : Texts) (rest total : CTokens) → begins_text rest.tokens ≡ false → Carries old texts stored rest total → TakesUp old texts' total.tokens

abbrev pub is_literal : Kind → Bool
is_literal (kind.StringLiteral n) = true
is_literal k = false

abbrev pub ends_in_literal : List Token → Bool
ends_in_literal [] = false
ends_in_literal (t ∷ []) = is_literal t.kind
ends_in_literal (t ∷ u ∷ ts) = ends_in_literal (u ∷ ts)

-- a last string literal is pending
abbrev pub IsSettled : Stored → Type 0
IsSettled stored = stored.pending ≡ None → ends_in_literal stored.tokens.items ≡ false
