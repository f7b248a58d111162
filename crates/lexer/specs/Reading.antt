-- The tokens that a lexer has read, one preprocessing token after another (ISO/IEC 9899:2011 5.1.1.2, phases 5 to 7).
use Rattle.std.specs.Prelude.{◌≡◌, ℕ, ◌⊎◌, Bool, true, false, Option, Some, None, List, [], ◌∷◌, if◌then◌else◌}
use Rattle.srcset.specs.declared.refusal.Pos.{Pos}
use Rattle.srcset.specs.declared.refusal.Refusal.{Refusal}
use Rattle.srcset.specs.declared.refusal.Refusal.TheVariants.{Memory}
use Rattle.srcset.specs.NameTable.{Texts}
use Rattle.phases.specs.Token.{Token as PpToken}
use Rattle.lexer.specs.declared.lexing.Stored.{Stored}
use Rattle.lexer.specs.declared.reading.Lexer.{Lexer}
use Rattle.lexer.specs.Meanings.{Meaning, text, CToken}
use Rattle.lexer.specs.CTokens.{CTokens, ctokens}
use Rattle.lexer.specs.Numbering.{AreTokensOf, texts_of, with_texts}

abbrev pub is_text : Meaning → Bool
is_text (text bytes) = true
is_text m = false

-- a last string literal: a token after it may still join it
abbrev pub unfinished : List CToken → List CToken
unfinished [] = []
unfinished (c ∷ []) = if is_text c.meaning then c ∷ [] else []
unfinished (c ∷ d ∷ cs) = unfinished (d ∷ cs)

-- the tokens before it, which no later token changes
abbrev pub finished : List CToken → List CToken
finished [] = []
finished (c ∷ []) = if is_text c.meaning then [] else c ∷ []
finished (c ∷ d ∷ cs) = c ∷ finished (d ∷ cs)

-- the string literal with these bytes, if there is a place for it
abbrev pub string_at : Option Pos → List ℕ → List CToken
string_at None bytes = []
string_at (Some p) bytes = record { meaning = text bytes; pos = p } ∷ []

-- these C tokens are stored: those that are finished by number, and the string literal that is not by its bytes
pub record Stores (texts : Texts) (stored : Stored) (cs : List CToken) : Type 0 where
  pub finished_are : AreTokensOf texts (finished cs) stored.tokens.items
  pub unfinished_is : unfinished cs ≡ string_at stored.pending stored.bytes.items

-- why the lexer refuses everything from now on, if it does
abbrev pub refusal_of : Lexer → Option Refusal
refusal_of lexer = lexer.refused

-- C tokens are stored, none of them at fault; or the refusal is out of memory, or their fault
abbrev pub IsAt : Option Refusal → Texts → Stored → CTokens → Type 0
IsAt None texts stored c = (c.fault ≡ None) × Stores texts stored c.tokens
IsAt (Some r) texts stored c = (r ≡ Memory) ⊎ (c.fault ≡ Some r)

-- the lexer has read these preprocessing tokens, and the table has its texts
abbrev pub HasRead : Texts → List PpToken → Lexer → Type 0
HasRead texts front lexer = IsAt lexer.refused texts lexer.stored (ctokens front)

-- the texts that have numbers once these preprocessing tokens are read
abbrev pub numbered : List PpToken → List (List ℕ)
numbered front = texts_of (finished (ctokens front).tokens)

-- the table is the one before with these texts, taken up in their order, and no others
abbrev pub HasTakenUp : Texts → List PpToken → Texts → Type 0
HasTakenUp before front texts = texts ≡ with_texts before (numbered front)
