-- The token grammar of whole texts with the flags of a scanner: whether a byte follows a backslash.
use Rattle.std.specs.Prelude.{◌≡◌, ℕ, ◌<◌, ◌≤◌, ◌==◌, ◌&&◌, ◌||◌, nat_lt, Bool, true, false, not, if◌then◌else◌, List, [], ◌∷◌, length, take, drop}
use Rattle.phases.specs.declared.token.Kind.{Kind}
use Rattle.phases.specs.declared.token.Kind.TheVariants.{Identifier, Number, CharacterConstant, StringLiteral, HeaderName, Punctuator, Other}
use Rattle.phases.specs.declared.token.Place.{Place}
use Rattle.phases.specs.declared.token.Place.TheVariants.{AfterInclude}
pub use Rattle.phases.specs.Grammar.{all_word, is_identifier, continues, is_number, is_empty, is_one}
use Rattle.phases.specs.inside.Lexical.{closes, escapes_next, character_prefix, string_prefix, is_single, is_pair, is_triple, is_quadruple, token_front}

-- the closing byte comes last, and only there, on one line
abbrev pub closes_last : ℕ → Bool → Bool → List ℕ → Bool
closes_last close escapes escaped [] = false
closes_last close escapes escaped (b ∷ bs) =
    not (b == 10) && (if closes close escaped b then is_empty bs else closes_last close escapes (escapes_next escapes escaped b) bs)

abbrev pub is_enclosed : ℕ → ℕ → ℕ → Bool → List ℕ → Bool
is_enclosed first close least escapes [] = false
is_enclosed first close least escapes (b ∷ bs) =
    (b == first) && (nat_lt least (length bs) && closes_last close escapes false bs)

abbrev pub is_character : List ℕ → Bool
is_character bs = is_enclosed 39 39 1 true (drop (character_prefix bs) bs)

abbrev pub is_string : List ℕ → Bool
is_string bs = is_enclosed 34 34 0 true (drop (string_prefix bs) bs)

abbrev pub is_header : List ℕ → Bool
is_header bs = is_enclosed 60 62 1 false bs || is_enclosed 34 34 1 false bs

abbrev pub is_punctuator : List ℕ → Bool
is_punctuator [] = false
is_punctuator (a ∷ []) = is_single a
is_punctuator (a ∷ b ∷ []) = is_pair a b
is_punctuator (a ∷ b ∷ c ∷ []) = is_triple a b c
is_punctuator (a ∷ b ∷ c ∷ d ∷ []) = is_quadruple a b c d
is_punctuator (a ∷ b ∷ c ∷ d ∷ e ∷ bs) = false

-- the text is no token of any kind that may occur at this place
pub record IsNoToken (place : Place) (text : List ℕ) : Type 0 where
  pub no_identifier : is_identifier text ≡ false
  pub no_number : is_number text ≡ false
  pub no_character : is_character text ≡ false
  pub no_string : is_string text ≡ false
  pub no_punctuator : is_punctuator text ≡ false
  pub no_header : place ≡ AfterInclude → is_header text ≡ false

-- no front of the text that is longer than the one found is a token
abbrev pub IsLongest : Place → List ℕ → Type 0
IsLongest place text = (m : ℕ) → (token_front place text).1 < m → m ≤ length text → IsNoToken place (take m text)

-- the text is a token of this kind
abbrev pub is_of : Kind → List ℕ → Bool
is_of Identifier text = is_identifier text
is_of Number text = is_number text
is_of CharacterConstant text = is_character text
is_of StringLiteral text = is_string text
is_of HeaderName text = is_header text
is_of Punctuator text = is_punctuator text
is_of Other text = is_one text

-- there is a front of this length, and it is a token of this kind
pub record IsWhole (t : Kind × ℕ) (text : List ℕ) : Type 0 where
  pub some : 0 < t.1
  pub room : t.1 ≤ length text
  pub token : is_of t.0 (take t.1 text) ≡ true

-- the front found is a whole token of its kind
abbrev pub IsWholeFront : Place → List ℕ → Type 0
IsWholeFront place text = 0 < length text → IsWhole (token_front place text) text
