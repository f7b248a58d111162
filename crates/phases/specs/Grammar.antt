-- The preprocessing tokens of ISO/IEC 9899:2011 6.4, as whole texts, and the longest front of a text that is one. There
-- are no universal character names (6.4.3), and in a literal any byte but a newline may follow a backslash.
use Rattle.std.specs.Prelude.{◌≡◌, ℕ, zero, suc, ◌<◌, ◌≤◌, ◌==◌, ◌&&◌, ◌||◌, nat_lt, Bool, true, false, if◌then◌else◌, Option, Some, None, List, [], ◌∷◌, length, take, drop, slice_index, codes}
use Rattle.std.specs.List.{list_any}
use Rattle.std.specs.Str.{byte, bytes_eq}
use Rattle.phases.specs.declared.token.Kind.{Kind}
use Rattle.phases.specs.declared.token.Kind.TheVariants.{Identifier, Number, CharacterConstant, StringLiteral, HeaderName, Punctuator, Other}
use Rattle.phases.specs.declared.token.Place.{Place}
use Rattle.phases.specs.declared.token.Place.TheVariants.{Start, AfterHash, AfterInclude, Elsewhere}
use Rattle.phases.specs.Characters.{newline, backslash, single_quote, double_quote, is_digit, is_letter, is_word, is_sign, is_exponent, is_prefix}

-- identifiers, 6.4.2.1
abbrev pub all_word : List ℕ → Bool
all_word [] = true
all_word (b ∷ bs) = is_word b && all_word bs

abbrev pub is_identifier : List ℕ → Bool
is_identifier [] = false
is_identifier (b ∷ bs) = is_letter b && all_word bs

-- preprocessing numbers, 6.4.8: how one continues after the byte `last`
abbrev pub goes_on : ℕ → ℕ → Bool
goes_on last b = is_word b || (b == byte ".") || (is_sign b && is_exponent last)

abbrev pub continues : ℕ → List ℕ → Bool
continues last [] = true
continues last (b ∷ bs) = goes_on last b && continues b bs

abbrev pub begins_digit : List ℕ → Bool
begins_digit [] = false
begins_digit (b ∷ bs) = is_digit b

-- a digit, or a point and a digit
abbrev pub begins_number : ℕ → List ℕ → Bool
begins_number a bs = is_digit a || ((a == byte ".") && begins_digit bs)

abbrev pub is_number : List ℕ → Bool
is_number [] = false
is_number (a ∷ bs) = begins_number a bs && continues a bs

abbrev pub is_empty : List ℕ → Bool
is_empty [] = true
is_empty (b ∷ bs) = false

-- the bytes after the opening quote of a literal (6.4.4.4, 6.4.5): the closing quote, and then nothing; or a backslash
-- and any byte, and so on; or any other byte, and so on. No newline is among them
abbrev mutual
  pub closes_quote : ℕ → List ℕ → Bool
  closes_quote quote [] = false
  closes_quote quote (b ∷ bs) =
      if b == newline then false
      else if b == quote then is_empty bs
      else if b == backslash then escapes quote bs
      else closes_quote quote bs

  pub escapes : ℕ → List ℕ → Bool
  escapes quote [] = false
  escapes quote (b ∷ bs) = if b == newline then false else closes_quote quote bs

-- a quote and the bytes after it through the closing quote, which are more than `least`
abbrev pub is_quoted : ℕ → ℕ → List ℕ → Bool
is_quoted quote least [] = false
is_quoted quote least (b ∷ bs) = (b == quote) && (nat_lt least (length bs) && closes_quote quote bs)

-- character constants, 6.4.4.4, with L, u or U before them or none; at least one character between the quotes
abbrev pub character_prefix : List ℕ → ℕ
character_prefix [] = 0
character_prefix (b ∷ bs) = if is_prefix b then 1 else 0

abbrev pub is_character : List ℕ → Bool
is_character bs = is_quoted single_quote 1 (drop (character_prefix bs) bs)

-- string literals, 6.4.5, with u8, L, u or U before them or none
abbrev pub string_prefix : List ℕ → ℕ
string_prefix [] = 0
string_prefix (b ∷ bs) = if (b == byte "u") && (slice_index bs 0 == byte "8") then 2 else if is_prefix b then 1 else 0

abbrev pub is_string : List ℕ → Bool
is_string bs = is_quoted double_quote 0 (drop (string_prefix bs) bs)

-- the bytes after the opening bracket or quote of a header name (6.4.7): the closing one, and then nothing; or any
-- other byte but a newline, and so on
abbrev pub closes_header : ℕ → List ℕ → Bool
closes_header close [] = false
closes_header close (b ∷ bs) =
    if b == newline then false else if b == close then is_empty bs else closes_header close bs

-- at least one character between the brackets or quotes
abbrev pub is_header_in : ℕ → ℕ → List ℕ → Bool
is_header_in first close [] = false
is_header_in first close (b ∷ bs) = (b == first) && (nat_lt 1 (length bs) && closes_header close bs)

abbrev pub is_header : List ℕ → Bool
is_header bs = is_header_in (byte "<") (byte ">") bs || is_header_in double_quote double_quote bs

-- the 54 punctuators of 6.4.6
unfoldable pub punctuators : List (List ℕ)
punctuators =
    codes "[" ∷ codes "]" ∷ codes "(" ∷ codes ")" ∷ codes "{" ∷ codes "}" ∷ codes "." ∷ codes "->" ∷
    codes "++" ∷ codes "--" ∷ codes "&" ∷ codes "*" ∷ codes "+" ∷ codes "-" ∷ codes "~" ∷ codes "!" ∷
    codes "/" ∷ codes "%" ∷ codes "<<" ∷ codes ">>" ∷ codes "<" ∷ codes ">" ∷ codes "<=" ∷ codes ">=" ∷
    codes "==" ∷ codes "!=" ∷ codes "^" ∷ codes "|" ∷ codes "&&" ∷ codes "||" ∷
    codes "?" ∷ codes ":" ∷ codes ";" ∷ codes "..." ∷
    codes "=" ∷ codes "*=" ∷ codes "/=" ∷ codes "%=" ∷ codes "+=" ∷ codes "-=" ∷ codes "<<=" ∷ codes ">>=" ∷
    codes "&=" ∷ codes "^=" ∷ codes "|=" ∷
    codes "," ∷ codes "#" ∷ codes "##" ∷
    codes "<:" ∷ codes ":>" ∷ codes "<%" ∷ codes "%>" ∷ codes "%:" ∷ codes "%:%:" ∷ []

abbrev pub is_punctuator : List ℕ → Bool
is_punctuator text = list_any (bytes_eq text) punctuators

-- the text is no token of any kind that may occur at this place
pub record IsNoToken (place : Place) (text : List ℕ) : Type 0 where
  pub no_identifier : is_identifier text ≡ false
  pub no_number : is_number text ≡ false
  pub no_character : is_character text ≡ false
  pub no_string : is_string text ≡ false
  pub no_punctuator : is_punctuator text ≡ false
  pub no_header : place ≡ AfterInclude → is_header text ≡ false

abbrev pub if_kind : Bool → Kind → Option Kind → Option Kind
if_kind true k other = Some k
if_kind false k other = other

-- the kind of a whole text; a text that could be a header name or a string literal is a header name where one may occur
abbrev pub plain_kind : List ℕ → Option Kind
plain_kind text =
    if_kind (is_character text) CharacterConstant (if_kind (is_string text) StringLiteral (if_kind (is_identifier text) Identifier
    (if_kind (is_number text) Number (if_kind (is_punctuator text) Punctuator None))))

abbrev pub kind_at : Place → List ℕ → Option Kind
kind_at Start text = plain_kind text
kind_at AfterHash text = plain_kind text
kind_at AfterInclude text = if_kind (is_header text) HeaderName (plain_kind text)
kind_at Elsewhere text = plain_kind text

abbrev pub or_shorter : ℕ → Option Kind → Kind × ℕ → Kind × ℕ
or_shorter n None t = t
or_shorter n (Some k) t = (k, n)

-- the longest front of at most n characters that is a token; where none is, one character is a token of its own (6.4p1)
unfoldable pub longest_within : Place → List ℕ → ℕ → Kind × ℕ
longest_within place text zero = (Other, 1)
longest_within place text (suc n) = or_shorter (suc n) (kind_at place (take (suc n) text)) (longest_within place text n)

-- the longest front of a text that could be a token, by its kind and its length (6.4p4)
abbrev pub longest_token : Place → List ℕ → Kind × ℕ
longest_token place text = longest_within place text (length text)

-- no front of the text that is longer than the one found is a token
abbrev pub IsLongest : Place → List ℕ → Type 0
IsLongest place text = (m : ℕ) → (longest_token place text).1 < m → m ≤ length text → IsNoToken place (take m text)

-- where the one found is of the kind Other, no front at all is a token
abbrev pub IsOtherAlone : Place → List ℕ → Type 0
IsOtherAlone place text = (longest_token place text).0 ≡ Other → (m : ℕ) → 0 < m → m ≤ length text → IsNoToken place (take m text)

abbrev pub is_one : List ℕ → Bool
is_one [] = false
is_one (b ∷ bs) = is_empty bs

-- the text is a token of this kind
abbrev pub is_of : Kind → List ℕ → Bool
is_of Identifier text = is_identifier text
is_of Number text = is_number text
is_of CharacterConstant text = is_character text
is_of StringLiteral text = is_string text
is_of HeaderName text = is_header text
is_of Punctuator text = is_punctuator text
is_of Other text = is_one text

-- there is a front of this length, and it is a token of this kind
pub record IsWhole (t : Kind × ℕ) (text : List ℕ) : Type 0 where
  pub some : 0 < t.1
  pub room : t.1 ≤ length text
  pub token : is_of t.0 (take t.1 text) ≡ true

-- the front found is a whole token of its kind
abbrev pub IsWholeFront : Place → List ℕ → Type 0
IsWholeFront place text = 0 < length text → IsWhole (longest_token place text) text
