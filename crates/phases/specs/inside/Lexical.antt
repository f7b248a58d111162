-- How long each kind of preprocessing token is at the front of a text, as a scanner finds it, byte by byte.
use Rattle.std.specs.Prelude.{ℕ, zero, suc, ◌+◌, ◌==◌, ◌&&◌, ◌||◌, nat_le, nat_lt, Bool, true, false, not, if◌then◌else◌, Option, None, Some, List, [], ◌∷◌, drop, slice_index, codes}
pub use Rattle.phases.specs.Characters.{is_digit, is_letter, is_word, is_sign, is_exponent, is_white, is_prefix}
pub use Rattle.phases.specs.Grammar.{goes_on, begins_digit, begins_number, character_prefix, string_prefix}
use Rattle.std.specs.List.{list_any}
use Rattle.phases.specs.declared.token.Kind.{Kind}
use Rattle.phases.specs.declared.token.Kind.TheVariants.{Identifier, Number, CharacterConstant, StringLiteral, HeaderName, Punctuator, Other}
use Rattle.phases.specs.declared.token.Place.{Place}
use Rattle.phases.specs.declared.token.Place.TheVariants.{Start, AfterHash, AfterInclude, Elsewhere}

-- identifiers, 6.4.2
abbrev pub word_len : List ℕ → ℕ
word_len [] = 0
word_len (b ∷ bs) = if is_word b then suc (word_len bs) else 0

abbrev pub name_len : List ℕ → ℕ
name_len [] = 0
name_len (b ∷ bs) = if is_letter b then suc (word_len bs) else 0

abbrev pub number_more : ℕ → List ℕ → ℕ
number_more last [] = 0
number_more last (b ∷ bs) = if goes_on last b then suc (number_more b bs) else 0

abbrev pub number_len : List ℕ → ℕ
number_len [] = 0
number_len (a ∷ bs) = if begins_number a bs then suc (number_more a bs) else 0

-- through the closing byte, on the same line; where there are escapes, a byte after a backslash closes nothing
abbrev pub one_more : Option ℕ → Option ℕ
one_more None = None
one_more (Some n) = Some (suc n)

abbrev pub closes : ℕ → Bool → ℕ → Bool
closes close escaped b = (b == close) && not escaped

abbrev pub escapes_next : Bool → Bool → ℕ → Bool
escapes_next escapes escaped b = escapes && (not escaped && (b == 92))

abbrev pub to_close : ℕ → Bool → Bool → List ℕ → Option ℕ
to_close close escapes escaped [] = None
to_close close escapes escaped (b ∷ bs) =
    if b == 10 then None
    else if closes close escaped b then Some 1
    else one_more (to_close close escapes (escapes_next escapes escaped b) bs)

-- the length of an opening byte and of the bytes through the closing one, if these are more than `least`
abbrev pub closed_over : ℕ → Option ℕ → ℕ
closed_over least None = 0
closed_over least (Some n) = if nat_lt least n then suc n else 0

abbrev pub enclosed : ℕ → ℕ → ℕ → Bool → List ℕ → ℕ
enclosed from close least escapes [] = 0
enclosed from close least escapes (b ∷ bs) =
    if b == from then closed_over least (to_close close escapes false bs) else 0

-- with `k` more bytes in front, if the length is not 0
abbrev pub behind : ℕ → ℕ → ℕ
behind k zero = 0
behind k (suc n) = k + suc n

abbrev pub character_len : List ℕ → ℕ
character_len bs = behind (character_prefix bs) (enclosed 39 39 1 true (drop (character_prefix bs) bs))

abbrev pub string_len : List ℕ → ℕ
string_len bs = behind (string_prefix bs) (enclosed 34 34 0 true (drop (string_prefix bs) bs))

-- header names, 6.4.7: at least one character between the quotes or brackets
abbrev pub header_len : List ℕ → ℕ
header_len bs = if slice_index bs 0 == 60 then enclosed 60 62 1 false bs else enclosed 34 34 1 false bs

-- punctuators, 6.4.6
abbrev pub one_of : ℕ → List ℕ → Bool
one_of b bytes = list_any (λ c. c == b) bytes

abbrev pub is_single : ℕ → Bool
is_single a = one_of a (codes "[](){}.&*+-~!/%<>^|?:;=,#")

-- the bytes that may follow this byte in a punctuator of two
unfoldable pub seconds : ℕ → List ℕ
seconds a =
    if a == 45 then codes ">-=" else if a == 43 then codes "+=" else if a == 38 then codes "&="
    else if a == 124 then codes "|=" else if a == 60 then codes "<=:%" else if a == 62 then codes ">="
    else if a == 37 then codes "=>:" else if a == 58 then codes ">" else if a == 35 then codes "#"
    else if a == 42 then codes "=" else if a == 47 then codes "=" else if a == 94 then codes "="
    else if a == 61 then codes "=" else if a == 33 then codes "=" else []

abbrev pub is_pair : ℕ → ℕ → Bool
is_pair a b = one_of b (seconds a)

-- ..., <<= and >>=
abbrev pub is_triple : ℕ → ℕ → ℕ → Bool
is_triple a b c = (a == b) && (((a == 46) && (c == 46)) || (((a == 60) || (a == 62)) && (c == 61)))

-- %:%:
abbrev pub is_quadruple : ℕ → ℕ → ℕ → ℕ → Bool
is_quadruple a b c d = ((a == 37) && (b == 58)) && ((c == 37) && (d == 58))

abbrev pub punctuator_of : ℕ → ℕ → ℕ → ℕ → ℕ
punctuator_of a b c d =
    if is_quadruple a b c d then 4 else if is_triple a b c then 3 else if is_pair a b then 2 else if is_single a then 1 else 0

abbrev pub punctuator_len : List ℕ → ℕ
punctuator_len bs = punctuator_of (slice_index bs 0) (slice_index bs 1) (slice_index bs 2) (slice_index bs 3)

-- the first of these kinds that is there, by the lengths of a character constant, a string literal, an identifier,
-- a number and a punctuator; a literal with a prefix is longer than the identifier that it begins with
abbrev pub first_kind : ℕ → ℕ → ℕ → ℕ → ℕ → Kind × ℕ
first_kind c s n d p =
    if nat_lt 0 c then (CharacterConstant, c) else if nat_lt 0 s then (StringLiteral, s) else if nat_lt 0 n then (Identifier, n)
    else if nat_lt 0 d then (Number, d) else if nat_lt 0 p then (Punctuator, p) else (Other, 1)

abbrev pub plain_token : List ℕ → Kind × ℕ
plain_token bs = first_kind (character_len bs) (string_len bs) (name_len bs) (number_len bs) (punctuator_len bs)

-- the header name, unless the other token is longer
abbrev pub header_or : ℕ → Kind × ℕ → Kind × ℕ
header_or n t = if nat_le t.1 n then (HeaderName, n) else t

-- the longest front of a text that is a token at this place
abbrev pub token_front : Place → List ℕ → Kind × ℕ
token_front Start bs = plain_token bs
token_front AfterHash bs = plain_token bs
token_front AfterInclude bs = header_or (header_len bs) (plain_token bs)
token_front Elsewhere bs = plain_token bs
