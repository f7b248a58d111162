-- Character constants and string literals (ISO/IEC 9899:2011 6.4.4.4, 6.4.5).
use Rattle.std.specs.Prelude.{ℕ, zero, suc, ◌+◌, ◌-◌, ◌==◌, nat_le, nat_lt, ◌&&◌, ◌||◌, not, Bool, true, false, List, [], ◌∷◌, length, take, drop, slice_index, Result, Ok, Err, if◌then◌else◌}
use Rattle.srcset.specs.declared.code.Code.{Code}
use Rattle.srcset.specs.declared.code.Code.TheVariants.{BadLiteral, ConstantOutOfRange, LeftOutLiteral}
use Rattle.std.specs.List.{list_any}
use Rattle.std.specs.Str.{byte}
use Rattle.phases.specs.Characters.{alert, backspace, newline, carriage_return, horizontal_tab, vertical_tab, form_feed, backslash, single_quote, double_quote}
use Rattle.ctypes.specs.declared.types.IntType.TheVariants as ty
use Rattle.lexer.specs.declared.numbers.Constant.{Constant}
use Rattle.lexer.specs.declared.literals.Element.{Element}
use Rattle.lexer.specs.declared.literals.Element.TheVariants.{Byte, Large, Unreadable, Universal}
use Rattle.lexer.specs.declared.literals.Part.{Part}
use Rattle.lexer.specs.Digits.{is_digit, digit_count, value_of}

-- the element that the first bytes denote, and the number of these bytes
abbrev pub part : ℕ → Element → Part
part count element = record { count = count; element = element }

-- a character's number has to be one of unsigned char (6.4.4.4p9)
abbrev pub numbered : ℕ → Element
numbered v = if nat_le v 255 then Byte v else Large

-- the character after a backslash: a simple escape sequence (p4), or the beginning of a universal character name
-- (6.4.3), or neither
unfoldable pub simple : ℕ → Element
simple b =
    if b == single_quote then Byte single_quote else
    if b == double_quote then Byte double_quote else
    if b == byte "?" then Byte (byte "?") else
    if b == backslash then Byte backslash else
    if b == byte "a" then Byte alert else
    if b == byte "b" then Byte backspace else
    if b == byte "t" then Byte horizontal_tab else
    if b == byte "n" then Byte newline else
    if b == byte "v" then Byte vertical_tab else
    if b == byte "f" then Byte form_feed else
    if b == byte "r" then Byte carriage_return else
    if b == byte "u" then Universal else
    if b == byte "U" then Universal else
    Unreadable

-- after a backslash, one to three octal digits
abbrev pub octal : List ℕ → Part
octal s = let n = digit_count 8 (take 3 s) in part (1 + n) (numbered (value_of 8 (take n s)))

-- after a backslash and an x, hexadecimal digits
abbrev pub hexadecimal : List ℕ → Part
hexadecimal s = let n = digit_count 16 s in if n == 0 then part 2 Unreadable else part (2 + n) (numbered (value_of 16 (take n s)))

-- after a backslash
abbrev pub escape : List ℕ → Part
escape [] = part 1 Unreadable
escape (b ∷ bs) =
    if is_digit 8 b then octal (b ∷ bs)
    else if b == byte "x" then hexadecimal bs
    else part 2 (simple b)

-- a tab, or a printable character
abbrev pub is_plain : ℕ → Bool
is_plain b = (b == horizontal_tab) || (nat_le (byte " ") b && nat_le b (byte "~"))

-- the first part of the text b ∷ bs
abbrev pub first_part : ℕ → List ℕ → Part
first_part b bs = if b == backslash then escape bs else part 1 (if is_plain b then Byte b else Unreadable)

-- the elements between the quotes, in order; the first `skip` bytes belong to the part before
unfoldable pub elements : ℕ → List ℕ → List Element
elements skip [] = []
elements (suc k) (b ∷ bs) = elements k bs
elements zero (b ∷ bs) = let p = first_part b bs in p.element ∷ elements (p.count - 1) bs

abbrev pub is_universal : Element → Bool
is_universal Universal = true
is_universal e = false

abbrev pub is_unreadable : Element → Bool
is_unreadable Unreadable = true
is_unreadable e = false

abbrev pub is_large : Element → Bool
is_large Large = true
is_large e = false

abbrev pub bytes_of : List Element → List ℕ
bytes_of [] = []
bytes_of (Byte b ∷ es) = b ∷ bytes_of es
bytes_of (e ∷ es) = bytes_of es

-- a literal that does not begin with its quote has a prefix
abbrev pub is_prefixed : ℕ → List ℕ → Bool
is_prefixed quote s = not (slice_index s 0 == quote)

abbrev pub between_quotes : List ℕ → List ℕ
between_quotes s = take (length s - 2) (drop 1 s)

-- the bytes of a string literal, without the terminating zero byte
abbrev pub string_of : Bool → List Element → Result (List ℕ) Code
string_of prefixed es =
    if prefixed || list_any is_universal es then Err LeftOutLiteral
    else if list_any is_unreadable es then Err BadLiteral
    else if list_any is_large es then Err ConstantOutOfRange
    else Ok (bytes_of es)

abbrev pub string : List ℕ → Result (List ℕ) Code
string s = string_of (is_prefixed double_quote s) (elements 0 (between_quotes s))

-- a character constant has the type int and the value of a char (6.4.4.4p10), which is unsigned here
abbrev pub character_of : Element → Result Constant Code
character_of Universal = Err LeftOutLiteral
character_of Unreadable = Err BadLiteral
character_of Large = Err ConstantOutOfRange
character_of (Byte b) = Ok (record { of = ty.Int; value = b })

-- one character, and nothing after it
abbrev pub lone : List ℕ → Result Constant Code
lone [] = Err LeftOutLiteral
lone (b ∷ bs) = let p = first_part b bs in if nat_lt p.count (suc (length bs)) then Err LeftOutLiteral else character_of p.element

abbrev pub character : List ℕ → Result Constant Code
character s = if is_prefixed single_quote s then Err LeftOutLiteral else lone (between_quotes s)
