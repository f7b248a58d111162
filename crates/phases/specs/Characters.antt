-- Classes of characters of the source character set (ISO/IEC 9899:2011 5.2.1).
use Rattle.std.specs.Prelude.{ℕ, ◌==◌, ◌&&◌, ◌||◌, nat_le, Bool}
use Rattle.std.specs.Str.{byte}

abbrev pub newline : ℕ
newline = 10

abbrev pub carriage_return : ℕ
carriage_return = 13

abbrev pub alert : ℕ
alert = 7

abbrev pub backspace : ℕ
backspace = 8

abbrev pub horizontal_tab : ℕ
horizontal_tab = 9

abbrev pub vertical_tab : ℕ
vertical_tab = 11

abbrev pub form_feed : ℕ
form_feed = 12

abbrev pub backslash : ℕ
backslash = 92

abbrev pub single_quote : ℕ
single_quote = 39

abbrev pub double_quote : ℕ
double_quote = 34

abbrev pub is_digit : ℕ → Bool
is_digit b = nat_le (byte "0") b && nat_le b (byte "9")

-- a letter or an underscore
abbrev pub is_letter : ℕ → Bool
is_letter b = (nat_le (byte "a") b && nat_le b (byte "z")) || (nat_le (byte "A") b && nat_le b (byte "Z")) || (b == byte "_")

abbrev pub is_word : ℕ → Bool
is_word b = is_letter b || is_digit b

abbrev pub is_sign : ℕ → Bool
is_sign b = (b == byte "+") || (b == byte "-")

-- e, E, p or P
abbrev pub is_exponent : ℕ → Bool
is_exponent b = (b == byte "e") || (b == byte "E") || (b == byte "p") || (b == byte "P")

-- space, tab, vertical tab or form feed
abbrev pub is_white : ℕ → Bool
is_white b = (b == byte " ") || (b == horizontal_tab) || (b == vertical_tab) || (b == form_feed)

-- L, u or U
abbrev pub is_prefix : ℕ → Bool
is_prefix b = (b == byte "L") || (b == byte "u") || (b == byte "U")
