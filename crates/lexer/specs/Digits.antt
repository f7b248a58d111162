-- Digits, and the numbers that they denote (ISO/IEC 9899:2011 6.4.4.1).
use Rattle.std.specs.Prelude.{ℕ, ◌+◌, ◌-◌, ◌*◌, nat_le, nat_lt, ◌&&◌, Bool, List, [], ◌∷◌, if◌then◌else◌}
use Rattle.std.specs.List.{prefix_len}
use Rattle.std.specs.Str.{byte}

-- the value of a byte as a digit of a base up to 16; 16 where it is none
abbrev pub digit_value : ℕ → ℕ
digit_value b =
    if nat_le (byte "0") b && nat_le b (byte "9") then b - byte "0" else
    if nat_le (byte "a") b && nat_le b (byte "f") then b - byte "a" + 10 else
    if nat_le (byte "A") b && nat_le b (byte "F") then b - byte "A" + 10 else
    16

abbrev pub is_digit : ℕ → ℕ → Bool
is_digit base b = nat_lt (digit_value b) base

-- how many digits of the base a text begins with
abbrev pub digit_count : ℕ → List ℕ → ℕ
digit_count base s = prefix_len (is_digit base) s

-- the number that digits denote, after digits that denote `high`
abbrev pub value_behind : ℕ → ℕ → List ℕ → ℕ
value_behind base high [] = high
value_behind base high (b ∷ bs) = value_behind base (high * base + digit_value b) bs

abbrev pub value_of : ℕ → List ℕ → ℕ
value_of base digits = value_behind base 0 digits
