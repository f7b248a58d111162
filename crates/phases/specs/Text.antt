-- The logical text of a file: translation phases 1 and 2 of ISO/IEC 9899:2011 5.1.1.2.
use Rattle.std.specs.Prelude.{ℕ, zero, suc, ◌+◌, ◌-◌, ◌==◌, ◌&&◌, ◌||◌, not, length, take, Bool, true, false, if◌then◌else◌, Option, None, Some, List, [], ◌∷◌, map}
use Rattle.std.specs.Str.{byte}
use Rattle.phases.specs.Characters.{newline, carriage_return, backslash}

-- a character and the physical line where it begins
pub record Char : Type 0 where
  pub byte : ℕ
  pub line : ℕ

-- the character that two question marks and this byte denote (5.2.1.1)
unfoldable pub trigraph : ℕ → Option ℕ
trigraph c =
    if c == byte "=" then Some (byte "#") else if c == byte "(" then Some (byte "[") else if c == byte "/" then Some backslash
    else if c == byte ")" then Some (byte "]") else if c == byte "'" then Some (byte "^") else if c == byte "<" then Some (byte "{")
    else if c == byte "!" then Some (byte "|") else if c == byte ">" then Some (byte "}") else if c == byte "-" then Some (byte "~")
    else None

-- the character of the trigraph that begins with this byte
abbrev pub trigraph_at : ℕ → List ℕ → Option ℕ
trigraph_at a [] = None
trigraph_at a (b ∷ []) = None
trigraph_at a (b ∷ c ∷ bs) = if (a == byte "?") && (b == byte "?") then trigraph c else None

-- a carriage return directly before a line feed: together they end a line
abbrev pub is_return : ℕ → List ℕ → Bool
is_return a [] = false
is_return a (b ∷ bs) = (a == carriage_return) && (b == newline)

-- a character of phase 1, how many more bytes it takes, and the line after it
pub record Mapped : Type 0 where
  pub byte : ℕ
  pub more : ℕ
  pub line : ℕ

abbrev pub mapped_byte : ℕ → Bool → ℕ → Mapped
mapped_byte a true line = record { byte = newline; more = 1; line = line + 1 }
mapped_byte a false line = record { byte = a; more = 0; line = (if a == newline then line + 1 else line) }

abbrev pub mapped_or : Option ℕ → ℕ → Bool → ℕ → Mapped
mapped_or (Some x) a b line = record { byte = x; more = 2; line = line }
mapped_or None a b line = mapped_byte a b line

abbrev pub mapped : ℕ → List ℕ → ℕ → Mapped
mapped a bs line = mapped_or (trigraph_at a bs) a (is_return a bs) line

-- phase 1: lines end in a line feed, and trigraphs are replaced; the first `skip` bytes belong to the character before
abbrev pub phase1 : ℕ → ℕ → List ℕ → List Char
phase1 skip line [] = []
phase1 (suc k) line (a ∷ bs) = phase1 k line bs
phase1 zero line (a ∷ bs) =
    record { byte = (mapped a bs line).byte; line = line } ∷ phase1 (mapped a bs line).more (mapped a bs line).line bs

-- a backslash directly before the end of its line
abbrev pub is_splice : Char → List Char → Bool
is_splice c [] = false
is_splice c (d ∷ ds) = (c.byte == backslash) && (d.byte == newline)

abbrev pub unless : Bool → Char → List Char → List Char
unless true c cs = cs
unless false c cs = c ∷ cs

-- phase 2: each backslash at the end of a line is deleted, with the end of the line
abbrev pub phase2 : ℕ → List Char → List Char
phase2 skip [] = []
phase2 (suc k) (c ∷ cs) = phase2 k cs
phase2 zero (c ∷ cs) = unless (is_splice c cs) c (phase2 (if is_splice c cs then 1 else 0) cs)

-- the logical text of bytes that begin on this line
unfoldable pub logical : ℕ → List ℕ → List Char
logical line bytes = phase2 0 (phase1 0 line bytes)

abbrev pub bytes_of : List Char → List ℕ
bytes_of cs = map (λ c. c.byte) cs

-- the line after these bytes, which begin on this line
abbrev pub line_after : ℕ → List ℕ → ℕ
line_after line [] = line
line_after line (b ∷ bs) = line_after (if b == newline then line + 1 else line) bs

-- the line of the last byte
abbrev pub last_line : List ℕ → ℕ
last_line bytes = line_after 1 (take (length bytes - 1) bytes)

-- the byte of the last character, or `other` where there is none
abbrev pub last_byte : ℕ → List Char → ℕ
last_byte other [] = other
last_byte other (c ∷ cs) = last_byte c.byte cs

-- there are characters, and the last of them ends no line
abbrev pub ends_open : List Char → Bool
ends_open cs = not (last_byte newline cs == newline)

abbrev pub is_one_character : List Char → Bool
is_one_character [] = false
is_one_character (c ∷ []) = true
is_one_character (c ∷ d ∷ cs) = false

-- the last two characters are a splice
abbrev pub ends_spliced : List Char → Bool
ends_spliced [] = false
ends_spliced (c ∷ cs) = (is_splice c cs && is_one_character cs) || ends_spliced cs
