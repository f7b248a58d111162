-- A table that numbers texts: the list of its texts, where a text's number is its place.
use Rattle.std.specs.Prelude.{◌≡◌, ℕ, List, [], ◌∷◌, ◌++◌, Option, Some, None, slice_get, if◌then◌else◌}
use Rattle.std.specs.List.{list_any}
use Rattle.std.specs.Str.{bytes_eq, is_utf8}

abbrev pub Texts : Type 0
Texts = List (List ℕ)

-- the table once the text has a number
abbrev pub with_text : Texts → List ℕ → Texts
with_text texts text = if list_any (bytes_eq text) texts then texts else texts ++ text ∷ []

-- each number of the old table has its text in the new one
abbrev pub KeepsNumbers : Texts → Texts → Type 0
KeepsNumbers old new = (n : ℕ) (text : List ℕ) → slice_get old n ≡ Some text → slice_get new n ≡ Some text

-- no text has two numbers
abbrev pub NumbersOnce : Texts → Type 0
NumbersOnce texts = (m n : ℕ) (text : List ℕ) → slice_get texts m ≡ Some text → slice_get texts n ≡ Some text → m ≡ n

-- a text where there is one and it is UTF-8, and else the empty text
abbrev pub utf8_or_empty : Option (List ℕ) → List ℕ
utf8_or_empty None = []
utf8_or_empty (Some text) = if is_utf8 text then text else []

-- the text with this number, as a fault shows it
abbrev pub shown_text : Texts → ℕ → List ℕ
shown_text texts n = utf8_or_empty (slice_get texts n)

-- the name of the file with this number, as a fault shows it
abbrev pub file_name_of : Texts → ℕ → List ℕ
file_name_of texts n = shown_text texts n
