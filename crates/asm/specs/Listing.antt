-- The lines of a listing.
use Rattle.std.specs.Prelude.{◌≡◌, ℕ, ◌+◌, ◌/◌, ◌%◌, ◌^◌, nat_lt, if◌then◌else◌, List, [], ◌∷◌, ◌++◌, Option, Some, codes}
use Rattle.std.specs.Io.KnownBytes.{Appends}
use Rattle.asm.specs.declared.item.Item.{Item}
use Rattle.rv32.specs.declared.instr.Instr.{Instr}
use Rattle.rv32.specs.Words.{decode_of}
use Rattle.asm.specs.Text.{text_of}
use Rattle.asm.specs.Placed.{bytes_of}
use Rattle.asm.specs.Placed.{IsFewest}

-- a hexadecimal digit, A to F capital
abbrev pub digit : ℕ → ℕ
digit d = if nat_lt d 10 then 48 + d else 55 + d

-- eight hexadecimal digits
unfoldable pub hex : ℕ → List ℕ
hex w = digit (w / 2 ^ 28) ∷ digit (w / 2 ^ 24 % 2 ^ 4) ∷ digit (w / 2 ^ 20 % 2 ^ 4) ∷ digit (w / 2 ^ 16 % 2 ^ 4) ∷ digit (w / 2 ^ 12 % 2 ^ 4) ∷ digit (w / 2 ^ 8 % 2 ^ 4) ∷ digit (w / 2 ^ 4 % 2 ^ 4) ∷ digit (w % 2 ^ 4) ∷ []

-- address, a space, word, two spaces, a text, a newline
abbrev pub line : ℕ → ℕ → List ℕ → List ℕ
line a w text = hex a ++ codes " " ++ hex w ++ codes "  " ++ text ++ codes "\n"

-- a line for each word from address a, with the text of the instruction that the word encodes
abbrev pub IsListing : ℕ → List ℕ → List ℕ → Type 0
IsListing a [] bs = bs ≡ []
IsListing a (w ∷ ws) bs = (i : Instr) × (decode_of w ≡ Some i) × (rest : List ℕ) × (bs ≡ line a w (text_of i) ++ rest) × IsListing (a + 4) ws rest

-- the listing of the words of the items from base, with the fewest long branches
pub record IsListingOf (base : ℕ) (xs : List Item) (listing : List ℕ) : Type 0 where
  pub words : List ℕ
  pub assembled : IsFewest xs base (bytes_of words)
  pub lines : IsListing base words listing

-- a listing of the items from base was written after the earlier contents
pub record Lists (base : ℕ) (xs : List Item) (before after : Option (List ℕ)) : Type 0 where
  pub listing : List ℕ
  pub is_listing : IsListingOf base xs listing
  pub written : Appends before after listing
