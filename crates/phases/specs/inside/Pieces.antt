-- The piece at the front of a text, as a scanner finds it, byte by byte.
use Rattle.std.specs.Prelude.{ℕ, suc, ◌==◌, ◌&&◌, Bool, true, false, if◌then◌else◌, List, [], ◌∷◌, drop}
use Rattle.phases.specs.declared.token.Place.{Place}
use Rattle.phases.specs.declared.token.Piece.{Piece}
use Rattle.phases.specs.declared.token.Piece.TheVariants.{Newline, Gap, Unclosed}
use Rattle.phases.specs.Characters.{is_white}
pub use Rattle.phases.specs.Lines.{line_len, word_piece, opens}
use Rattle.phases.specs.inside.Lexical.{token_front}

abbrev pub also : Bool × ℕ → Bool × ℕ
also t = (t.0, suc t.1)

abbrev pub ends_comment : Bool → ℕ → Bool
ends_comment star b = star && (b == 47)

-- through the end of a comment, after a `*` or not: whether it is closed, and how far it goes
abbrev pub comment_len : Bool → List ℕ → Bool × ℕ
comment_len star [] = (false, 0)
comment_len star (b ∷ bs) = if ends_comment star b then (true, 1) else also (comment_len (b == 42) bs)

abbrev pub comment_piece : Bool × ℕ → Piece × ℕ
comment_piece t = (if t.0 then Gap else Unclosed, suc (suc t.1))

-- the piece at the front of a text, by its first byte and the rest, and its length
abbrev pub front : Place → ℕ → List ℕ → Piece × ℕ
front place b bs =
    if b == 10 then (Newline, 1)
    else if is_white b then (Gap, 1)
    else if opens 47 b bs then (Gap, suc (line_len bs))
    else if opens 42 b bs then comment_piece (comment_len false (drop 1 bs))
    else word_piece (token_front place (b ∷ bs))
