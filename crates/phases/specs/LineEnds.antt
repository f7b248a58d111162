-- Where the token lines of a file end: after such a line the numbering of #line begins (ISO/IEC 9899:2011 6.10.4).
use Rattle.std.specs.Prelude.{◌≡◌, ℕ, zero, suc, ◌-◌, List, [], ◌∷◌, take, codes, refl}
use Rattle.phases.specs.declared.token.Piece.{Piece}
use Rattle.phases.specs.declared.token.Piece.TheVariants.{Newline}
use Rattle.phases.specs.declared.token.Place.{Place}
use Rattle.phases.specs.declared.token.Place.TheVariants.{Start}
use Rattle.phases.specs.Text.{Char, logical, trigraph, bytes_of}
use Rattle.phases.specs.Grammar.{longest_within, punctuators}
use Rattle.phases.specs.Lines.{piece_at, place_after}

abbrev pub with_end : Piece → ℕ → List ℕ → List ℕ
with_end Newline line ends = line ∷ ends
with_end _ line ends = ends

-- the physical lines of the newlines that end token lines, which none within a comment does; the first `skip` characters
-- belong to the piece before
unfoldable pub line_ends : ℕ → Place → List Char → List ℕ
line_ends skip place [] = []
line_ends (suc k) place (c ∷ cs) = line_ends k place cs
line_ends zero place (c ∷ cs) =
    let piece = piece_at place c.byte (bytes_of cs) in
    with_end piece.0 c.line (line_ends (piece.1 - 1) (place_after piece.0 place (take piece.1 (bytes_of (c ∷ cs)))) cs)

-- the splice of line 1, the comment of lines 4 to 6
pub row_ends : line_ends 0 Start (logical 1 (codes "a\\\nb\n\n/* x\n\"\n*/ '\n// ??/\n'\n")) ≡ 2 ∷ 3 ∷ 6 ∷ 8 ∷ []
unfolding line_ends logical trigraph longest_within punctuators
row_ends = refl
