-- Token lines, one after another in one list.
use Rattle.std.specs.Prelude.{◌≡◌, ℕ, zero, suc, ◌≤◌, List, [], ◌∷◌, slice_range}
use Rattle.phases.specs.Token.{Token}

-- the lines of a list of tokens from number `start` on, by how many tokens there are up to the end of each line
abbrev pub cut : ℕ → List ℕ → List Token → List (List Token)
cut start [] tokens = []
cut start (e ∷ es) tokens = slice_range tokens start e ∷ cut e es tokens

-- the ends are in order, none below `start`, and the last of them is `last` (`start` where there is none)
abbrev pub Ascend : ℕ → List ℕ → ℕ → Type 0
Ascend start [] last = start ≡ last
Ascend start (e ∷ es) last = (start ≤ e) × Ascend e es last

-- where the line with this number begins, counted from 0; past the last line, the end of the last
abbrev pub line_start : ℕ → List ℕ → ℕ → ℕ
line_start start es zero = start
line_start start [] (suc i) = start
line_start start (e ∷ es) (suc i) = line_start e es i

-- lines, and the tokens of the line that is not ended yet
pub record Begun : Type 0 where
  pub lines : List (List Token)
  pub line : List Token
