-- The token lines of a file, each with the physical line on which it ends; the numbering of #line begins after that line
-- (ISO/IEC 9899:2011 6.10.4).
use Rattle.std.specs.Prelude.{ℕ, List, [], ◌∷◌, drop, Result, Ok, Err}
use Rattle.srcset.specs.declared.refusal.Refusal.{Refusal}
use Rattle.phases.specs.declared.token.Place.TheVariants.{Start}
use Rattle.phases.specs.Token.{Token}
use Rattle.phases.specs.Text.{logical}
use Rattle.phases.specs.Lines.{scanned}
use Rattle.phases.specs.LineEnds.{line_ends}

pub record Line : Type 0 where
  pub tokens : List Token
  pub end : ℕ

abbrev pub first_end : List ℕ → ℕ
first_end [] = 0
first_end (n ∷ ns) = n

-- there are as many ends as lines
abbrev pub lines_with : List (List Token) → List ℕ → List Line
lines_with [] ends = []
lines_with (ts ∷ tss) ends = record { tokens = ts; end = first_end ends } ∷ lines_with tss (drop 1 ends)

abbrev pub lines_or_refusal : Result (List (List Token)) Refusal → List ℕ → Result (List Line) Refusal
lines_or_refusal (Ok tss) ends = Ok (lines_with tss ends)
lines_or_refusal (Err r) ends = Err r

-- the lines of a file of this number
unfoldable pub lines_of : ℕ → List ℕ → Result (List Line) Refusal
lines_of file bytes = lines_or_refusal (scanned file bytes) (line_ends 0 Start (logical 1 bytes))
