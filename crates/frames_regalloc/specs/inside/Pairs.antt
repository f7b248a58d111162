-- Words that change places, one pair after the other.
use Rattle.std.specs.Prelude.{◌==◌, ◌<◌, ℕ, List, [], ◌∷◌, if◌then◌else◌}
use Rattle.frames_regalloc.specs.declared.swaps.Swap.{Swap}

abbrev pub swapped : Swap → ℕ → ℕ
swapped s c = if c == s.first then s.second else if c == s.second then s.first else c

abbrev pub through : List Swap → ℕ → ℕ
through [] c = c
through (s ∷ ss) c = through ss (swapped s c)

-- all of them are words of a frame of n words
abbrev pub AreInside : ℕ → List Swap → Type 0
AreInside n [] = Unit {0}
AreInside n (s ∷ ss) = (s.first < n) × (s.second < n) × AreInside n ss
