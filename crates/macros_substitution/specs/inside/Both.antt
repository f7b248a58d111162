-- Two hide sets in one.
use Rattle.std.specs.Prelude.{◌≡◌, ℕ, ◌≤◌, true, nat_eq, length}
use Rattle.std.specs.List.{list_any}
use Rattle.macros_substitution.specs.HideSets.{Sets, members, united}

-- each name of the first set is in the second
abbrev pub Holds : Sets → ℕ → ℕ → Type 0
Holds sets set other = (n : ℕ) → list_any (nat_eq n) (members sets set) ≡ true → list_any (nat_eq n) (members sets other) ≡ true

-- the second of these sets has the names of this set and those of the first
pub record IsBoth (sets : Sets) (set : ℕ) (last : ℕ × ℕ) : Type 0 where
  pub behind : last.0 ≤ length sets
  pub known : last.1 ≤ length sets
  pub both : members sets last.1 ≡ united (members sets set) (members sets last.0)
