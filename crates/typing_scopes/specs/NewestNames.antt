-- The newest of several equal names in a list with the newest first.
use Rattle.std.specs.Prelude.{ℕ, zero, suc, ◌≡◌, ◌+◌, ◌<◌, List, [], ◌∷◌, map, length, Option, Some, None, nat_eq, if◌then◌else◌}
use Rattle.typing_scopes.specs.declared.newest_names.Entry.{Entry}

abbrev pub names_of : List Entry → List ℕ
names_of es = map (λ e. e.name) es

-- its place, counted from 1 from the oldest, or 0
abbrev pub place_of : List ℕ → ℕ → ℕ
place_of [] n = 0
place_of (m ∷ ms) n = if nat_eq m n then length ms + 1 else place_of ms n

abbrev pub before : ℕ → Option ℕ
before zero = None
before (suc k) = Some k

-- its place, counted from 0 from the oldest
abbrev pub newest_of : List ℕ → ℕ → Option ℕ
newest_of ms n = before (place_of ms n)

-- each entry holds the place of the one that it hides
abbrev pub Hides : ℕ → List Entry → Type 0
Hides count [] = Unit {0}
Hides count (e ∷ es) = (e.hides ≡ place_of (names_of es) e.name) × (e.name < count) × Hides count es
