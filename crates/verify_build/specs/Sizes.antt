-- The frames of a file's functions, as the compiler lists them.
use Rattle.std.specs.Prelude.{ℕ, List, String, map}
use Rattle.std.specs.Global.{Global}

-- the second of each entry: name, bytes of the frame, weight
abbrev pub frames_listed : List (String Global × ℕ × ℕ) → List ℕ
frames_listed entries = map (λ (e : String Global × ℕ × ℕ). e.1) entries
