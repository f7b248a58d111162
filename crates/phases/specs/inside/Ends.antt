-- How a file ends, by its bytes alone.
use Rattle.std.specs.Prelude.{ℕ, ◌||◌, nat_eq, Bool, List, [], ◌∷◌}
use Rattle.std.specs.List.{ends_with}

-- a backslash or its trigraph comes last before the end of the last line
abbrev pub bytes_end_spliced : List ℕ → Bool
bytes_end_spliced bytes =
    ends_with nat_eq bytes (92 ∷ 10 ∷ []) || (ends_with nat_eq bytes (92 ∷ 13 ∷ 10 ∷ [])
    || (ends_with nat_eq bytes (63 ∷ 63 ∷ 47 ∷ 10 ∷ []) || ends_with nat_eq bytes (63 ∷ 63 ∷ 47 ∷ 13 ∷ 10 ∷ [])))
