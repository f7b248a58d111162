-- The faults of a verdict, as numbers of codes and lines, in the order in which the rules name them.
use Rattle.std.specs.Prelude.{ℕ, List, [], ◌∷◌, ◌++◌}
use Rattle.srcset.specs.Codes.{number_of}
use Rattle.typing_spec.specs.Verdict.{Verdict, fine, broken, Violations, none, one, some}

pub record Told : Type 0 where
  pub code : ℕ
  pub line : ℕ

abbrev pub fault : ℕ → ℕ → Told
fault code line = record { code = code; line = line }

abbrev pub each_told : Violations → List Told
each_told none = []
each_told (one code at) = fault (number_of code) at.line ∷ []
each_told (some left right) = each_told left ++ each_told right

-- none where the verdict is fine
abbrev pub told : {A : Type 0} → Verdict A → List Told
told (fine a) = []
told (broken vs) = each_told vs
