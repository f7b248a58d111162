-- Tokens as text.
use Rattle.std.specs.Prelude.{◌≡◌, ◌⊎◌, ℕ, List, [], ◌∷◌, ◌++◌, Option, codes}
use Rattle.std.specs.List.{flat_map}
use Rattle.srcset.specs.declared.code.Code.TheVariants.{CannotWrite}
use Rattle.srcset.specs.declared.fault.Fault.{Fault}
use Rattle.srcset.specs.Fault.{IsFault, IsMemoryFault}
use Rattle.srcset.specs.Writing.{TakesBeginning}
use Rattle.phases.specs.Token.{Token}

abbrev pub behind_space : Token → List ℕ
behind_space x = codes " " ++ x.spelling

-- the spellings, one space between
abbrev pub spaced : List Token → List ℕ
spaced [] = []
spaced (x ∷ xs) = x.spelling ++ flat_map behind_space xs

-- and a newline
abbrev pub printed : List Token → List ℕ
printed list = spaced list ++ codes "\n"

-- memory ran out before anything was written, or the writer took a beginning
abbrev pub IsPrintRefused : List Token → Option (List ℕ) → Option (List ℕ) → Fault → Type 0
IsPrintRefused list before after fault =
    (IsMemoryFault fault × (after ≡ before)) ⊎ (IsFault fault CannotWrite [] 0 × TakesBeginning before after (printed list))
