-- Code with no marks stays as it is.
use Rattle.std.proofs.Common.{◌≡◌, ℕ, ◌+◌, List, [], ◌∷◌, true, refl, ap, ◌∙◌}
use Rattle.std.specs.Prelude.{◌&&◌}
use Rattle.frames_code.specs.declared.code.Instruction.{Instruction}
use Rattle.frames_code.specs.declared.code.Instruction.TheVariants as instruction
use Rattle.frames_reach.specs.layer.Functions.{is_right, are_right, all_kept, IsReachedCode}

one_right : (k : ℕ) (x : Instruction) → is_right [] k x ≡ true
one_right k instruction.Nothing = refl
one_right k (instruction.Move d x) = refl
one_right k (instruction.Compute o d x y) = refl
one_right k (instruction.Convert c d x) = refl
one_right k (instruction.Load w d l) = refl
one_right k (instruction.Store w x l) = refl
one_right k (instruction.Address d l) = refl
one_right k (instruction.Element d x y size) = refl
one_right k (instruction.Jump to) = refl
one_right k (instruction.Branch t x y to) = refl
one_right k (instruction.Call f) = refl
one_right k instruction.PutByte = refl
one_right k instruction.GetByte = refl
one_right k instruction.Exit = refl
one_right k instruction.Return = refl

all_right : (k : ℕ) (xs : List Instruction) → are_right [] k xs ≡ true
all_right k [] = refl
all_right k (x ∷ xs) = ap (λ b. b && are_right [] (k + 1) xs) (one_right k x) ∙ all_right (k + 1) xs

all_stay : (k : ℕ) (xs : List Instruction) → xs ≡ all_kept [] k xs
all_stay k [] = refl
all_stay k (x ∷ xs) = ap (λ ys. x ∷ ys) (all_stay (k + 1) xs)

pub stays : (code : List Instruction) → IsReachedCode code code
stays code = record { marks = []; first = refl; right = all_right 0 code; is = all_stay 0 code }
