-- What a call passes to its caller.
use Rattle.std.proofs.Common.{◌≡◌, Option, Some, Bool, true, false, refl, ap, ◌∙◌}
use Rattle.frames_code.specs.Code.{Program}
use Rattle.frames_code.specs.Run.{Value, State, result_if, result_of}

given : (b : Bool) (o : Option Value) (v : Value) → result_if b o ≡ Some v → o ≡ Some v
given true o v e = e
given false o v e = absurd (let z : ⊥ = cc in z)

-- a result is in temporary 0
pub result_there : (p : Program) (s : State) (v : Value) → result_of p s ≡ Some v → s.temporaries 0 ≡ Some v
result_there p s v e = given _ (s.temporaries 0) v e

-- the same, if temporary 0 is where there is a result
pub result_same : (b c : Bool) (m n : Option Value) → c ≡ b → (b ≡ true → n ≡ m) → result_if c n ≡ result_if b m
result_same true c m n e same = ap (λ x. result_if x n) e ∙ same refl
result_same false c m n e same = ap (λ x. result_if x n) e
