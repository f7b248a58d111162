-- Functions as they are written, before the program that they are part of exists: a given number of them.
use Rattle.std.specs.Prelude.{◌≡◌, ℕ, List, length, Some, slice_get, nat_eq}
use Rattle.typing_spec.specs.Program as typed
use Rattle.tac_code.specs.Code.{Function}
use Rattle.tac.specs.layer.Functions.{IsFunctionWith}

-- these are the first `number` of the functions of a program
pub record AreFunctionsOf (p : typed.Program) (number : ℕ) (all : List Function) : Type 0 where
  pub count : length all ≡ number
  pub each : (n : ℕ) (f : typed.Function) (g : Function) → slice_get p.functions n ≡ Some f → slice_get all n ≡ Some g
      → IsFunctionWith p (nat_eq n p.main) f g
