-- Sizes that are powers of two, and the operands that are indices.
use Rattle.std.proofs.Common.{◌≡◌, ℕ, ◌<◌, ◌^◌, true, Some, None, ap, arith}
use Rattle.std.specs.Prelude.{if◌then◌else◌, ◌==◌, nat_lt}
use Rattle.std.specs.Int.{w32, trailing_zeros}
use Rattle.std.proofs.lemmas.Bool.{and_parts, ltb-true, eqb-true}
use Rattle.std.proofs.lemmas.Nat.{pow_below}
use Rattle.frames_code.specs.declared.code.Operand.{Operand}
use Rattle.frames_code.specs.declared.code.Operand.TheVariants as operand
use Rattle.frames_code.specs.Code.{Function}
use Rattle.frames_code.specs.Sound.{OperandFits, IndexFits, is_power_of_two}
use Rattle.select.specs.Selected.{log2_of}

pub power_small : (size : ℕ) → is_power_of_two size ≡ true → size < 2 ^ 32
power_small size e =
    let j = trailing_zeros w32 size in
    let both = and_parts (nat_lt j 32) (2 ^ j == size) e in
    let is : 2 ^ j ≡ size = eqb-true (2 ^ j) size both.1 in
    let below : 2 ^ j < 2 ^ 32 = pow_below j 32 (ltb-true j 32 both.0) in
    omega (arith, is, below)

-- it is multiplied by a shift
pub power_is : (size : ℕ) → is_power_of_two size ≡ true → log2_of size ≡ Some (trailing_zeros w32 size)
power_is size e = ap (λ t. if t then Some (trailing_zeros w32 size) else None) e

pub index_fits : (f : Function) (x : Operand) → IndexFits f x → OperandFits f x
index_fits f (operand.Temporary k) fit = fit
index_fits f (operand.Cell c) fit = fit
index_fits f (operand.Constant v) fit = absurd fit
index_fits f (operand.Argument k) fit = absurd fit
