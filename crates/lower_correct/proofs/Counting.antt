-- A count of elements as a word.
use Rattle.std.proofs.Common.{◌≡◌, ℕ, suc, ◌+◌, ◌%◌, ◌^◌, ◌<◌, Some, pos, ap, ◌∙◌, arith}
use Rattle.std.specs.Prelude.{nat_lt, int_lt}
use Rattle.tac_code.specs.declared.code.Reading.TheVariants as reading
use Rattle.tac_code.specs.declared.code.Operation.TheVariants as operation
use Rattle.tac_code.specs.declared.code.Comparison.TheVariants as comparison
use Rattle.tac_code.specs.Run.{operate, holds}

small : (n : ℕ) → n < 2 ^ 32 → n % 2 ^ 32 ≡ n
small n h = omega (arith, h)

pub adds_one : (j : ℕ) → suc j < 2 ^ 32 → operate operation.Add reading.Unsigned j 1 ≡ Some (suc j)
adds_one j h = ap Some (let e : (j % 2 ^ 32 + 1 % 2 ^ 32) % 2 ^ 32 % 2 ^ 32 ≡ suc j = omega (arith, h) in e)

pub less_is : (a b : ℕ) → a < 2 ^ 32 → b < 2 ^ 32 → holds comparison.Less reading.Unsigned a b ≡ nat_lt a b
less_is a b h g = ap (λ n. int_lt (pos n) (pos (b % 2 ^ 32))) (small a h) ∙ ap (λ n. int_lt (pos a) (pos n)) (small b g)
