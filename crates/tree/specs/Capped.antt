-- Numbers as a machine word can hold them.
use Rattle.std.specs.Prelude.{ℕ, ◌-◌, ◌^◌, min}

-- the number, or the greatest one of 64 bits
unfoldable pub capped : ℕ → ℕ
capped n = min n (2 ^ 64 - 1)

-- the number, or the greatest one of 32 bits
unfoldable pub capped32 : ℕ → ℕ
capped32 n = min n (2 ^ 32 - 1)
