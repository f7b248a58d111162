-- Simulations compose.
use Rattle.std.proofs.Common.{◌≤◌, ℕ, ◌*◌, sym, subst, mul_assoc, arith}
use Rattle.std.proofs.Math.Nat.{le_trans}
use Rattle.std.proofs.lemmas.Nat.{mul-le}
use Rattle.cc_backend.specs.Simulation.{Compose}

further : (n a k b j : ℕ) → n ≤ a * k → k ≤ b * j → n ≤ a * b * j
further n a k b j one two =
    let more : a * k ≤ a * (b * j) = mul-le a k a (b * j) (omega arith) two in
    subst (λ m. n ≤ m) (sym (mul_assoc a b j)) (le_trans one more)

pub compose : Compose
compose s t weight limit first second third one two = record {
  goes_on = λ n x goes fit.
      let b = one.goes_on n x goes fit in
      let c = two.goes_on b.0 x b.4 (λ calls there. fit calls (b.5 calls there)) in
      (c.0, further n s.slack b.0 t.slack c.0 b.1 c.1, c.2, omega (arith, b.3, c.3), c.4, λ calls there. b.5 calls (c.5 calls there));
  halts = λ n x stands fit.
      let b = one.halts n x stands fit in
      let c = two.halts b.0 x b.2 (λ calls there. fit calls (b.3 calls there)) in
      (c.0, omega (arith, b.1, c.1), c.2, λ calls there. b.3 calls (c.3 calls there));
  ends = λ n x ends fit.
      let b = one.ends n x ends fit in
      let c = two.ends b.0 x b.2 (λ calls there. fit calls (b.3 calls there)) in
      (c.0, omega (arith, b.1, c.1), c.2, λ calls there. b.3 calls (c.3 calls there));
}
