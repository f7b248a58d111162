-- Stretches of code: their ends, their room, and that their instructions are fine.
use Rattle.std.proofs.Common.{◌≡◌, ⊎_elim, ℕ, ◌+◌, ◌*◌, ◌<◌, ◌≤◌, Some, sym, ap, ◌∙◌, subst, arith}
use Rattle.std.proofs.lemmas.Bool.{cases_lt}
use Rattle.std.specs.Prelude.{slice_get}
use Rattle.tac_code.specs.declared.code.Instruction.{Instruction}
use Rattle.lower_correct.specs.Code.{One}
use Rattle.lower_bounds.specs.inside.Rooms.{room_of, coarse_of, before}
use Rattle.lower_bounds.proofs.Lists.{same_some, before_next}
use Rattle.lower_bounds.proofs.Bytes.{within_coarse}
use Rattle.lower_bounds.proofs.Grounds.{Ground, Fine}

no_less : (p q : ℕ) → p + 1 ≡ q → p ≤ q
no_less p q e = omega (arith, e)

only : (p q j : ℕ) → p + 1 ≡ q → p ≤ j → j < q → p ≡ j
only p q j e lo hi = omega (arith, e, lo, hi)

one_room : (a b r d u : ℕ) → b ≡ a + r → r + d ≤ 128 * u → b + d ≤ a + 128 * u
one_room a b r d u e h = omega (arith, e, h)

less_room : (r c d u : ℕ) → r ≤ c → c + d ≤ 128 * u → r + d ≤ 128 * u
less_room r c d u h g = omega (arith, h, g)

same_room : (a b : ℕ) → a ≡ b → b + 0 ≤ a + 128 * 0
same_room a b e = omega (arith, e)

on_room : (a b c u v d e : ℕ) → b + d ≤ a + 128 * u → c + e ≤ b + 128 * v → c + (d + e) ≤ a + 128 * (u + v)
on_room a b c u v d e x y = omega (arith, x, y)

other_room : (a b u d w f : ℕ) → 128 * u + f ≤ 128 * w + d → b + d ≤ a + 128 * u → b + f ≤ a + 128 * w
other_room a b u d w f h x = omega (arith, h, x)

goes_on : (a b c : ℕ) → a ≤ b → b ≤ c → a ≤ c
goes_on a b c x y = omega (arith, x, y)

is_none : (p q j : ℕ) → p ≡ q → p ≤ j → j < q → ⊥
is_none p q j e lo hi = omega (arith, e, lo, hi)

same_le : (p q : ℕ) → p ≡ q → p ≤ q
same_le p q e = omega (arith, e)

module _ (z : Ground) where
  -- from pc to pc2: the room of u nodes, d being left; where A holds, each instruction is fine
  pub record Within (A : Type 0) (u d pc pc2 : ℕ) : Type 0 where
    pub forward : pc ≤ pc2
    pub room : before z.code pc2 + d ≤ before z.code pc + 128 * u
    pub each : A → (j : ℕ) (x : Instruction) → pc ≤ j → j < pc2 → slice_get z.code j ≡ Some x → Fine z x

  stretched : {A : Type 0} (i : Instruction) (d pc pc2 u : ℕ) → One z.code i pc pc2 → room_of i + d ≤ 128 * u → (A → Fine z i) → Within A u d pc pc2
  stretched i d pc pc2 u o small fine = record {
    forward = no_less pc pc2 o.next;
    room = one_room (before z.code pc) (before z.code pc2) (room_of i) d u (before_next z.code pc pc2 i o.at o.next) small;
    each = λ a j x lo hi at. subst (Fine z) (same_some i x (sym o.at ∙ (ap (slice_get z.code) (only pc pc2 j o.next lo hi) ∙ at))) (fine a);
  }

  -- one instruction whose operands are known
  pub one_fine : {A : Type 0} (i : Instruction) (d pc pc2 : ℕ) → One z.code i pc pc2 → room_of i + d ≤ 128 → (A → Fine z i) → Within A 1 d pc pc2
  one_fine i d pc pc2 o small fine = stretched i d pc pc2 1 o small fine

  -- one instruction, with the room of u nodes
  pub one_in : {A : Type 0} (u : ℕ) (i : Instruction) (d pc pc2 : ℕ) → One z.code i pc pc2 → coarse_of i + d ≤ 128 * u → (A → Fine z i) → Within A u d pc pc2
  one_in u i d pc pc2 o small fine = stretched i d pc pc2 u o (less_room (room_of i) (coarse_of i) d u (within_coarse i) small) fine

  pub one : {A : Type 0} (i : Instruction) (d pc pc2 : ℕ) → One z.code i pc pc2 → coarse_of i + d ≤ 128 → (A → Fine z i) → Within A 1 d pc pc2
  one = one_in 1

  pub none : {A : Type 0} (pc pc2 : ℕ) → pc ≡ pc2 → Within A 0 0 pc pc2
  none pc pc2 e = record {
    forward = same_le pc pc2 e;
    room = same_room (before z.code pc) (before z.code pc2) (ap (before z.code) e);
    each = λ a j x lo hi at. absurd (is_none pc pc2 j e lo hi);
  }

  pub join : {A : Type 0} {u d v e pc p1 pc2 : ℕ} → Within A u d pc p1 → Within A v e p1 pc2 → Within A (u + v) (d + e) pc pc2
  join {A} {u} {d} {v} {e} {pc} {p1} {pc2} first second = record {
    forward = goes_on pc p1 pc2 first.forward second.forward;
    room = on_room (before z.code pc) (before z.code p1) (before z.code pc2) u v d e first.room second.room;
    each = λ a j x lo hi at. ⊎_elim (λ lt. first.each a j x lo lt at) (λ ge. second.each a j x ge hi at) (cases_lt j p1);
  }

  pub settle : {A : Type 0} {u d pc pc2 : ℕ} (w f : ℕ) → 128 * u + f ≤ 128 * w + d → Within A u d pc pc2 → Within A w f pc pc2
  settle {A} {u} {d} {pc} {pc2} w f h s = record {
    forward = s.forward;
    room = other_room (before z.code pc) (before z.code pc2) u d w f h s.room;
    each = s.each;
  }

  pub aimed : {A B : Type 0} {u d pc pc2 : ℕ} → (B → A) → Within A u d pc pc2 → Within B u d pc pc2
  aimed {A} {B} {u} {d} {pc} {pc2} g s = record {
    forward = s.forward;
    room = s.room;
    each = λ b. s.each (g b);
  }
