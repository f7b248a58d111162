-- Registers that agree but for some.
use Rattle.std.proofs.Common.{◌≡◌, ◌≢◌, ◌⊎◌, inl, inr, ⊎_elim, ℕ, ◌+◌, ◌<◌, ◌≤◌, refl, ◌∙◌, arith, eqb}
use Rattle.std.specs.Prelude.{nat_lt}
use Rattle.std.proofs.lemmas.Bool.{ltb-true, ltb-false}
use Rattle.select_exec.specs.Light.{reg, with_reg}
use Rattle.select_exec.proofs.Bridge.{bool_cases}
use Rattle.select_exec.proofs.Words.{with_other}
use Rattle.select.specs.Selected.{kept}

-- ---- s0 to s11

kept_is : (j : ℕ) → ((j < 2) × (kept j ≡ 8 + j)) ⊎ ((2 ≤ j) × (kept j ≡ 16 + j))
kept_is j = bool_cases (nat_lt j 2) (λ e. inl (ltb-true j 2 e, rw e refl)) (λ e. inr (ltb-false j 2 e, rw e refl))

-- none of the first 8, and none from a0 to a7
pub kept_above : (j : ℕ) → 8 ≤ kept j
kept_above j = ⊎_elim (λ p. omega (arith, p.1)) (λ p. omega (arith, p.1)) (kept_is j)

pub kept_no_temporary : (j k : ℕ) → k < 8 → kept j ≢ 10 + k
kept_no_temporary j k h e = ⊎_elim (λ p. omega (arith, p.0, p.1, e)) (λ p. omega (arith, p.0, p.1, e, h)) (kept_is j)

pub kept_once : (j c : ℕ) → kept j ≡ kept c → j ≡ c
kept_once j c e =
    ⊎_elim
    (λ p. ⊎_elim (λ q. omega (arith, p.1, q.1, e)) (λ q. omega (arith, p.0, p.1, q.0, q.1, e)) (kept_is c))
    (λ p. ⊎_elim (λ q. omega (arith, p.0, p.1, q.0, q.1, e)) (λ q. omega (arith, p.1, q.1, e)) (kept_is c))
    (kept_is j)

-- ---- agreement

-- but for x
pub record Only (x : ℕ) (r r2 : ℕ → ℕ) : Type 0 where
  pub each : (k : ℕ) → k ≢ x → r2 k ≡ r k

-- but for the free registers and d
pub record Off (d : ℕ) (r r2 : ℕ → ℕ) : Type 0 where
  pub each : (k : ℕ) → k ≢ 5 → k ≢ 6 → k ≢ 7 → k ≢ d → r2 k ≡ r k

pub only_none : (x : ℕ) (r : ℕ → ℕ) → Only x r r
only_none x r = record { each = λ k ne. refl }

pub only_one : (x w : ℕ) (r : ℕ → ℕ) → Only x r (with_reg r x w)
only_one x w r = record { each = λ k ne. with_other r x w k ne }

pub only_then : (x : ℕ) (r r1 r2 : ℕ → ℕ) → Only x r r1 → Only x r1 r2 → Only x r r2
only_then x r r1 r2 p q = record { each = λ k ne. q.each k ne ∙ p.each k ne }

pub off_none : (d : ℕ) (r : ℕ → ℕ) → Off d r r
off_none d r = record { each = λ k e5 e6 e7 ed. refl }

pub off_only : (d : ℕ) (r r2 : ℕ → ℕ) → Only d r r2 → Off d r r2
off_only d r r2 q = record { each = λ k e5 e6 e7 ed. q.each k ed }

-- a free register more
pub off_then : (d x : ℕ) (r r1 r2 : ℕ → ℕ) → 5 ≤ x → x ≤ 7 → Off d r r1 → Only x r1 r2 → Off d r r2
off_then d x r r1 r2 lo hi o q = record { each = λ k e5 e6 e7 ed. q.each k (λ e. omega (arith, e5, e6, e7, lo, hi, e)) ∙ o.each k e5 e6 e7 ed }

-- d at last
pub off_last : (d : ℕ) (r r1 r2 : ℕ → ℕ) → Off 5 r r1 → Only d r1 r2 → Off d r r2
off_last d r r1 r2 o q = record { each = λ k e5 e6 e7 ed. q.each k ed ∙ o.each k e5 e6 e7 e5 }

pub off_off : (d : ℕ) (r r1 r2 : ℕ → ℕ) → Off 5 r r1 → Off d r1 r2 → Off d r r2
off_off d r r1 r2 o q = record { each = λ k e5 e6 e7 ed. q.each k e5 e6 e7 ed ∙ o.each k e5 e6 e7 e5 }

-- the registers that no instruction frees
pub off_kept : (d : ℕ) (r r2 : ℕ → ℕ) → Off d r r2 → (j : ℕ) → kept j ≢ d → r2 (kept j) ≡ r (kept j)
off_kept d r r2 o j ne = o.each (kept j) (λ e. omega (arith, kept_above j, e)) (λ e. omega (arith, kept_above j, e)) (λ e. omega (arith, kept_above j, e)) ne

pub off_kept_free : (r r2 : ℕ → ℕ) → Off 5 r r2 → (j : ℕ) → r2 (kept j) ≡ r (kept j)
off_kept_free r r2 o j = off_kept 5 r r2 o j (λ e. omega (arith, kept_above j, e))

pub off_temporary : (d : ℕ) (r r2 : ℕ → ℕ) → Off d r r2 → (k : ℕ) → 10 + k ≢ d → r2 (10 + k) ≡ r (10 + k)
off_temporary d r r2 o k ne = o.each (10 + k) (λ e. omega (arith, e)) (λ e. omega (arith, e)) (λ e. omega (arith, e)) ne

pub off_sp : (d : ℕ) (r r2 : ℕ → ℕ) → Off d r r2 → d ≢ 2 → r2 2 ≡ r 2
off_sp d r r2 o ne = o.each 2 (λ e. omega (arith, e)) (λ e. omega (arith, e)) (λ e. omega (arith, e)) (λ e. ne (omega (arith, e)))

pub off_ra : (d : ℕ) (r r2 : ℕ → ℕ) → Off d r r2 → d ≢ 1 → r2 1 ≡ r 1
off_ra d r r2 o ne = o.each 1 (λ e. omega (arith, e)) (λ e. omega (arith, e)) (λ e. omega (arith, e)) (λ e. ne (omega (arith, e)))

pub off_gp : (d : ℕ) (r r2 : ℕ → ℕ) → Off d r r2 → d ≢ 3 → r2 3 ≡ r 3
off_gp d r r2 o ne = o.each 3 (λ e. omega (arith, e)) (λ e. omega (arith, e)) (λ e. omega (arith, e)) (λ e. ne (omega (arith, e)))

-- ---- as they are read

pub only_reg : (x q : ℕ) (r r2 : ℕ → ℕ) → Only x r r2 → q ≢ x → reg r2 q ≡ reg r q
only_reg x q r r2 o ne = bool_cases (eqb q 0) (λ t. rw t refl) (λ t. rw t (o.each q ne))

pub off_reg : (q : ℕ) (r r2 : ℕ → ℕ) → Off 5 r r2 → q ≢ 5 → q ≢ 6 → q ≢ 7 → reg r2 q ≡ reg r q
off_reg q r r2 o e5 e6 e7 = bool_cases (eqb q 0) (λ t. rw t refl) (λ t. rw t (o.each q e5 e6 e7 e5))
