-- Counts of nodes that a word holds, against the limits.
use Rattle.std.proofs.Common.{◌≡◌, ℕ, ◌+◌, ◌-◌, ◌<◌, ◌≤◌, ◌==◌, Bool, true, false, inr, refl, ap, arith}
use Rattle.std.proofs.lemmas.Bool.Decides.{nat_tests}
use Rattle.srcset.specs.declared.refusal.Pos.{Pos}
use Rattle.srcset.specs.declared.refusal.Refusal.TheVariants as fault
use Rattle.srcset.specs.declared.code.Code.TheVariants.{ProgramNodeLimit}
use Rattle.tree.specs.Tree.{ExternalTree}
use Rattle.tree.specs.Counts.{external_nodes}
use Rattle.parser.specs.Units.{IsSmall}
use Rattle.parser.specs.inside.UnitAnswers.{Counts, CountsTooMany}
use Rattle.std.specs.Prelude.{IsTrue, ◌↔◌}
use Rattle.std.proofs.Math.Dec.{leb}
use Rattle.std.proofs.lemmas.Bool.{leb-true, le-leb}
use Rattle.tree.specs.Capped.{capped}

-- within a limit, the count is exact
pub within_exact : (n x m : ℕ) → n ≡ capped x → n ≤ m → m < 18446744073709551615 → n ≡ x
unfolding capped
within_exact n x m e le small = omega arith

pub within_limit : (n x m : ℕ) → n ≡ capped x → n ≤ m → m < 18446744073709551615 → x ≤ m
unfolding capped
within_limit n x m e le small = omega arith

pub limit_within : (n x m : ℕ) → n ≡ capped x → x ≤ m → n ≤ m
unfolding capped
limit_within n x m e le = omega arith

pub past_limit : (n x m : ℕ) → n ≡ capped x → m < n → m < x
unfolding capped
past_limit n x m e lt = omega arith

-- one external declaration more is within the limit, or is not
pub counts_more : (n more : ℕ) (e : ExternalTree) → IsSmall e → more ≡ capped (external_nodes e) → n ≤ 262144 → more ≤ 262144 - n → Counts n e (n + more)
counts_more n more e small count le fits = let exact = within_exact more (external_nodes e) 262144 count (omega arith) (omega arith) in
    record { small = small; total = ap (λ (k : ℕ). n + k) exact; few = omega arith }

pub counts_passes : (n more : ℕ) (e : ExternalTree) (at : Pos) → more ≡ capped (external_nodes e) → n ≤ 262144 → 262144 - n < more →
    CountsTooMany n e at (fault.At ProgramNodeLimit at)
counts_passes n more e at count le lt = let past = past_limit more (external_nodes e) (262144 - n) count lt in inr (refl, omega arith)

-- a list that is not empty has a token
pub some_left : (n : ℕ) (b : Bool) → b ≡ (n == 0) → b ≡ false → 0 < n
some_left n b e f = grind (arith, nat_tests)

pub none_left : (n : ℕ) (b : Bool) → b ≡ (n == 0) → b ≡ true → n ≡ 0
none_left n b e f = grind (arith, nat_tests)

-- the test of a function's nodes
pub small_test : (n x : ℕ) → n ≡ capped x → IsTrue (leb n 8000) ↔ (x ≤ 8000)
small_test n x e = (λ t. within_limit n x 8000 e (leb-true n 8000 t) (omega arith), λ le. le-leb n 8000 (limit_within n x 8000 e le))
