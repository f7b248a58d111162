-- The first of equal names is the newest of them in reverse order.
use Rattle.std.proofs.Common.{◌≡◌, ℕ, ◌+◌, ◌-◌, ◌<◌, List, [], ◌∷◌, length, Some, None, refl, ap, ◌∙◌, arith, rules, nat_eq, true, false, cond}
use Rattle.typing_spec.specs.Scope.{place_from}
use Rattle.typing_scopes.specs.NewestNames.{place_of, before, newest_of}
use Rattle.typing_scopes.proofs.Lookups.{place_within, one_more}

pub newest_within : (ms : List ℕ) (n k : ℕ) → newest_of ms n ≡ Some k → k < length ms
newest_within ms n k h = omega (arith, place_within ms n, one_more (place_of ms n) k h)

first_found : (ms : List ℕ) (i n k : ℕ) → newest_of ms n ≡ Some k → place_from i ms n ≡ Some (i + (length ms - 1 - k))
first_found [] i n k h = search rules
first_found (m ∷ ms) i n k h =
    elim (nat_eq m n) as (λ v. before (cond v (length ms + 1) (place_of ms n)) ≡ Some k → cond v (Some i) (place_from (i + 1) ms n) ≡ Some (i + (length (m ∷ ms) - 1 - k))) [
      | true ↦ λ h. ap Some (omega (arith, one_more (length ms + 1) k h))
      | false ↦ λ h. first_found ms (i + 1) n k h ∙ ap Some (omega (arith, newest_within ms n k h))
    ] h

pub first_place : (ms : List ℕ) (n k : ℕ) → newest_of ms n ≡ Some k → place_from 0 ms n ≡ Some (length ms - 1 - k)
first_place ms n k h = first_found ms 0 n k h ∙ ap Some (omega arith)

pub first_missing : (ms : List ℕ) (i n : ℕ) → newest_of ms n ≡ None → place_from i ms n ≡ None
first_missing [] i n h = refl
first_missing (m ∷ ms) i n h =
    elim (nat_eq m n) as (λ v. before (cond v (length ms + 1) (place_of ms n)) ≡ None → cond v (Some i) (place_from (i + 1) ms n) ≡ None) [
      | true ↦ λ h. search rules
      | false ↦ λ h. first_missing ms (i + 1) n h
    ] h
