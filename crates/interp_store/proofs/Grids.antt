-- The results of changes of arrays.
use Rattle.std.proofs.Common.{◌≡◌, ℕ, ◌+◌, ◌-◌, ◌*◌, ◌^◌, ◌<◌, ◌≤◌, ◌⊎◌, ℤ, pos, List, [], Option, Some, arith, ap, ◌∙◌}
use Rattle.std.specs.Prelude.{min, Result, Ok, Err, OnOk}
use Rattle.typing_spec.specs.Types.{elements_in}
use Rattle.csem.specs.Store.{at_path, put_at, with_value, with_zeros}
use Rattle.interp_store.specs.Cells.{shaped, behind, number}
use Rattle.interp_store.proofs.Shapes.{puts_value, puts_zeros}
use Rattle.interp_store.proofs.Capped.{both_capped}

module _ {A E : Type 0} (path ls ms : List ℕ) (vs ws : ℕ → Option ℤ) (size : ℕ) (fits : size < 2 ^ 63) (same : ms ≡ ls) where
  -- element k, which has a cell, has become v
  pub value_set : (r : Result A E) (k : ℕ) (v w : ℤ) → w ≡ v → behind path ls ≡ Some [] → k ≡ min (number path ls 0) (2 ^ 64 - 1) → OnOk r (k < size) → OnOk r (ws k ≡ Some w) →
      OnOk r ((j : ℕ) → (j < k) ⊎ (k < j) → ws j ≡ vs j) → OnOk r (shaped ms ws 0 ≡ put_at path (with_value v (at_path (Some (shaped ls vs 0)) path)) (shaped ls vs 0))
  value_set (Ok a) k v w is e at held here others =
      ap (λ ls. shaped ls ws 0) same ∙ puts_value path ls vs ws k v e (omega (arith, at, held, fits)) (here ∙ ap Some is) others
  value_set (Err e) k v w is stands at held here others = tt

  -- the elements from number `first` on have become zero
  pub zeros_set : (r : Result A E) (rest : List ℕ) (first count : ℕ) → Some rest ≡ behind path ls → count ≡ min (elements_in rest) (2 ^ 64 - 1) →
      first ≡ min (min (number path ls 0) (2 ^ 64 - 1) * count) (2 ^ 64 - 1) → OnOk r (first + count ≤ size) → OnOk r ((j : ℕ) → j < count → ws (first + j) ≡ Some (pos 0)) →
      OnOk r ((j : ℕ) → (j < first) ⊎ (first + count ≤ j) → ws j ≡ vs j) → OnOk r (shaped ms ws 0 ≡ put_at path (with_zeros (at_path (Some (shaped ls vs 0)) path)) (shaped ls vs 0))
  zeros_set (Ok a) rest first count e n at held inside outside =
      let product : first ≡ min (number path ls 0 * elements_in rest) (2 ^ 64 - 1) =
      at ∙ ap (λ n. min (min (number path ls 0) (2 ^ 64 - 1) * n) (2 ^ 64 - 1)) n ∙ both_capped (number path ls 0) (elements_in rest) (2 ^ 64 - 1) in
      ap (λ ls. shaped ls ws 0) same
      ∙ puts_zeros path ls rest vs ws first count e (omega (arith, product, held, fits)) (omega (arith, n, held, fits)) inside outside
  zeros_set (Err e) rest first count stands n at held inside outside = tt
