-- Placed code whose calls are near or far: where it ends, and its parts.
use Rattle.std.proofs.Common.{◌≡◌, ◌⊎◌, inl, inr, ℕ, ◌+◌, ◌%◌, ◌≤◌, Bool, true, false, List, [], ◌∷◌, ◌++◌, Option, refl, arith}
use Rattle.rv32.specs.declared.instr.Instr.{Instr}
use Rattle.asm.specs.declared.item.Item.{Item}
use Rattle.asm.specs.declared.item.Item.TheVariants.{Mark, Plain, Branch, Jump, Call, NearCall, Constant, LabelAddress, DataAddress}
use Rattle.asm.specs.Placed as placed
use Rattle.asm.specs.Placed.{ItemAt}
use Rattle.select_exec.specs.Standing.{CallAt, ItemSo, StandsSo, ItemStands, Stands}
use Rattle.select_exec.proofs.Placing.{Onward}
use Rattle.select_exec.proofs.Placing as placing

module _ (T : ℕ → Option Instr) (env : ℕ → ℕ) (seg : ℕ) where
  after_call : (near : Bool) (a to next : ℕ) → a % 4 ≡ 0 → CallAt near T a to next → Onward a next
  after_call true a to next al q = record { on = omega (arith, q.next_is); aligned = omega (arith, q.next_is) }
  after_call false a to next al q = record { on = omega (arith, q.next_is); aligned = omega (arith, q.next_is) }

  after_either : (a to next : ℕ) → a % 4 ≡ 0 → CallAt true T a to next ⊎ CallAt false T a to next → Onward a next
  after_either a to next al (inl q) = after_call true a to next al q
  after_either a to next al (inr q) = after_call false a to next al q

  after_item : (x : Item) (a next : ℕ) → a % 4 ≡ 0 → ItemStands T env seg x a next → Onward a next
  after_item (Call to) a next al q = after_either a (env to) next al q
  after_item (Mark l) a next al q = placing.after_item T env seg (Mark l) a next al q
  after_item (Plain i) a next al q = placing.after_item T env seg (Plain i) a next al q
  after_item (Branch t l r to) a next al q = placing.after_item T env seg (Branch t l r to) a next al q
  after_item (Jump to) a next al q = placing.after_item T env seg (Jump to) a next al q
  after_item (NearCall to) a next al q = placing.after_item T env seg (NearCall to) a next al q
  after_item (Constant rd v) a next al q = placing.after_item T env seg (Constant rd v) a next al q
  after_item (LabelAddress rd l) a next al q = placing.after_item T env seg (LabelAddress rd l) a next al q
  after_item (DataAddress rd o) a next al q = placing.after_item T env seg (DataAddress rd o) a next al q

  pub after_items : (xs : List Item) (a e : ℕ) → a % 4 ≡ 0 → Stands T env seg xs a e → Onward a e
  after_items [] a e al q = record { on = omega (arith, q); aligned = omega (arith, q) }
  after_items (x ∷ rest) a e al q =
      let one = after_item x a q.0 al q.1 in
      let more = after_items rest q.0 e one.aligned q.2 in
      record { on = omega (arith, one.on, more.on); aligned = more.aligned }

  pub stands_parts : (xs ys : List Item) (a e : ℕ) → Stands T env seg (xs ++ ys) a e → (m : ℕ) × Stands T env seg xs a m × Stands T env seg ys m e
  stands_parts [] ys a e st = (a, refl, st)
  stands_parts (x ∷ xs) ys a e st =
      let rest = stands_parts xs ys st.0 e st.2 in
      (rest.0, (st.0, st.1, rest.1), rest.2)

  -- ---- all near, or all far

  either_call : (near : Bool) (a to next : ℕ) → CallAt near T a to next → CallAt true T a to next ⊎ CallAt false T a to next
  either_call true a to next q = inl q
  either_call false a to next q = inr q

  item_so : (near : Bool) (x : Item) (a next : ℕ) → ItemSo near T env seg x a next → ItemStands T env seg x a next
  item_so near (Call to) a next q = either_call near a (env to) next q
  item_so near (Mark l) a next q = q
  item_so near (Plain i) a next q = q
  item_so near (Branch t l r to) a next q = q
  item_so near (Jump to) a next q = q
  item_so near (NearCall to) a next q = q
  item_so near (Constant rd v) a next q = q
  item_so near (LabelAddress rd l) a next q = q
  item_so near (DataAddress rd o) a next q = q

  pub stands_so : (near : Bool) (xs : List Item) (a e : ℕ) → StandsSo near T env seg xs a e → Stands T env seg xs a e
  stands_so near [] a e q = q
  stands_so near (x ∷ xs) a e q = (q.0, item_so near x a q.0 q.1, stands_so near xs q.0 e q.2)

  pub so_parts : (near : Bool) (xs ys : List Item) (a e : ℕ) → StandsSo near T env seg (xs ++ ys) a e → (m : ℕ) × StandsSo near T env seg xs a m × StandsSo near T env seg ys m e
  so_parts near [] ys a e st = (a, refl, st)
  so_parts near (x ∷ xs) ys a e st =
      let rest = so_parts near xs ys st.0 e st.2 in
      (rest.0, (st.0, st.1, rest.1), rest.2)

  item_far : (x : Item) (a next : ℕ) → ItemAt T env seg x a next → ItemSo false T env seg x a next
  item_far (Mark l) a next q = q
  item_far (Plain i) a next q = q
  item_far (Branch t l r to) a next q = q
  item_far (Jump to) a next q = q
  item_far (Call to) a next q = q
  item_far (NearCall to) a next q = q
  item_far (Constant rd v) a next q = q
  item_far (LabelAddress rd l) a next q = q
  item_far (DataAddress rd o) a next q = q

  pub far_placed : (xs : List Item) (a e : ℕ) → placed.Stands T env seg xs a e → StandsSo false T env seg xs a e
  far_placed [] a e q = q
  far_placed (x ∷ xs) a e q = (q.0, item_far x a q.0 q.1, far_placed xs q.0 e q.2)
