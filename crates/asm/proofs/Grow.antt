-- More long branches move every item to the same or a higher address, and no two nearer.
use Rattle.std.proofs.lemmas.List.{get_or_default}
use Rattle.std.proofs.Common.{length, get_or, ◌≡◌, inl, inr, ℕ, zero, suc, ◌+◌, ◌*◌, ◌<◌, ◌≤◌, List, Bool, true, false, refl, sym, ◌∙◌, arith}
use Rattle.std.proofs.lemmas.Bool.{cases_lt}
use Rattle.asm.specs.declared.item.Item.{Item}
use Rattle.asm.specs.declared.item.Item.TheVariants.{Mark, Plain, Branch, Jump, Call, NearCall, Constant, LabelAddress, DataAddress}
use Rattle.asm.specs.Layout.{item_at, size, place, all_long, Within, Near}
use Rattle.asm.specs.inside.Choice.{IsMeasured}

size_grows : (x : Item) (l m : Bool) → (l ≡ true → m ≡ true) → size l x ≤ size m x
size_grows (Branch t a b to) true m h = rw (h refl) (omega arith)
size_grows (Branch t a b to) false true h = omega arith
size_grows (Branch t a b to) false false h = omega arith
size_grows (Mark l) a b h = omega arith
size_grows (Plain l) a b h = omega arith
size_grows (Jump l) a b h = omega arith
size_grows (Call l) a b h = omega arith
size_grows (NearCall l) a b h = omega arith
size_grows (Constant l v) a b h = omega arith
size_grows (LabelAddress l v) a b h = omega arith
size_grows (DataAddress l v) a b h = omega arith

-- an item has at most 8 bytes
size_most : (l : Bool) (x : Item) → size l x ≤ 8
size_most true (Branch t a b to) = omega arith
size_most false (Branch t a b to) = omega arith
size_most l (Mark k) = omega arith
size_most l (Plain i) = omega arith
size_most l (Jump to) = omega arith
size_most l (Call to) = omega arith
size_most l (NearCall to) = omega arith
size_most l (Constant rd v) = omega arith
size_most l (LabelAddress rd k) = omega arith
size_most l (DataAddress rd o) = omega arith

pub apart_most : (L : ℕ → Bool) (base : ℕ) (xs : List Item) (j k : ℕ) → j ≤ k → place L base xs k + 8 * j ≤ place L base xs j + 8 * k
apart_most L base xs j zero le =
    let e : j ≡ 0 = omega arith in
    rw e (omega arith)
apart_most L base xs j (suc k) le =
    elim (cases_lt k j) [
      | inl lt ↦ (let e : j ≡ suc k = omega arith in rw e (omega arith))
      | inr ge ↦ (let s = size_most (L k) (item_at xs k) in
          let h = apart_most L base xs j k ge in
          omega (arith, h, s))
    ]

-- the bytes between item j and item k
pub apart_grows : (L M : ℕ → Bool) → Within L M → (base : ℕ) (xs : List Item) (j k : ℕ) → j ≤ k → place L base xs k + place M base xs j ≤ place M base xs k + place L base xs j
apart_grows L M w base xs j zero le =
    let e : j ≡ 0 = omega arith in
    rw e (omega arith)
apart_grows L M w base xs j (suc k) le =
    elim (cases_lt k j) [
      | inl lt ↦ (let e : j ≡ suc k = omega arith in rw e (omega arith))
      | inr ge ↦ (let s = size_grows (item_at xs k) (L k) (M k) (w.all k) in
          let h = apart_grows L M w base xs j k ge in
          omega (arith, h, s))
    ]

-- later items have no lower addresses
pub place_rises : (L : ℕ → Bool) (base : ℕ) (xs : List Item) (j k : ℕ) → j ≤ k → place L base xs j ≤ place L base xs k
place_rises L base xs j zero le =
    let e : j ≡ 0 = omega arith in
    rw e (omega arith)
place_rises L base xs j (suc k) le =
    elim (cases_lt k j) [
      | inl lt ↦ (let e : j ≡ suc k = omega arith in rw e (omega arith))
      | inr ge ↦ omega (arith, place_rises L base xs j k ge)
    ]

pub place_grows : (L M : ℕ → Bool) → Within L M → (base : ℕ) (xs : List Item) (k : ℕ) → place L base xs k ≤ place M base xs k
place_grows L M w base xs zero = omega arith
place_grows L M w base xs (suc k) =
    let s = size_grows (item_at xs k) (L k) (M k) (w.all k) in
    omega (arith, s, place_grows L M w base xs k)

pub in_all : (L : ℕ → Bool) → Within L all_long
in_all L = record { all = λ k e. refl }

-- items that are at most 500 apart are near
pub near_few : (L : ℕ → Bool) (base : ℕ) (xs : List Item) (j k : ℕ) → j ≤ k + 500 → k ≤ j + 500 → Near (place L base xs j) (place L base xs k)
near_few L base xs j k a b =
    elim (cases_lt k j) [
      | inl lt ↦ (omega (arith, apart_most L base xs k j (omega arith)), omega (arith, place_rises L base xs k j (omega arith)))
      | inr ge ↦ (omega (arith, place_rises L base xs j k ge), omega (arith, apart_most L base xs j k ge))
    ]

-- items that are near under more long branches are near under fewer
pub near_back : (L M : ℕ → Bool) → Within L M → (base : ℕ) (xs : List Item) (j k : ℕ) → Near (place M base xs j) (place M base xs k) → Near (place L base xs j) (place L base xs k)
near_back L M w base xs j k n =
    elim (cases_lt k j) [
      | inl lt ↦ (omega (arith, apart_grows L M w base xs k j (omega arith)), omega (arith, place_rises L base xs k j (omega arith)))
      | inr ge ↦ (omega (arith, place_rises L base xs j k ge), omega (arith, apart_grows L M w base xs j k ge))
    ]

-- the item read at index k is item k
pub item_read : (xs : List Item) (k : ℕ) (x : Item) → k < length xs → x ≡ get_or xs k x → item_at xs k ≡ x
item_read xs k x lt e = get_or_default xs k (Mark 0) x lt ∙ sym e

-- there is room for item k before the end with all long
pub room : (L : ℕ → Bool) (base : ℕ) (xs : List Item) (k : ℕ) (x : Item) → k < length xs → x ≡ get_or xs k x → place L base xs k + size true x ≤ place all_long base xs (length xs)
room L base xs k x lt e =
    let r : place all_long base xs k + size true (item_at xs k) ≤ place all_long base xs (length xs) = place_rises all_long base xs (suc k) (length xs) lt in
    let r2 : place all_long base xs k + size true x ≤ place all_long base xs (length xs) = rw (item_read xs k x lt e) at r in
    omega (arith, r2, place_grows L all_long (in_all L) base xs k)

-- every measured address lies low
pub measured_low : (places : List ℕ) (L : ℕ → Bool) (base : ℕ) (xs : List Item) (k : ℕ) → IsMeasured places L base xs → k ≤ length xs → place all_long base xs (length xs) < 0x70000000 → get_or places k 0 < 0x70000000
measured_low places L base xs k m le small = omega (arith, m.at k le, place_grows L all_long (in_all L) base xs k, place_rises all_long base xs k (length xs) le, small)
