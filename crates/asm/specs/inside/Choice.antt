-- The table from labels to items, and how the long branches are chosen over it.
use Rattle.std.specs.Prelude.{◌≡◌, ◌≤◌, ◌<◌, ℕ, ◌+◌, ◌^◌, Bool, false, if◌then◌else◌, List, slice_index_or, slice_index, slice_set, length, sum_by}
use Rattle.asm.specs.declared.item.Item.{Item}
use Rattle.asm.specs.declared.item.Item.TheVariants.{Mark, Plain, Branch, Jump, Call, NearCall, Constant, LabelAddress, DataAddress}
use Rattle.asm.specs.Layout.{item_at, place, all_short, Fits, Within, IsBelowAll, Refers}

abbrev pub IsMark : Item → ℕ → Type 0
IsMark (Mark k) l = k ≡ l
IsMark (Plain i) l = ⊥
IsMark (Branch t a b to) l = ⊥
IsMark (Jump to) l = ⊥
IsMark (Call to) l = ⊥
IsMark (NearCall to) l = ⊥
IsMark (Constant rd v) l = ⊥
IsMark (LabelAddress rd k) l = ⊥
IsMark (DataAddress rd o) l = ⊥

-- the first n labels have x
pub record AllAre (homes : List ℕ) (x n : ℕ) : Type 0 where
  pub all : (l : ℕ) → l < n → slice_index homes l ≡ x

-- the first n labels have less than x
pub record AllInside (homes : List ℕ) (x n : ℕ) : Type 0 where
  pub all : (l : ℕ) → l < n → slice_index homes l < x

-- item k, which names only labels of the table, turns one table into the other: a mark stores k where the end was
abbrev pub IsNoted : (was now : List ℕ) (end k : ℕ) → Item → Type 0
IsNoted was now end k (Mark l) = (l < length was) × (slice_index was l ≡ end) × (now ≡ slice_set was l k)
IsNoted was now end k (Plain i) = now ≡ was
IsNoted was now end k (Branch t l r to) = (to < length was) × (now ≡ was)
IsNoted was now end k (Jump to) = (to < length was) × (now ≡ was)
IsNoted was now end k (Call to) = (to < length was) × (now ≡ was)
IsNoted was now end k (NearCall to) = (to < length was) × (now ≡ was)
IsNoted was now end k (Constant rd v) = (v < 2 ^ 32) × (now ≡ was)
IsNoted was now end k (LabelAddress rd l) = (l < length was) × (now ≡ was)
IsNoted was now end k (DataAddress rd o) = (o < 0x10000000) × (now ≡ was)

-- an item violates a condition of the table
abbrev pub IsUnfit : List ℕ → ℕ → Item → Type 0
IsUnfit homes end (Mark l) = l < length homes → slice_index homes l ≡ end → ⊥
IsUnfit homes end (Plain i) = ⊥
IsUnfit homes end (Branch t l r to) = to < length homes → ⊥
IsUnfit homes end (Jump to) = to < length homes → ⊥
IsUnfit homes end (Call to) = to < length homes → ⊥
IsUnfit homes end (NearCall to) = to < length homes → ⊥
IsUnfit homes end (Constant rd v) = ⊥
IsUnfit homes end (LabelAddress rd l) = l < length homes → ⊥
IsUnfit homes end (DataAddress rd o) = o < 0x10000000 → ⊥

-- item k of the first n marks label l
abbrev pub IsHome : List Item → ℕ → ℕ → ℕ → Type 0
IsHome xs n l k = (k < n) × IsMark (item_at xs k) l

-- the table of the first n items: a label has the item that marks it, or the end
pub record Noting (homes : List ℕ) (xs : List Item) (n : ℕ) : Type 0 where
  pub refers : (k : ℕ) → k < n → Refers (length homes) (item_at xs k)
  pub once : (k l : ℕ) → k < n → item_at xs k ≡ Mark l → slice_index homes l ≡ k
  pub marks : (l : ℕ) → l < length homes → (slice_index homes l ≡ length xs → ⊥) → IsHome xs n l (slice_index homes l)

-- the table has for each label the one item that marks it
pub record IsTable (homes : List ℕ) (xs : List Item) : Type 0 where
  pub refers : (k : ℕ) → k < length xs → Refers (length homes) (item_at xs k)
  pub inside : (l : ℕ) → l < length homes → slice_index homes l < length xs
  pub marks : (l : ℕ) → l < length homes → IsMark (item_at xs (slice_index homes l)) l
  pub once : (k l : ℕ) → k < length xs → item_at xs k ≡ Mark l → slice_index homes l ≡ k

abbrev pub longs : List Bool → ℕ → Bool
longs bs k = slice_index_or bs k false

-- how many are not long
abbrev pub shorts : List Bool → ℕ
shorts bs = sum_by (λ b. if b then 0 else 1) bs

-- the addresses of the items and of the end
pub record IsMeasured (places : List ℕ) (L : ℕ → Bool) (base : ℕ) (xs : List Item) : Type 0 where
  pub at : (k : ℕ) → k ≤ length xs → slice_index places k ≡ place L base xs k

-- the addresses of the first n items where all branches are short
pub record MeasuredTo (places : List ℕ) (base : ℕ) (xs : List Item) (n : ℕ) : Type 0 where
  pub at : (k : ℕ) → k < n → slice_index places k ≡ place all_short base xs k

-- item k, if a branch, is at most 500 items from the table's item of its label
abbrev pub IsClose : List ℕ → ℕ → Item → Type 0
IsClose homes k (Branch t l r to) = (slice_index homes to ≤ k + 500) × (k ≤ slice_index homes to + 500)
IsClose homes k (Mark l) = Unit {0}
IsClose homes k (Plain i) = Unit {0}
IsClose homes k (Jump to) = Unit {0}
IsClose homes k (Call to) = Unit {0}
IsClose homes k (NearCall to) = Unit {0}
IsClose homes k (Constant rd v) = Unit {0}
IsClose homes k (LabelAddress rd l) = Unit {0}
IsClose homes k (DataAddress rd o) = Unit {0}

-- the first n items are close to their labels
pub record AllClose (homes : List ℕ) (xs : List Item) (n : ℕ) : Type 0 where
  pub all : (k : ℕ) → k < n → IsClose homes k (item_at xs k)

-- L became M: more branches are long, and only those that must be
pub record Widens (base : ℕ) (xs : List Item) (L M : ℕ → Bool) : Type 0 where
  pub grows : Within L M
  pub below : (N : ℕ → Bool) → Fits N base xs → Within L N → Within M N

pub record IsChosen (base : ℕ) (xs : List Item) (long : List Bool) (places : List ℕ) : Type 0 where
  pub longs_len : length long ≡ length xs
  pub places_len : length places ≡ length xs + 1
  pub measured : IsMeasured places (longs long) base xs
  pub fits : Fits (longs long) base xs
  pub least : IsBelowAll (longs long) base xs

-- addresses of the items from low up to k, counted from low
pub record Counted (places : List ℕ) (L : ℕ → Bool) (base : ℕ) (xs : List Item) (low k : ℕ) : Type 0 where
  pub at : (j : ℕ) → low ≤ j → j < k → slice_index places j + place L base xs low ≡ place L base xs j
