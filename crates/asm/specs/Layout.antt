-- The addresses of items under a choice of long branches, which choices fit, and which lists of items are sound.
use Rattle.std.specs.Prelude.{◌≡◌, ◌≤◌, ◌<◌, ℕ, zero, suc, ◌+◌, ◌%◌, ◌^◌, Bool, true, false, if◌then◌else◌, List, ◌++◌, slice_index_or, length, sum_by}
use Rattle.asm.specs.declared.item.Item.{Item}
use Rattle.asm.specs.declared.item.Item.TheVariants.{Mark, Plain, Branch, Jump, Call, NearCall, Constant, LabelAddress, DataAddress}

-- item k; past the end a mark, which has no bytes
abbrev pub item_at : List Item → ℕ → Item
item_at xs k = slice_index_or xs k (Mark 0)

-- ---- addresses

-- the bytes of an item, which may be a long branch
abbrev pub size : Bool → Item → ℕ
size long (Mark l) = 0
size long (Plain i) = 4
size long (Branch t l r to) = if long then 8 else 4
size long (Jump to) = 4
size long (Call to) = 8
size long (NearCall to) = 4
size long (Constant rd v) = 8
size long (LabelAddress rd l) = 8
size long (DataAddress rd o) = 8

-- the address of item k from base, where the branches of L are long
abbrev pub place : (ℕ → Bool) → ℕ → List Item → ℕ → ℕ
place L base xs zero = base
place L base xs (suc k) = place L base xs k + size (L k) (item_at xs k)

abbrev pub all_long : ℕ → Bool
all_long k = true

abbrev pub all_short : ℕ → Bool
all_short k = false

-- with all branches long the items end below 0x70000000
abbrev pub IsLow : ℕ → List Item → Type 0
IsLow base xs = place all_long base xs (length xs) < 0x70000000

-- the most bytes that items take
abbrev pub longest : List Item → ℕ
longest xs = sum_by (size true) xs

-- with all branches long items end after the most bytes that they take
abbrev pub EndsAfterLongest : Type 0
EndsAfterLongest = (base : ℕ) (xs : List Item) → place all_long base xs (length xs) ≡ base + longest xs

-- the items of a list in two parts: those of the first are placed as if they were alone, those of the second as if they were alone
-- where the first ends
abbrev pub PlacesInParts : Type 0
PlacesInParts =
    (L : ℕ → Bool) (base : ℕ) (xs ys : List Item)
    → ((k : ℕ) → k ≤ length xs → place L base (xs ++ ys) k ≡ place L base xs k)
    × ((k : ℕ) → place L base (xs ++ ys) (length xs + k) ≡ place (λ j. L (length xs + j)) (place L base xs (length xs)) ys k)

-- the code of xs at base is whole words, no fewer than with all branches short, and no more than with all long
pub record IsSized (base : ℕ) (xs : List Item) (bytes : ℕ) : Type 0 where
  pub whole : bytes % 4 ≡ 0
  pub least : place all_short base xs (length xs) ≤ base + bytes
  pub most : base + bytes ≤ place all_long base xs (length xs)

-- a call as a near one, any other item as it is
abbrev pub nearer : Item → Item
nearer (Call to) = NearCall to
nearer (Mark l) = Mark l
nearer (Plain i) = Plain i
nearer (Branch t l r to) = Branch t l r to
nearer (Jump to) = Jump to
nearer (NearCall to) = NearCall to
nearer (Constant rd v) = Constant rd v
nearer (LabelAddress rd l) = LabelAddress rd l
nearer (DataAddress rd o) = DataAddress rd o

-- ---- reach

-- from a to b by a branch: -4096 to 4094
abbrev pub Near : ℕ → ℕ → Type 0
Near a b = (a ≤ b + 4096) × (b ≤ a + 4094)

-- from a to b by a jump: -1048576 to 1048574
abbrev pub Reach : ℕ → ℕ → Type 0
Reach a b = (a ≤ b + 1048576) × (b ≤ a + 1048574)

-- item k, with exactly the branches of L long: a short branch reaches the mark of its label
abbrev pub FitsAt : (ℕ → Bool) → ℕ → List Item → ℕ → Item → Type 0
FitsAt L base xs k (Branch t l r to) = L k ≡ false → (h : ℕ) → h < length xs → item_at xs h ≡ Mark to → Near (place L base xs k) (place L base xs h)
FitsAt L base xs k (Mark l) = Unit {0}
FitsAt L base xs k (Plain i) = Unit {0}
FitsAt L base xs k (Jump to) = Unit {0}
FitsAt L base xs k (Call to) = Unit {0}
FitsAt L base xs k (NearCall to) = Unit {0}
FitsAt L base xs k (Constant rd v) = Unit {0}
FitsAt L base xs k (LabelAddress rd l) = Unit {0}
FitsAt L base xs k (DataAddress rd o) = Unit {0}

-- L fits: with exactly the branches of L long, each short one reaches its label
pub record Fits (L : ℕ → Bool) (base : ℕ) (xs : List Item) : Type 0 where
  pub all : (k : ℕ) → k < length xs → FitsAt L base xs k (item_at xs k)

pub record Within (L M : ℕ → Bool) : Type 0 where
  pub all : (k : ℕ) → L k ≡ true → M k ≡ true

-- L is contained in each M that fits
pub record IsBelowAll (L : ℕ → Bool) (base : ℕ) (xs : List Item) : Type 0 where
  pub below : (M : ℕ → Bool) → Fits M base xs → Within L M

-- with all branches long, the jump of item k does not reach the mark h of its label
abbrev pub MissesMark : ℕ → List Item → ℕ → ℕ → Item → Type 0
MissesMark base xs k h (Branch t l r to) = (item_at xs h ≡ Mark to) × (Reach (place all_long base xs k + 4) (place all_long base xs h) → ⊥)
MissesMark base xs k h (Jump to) = (item_at xs h ≡ Mark to) × (Reach (place all_long base xs k) (place all_long base xs h) → ⊥)
MissesMark base xs k h (Mark l) = ⊥
MissesMark base xs k h (Plain i) = ⊥
MissesMark base xs k h (Call to) = ⊥
MissesMark base xs k h (NearCall to) = (item_at xs h ≡ Mark to) × (Reach (place all_long base xs k) (place all_long base xs h) → ⊥)
MissesMark base xs k h (Constant rd v) = ⊥
MissesMark base xs k h (LabelAddress rd l) = ⊥
MissesMark base xs k h (DataAddress rd o) = ⊥

-- with all branches long some jump does not reach
pub record SomeMisses (base : ℕ) (xs : List Item) : Type 0 where
  pub item : ℕ
  pub target : ℕ
  pub inside : item < length xs
  pub target_inside : target < length xs
  pub misses : MissesMark base xs item target (item_at xs item)

-- with all branches long each jump reaches
abbrev pub AllReach : ℕ → List Item → Type 0
AllReach base xs = SomeMisses base xs → ⊥

-- ---- sound lists

-- an item names only labels below n, and only the first 0x10000000 bytes of the data
abbrev pub Refers : ℕ → Item → Type 0
Refers n (Branch t l r to) = to < n
Refers n (Jump to) = to < n
Refers n (Call to) = to < n
Refers n (NearCall to) = to < n
Refers n (LabelAddress rd l) = l < n
Refers n (Mark l) = l < n
Refers n (Plain i) = Unit {0}
Refers n (Constant rd v) = v < 2 ^ 32
Refers n (DataAddress rd o) = o < 0x10000000

-- the labels are 0 to n - 1, each marked exactly once
pub record IsSound (n : ℕ) (xs : List Item) : Type 0 where
  pub refers : (k : ℕ) → k < length xs → Refers n (item_at xs k)
  pub marked : (l : ℕ) → l < n → (k : ℕ) × (k < length xs) × (item_at xs k ≡ Mark l)
  pub once : (j k l : ℕ) → j < length xs → k < length xs → item_at xs j ≡ Mark l → item_at xs k ≡ Mark l → j ≡ k
