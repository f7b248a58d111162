-- Placed code whose calls are near, far, or either.
use Rattle.std.specs.Prelude.{◌≡◌, ◌⊎◌, ℕ, Bool, true, false, List, [], ◌∷◌, Option}
use Rattle.rv32.specs.declared.instr.Instr.{Instr}
use Rattle.asm.specs.declared.item.Item.{Item}
use Rattle.asm.specs.declared.item.Item.TheVariants.{Mark, Plain, Branch, Jump, Call, NearCall, Constant, LabelAddress, DataAddress}
use Rattle.asm.specs.Placed.{Jumps, Calls, ItemAt}

-- a call of a label is at a up to next: JAL, or AUIPC and JALR
abbrev pub CallAt : (near : Bool) → (ℕ → Option Instr) → (a to next : ℕ) → Type 0
CallAt true T a to next = Jumps T 1 a to next
CallAt false T a to next = Calls T a to next

-- ---- all near, or all far

abbrev pub ItemSo : (near : Bool) → (ℕ → Option Instr) → (ℕ → ℕ) → ℕ → Item → ℕ → ℕ → Type 0
ItemSo near T env seg (Call to) a next = CallAt near T a (env to) next
ItemSo near T env seg (Mark l) a next = ItemAt T env seg (Mark l) a next
ItemSo near T env seg (Plain i) a next = ItemAt T env seg (Plain i) a next
ItemSo near T env seg (Branch t l r to) a next = ItemAt T env seg (Branch t l r to) a next
ItemSo near T env seg (Jump to) a next = ItemAt T env seg (Jump to) a next
ItemSo near T env seg (NearCall to) a next = ItemAt T env seg (NearCall to) a next
ItemSo near T env seg (Constant rd v) a next = ItemAt T env seg (Constant rd v) a next
ItemSo near T env seg (LabelAddress rd l) a next = ItemAt T env seg (LabelAddress rd l) a next
ItemSo near T env seg (DataAddress rd o) a next = ItemAt T env seg (DataAddress rd o) a next

abbrev pub StandsSo : (near : Bool) → (ℕ → Option Instr) → (ℕ → ℕ) → ℕ → List Item → ℕ → ℕ → Type 0
StandsSo near T env seg [] a e = a ≡ e
StandsSo near T env seg (x ∷ rest) a e = (next : ℕ) × ItemSo near T env seg x a next × StandsSo near T env seg rest next e

-- ---- each as it is

abbrev pub ItemStands : (ℕ → Option Instr) → (ℕ → ℕ) → ℕ → Item → ℕ → ℕ → Type 0
ItemStands T env seg (Call to) a next = CallAt true T a (env to) next ⊎ CallAt false T a (env to) next
ItemStands T env seg (Mark l) a next = ItemAt T env seg (Mark l) a next
ItemStands T env seg (Plain i) a next = ItemAt T env seg (Plain i) a next
ItemStands T env seg (Branch t l r to) a next = ItemAt T env seg (Branch t l r to) a next
ItemStands T env seg (Jump to) a next = ItemAt T env seg (Jump to) a next
ItemStands T env seg (NearCall to) a next = ItemAt T env seg (NearCall to) a next
ItemStands T env seg (Constant rd v) a next = ItemAt T env seg (Constant rd v) a next
ItemStands T env seg (LabelAddress rd l) a next = ItemAt T env seg (LabelAddress rd l) a next
ItemStands T env seg (DataAddress rd o) a next = ItemAt T env seg (DataAddress rd o) a next

abbrev pub Stands : (ℕ → Option Instr) → (ℕ → ℕ) → ℕ → List Item → ℕ → ℕ → Type 0
Stands T env seg [] a e = a ≡ e
Stands T env seg (x ∷ rest) a e = (next : ℕ) × ItemStands T env seg x a next × Stands T env seg rest next e
