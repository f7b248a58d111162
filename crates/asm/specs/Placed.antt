-- Placed code: the words from an address decode to the items in order.
use Rattle.std.specs.Prelude.{◌≡◌, ◌<◌, ◌⊎◌, ◌↔◌, ℕ, suc, ◌+◌, ◌*◌, ◌/◌, ◌%◌, ◌^◌, Bool, not, List, [], ◌∷◌, ◌++◌, Option, Some, length, slice_index}
use Rattle.rv32.specs.declared.instr.Instr.{Instr}
use Rattle.rv32.specs.declared.instr.Instr.TheVariants as instr
use Rattle.rv32.specs.declared.instr.Test.{Test}
use Rattle.rv32.specs.declared.instr.Test.TheVariants as test
use Rattle.rv32.specs.declared.instr.ImmediateOp.TheVariants as immediate_op
use Rattle.rv32.specs.Arithmetic.{compare_of}
use Rattle.asm.specs.Layout.{place, item_at, Fits, IsBelowAll}
use Rattle.rv32.specs.Words.{decode_of}
use Rattle.rv32.specs.Space.{word_at}
use Rattle.asm.specs.declared.item.Item.{Item}
use Rattle.asm.specs.declared.item.Item.TheVariants.{Mark, Plain, Branch, Jump, Call, NearCall, Constant, LabelAddress, DataAddress}

abbrev pub sum32 : ℕ → ℕ → ℕ
sum32 a b = (a + b) % 2 ^ 32

abbrev pub opposite : Test → Test
opposite test.Equal = test.NotEqual
opposite test.NotEqual = test.Equal
opposite test.Less = test.GreaterEqual
opposite test.GreaterEqual = test.Less
opposite test.LessUnsigned = test.GreaterEqualUnsigned
opposite test.GreaterEqualUnsigned = test.LessUnsigned

-- the opposite comparison holds exactly where the comparison does not
abbrev pub OppositeHoldsWhereNot : Type 0
OppositeHoldsWhereNot = (t : Test) (a b : ℕ) → compare_of (opposite t) a b ≡ not (compare_of t a b)

-- T is the instruction at each address, none where no word decodes.

-- a branch as itself
pub record Short (T : ℕ → Option Instr) (t : Test) (l r a to next : ℕ) : Type 0 where
  pub v : ℕ
  pub at : T a ≡ Some (instr.Branch t l r v)
  pub target : sum32 a v ≡ to
  pub next_is : next ≡ a + 4

-- a branch as its opposite over a jump
pub record Long (T : ℕ → Option Instr) (t : Test) (l r a to next : ℕ) : Type 0 where
  pub over : ℕ
  pub v : ℕ
  pub at : T a ≡ Some (instr.Branch (opposite t) l r over)
  pub skips : sum32 a over ≡ a + 8
  pub jump : T (a + 4) ≡ Some (instr.Jal 0 v)
  pub target : sum32 (a + 4) v ≡ to
  pub next_is : next ≡ a + 8

-- LUI and ADDI that load v into rd
pub record Loads (T : ℕ → Option Instr) (a rd v next : ℕ) : Type 0 where
  pub high : ℕ
  pub low : ℕ
  pub first : T a ≡ Some (instr.Lui rd high)
  pub second : T (a + 4) ≡ Some (instr.Immediate immediate_op.Add rd rd low)
  pub value : sum32 high low ≡ v
  pub next_is : next ≡ a + 8

-- JAL that leaves the address behind it in a register: x0 for a jump, x1 for a call that is near
pub record Jumps (T : ℕ → Option Instr) (link a to next : ℕ) : Type 0 where
  pub v : ℕ
  pub at : T a ≡ Some (instr.Jal link v)
  pub target : sum32 a v ≡ to
  pub next_is : next ≡ a + 4

-- AUIPC and JALR with x1
pub record Calls (T : ℕ → Option Instr) (a to next : ℕ) : Type 0 where
  pub high : ℕ
  pub low : ℕ
  pub first : T a ≡ Some (instr.Auipc 1 high)
  pub second : T (a + 4) ≡ Some (instr.Jalr 1 1 low)
  pub target : sum32 (sum32 a high) low ≡ to
  pub next_is : next ≡ a + 8

-- one item's words are at a up to next; env has the labels' addresses, and the data begins at seg
abbrev pub ItemAt : (ℕ → Option Instr) → (ℕ → ℕ) → ℕ → Item → ℕ → ℕ → Type 0
ItemAt T env seg (Mark l) a next = (env l ≡ a) × (next ≡ a)
ItemAt T env seg (Plain i) a next = (T a ≡ Some i) × (next ≡ a + 4)
ItemAt T env seg (Branch t l r to) a next = Short T t l r a (env to) next ⊎ Long T t l r a (env to) next
ItemAt T env seg (Jump to) a next = Jumps T 0 a (env to) next
ItemAt T env seg (Call to) a next = Calls T a (env to) next
ItemAt T env seg (NearCall to) a next = Jumps T 1 a (env to) next
ItemAt T env seg (Constant rd v) a next = Loads T a rd v next
ItemAt T env seg (LabelAddress rd l) a next = Loads T a rd (env l) next
ItemAt T env seg (DataAddress rd o) a next = Loads T a rd (seg + o) next

-- the items' words are at a up to e
abbrev pub Stands : (ℕ → Option Instr) → (ℕ → ℕ) → ℕ → List Item → ℕ → ℕ → Type 0
Stands T env seg [] a e = a ≡ e
Stands T env seg (x ∷ rest) a e = (next : ℕ) × ItemAt T env seg x a next × Stands T env seg rest next e

-- items are placed in two parts exactly where the first part is placed up to some address, and the second from there
abbrev pub StandsInParts : Type 0
StandsInParts = (T : ℕ → Option Instr) (env : ℕ → ℕ) (seg : ℕ) (xs ys : List Item) (a e : ℕ) → Stands T env seg (xs ++ ys) a e ↔ ((mid : ℕ) × Stands T env seg xs a mid × Stands T env seg ys mid e)

-- the data begins at the first multiple of 4096 not below the text's end
abbrev pub data_start : ℕ → ℕ
data_start e = (e + 4095) / 4096 * 4096

-- the instructions of a memory
abbrev pub text_of : (ℕ → ℕ) → ℕ → Option Instr
text_of m a = decode_of (word_at m a)

-- a word's bytes, the lowest first
abbrev pub word_bytes : ℕ → List ℕ
word_bytes w = w % 2 ^ 8 ∷ w / 2 ^ 8 % 2 ^ 8 ∷ w / 2 ^ 16 % 2 ^ 8 ∷ w / 2 ^ 24 ∷ []

-- the bytes of words
abbrev pub bytes_of : List ℕ → List ℕ
bytes_of [] = []
bytes_of (w ∷ ws) = word_bytes w ++ bytes_of ws

-- the bytes bs are in memory from base on
pub record Holds (m : ℕ → ℕ) (base : ℕ) (bs : List ℕ) : Type 0 where
  pub at : (j : ℕ) → j < length bs → m (base + j) ≡ slice_index bs j

-- in each memory that contains the bytes, their words decode to the items in order, up to the bytes' end, with the labels
-- at env, which is the same in each memory
pub record Assembles (xs : List Item) (base : ℕ) (bs : List ℕ) : Type 0 where
  pub env : ℕ → ℕ
  pub placed : (m : ℕ → ℕ) → Holds m base bs → Stands (text_of m) env (data_start (base + length bs)) xs base (base + length bs)

-- the words from base decode to the items with exactly the branches of L long, and the labels at env
pub record IsPlacedWith (env : ℕ → ℕ) (L : ℕ → Bool) (xs : List Item) (base : ℕ) (m : ℕ → ℕ) : Type 0 where
  pub stands : (k : ℕ) → k < length xs → ItemAt (text_of m) env (data_start (place L base xs (length xs))) (item_at xs k) (place L base xs k) (place L base xs (suc k))

-- the bytes are those of the fewest long branches
pub record IsFewest (xs : List Item) (base : ℕ) (bs : List ℕ) : Type 0 where
  pub long : ℕ → Bool
  pub fits : Fits long base xs
  pub least : IsBelowAll long base xs
  pub size : base + length bs ≡ place long base xs (length xs)
  pub env : ℕ → ℕ
  pub placed : (m : ℕ → ℕ) → Holds m base bs → IsPlacedWith env long xs base m
