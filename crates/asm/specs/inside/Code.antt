-- The instructions of the items.
use Rattle.std.specs.Prelude.{◌≡◌, ◌<◌, ℕ, zero, suc, ◌+◌, ◌*◌, ◌-◌, ◌/◌, ◌%◌, ◌^◌, Bool, true, false, List, [], ◌∷◌, ◌++◌, Some, length, map, slice_index}
use Rattle.rv32.specs.declared.instr.Instr.{Instr}
use Rattle.rv32.specs.declared.instr.Instr.TheVariants as instr
use Rattle.rv32.specs.declared.instr.Test.{Test}
use Rattle.rv32.specs.declared.instr.ImmediateOp.TheVariants as immediate_op
use Rattle.asm.specs.declared.item.Item.{Item}
use Rattle.asm.specs.declared.item.Item.TheVariants.{Mark, Plain, Branch, Jump, Call, NearCall, Constant, LabelAddress, DataAddress}
use Rattle.rv32.specs.Words.{decode_of, word_of}
use Rattle.asm.specs.Layout.{item_at, place, Near, Reach}
use Rattle.asm.specs.inside.Choice.{longs, IsChosen}
use Rattle.asm.specs.Placed.{opposite, data_start, bytes_of}

-- a number of 32 bits as an upper part and a signed lower part of 12 bits
abbrev pub upper : ℕ → ℕ
upper v = (v + 2 ^ 11) % 2 ^ 32 / 2 ^ 12 * 2 ^ 12

abbrev pub lower : ℕ → ℕ
lower v = (v + (2 ^ 32 - upper v)) % 2 ^ 32

-- from a to b, on 32 bits
abbrev pub offset_from : ℕ → ℕ → ℕ
offset_from a b = (b + (2 ^ 32 - a)) % 2 ^ 32

abbrev pub load_code : ℕ → ℕ → List Instr
load_code rd v = instr.Lui rd (upper v) ∷ instr.Immediate immediate_op.Add rd rd (lower v) ∷ []

abbrev pub branch_code : Bool → Test → ℕ → ℕ → ℕ → ℕ → List Instr
branch_code false t l r a to = instr.Branch t l r (offset_from a to) ∷ []
branch_code true t l r a to = instr.Branch (opposite t) l r 8 ∷ instr.Jal 0 (offset_from (a + 4) to) ∷ []

abbrev pub jump_code : (link a to : ℕ) → List Instr
jump_code link a to = instr.Jal link (offset_from a to) ∷ []

abbrev pub call_code : ℕ → ℕ → List Instr
call_code a to = instr.Auipc 1 (upper (offset_from a to)) ∷ instr.Jalr 1 1 (lower (offset_from a to)) ∷ []

abbrev pub item_code : (ℕ → ℕ) → ℕ → Bool → ℕ → Item → List Instr
item_code env seg long a (Mark l) = []
item_code env seg long a (Plain i) = i ∷ []
item_code env seg long a (Branch t l r to) = branch_code long t l r a (env to)
item_code env seg long a (Jump to) = jump_code 0 a (env to)
item_code env seg long a (Call to) = call_code a (env to)
item_code env seg long a (NearCall to) = jump_code 1 a (env to)
item_code env seg long a (Constant rd v) = load_code rd v
item_code env seg long a (LabelAddress rd l) = load_code rd (env l)
item_code env seg long a (DataAddress rd o) = load_code rd (seg + o)

-- the instructions of the first n items
abbrev pub code : (ℕ → ℕ) → ℕ → (ℕ → Bool) → ℕ → List Item → ℕ → List Instr
code env seg L base xs zero = []
code env seg L base xs (suc n) = code env seg L base xs n ++ item_code env seg (L n) (place L base xs n) (item_at xs n)

-- the address of label l
abbrev pub address : List ℕ → List ℕ → ℕ → ℕ
address homes places l = slice_index places (slice_index homes l)

-- a short branch reaches
abbrev pub NearIfShort : Bool → ℕ → (ℕ → ℕ) → Item → Type 0
NearIfShort long a env (Branch t l r to) = long ≡ false → Near a (env to)
NearIfShort long a env (Mark l) = Unit {0}
NearIfShort long a env (Plain i) = Unit {0}
NearIfShort long a env (Jump to) = Unit {0}
NearIfShort long a env (Call to) = Unit {0}
NearIfShort long a env (NearCall to) = Unit {0}
NearIfShort long a env (Constant rd v) = Unit {0}
NearIfShort long a env (LabelAddress rd l) = Unit {0}
NearIfShort long a env (DataAddress rd o) = Unit {0}

-- a jump does not reach
abbrev pub Misses : Bool → ℕ → (ℕ → ℕ) → Item → Type 0
Misses long a env (Branch t l r to) = (long ≡ true) × (Reach (a + 4) (env to) → ⊥)
Misses long a env (Jump to) = Reach a (env to) → ⊥
Misses long a env (Mark l) = ⊥
Misses long a env (Plain i) = ⊥
Misses long a env (Call to) = ⊥
Misses long a env (NearCall to) = Reach a (env to) → ⊥
Misses long a env (Constant rd v) = ⊥
Misses long a env (LabelAddress rd l) = ⊥
Misses long a env (DataAddress rd o) = ⊥

-- label l lies low, at a multiple of 4
pub record IsGood (homes places : List ℕ) : Type 0 where
  pub inside : (l : ℕ) → l < length homes → slice_index homes l < length places
  pub low : (l : ℕ) → l < length homes → address homes places l < 0x70000000
  pub even : (l : ℕ) → l < length homes → address homes places l % 4 ≡ 0

abbrev pub whole_code : List ℕ → List Bool → List ℕ → ℕ → List Item → List Instr
whole_code homes long places base xs = code (address homes places) (data_start (slice_index places (length xs))) (longs long) base xs (length xs)

-- each instruction is the decoding of its word
abbrev pub Decoding : List Instr → Type 0
Decoding [] = Unit {0}
Decoding (i ∷ is) = (decode_of (word_of i) ≡ Some i) × Decoding is

-- the words of the instructions were written after the earlier contents
pub record Writes (was now : List ℕ) (is : List Instr) : Type 0 where
  pub bytes : now ≡ was ++ bytes_of (map word_of is)
  pub decoding : Decoding is

-- the words of the items' instructions, with the fewest long branches
pub record IsResolved (homes : List ℕ) (base : ℕ) (xs : List Item) (bytes : List ℕ) : Type 0 where
  pub long : List Bool
  pub places : List ℕ
  pub chosen : IsChosen base xs long places
  pub written : Writes [] bytes (whole_code homes long places base xs)

-- words of instructions
pub record AreWords (bytes : List ℕ) : Type 0 where
  pub instrs : List Instr
  pub written : Writes [] bytes instrs
