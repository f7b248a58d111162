-- The machine of the table while its text is unchanged: the text, and the addresses that may be read and written, are fixed.
use Rattle.std.specs.Prelude.{◌≤◌, ℕ, zero, suc, ◌+◌, ◌*◌, ◌/◌, ◌%◌, ◌^◌, ◌==◌, ◌&&◌, Bool, if◌then◌else◌, List, [], ◌∷◌, Option, Some, None}
use Rattle.rv32.specs.declared.instr.Instr.{Instr}
use Rattle.rv32.specs.declared.instr.Instr.TheVariants.{Lui, Auipc, Jal, Jalr, Branch, Load, Store, Immediate, Shift, Op, Fence, Ecall, Ebreak}
use Rattle.rv32.specs.declared.instr.LoadKind.{LoadKind}
use Rattle.rv32.specs.declared.instr.LoadKind.TheVariants as load_kind
use Rattle.rv32.specs.declared.instr.StoreKind.{StoreKind}
use Rattle.rv32.specs.declared.instr.StoreKind.TheVariants as store_kind
use Rattle.rv32.specs.Words.{sign_extended}
use Rattle.rv32.specs.Arithmetic.{compare_of, operate_of, operate_immediate_of, shift_by}
use Rattle.rv32.specs.Space.{both, all_four, half_at, word_at, half_put, word_put, byte_put}
use Rattle.csem_events.specs.Events.{Event, Got, GotEnd, Put}

pub record Fixed : Type 0 where
  pub text : ℕ → Option Instr
  pub can_read : ℕ → Bool
  pub can_write : ℕ → Bool

-- registers, pc, bytes, the input left, and the events so far, the newest first
pub data Light : Type 0 where
  Go : (r : ℕ → ℕ) → (pc : ℕ) → (b : ℕ → ℕ) → (input : List ℕ) → (h : List Event) → Light
  Done : (status : ℕ) → (h : List Event) → Light
  Fell : (h : List Event) → Light

abbrev pub reg : (ℕ → ℕ) → ℕ → ℕ
reg r k = if k == 0 then 0 else r k

abbrev pub with_reg : (ℕ → ℕ) → ℕ → ℕ → ℕ → ℕ
with_reg r rd v = if rd == 0 then r else (λ k. if k == rd then v else r k)

abbrev pub with_word : (ℕ → ℕ) → ℕ → ℕ → ℕ → ℕ
with_word b a v k = word_put a v k (b k)

abbrev pub with_half : (ℕ → ℕ) → ℕ → ℕ → ℕ → ℕ
with_half b a v k = half_put a v k (b k)

abbrev pub with_byte : (ℕ → ℕ) → ℕ → ℕ → ℕ → ℕ
with_byte b a v k = byte_put a v k (b k)

abbrev pub sum32 : ℕ → ℕ → ℕ
sum32 a b = (a + b) % 2 ^ 32

abbrev pub load : Fixed → LoadKind → ℕ → ℕ → (ℕ → ℕ) → ℕ → (ℕ → ℕ) → List ℕ → List Event → Light
load F load_kind.Word rd a r pc b i h = if a % 4 == 0 && all_four F.can_read a then Go (with_reg r rd (word_at b a)) (pc + 4) b i h else Fell h
load F load_kind.ByteUnsigned rd a r pc b i h = if F.can_read a then Go (with_reg r rd (b a)) (pc + 4) b i h else Fell h
load F load_kind.Byte rd a r pc b i h = if F.can_read a then Go (with_reg r rd (sign_extended 7 (b a))) (pc + 4) b i h else Fell h
load F load_kind.Half rd a r pc b i h = if a % 2 == 0 && both F.can_read a then Go (with_reg r rd (sign_extended 15 (half_at b a))) (pc + 4) b i h else Fell h
load F load_kind.HalfUnsigned rd a r pc b i h = if a % 2 == 0 && both F.can_read a then Go (with_reg r rd (half_at b a)) (pc + 4) b i h else Fell h

abbrev pub store : Fixed → StoreKind → ℕ → ℕ → (ℕ → ℕ) → ℕ → (ℕ → ℕ) → List ℕ → List Event → Light
store F store_kind.Word a v r pc b i h = if a % 4 == 0 && all_four F.can_write a then Go r (pc + 4) (with_word b a v) i h else Fell h
store F store_kind.Byte a v r pc b i h = if F.can_write a then Go r (pc + 4) (with_byte b a (v % 2 ^ 8)) i h else Fell h
store F store_kind.Half a v r pc b i h = if a % 2 == 0 && both F.can_write a then Go r (pc + 4) (with_half b a v) i h else Fell h

-- to a target, which is a multiple of 4
abbrev pub goes : ℕ → (ℕ → ℕ) → (ℕ → ℕ) → List ℕ → List Event → Light
goes to r b i h = if to % 4 == 0 then Go r to b i h else Fell h

-- the next byte, put at a
abbrev pub gets : (ℕ → ℕ) → ℕ → (ℕ → ℕ) → List ℕ → ℕ → List Event → Light
gets r pc b [] a h = Go (with_reg r 10 0) (pc + 4) b [] (GotEnd ∷ h)
gets r pc b (c ∷ rest) a h = Go (with_reg r 10 1) (pc + 4) (with_byte b a c) rest (Got c ∷ h)

abbrev pub call : Fixed → ℕ → (ℕ → ℕ) → ℕ → (ℕ → ℕ) → List ℕ → List Event → Light
call F n r pc b i h =
    if n == 93 then Done (reg r 10 % 2 ^ 8) h else
    if n == 63 && (reg r 10 == 0 && reg r 12 == 1)
    then (if F.can_write (reg r 11) then gets r pc b i (reg r 11) h else Fell h) else
    if n == 64 && (reg r 10 == 1 && reg r 12 == 1)
    then (if F.can_read (reg r 11) then Go (with_reg r 10 1) (pc + 4) b i (Put (b (reg r 11)) ∷ h) else Fell h) else
    Fell h

abbrev pub act : Fixed → Option Instr → (ℕ → ℕ) → ℕ → (ℕ → ℕ) → List ℕ → List Event → Light
act F None r pc b i h = Fell h
act F (Some (Lui rd v)) r pc b i h = Go (with_reg r rd v) (pc + 4) b i h
act F (Some (Auipc rd v)) r pc b i h = Go (with_reg r rd (sum32 pc v)) (pc + 4) b i h
act F (Some (Jal rd v)) r pc b i h = goes (sum32 pc v) (with_reg r rd (pc + 4)) b i h
act F (Some (Jalr rd base v)) r pc b i h = goes (sum32 (reg r base) v / 2 * 2) (with_reg r rd (pc + 4)) b i h
act F (Some (Branch t l k v)) r pc b i h = goes (if compare_of t (reg r l) (reg r k) then sum32 pc v else pc + 4) r b i h
act F (Some (Load k rd base v)) r pc b i h = load F k rd (sum32 (reg r base) v) r pc b i h
act F (Some (Store k source base v)) r pc b i h = store F k (sum32 (reg r base) v) (reg r source) r pc b i h
act F (Some (Immediate o rd l v)) r pc b i h = Go (with_reg r rd (operate_immediate_of o (reg r l) v)) (pc + 4) b i h
act F (Some (Op o rd l k)) r pc b i h = Go (with_reg r rd (operate_of o (reg r l) (reg r k))) (pc + 4) b i h
act F (Some (Shift o rd l k)) r pc b i h = Go (with_reg r rd (shift_by o (reg r l) k)) (pc + 4) b i h
act F (Some Ecall) r pc b i h = call F (reg r 17) r pc b i h
act F (Some (Fence rd s v)) r pc b i h = Fell h
act F (Some Ebreak) r pc b i h = Fell h

abbrev pub light_step : Fixed → Light → Light
light_step F (Go r pc b i h) = act F (F.text pc) r pc b i h
light_step F (Done s h) = Done s h
light_step F (Fell h) = Fell h

abbrev pub light_run : Fixed → ℕ → Light → Light
light_run F zero m = m
light_run F (suc k) m = light_run F k (light_step F m)

-- after `least` to `most` steps the machine reaches a state where Q holds, and I holds all the way
pub record Comes (F : Fixed) (I : Light → Type 0) (least most : ℕ) (m : Light) (Q : Light → Type 0) : Type 0 where
  pub j : ℕ
  pub some : least ≤ j
  pub within : j ≤ most
  pub kept : (k : ℕ) → k ≤ j → I (light_run F k m)
  pub good : Q (light_run F j m)
