-- The machine of the table, whose text is the bytes of its memory.
use Rattle.std.specs.Prelude.{◌≡◌, ℕ, zero, suc, ◌%◌, ◌==◌, ◌&&◌, Bool, false, if◌then◌else◌, Option, None}
use Rattle.rv32.specs.declared.instr.Instr.{Instr}
use Rattle.rv32.specs.Words.{decode_of}
use Rattle.rv32.specs.Space.{all_four, word_at}
use Rattle.select_exec.specs.Light.{Fixed, Light, Go, Done, Fell, act}

pub record Permits : Type 0 where
  pub can_read : ℕ → Bool
  pub can_write : ℕ → Bool
  pub can_execute : ℕ → Bool

abbrev pub fetched : Permits → (ℕ → ℕ) → ℕ → Option Instr
fetched P b pc = if pc % 4 == 0 && all_four P.can_execute pc then decode_of (word_at b pc) else None

-- the text as it is in memory b
abbrev pub fixed : Permits → (ℕ → ℕ) → Fixed
fixed P b = record { text = fetched P b; can_read = P.can_read; can_write = P.can_write }

abbrev pub whole_step : Permits → Light → Light
whole_step P (Go r pc b i h) = act (fixed P b) (fetched P b pc) r pc b i h
whole_step P (Done s h) = Done s h
whole_step P (Fell h) = Fell h

abbrev pub whole_run : Permits → ℕ → Light → Light
whole_run P zero m = m
whole_run P (suc k) m = whole_run P k (whole_step P m)

-- the bytes that may not be written are those of b0
abbrev pub Keeps : Permits → (ℕ → ℕ) → Light → Type 0
Keeps P b0 (Go r pc b i h) = (a : ℕ) → P.can_write a ≡ false → b a ≡ b0 a
Keeps P b0 (Done s h) = Unit {0}
Keeps P b0 (Fell h) = Unit {0}
