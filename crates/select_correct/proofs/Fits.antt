-- The facts that soundness gives of each function, and the addresses of the parts of its frame.
use Rattle.std.proofs.Common.{◌≡◌, ◌≢◌, ◌⊎◌, inl, inr, ⊎_elim, ℕ, ◌+◌, ◌*◌, ◌-◌, ◌%◌, ◌^◌, ◌<◌, ◌≤◌, length, Option, Some, None, refl, arith}
use Rattle.std.specs.Prelude.{slice_get}
use Rattle.std.proofs.lemmas.Bool.{cases_lt}
use Rattle.frames_code.specs.Code.{Function, Program, cell_home, area_home, frame_bytes}
use Rattle.frames_code.specs.Sound.{FunctionFits, IsSoundProgram}
use Rattle.frames_code.specs.Run.{function_at}
use Rattle.select.specs.Selected.{return_home}
use Rattle.select_correct.proofs.Places.{Lies}
use Rattle.select_correct.specs.Laws.{FunctionsFit}

some_fits : (p : Program) → IsSoundProgram p → (k : ℕ) (o : Option Function) → slice_get p.functions k ≡ o → FunctionFits (length p.functions) (function_at p k)
some_fits p sound k None e = rw e (record { small = omega arith; few = omega arith; all = omega arith; each = λ j x ex. cc })
some_fits p sound k (Some g) e = rw e (sound.each k g e)

-- each number is that of a function that fits
pub function_fits : FunctionsFit
function_fits p sound k = some_fits p sound k (slice_get p.functions k) refl

-- a frame on the stack, which begins at the address floor
pub record Within (floor : ℕ) (f : Function) (sp : ℕ) : Type 0 where
  pub low : floor ≤ sp
  pub top : sp + frame_bytes f ≤ 2 ^ 31
  pub aligned : sp % 16 ≡ 0

-- its words and arrays precede the address to return to
pub frame_room : (f : Function) → area_home f + f.area + 4 ≤ frame_bytes f
frame_room f = omega arith

pub frame_tall : (f : Function) → frame_bytes f % 16 ≡ 0
frame_tall f = omega arith

module _ {floor : ℕ} (f : Function) (sp : ℕ) (win : Within floor f sp) where
  pub cell_lies : (c : ℕ) → c < f.cells → Lies sp (cell_home f c)
  cell_lies c lt = record { top = omega (arith, win.top, frame_room f, lt); aligned = omega (arith, win.aligned); even = omega arith }

  pub temporary_lies : (k : ℕ) → 8 ≤ k → k < 8 + f.outgoing → Lies sp (4 * (k - 8))
  temporary_lies k ge lt = record { top = omega (arith, win.top, frame_room f, ge, lt); aligned = omega (arith, win.aligned); even = omega arith }

  pub return_lies : Lies sp (return_home f)
  return_lies = record { top = omega (arith, win.top, frame_room f); aligned = omega (arith, win.aligned); even = omega (arith, frame_tall f, frame_room f) }

  pub argument_lies : (k : ℕ) → sp + (frame_bytes f + 4 * (k - 8)) + 4 ≤ 2 ^ 31 → Lies sp (frame_bytes f + 4 * (k - 8))
  argument_lies k top = record { top = top; aligned = omega (arith, win.aligned); even = omega (arith, frame_tall f) }

-- words at different offsets, which are multiples of 4
pub words_apart : (sp x y : ℕ) → x % 4 ≡ 0 → y % 4 ≡ 0 → y ≢ x → (sp + x + 4 ≤ sp + y) ⊎ (sp + y + 4 ≤ sp + x)
words_apart sp x y ex ey ne =
    ⊎_elim (λ lt. inl (omega (arith, ex, ey, lt))) (λ ge. inr (omega (arith, ex, ey, ge, ne))) (cases_lt x y)
