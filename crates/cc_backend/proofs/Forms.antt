-- Flat code of three-address code, apart from its runs; and the size of its frames.
use Rattle.std.proofs.Common.{◌≡◌, ℕ, zero, suc, ◌<◌, ◌≤◌, List, [], ◌∷◌, length, map, Option, Some, None, refl, subst, arith}
use Rattle.std.specs.Prelude.{slice_get}
use Rattle.typing_spec.specs.Program as typed
use Rattle.csem.specs.History.{weight_in, sum_of}
use Rattle.tac_code.specs.Code as tac
use Rattle.tac_code.specs.Lowered.{IsLowered}
use Rattle.frames_code.specs.Code as flat
use Rattle.frames_code.specs.Run as flat_run
use Rattle.frames_code.specs.Sound as flat_sound
use Rattle.frames.specs.Flattened.{behind}
use Rattle.cc_backend.specs.FlatImages.{FitStack}
use Rattle.cc_backend.specs.Forms.{IsFormOf}
use Rattle.cc_backend.proofs.Known.{AreKnown, Known, run_known}

pub none_within : {X : Type 0} (xs : List X) (k : ℕ) → slice_get xs k ≡ None → k < length xs → ⊥
none_within [] k e lt = omega (arith, lt)
none_within (x ∷ xs) zero e lt = cc
none_within (x ∷ xs) (suc k) e lt = none_within xs k e (omega (arith, lt))

module _ (p : typed.Program) (q : tac.Program) (f : flat.Program) (lowered : IsLowered p q) (form : IsFormOf q f) where
  -- a frame of a function that there is takes no more than its weight
  frame_among : (g : ℕ) → g < length f.functions → (a : Option typed.Function) (b : Option tac.Function) (c : Option flat.Function) → slice_get p.functions g ≡ a → slice_get q.functions g ≡ b → slice_get f.functions g ≡ c
      → flat.frame_bytes (flat_run.function_at f g) ≤ weight_in p g
  frame_among g lt None b c ea eb ec = absurd (none_within p.functions g ea (omega (arith, lt, form.count, lowered.count)))
  frame_among g lt (Some x) None c ea eb ec = absurd (none_within q.functions g eb (omega (arith, lt, form.count)))
  frame_among g lt (Some x) (Some y) None ea eb ec = absurd (none_within f.functions g ec lt)
  frame_among g lt (Some x) (Some y) (Some z) ea eb ec =
      let one = (form.each g y z eb ec).frame in
      let two = (lowered.each g x y ea eb).within_weight in
      let all : flat.frame_bytes z ≤ x.weight = omega (arith, one, two) in
      rw (ea, ec) all

  pub frame_within : (g : ℕ) → g < length f.functions → flat.frame_bytes (flat_run.function_at f g) ≤ weight_in p g
  frame_within g lt = frame_among g lt (slice_get p.functions g) (slice_get q.functions g) (slice_get f.functions g) refl refl refl

module _ (weight : ℕ → ℕ) (f : flat.Program) (sound : flat_sound.IsSoundProgram f) (each : (g : ℕ) → g < length f.functions → flat.frame_bytes (flat_run.function_at f g) ≤ weight g) where
  frames_within : (ws : List flat_run.Frame) → AreKnown (length f.functions) ws → flat_run.bytes_of f ws ≤ sum_of weight (map (λ w. w.function) ws)
  frames_within [] k = omega arith
  frames_within (w ∷ ws) k = omega (arith, frames_within ws k.1, each w.function k.0)

  -- where the weights of the active calls are within a limit, their frames fit a stack of `limit` bytes
  pub frames_fit : (limit : ℕ) (input : List ℕ) (j : ℕ) (x : flat_run.Progress) → behind f input j ≡ x
      → ((s : flat_run.State) → behind f input j ≡ flat_run.running s → sum_of weight (flat_run.active s) ≤ limit) → FitStack limit f x
  frames_fit limit input j (flat_run.running s) e fits =
      let known : Known f sound (flat_run.running s) = subst (Known f sound) e (run_known f sound j (flat_run.start f input) (sound.has_main, tt)) in
      omega (arith, fits s e, frames_within (s.frame ∷ s.waiting) known)
  frames_fit limit input j (flat_run.ended status left trace) e fits = tt
  frames_fit limit input j flat_run.stuck e fits = tt
