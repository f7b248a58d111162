-- An instruction acts the same in two programs whose functions differ in their code alone.
use Rattle.std.proofs.Common.{◌≡◌, ℕ, zero, suc, ◌+◌, List, [], ◌∷◌, length, Option, Some, refl, ap, ◌∙◌}
use Rattle.std.specs.Prelude.{◌==◌, if◌then◌else◌}
use Rattle.frames_code.specs.declared.code.Target.{Target}
use Rattle.frames_code.specs.declared.code.Width.{Width}
use Rattle.frames_code.specs.declared.code.Base.{Base}
use Rattle.frames_code.specs.declared.code.Base.TheVariants as base
use Rattle.frames_code.specs.declared.code.Location.{Location}
use Rattle.frames_code.specs.declared.code.Location.TheVariants as location
use Rattle.frames_code.specs.declared.code.Instruction.{Instruction}
use Rattle.frames_code.specs.declared.code.Instruction.TheVariants as instruction
use Rattle.frames_code.specs.Code.{Function, Program, area_home, frame_bytes}
use Rattle.frames_code.specs.Run.{reference, Bytes, Frame, State, Reference, Memory, running, stuck, word_at, next, place, base_of, indexed, arrays, memory, memory_among, changed_among, with_frames, with_memory, with_element, element_in, fits, gives, gives_word, loaded, stored, function_at, bytes_of, name_of, result_if, result_of, returned, act, ◌>>=◌}
use Rattle.frames_opt.proofs.Acts.{bind_same, binds_same}
use Rattle.frames_opt.proofs.Alike.{Sized}

abbrev statics_memory : Bytes → List ℕ → Memory
statics_memory b xs = record { bytes = b; first = 0; past = length xs }

abbrev spot : (list offset : ℕ) → Reference
spot list offset = record { list = list; offset = offset }

module _ (p q : Program) (r : Sized p q) where
  bytes_at : (k : ℕ) → frame_bytes (function_at q k) ≡ frame_bytes (function_at p k)
  bytes_at k = ap frame_bytes (r.at k)

  home_at : (k : ℕ) → area_home (function_at q k) ≡ area_home (function_at p k)
  home_at k = ap area_home (r.at k)

  gives_at : (k : ℕ) → (function_at q k).gives ≡ (function_at p k).gives
  gives_at k = ap (λ (f : Function). f.gives) (r.at k)

  arrays_at : (k : ℕ) (b : Bytes) → arrays (function_at q k) b ≡ arrays (function_at p k) b
  arrays_at k b = ap (λ f. arrays f b) (r.at k)

  bytes_same : (fs : List Frame) → bytes_of q fs ≡ bytes_of p fs
  bytes_same [] = refl
  bytes_same (f ∷ fs) = ap (λ n. n + bytes_of q fs) (bytes_at f.function) ∙ ap (λ n. frame_bytes (function_at p f.function) + n) (bytes_same fs)

  name_same : (f : Frame) (fs : List Frame) → name_of q f fs ≡ name_of p f fs
  name_same f fs = bytes_same (f ∷ fs)

  memory_in : (fs : List Frame) (l : ℕ) → memory_among q fs l ≡ memory_among p fs l
  memory_in [] l = refl
  memory_in (f ∷ fs) l =
      ap (λ n. if n == l then Some (arrays (function_at q f.function) f.area) else memory_among q fs l) (name_same f fs)
      ∙ ap (λ (m : Memory). if name_of p f fs == l then Some m else memory_among q fs l) (arrays_at f.function f.area)
      ∙ ap (λ (m : Option Memory). if name_of p f fs == l then Some (arrays (function_at p f.function) f.area) else m) (memory_in fs l)

  memory_same : (s : State) (l : ℕ) → memory q s l ≡ memory p s l
  memory_same s zero = ap (λ (xs : List ℕ). Some (statics_memory s.statics xs)) r.statics
  memory_same s (suc l) = memory_in (s.frame ∷ s.waiting) (suc l)

  changed_in : (fs : List Frame) (l : ℕ) (b : Bytes) → changed_among q fs l b ≡ changed_among p fs l b
  changed_in [] l b = refl
  changed_in (f ∷ fs) l b =
      ap (λ n. if n == l then record f { area = b } ∷ fs else f ∷ changed_among q fs l b) (name_same f fs)
      ∙ ap (λ (gs : List Frame). if name_of p f fs == l then record f { area = b } ∷ fs else f ∷ gs) (changed_in fs l b)

  memory_put : (s : State) (l : ℕ) (b : Bytes) → with_memory q s l b ≡ with_memory p s l b
  memory_put s zero b = refl
  memory_put s (suc l) b = ap (with_frames s) (changed_in (s.frame ∷ s.waiting) (suc l) b)

  base_same : (s : State) (b : Base) → base_of q s b ≡ base_of p s b
  base_same s (base.Statics o) = refl
  base_same s (base.Frame o) =
      ap (λ n. spot n (area_home (function_at q s.frame.function) + o)) (name_same s.frame s.waiting)
      ∙ ap (λ h. spot (name_of p s.frame s.waiting) (h + o)) (home_at s.frame.function)

  place_same : (s : State) (l : Location) → place q s l ≡ place p s l
  place_same s (location.Statics o) = refl
  place_same s (location.Frame o) =
      ap (λ n. Some (spot n (area_home (function_at q s.frame.function) + o))) (name_same s.frame s.waiting)
      ∙ ap (λ h. Some (spot (name_of p s.frame s.waiting) (h + o))) (home_at s.frame.function)
  place_same s (location.At x) = refl
  place_same s (location.Indexed b y size) = ap (λ (z : Reference). indexed z size (word_at s y)) (base_same s b)

  loaded_same : (s : State) (w : Width) (d : Target) (z : Reference) → loaded q s w d z ≡ loaded p s w d z
  loaded_same s w d z = ap (λ o. o >>= λ m. if fits w z.offset m then element_in w m.bytes z.offset >>= gives_word d s else stuck) (memory_same s z.list)

  stored_same : (s : State) (w : Width) (v : ℕ) (z : Reference) → stored q s w v z ≡ stored p s w v z
  stored_same s w v z =
      binds_same (memory q s z.list) (memory p s z.list)
      (λ m. if fits w z.offset m then running (with_memory q (next s) z.list (with_element w m.bytes z.offset v)) else stuck)
      (λ m. if fits w z.offset m then running (with_memory p (next s) z.list (with_element w m.bytes z.offset v)) else stuck)
      (memory_same s z.list)
      (λ m. ap (λ (t : State). if fits w z.offset m then running t else stuck) (memory_put (next s) z.list (with_element w m.bytes z.offset v)))

  pub result_same : (s : State) → result_of q s ≡ result_of p s
  result_same s = ap (λ b. result_if b (s.temporaries 0)) (gives_at s.frame.function)

  pub act_same : (s : State) (x : Instruction) → act q s x ≡ act p s x
  act_same s instruction.Nothing = refl
  act_same s (instruction.Move d x) = refl
  act_same s (instruction.Compute o d x y) = refl
  act_same s (instruction.Convert c d x) = refl
  act_same s (instruction.Load w d l) = binds_same (place q s l) (place p s l) (loaded q s w d) (loaded p s w d) (place_same s l) (loaded_same s w d)
  act_same s (instruction.Store w x l) =
      bind_same (word_at s x) (λ a. place q s l >>= stored q s w a) (λ a. place p s l >>= stored p s w a)
      (λ a. binds_same (place q s l) (place p s l) (stored q s w a) (stored p s w a) (place_same s l) (stored_same s w a))
  act_same s (instruction.Address d l) = ap (λ o. o >>= λ z. gives d s (reference z.list z.offset)) (place_same s l)
  act_same s (instruction.Element d x y size) = refl
  act_same s (instruction.Jump to) = refl
  act_same s (instruction.Branch t x y to) = refl
  act_same s (instruction.Call f) = refl
  act_same s instruction.PutByte = refl
  act_same s instruction.GetByte = refl
  act_same s instruction.Exit = refl
  act_same s instruction.Return = ap (λ v. returned s v s.waiting) (result_same s)
