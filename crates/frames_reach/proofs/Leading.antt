-- A step from a marked instruction leads to a marked one, and calls wait at marked ones.
use Rattle.std.proofs.Common.{◌≡◌, ℕ, zero, suc, ◌+◌, ◌*◌, ◌%◌, ◌^◌, List, [], ◌∷◌, Option, Some, None, Bool, true, false}
use Rattle.std.specs.Prelude.{◌==◌, if◌then◌else◌}
use Rattle.rv32.specs.Arithmetic.{compare_of}
use Rattle.frames_code.specs.declared.code.Operand.TheVariants as operand
use Rattle.frames_code.specs.declared.code.Target.{Target}
use Rattle.frames_code.specs.declared.code.Target.TheVariants as target
use Rattle.frames_code.specs.declared.code.Width.{Width}
use Rattle.frames_code.specs.declared.code.Instruction.{Instruction}
use Rattle.frames_code.specs.declared.code.Instruction.TheVariants as instruction
use Rattle.frames_code.specs.Code.{Program}
use Rattle.frames_code.specs.Run.{Value, Bytes, Frame, State, Reference, Progress, running, ended, stuck, word, reference, value, word_at, word_in, reference_in, set, next, past, goes_to, place, memory, with_memory, with_element, element_in, fits, gives, gives_word, operate, converted, loaded, stored, put, got, returned, result_of, act, name_of, changed_among, with_frames, ◌>>=◌}
use Rattle.frames_opt.proofs.Stands.{Sat}
use Rattle.frames_opt.proofs.Alike.{left_true, right_true}
use Rattle.frames_reach.specs.layer.Functions.{is_marked, leads}

sat_bind : {A : Type 0} (P : State → Type 0) (o : Option A) (go : A → Progress) → ((x : A) → Sat P (go x)) → Sat P (o >>= go)
sat_bind P None go each = tt
sat_bind P (Some x) go each = each x

sat_if : (P : State → Type 0) (t : Bool) (x y : Progress) → Sat P x → Sat P y → Sat P (if t then x else y)
sat_if P true x y a b = a
sat_if P false x y a b = b

sat_either : (P : State → Type 0) (t : Bool) (x y : State) → P x → P y → P (if t then x else y)
sat_either P true x y a b = a
sat_either P false x y a b = b

-- the marks of each function, by its number
module _ (marks : ℕ → List Bool) where
  abbrev pub IsAt : Frame → Type 0
  IsAt f = is_marked (marks f.function) f.at ≡ true

  abbrev pub Wait : List Frame → Type 0
  Wait [] = Unit {0}
  Wait (f ∷ fs) = IsAt f × Wait fs

  abbrev pub Stands : State → Type 0
  Stands s = IsAt s.frame × Wait s.waiting

  module _ (p : Program) where
    waits_changed : (fs : List Frame) (l : ℕ) (b : Bytes) → Wait fs → Wait (changed_among p fs l b)
    waits_changed [] l b w = tt
    waits_changed (f ∷ fs) l b w = on (waits_changed fs l b w.1) (name_of p f fs == l)
      where
        on : Wait (changed_among p fs l b) → (t : Bool) → Wait (if t then record f { area = b } ∷ fs else f ∷ changed_among p fs l b)
        on later true = w
        on later false = (w.0, later)

    memory_stands : (r : State) → Stands r → (l : ℕ) (b : Bytes) → Stands (with_memory p r l b)
    memory_stands r g zero b = g
    memory_stands r g (suc l) b = on (name_of p r.frame r.waiting == suc l)
      where
        on : (t : Bool) → Stands (with_frames r (if t then record r.frame { area = b } ∷ r.waiting else r.frame ∷ changed_among p r.waiting (suc l) b))
        on true = g
        on false = (g.0, waits_changed r.waiting (suc l) b g.1)

    module _ (starts : (k : ℕ) → is_marked (marks k) 0 ≡ true) (s : State) (waits : Wait s.waiting) where
      abbrev k : ℕ
      k = s.frame.function

      abbrev i : ℕ
      i = s.frame.at

      abbrev On : Type 0
      On = is_marked (marks k) (i + 1) ≡ true

      gives_stands : (d : Target) (v : Value) → On → Stands (set d v (next s))
      gives_stands (target.Temporary j) v on = (on, waits)
      gives_stands (target.Cell j) v on = (on, waits)

      past_stands : (d : Target) (v : Value) → On → Stands (set d v (past s))
      past_stands (target.Temporary j) v on = (on, waits)
      past_stands (target.Cell j) v on = (on, waits)

      loaded_stands : (w : Width) (d : Target) (r : Reference) → On → Sat Stands (loaded p s w d r)
      loaded_stands w d r on =
          sat_bind Stands (memory p s r.list) (λ m. if fits w r.offset m then element_in w m.bytes r.offset >>= gives_word d s else stuck)
          (λ m. sat_if Stands (fits w r.offset m) (element_in w m.bytes r.offset >>= gives_word d s) stuck
          (sat_bind Stands (element_in w m.bytes r.offset) (gives_word d s) (λ v. gives_stands d (word v) on)) tt)

      stored_stands : (w : Width) (v : ℕ) (r : Reference) → On → Sat Stands (stored p s w v r)
      stored_stands w v r on =
          sat_bind Stands (memory p s r.list) (λ m. if fits w r.offset m then running (with_memory p (next s) r.list (with_element w m.bytes r.offset v)) else stuck)
          (λ m. sat_if Stands (fits w r.offset m) (running (with_memory p (next s) r.list (with_element w m.bytes r.offset v))) stuck
          (memory_stands (next s) (on, waits) r.list (with_element w m.bytes r.offset v)) tt)

      returned_stands : (result : Option Value) (ws : List Frame) → Wait ws → Sat Stands (returned s result ws)
      returned_stands result [] w = sat_bind Stands (word_in result) (λ v. ended (v % 2 ^ 8) s.input s.trace) (λ v. tt)
      returned_stands result (f ∷ fs) w = w

      got_stands : On → (input : List ℕ) → Sat Stands (got s input)
      got_stands on [] = (on, waits)
      got_stands on (b ∷ rest) = (on, waits)

      pub act_stands : (x : Instruction) → leads (marks k) i x ≡ true → Sat Stands (act p s x)
      act_stands instruction.Nothing on = (on, waits)
      act_stands (instruction.Move d x) on = sat_bind Stands (value s x) (λ v. running (set d v (past s))) (λ v. past_stands d v on)
      act_stands (instruction.Compute o d x y) on =
          sat_bind Stands (word_at s x) (λ a. word_at s y >>= λ b. gives_word d s (operate o a b))
          (λ a. sat_bind Stands (word_at s y) (λ b. gives_word d s (operate o a b)) (λ b. gives_stands d (word (operate o a b)) on))
      act_stands (instruction.Convert c d x) on = sat_bind Stands (word_at s x) (λ a. gives_word d s (converted c a)) (λ a. gives_stands d (word (converted c a)) on)
      act_stands (instruction.Load w d l) on = sat_bind Stands (place p s l) (loaded p s w d) (λ r. loaded_stands w d r on)
      act_stands (instruction.Store w x l) on =
          sat_bind Stands (word_at s x) (λ a. place p s l >>= stored p s w a)
          (λ a. sat_bind Stands (place p s l) (stored p s w a) (λ r. stored_stands w a r on))
      act_stands (instruction.Address d l) on =
          sat_bind Stands (place p s l) (λ r. gives d s (reference r.list r.offset)) (λ r. gives_stands d (reference r.list r.offset) on)
      act_stands (instruction.Element d x y size) on =
          sat_bind Stands (reference_in (value s x)) (λ r. word_at s y >>= λ n. gives d s (reference r.list (r.offset + n * size)))
          (λ r. sat_bind Stands (word_at s y) (λ n. gives d s (reference r.list (r.offset + n * size))) (λ n. gives_stands d (reference r.list (r.offset + n * size)) on))
      act_stands (instruction.Jump to) on = (on, waits)
      act_stands (instruction.Branch t x y to) on =
          sat_bind Stands (word_at s x) (λ a. word_at s y >>= λ b. running (if compare_of t a b then goes_to s to else next s))
          (λ a. sat_bind Stands (word_at s y) (λ b. running (if compare_of t a b then goes_to s to else next s))
          (λ b. sat_either Stands (compare_of t a b) (goes_to s to) (next s)
          (right_true (is_marked (marks k) (i + 1)) (is_marked (marks k) to) on, waits) (left_true (is_marked (marks k) (i + 1)) (is_marked (marks k) to) on, waits)))
      act_stands (instruction.Call f) on = (starts f, (on, waits))
      act_stands instruction.PutByte on = sat_bind Stands (word_at s (operand.Temporary 0)) (put s) (λ v. (on, waits))
      act_stands instruction.GetByte on = got_stands on s.input
      act_stands instruction.Exit on = sat_bind Stands (word_at s (operand.Temporary 0)) (λ v. ended (v % 2 ^ 8) s.input s.trace) (λ v. tt)
      act_stands instruction.Return on = returned_stands (result_of p s) s.waiting waits
