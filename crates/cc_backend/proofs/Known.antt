-- The calls of a sound flat program are of functions that it has.
use Rattle.std.proofs.Common.{◌≡◌, ℕ, zero, suc, ◌+◌, ◌*◌, ◌%◌, ◌^◌, ◌<◌, List, [], ◌∷◌, length, Option, Some, None, Bool, true, false, refl, sym, subst, eqb}
use Rattle.std.specs.Prelude.{if◌then◌else◌}
use Rattle.rv32.specs.Arithmetic.{compare_of}
use Rattle.frames_code.specs.declared.code.Operand.TheVariants as operand
use Rattle.frames_code.specs.declared.code.Target.{Target}
use Rattle.frames_code.specs.declared.code.Target.TheVariants as target
use Rattle.frames_code.specs.declared.code.Instruction.{Instruction}
use Rattle.frames_code.specs.declared.code.Instruction.TheVariants as instruction
use Rattle.frames_code.specs.Code.{Program}
use Rattle.frames_code.specs.Sound.{IsSoundProgram}
use Rattle.frames_code.specs.Costs.{next_of}
use Rattle.frames_code.specs.Run.{Value, Bytes, Frame, State, Progress, running, ended, stuck, value, word_at, word_in, reference_in, set, next, past, goes_to, place, memory, name_of, changed_among, with_frames, with_memory, with_element, element_in, gives, gives_word, operate, converted, loaded, stored, put, got, result_of, returned, act, step, run, goes_on, ◌>>=◌}
use Rattle.frames_code.specs.Run as flat
use Rattle.select_correct.proofs.Fits.{function_fits}
use Rattle.cc_backend.proofs.Plain.{bool_cases}

step_is : (p : Program) (s : State) → step p s ≡ (next_of p s >>= act p s)
unfolding step
step_is p s = refl

abbrev pub AreKnown : ℕ → List Frame → Type 0
AreKnown n [] = Unit {0}
AreKnown n (w ∷ ws) = (w.function < n) × AreKnown n ws

module _ (p : Program) (sound : IsSoundProgram p) where
  abbrev n : ℕ
  n = length p.functions

  abbrev pub HasKnown : State → Type 0
  HasKnown s = AreKnown n (s.frame ∷ s.waiting)

  abbrev pub Known : Progress → Type 0
  Known (running s) = HasKnown s
  Known (ended status input trace) = Unit {0}
  Known stuck = Unit {0}

  used : {A : Type 0} (o : Option A) (go : A → Progress) → ((x : A) → Known (go x)) → Known (o >>= go)
  used None go each = tt
  used (Some x) go each = each x

  tested : (t : Bool) (x : Progress) → Known x → Known (if t then x else stuck)
  tested true x q = q
  tested false x q = tt

  either : (t : Bool) (x y : State) → HasKnown x → HasKnown y → Known (running (if t then x else y))
  either true x y q r = q
  either false x y q r = r

  changed : (ws : List Frame) (l : ℕ) (b : Bytes) → AreKnown n ws → AreKnown n (changed_among p ws l b)
  changed [] l b q = tt
  changed (w ∷ ws) l b q =
      bool_cases (eqb (name_of p w ws) l)
      (λ t.
      let list : changed_among p (w ∷ ws) l b ≡ record w { area = b } ∷ ws = rw t refl in
      subst (AreKnown n) (sym list) q)
      (λ t.
      let list : changed_among p (w ∷ ws) l b ≡ w ∷ changed_among p ws l b = rw t refl in
      let more : AreKnown n (w ∷ changed_among p ws l b) = (q.0, changed ws l b q.1) in
      subst (AreKnown n) (sym list) more)

  framed : (s : State) (ws : List Frame) → HasKnown s → AreKnown n ws → HasKnown (with_frames s ws)
  framed s [] q r = q
  framed s (w ∷ ws) q r = r

  put_in : (s : State) (l : ℕ) (b : Bytes) → HasKnown s → HasKnown (with_memory p s l b)
  put_in s zero b q = q
  put_in s (suc l) b q = framed s (changed_among p (s.frame ∷ s.waiting) (suc l) b) q (changed (s.frame ∷ s.waiting) (suc l) b q)

  module _ (s : State) (q : HasKnown s) where
    sets : (d : Target) (v : Value) (s2 : State) → HasKnown s2 → Known (running (set d v s2))
    sets (target.Temporary k) v s2 r = r
    sets (target.Cell c) v s2 r = r

    returns : (result : Option Value) (ws : List Frame) → AreKnown n ws → Known (returned s result ws)
    returns result [] r = used (word_in result) (λ v. ended (v % 2 ^ 8) s.input s.trace) (λ v. tt)
    returns result (w ∷ ws) r = r

    gets : (input : List ℕ) → Known (got s input)
    gets [] = q
    gets (c ∷ rest) = q

    acts : (x : Instruction) → next_of p s ≡ Some x → Known (act p s x)
    acts instruction.Nothing e = q
    acts (instruction.Move d x) e = used (value s x) (λ v. running (set d v (past s))) (λ v. sets d v (past s) q)
    acts (instruction.Compute o d x y) e =
        used (word_at s x) (λ a. word_at s y >>= λ c. gives_word d s (operate o a c)) (λ a.
        used (word_at s y) (λ c. gives_word d s (operate o a c)) (λ c. sets d (flat.word (operate o a c)) (next s) q))
    acts (instruction.Convert c d x) e = used (word_at s x) (λ a. gives_word d s (converted c a)) (λ a. sets d (flat.word (converted c a)) (next s) q)
    acts (instruction.Load w d l) e =
        used (place p s l) (loaded p s w d) (λ v.
        used (memory p s v.list) (λ m. if flat.fits w v.offset m then element_in w m.bytes v.offset >>= gives_word d s else stuck) (λ m.
        tested (flat.fits w v.offset m) (element_in w m.bytes v.offset >>= gives_word d s)
        (used (element_in w m.bytes v.offset) (gives_word d s) (λ k. sets d (flat.word k) (next s) q))))
    acts (instruction.Store w x l) e =
        used (word_at s x) (λ a. place p s l >>= stored p s w a) (λ a.
        used (place p s l) (stored p s w a) (λ v.
        used (memory p s v.list) (λ m. if flat.fits w v.offset m then running (with_memory p (next s) v.list (with_element w m.bytes v.offset a)) else stuck) (λ m.
        tested (flat.fits w v.offset m) (running (with_memory p (next s) v.list (with_element w m.bytes v.offset a)))
        (put_in (next s) v.list (with_element w m.bytes v.offset a) q))))
    acts (instruction.Address d l) e = used (place p s l) (λ v. gives d s (flat.reference v.list v.offset)) (λ v. sets d (flat.reference v.list v.offset) (next s) q)
    acts (instruction.Element d x y size) e =
        used (reference_in (value s x)) (λ v. word_at s y >>= λ k. gives d s (flat.reference v.list (v.offset + k * size))) (λ v.
        used (word_at s y) (λ k. gives d s (flat.reference v.list (v.offset + k * size))) (λ k. sets d (flat.reference v.list (v.offset + k * size)) (next s) q))
    acts (instruction.Jump to) e = q
    acts (instruction.Branch t x y to) e =
        used (word_at s x) (λ a. word_at s y >>= λ c. running (if compare_of t a c then goes_to s to else next s)) (λ a.
        used (word_at s y) (λ c. running (if compare_of t a c then goes_to s to else next s)) (λ c. either (compare_of t a c) (goes_to s to) (next s) q q))
    acts (instruction.Call f) e = ((function_fits p sound s.frame.function).each s.frame.at (instruction.Call f) e, q)
    acts instruction.PutByte e = used (word_at s (operand.Temporary 0)) (put s) (λ v. q)
    acts instruction.GetByte e = gets s.input
    acts instruction.Exit e = used (word_at s (operand.Temporary 0)) (λ v. ended (v % 2 ^ 8) s.input s.trace) (λ v. tt)
    acts instruction.Return e = returns (result_of p s) s.waiting q.1

    any : (o : Option Instruction) → next_of p s ≡ o → Known (o >>= act p s)
    any None e = tt
    any (Some x) e = acts x e

    steps : Known (step p s)
    steps = subst Known (sym (step_is p s)) (any (next_of p s) refl)

  goes : (x : Progress) (go : State → Progress) → ((s : State) → HasKnown s → Known (go s)) → Known x → Known (goes_on x go)
  goes (running s) go each q = each s q
  goes (ended status input trace) go each q = tt
  goes stuck go each q = tt

  pub run_known : (k : ℕ) (s : State) → HasKnown s → Known (run p k s)
  run_known zero s q = q
  run_known (suc k) s q = goes (step p s) (run p k) (run_known k) (steps s q)
