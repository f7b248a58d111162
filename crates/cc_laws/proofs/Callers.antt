-- In a run of flat code each waiting call is after a call instruction, a step adds at most one frame, and what was done stays done.
use Rattle.std.proofs.Common.{◌≡◌, ℕ, zero, suc, ◌+◌, ◌*◌, ◌%◌, ◌^◌, ◌≤◌, List, [], ◌∷◌, ◌++◌, Option, Some, None, Bool, true, false, refl, sym, ap, ◌∙◌, subst, arith, eqb}
use Rattle.std.proofs.lemmas.List.{append_assoc}
use Rattle.csem_events.specs.Events.{Event, Got, GotEnd, Put}
use Rattle.select_exec.specs.Laws.{IsEndOf}
use Rattle.std.specs.Prelude.{if◌then◌else◌, slice_get}
use Rattle.rv32.specs.Arithmetic.{compare_of}
use Rattle.frames_code.specs.declared.code.Operand.TheVariants as operand
use Rattle.frames_code.specs.declared.code.Target.{Target}
use Rattle.frames_code.specs.declared.code.Target.TheVariants as target
use Rattle.frames_code.specs.declared.code.Instruction.{Instruction}
use Rattle.frames_code.specs.declared.code.Instruction.TheVariants as instruction
use Rattle.frames_code.specs.Code.{Program}
use Rattle.frames_code.specs.Sound.{IsSoundProgram, most_bytes}
use Rattle.frames_code.specs.Costs.{next_of}
use Rattle.frames_code.specs.Run.{Value, Bytes, Frame, State, Progress, running, ended, stuck, value, word_at, word_in, reference_in, set, next, past, goes_to, place, memory, name_of, changed_among, with_frames, with_memory, with_element, element_in, gives, gives_word, operate, converted, loaded, stored, put, got, result_of, returned, act, step, run, goes_on, function_at, bytes_of, ◌>>=◌}
use Rattle.frames_code.specs.Run as flat
use Rattle.select_correct.proofs.Fits.{function_fits}
use Rattle.cc_backend.proofs.Plain.{bool_cases}

pub step_is : (p : Program) (s : State) → step p s ≡ (next_of p s >>= act p s)
unfolding step
step_is p s = refl

-- the frame continues after a call
abbrev pub IsBehindCall : Program → Frame → Type 0
IsBehindCall p w = (k f : ℕ) × (w.at ≡ k + 1) × (slice_get (function_at p w.function).code k ≡ Some (instruction.Call f))

abbrev pub AreBehindCalls : Program → List Frame → Type 0
AreBehindCalls p [] = Unit {0}
AreBehindCalls p (w ∷ ws) = IsBehindCall p w × AreBehindCalls p ws

-- of all frames: those that wait are after calls, and together they take at most this many bytes
abbrev Fits : Program → (most : ℕ) → List Frame → Type 0
Fits p most [] = Unit {0}
Fits p most (w ∷ ws) = AreBehindCalls p ws × (bytes_of p (w ∷ ws) ≤ most)

-- of a state: this holds of its frames, and what was done before is a suffix of its trace
abbrev pub FitsWithin : Program → (most : ℕ) → List Event → State → Type 0
FitsWithin p most h s = AreBehindCalls p s.waiting × (bytes_of p (s.frame ∷ s.waiting) ≤ most) × IsEndOf h s.trace

abbrev pub Within : Program → (most : ℕ) → List Event → Progress → Type 0
Within p most h (running s) = FitsWithin p most h s
Within p most h (ended status input trace) = IsEndOf h trace
Within p most h stuck = Unit {0}

module _ (p : Program) (sound : IsSoundProgram p) where
  module _ (most : ℕ) (h : List Event) where
    used : {A : Type 0} (o : Option A) (go : A → Progress) → ((x : A) → Within p most h (go x)) → Within p most h (o >>= go)
    used None go each = tt
    used (Some x) go each = each x

    tested : (t : Bool) (x : Progress) → Within p most h x → Within p most h (if t then x else stuck)
    tested true x q = q
    tested false x q = tt

    either : (t : Bool) (x y : State) → FitsWithin p most h x → FitsWithin p most h y → Within p most h (running (if t then x else y))
    either true x y q r = q
    either false x y q r = r

  -- a list of frames of which one array has changed
  changed_bytes : (ws : List Frame) (l : ℕ) (b : Bytes) → bytes_of p (changed_among p ws l b) ≡ bytes_of p ws
  changed_bytes [] l b = refl
  changed_bytes (w ∷ ws) l b =
      bool_cases (eqb (name_of p w ws) l)
      (λ t. rw t refl)
      (λ t.
      let list : changed_among p (w ∷ ws) l b ≡ w ∷ changed_among p ws l b = rw t refl in
      subst (λ z. bytes_of p z ≡ bytes_of p (w ∷ ws)) (sym list) (let e = changed_bytes ws l b in rw e refl))

  changed_callers : (ws : List Frame) (l : ℕ) (b : Bytes) → AreBehindCalls p ws → AreBehindCalls p (changed_among p ws l b)
  changed_callers [] l b q = tt
  changed_callers (w ∷ ws) l b q =
      bool_cases (eqb (name_of p w ws) l)
      (λ t.
      let list : changed_among p (w ∷ ws) l b ≡ record w { area = b } ∷ ws = rw t refl in
      subst (AreBehindCalls p) (sym list) q)
      (λ t.
      let list : changed_among p (w ∷ ws) l b ≡ w ∷ changed_among p ws l b = rw t refl in
      let more : AreBehindCalls p (w ∷ changed_among p ws l b) = (q.0, changed_callers ws l b q.1) in
      subst (AreBehindCalls p) (sym list) more)

  module _ (most : ℕ) (h : List Event) where
    framed : (s : State) (ws : List Frame) → FitsWithin p most h s → Fits p most ws → FitsWithin p most h (with_frames s ws)
    framed s [] q r = q
    framed s (w ∷ ws) q r = (r.0, r.1, q.2)

    changed : (w : Frame) (ws : List Frame) (l : ℕ) (b : Bytes) → AreBehindCalls p ws → bytes_of p (w ∷ ws) ≤ most → Fits p most (changed_among p (w ∷ ws) l b)
    changed w ws l b q le =
        bool_cases (eqb (name_of p w ws) l)
        (λ t.
        let list : changed_among p (w ∷ ws) l b ≡ record w { area = b } ∷ ws = rw t refl in
        subst (Fits p most) (sym list) (q, le))
        (λ t.
        let list : changed_among p (w ∷ ws) l b ≡ w ∷ changed_among p ws l b = rw t refl in
        let same = changed_bytes ws l b in
        let more : Fits p most (w ∷ changed_among p ws l b) = (changed_callers ws l b q, omega (arith, le, same)) in
        subst (Fits p most) (sym list) more)

    put_in : (s : State) (l : ℕ) (b : Bytes) → FitsWithin p most h s → FitsWithin p most h (with_memory p s l b)
    put_in s zero b q = q
    put_in s (suc l) b q = framed s (changed_among p (s.frame ∷ s.waiting) (suc l) b) q (changed s.frame s.waiting (suc l) b q.0 q.1)

    sets : (d : Target) (v : Value) (s2 : State) → FitsWithin p most h s2 → Within p most h (running (set d v s2))
    sets (target.Temporary k) v s2 r = r
    sets (target.Cell c) v s2 r = r

  -- of a step within a limit, if a call keeps it too
  module _ (s : State) (callers : AreBehindCalls p s.waiting) (limit : ℕ) (least : bytes_of p (s.frame ∷ s.waiting) ≤ limit)
      (calls : (f : ℕ) → next_of p s ≡ Some (instruction.Call f) → bytes_of p ((flat.entered s f).frame ∷ (flat.entered s f).waiting) ≤ limit) where
    abbrev h : List Event
    h = s.trace

    q : FitsWithin p limit h s
    q = (callers, least, ([], refl))

    returns : (result : Option Value) (ws : List Frame) → AreBehindCalls p ws → bytes_of p ws ≤ limit → Within p limit h (returned s result ws)
    returns result [] r le = used limit h (word_in result) (λ v. ended (v % 2 ^ 8) s.input s.trace) (λ v. ([], refl))
    returns result (w ∷ ws) r le = (r.1, le, ([], refl))

    gets : (input : List ℕ) → Within p limit h (got s input)
    gets [] = (callers, least, (GotEnd ∷ [], refl))
    gets (c ∷ rest) = (callers, least, (Got c ∷ [], refl))

    acts : (x : Instruction) → next_of p s ≡ Some x → Within p limit h (act p s x)
    acts instruction.Nothing e = q
    acts (instruction.Move d x) e = used limit h (value s x) (λ v. running (set d v (past s))) (λ v. sets limit h d v (past s) q)
    acts (instruction.Compute o d x y) e =
        used limit h (word_at s x) (λ a. word_at s y >>= λ c. gives_word d s (operate o a c)) (λ a.
        used limit h (word_at s y) (λ c. gives_word d s (operate o a c)) (λ c. sets limit h d (flat.word (operate o a c)) (next s) q))
    acts (instruction.Convert c d x) e = used limit h (word_at s x) (λ a. gives_word d s (converted c a)) (λ a. sets limit h d (flat.word (converted c a)) (next s) q)
    acts (instruction.Load w d l) e =
        used limit h (place p s l) (loaded p s w d) (λ v.
        used limit h (memory p s v.list) (λ m. if flat.fits w v.offset m then element_in w m.bytes v.offset >>= gives_word d s else stuck) (λ m.
        tested limit h (flat.fits w v.offset m) (element_in w m.bytes v.offset >>= gives_word d s)
        (used limit h (element_in w m.bytes v.offset) (gives_word d s) (λ k. sets limit h d (flat.word k) (next s) q))))
    acts (instruction.Store w x l) e =
        used limit h (word_at s x) (λ a. place p s l >>= stored p s w a) (λ a.
        used limit h (place p s l) (stored p s w a) (λ v.
        used limit h (memory p s v.list) (λ m. if flat.fits w v.offset m then running (with_memory p (next s) v.list (with_element w m.bytes v.offset a)) else stuck) (λ m.
        tested limit h (flat.fits w v.offset m) (running (with_memory p (next s) v.list (with_element w m.bytes v.offset a)))
        (put_in limit h (next s) v.list (with_element w m.bytes v.offset a) q))))
    acts (instruction.Address d l) e = used limit h (place p s l) (λ v. gives d s (flat.reference v.list v.offset)) (λ v. sets limit h d (flat.reference v.list v.offset) (next s) q)
    acts (instruction.Element d x y size) e =
        used limit h (reference_in (value s x)) (λ v. word_at s y >>= λ k. gives d s (flat.reference v.list (v.offset + k * size))) (λ v.
        used limit h (word_at s y) (λ k. gives d s (flat.reference v.list (v.offset + k * size))) (λ k. sets limit h d (flat.reference v.list (v.offset + k * size)) (next s) q))
    acts (instruction.Jump to) e = q
    acts (instruction.Branch t x y to) e =
        used limit h (word_at s x) (λ a. word_at s y >>= λ c. running (if compare_of t a c then goes_to s to else next s)) (λ a.
        used limit h (word_at s y) (λ c. running (if compare_of t a c then goes_to s to else next s)) (λ c. either limit h (compare_of t a c) (goes_to s to) (next s) q q))
    acts (instruction.Call f) e = (((s.frame.at, f, refl, e), callers), calls f e, ([], refl))
    acts instruction.PutByte e = used limit h (word_at s (operand.Temporary 0)) (put s) (λ v. (callers, least, (Put (v % 2 ^ 8) ∷ [], refl)))
    acts instruction.GetByte e = gets s.input
    acts instruction.Exit e = used limit h (word_at s (operand.Temporary 0)) (λ v. ended (v % 2 ^ 8) s.input s.trace) (λ v. ([], refl))
    acts instruction.Return e = returns (result_of p s) s.waiting callers (omega (arith, least))

    any : (o : Option Instruction) → next_of p s ≡ o → Within p limit h (o >>= act p s)
    any None e = tt
    any (Some x) e = acts x e

    step_limited : Within p limit h (step p s)
    step_limited = subst (Within p limit h) (sym (step_is p s)) (any (next_of p s) refl)

  module _ (s : State) (callers : AreBehindCalls p s.waiting) where
    -- a step adds at most one frame
    pub step_within : Within p (bytes_of p (s.frame ∷ s.waiting) + most_bytes) s.trace (step p s)
    step_within = step_limited s callers (bytes_of p (s.frame ∷ s.waiting) + most_bytes) (omega arith) (λ f e. let small = (function_fits p sound f).small in omega (arith, small))

    -- and none where it is no call
    pub step_level : ((f : ℕ) → next_of p s ≡ Some (instruction.Call f) → ⊥) → Within p (bytes_of p (s.frame ∷ s.waiting)) s.trace (step p s)
    step_level never = step_limited s callers (bytes_of p (s.frame ∷ s.waiting)) (omega arith) (λ f e. absurd (never f e))

  -- what comes after h was done: the waiting calls are after calls, and h is a suffix of the trace
  abbrev pub Called : List Event → Progress → Type 0
  Called h (running s) = AreBehindCalls p s.waiting × IsEndOf h s.trace
  Called h (ended status input trace) = IsEndOf h trace
  Called h stuck = Unit {0}

  called_within : (most : ℕ) (h : List Event) (x : Progress) → Within p most h x → Called h x
  called_within most h (running s) q = (q.0, q.2)
  called_within most h (ended status input trace) q = q
  called_within most h stuck q = tt

  later : (a b c : List Event) → IsEndOf a b → IsEndOf b c → IsEndOf a c
  later a b c x y = (y.0 ++ x.0, y.1 ∙ (ap (λ z. y.0 ++ z) x.1 ∙ sym (append_assoc y.0 x.0 a)))

  called_later : (h i : List Event) (x : Progress) → IsEndOf h i → Called i x → Called h x
  called_later h i (running s) e q = (q.0, later h i s.trace e q.1)
  called_later h i (ended status input trace) e q = later h i trace e q
  called_later h i stuck e q = tt

  goes : (h : List Event) (x : Progress) (go : State → Progress) → ((s : State) → AreBehindCalls p s.waiting → Called s.trace (go s)) → Called h x → Called h (goes_on x go)
  goes h (running s) go each q = called_later h s.trace (go s) q.1 (each s q.0)
  goes h (ended status input trace) go each q = q
  goes h stuck go each q = tt

  pub run_called : (k : ℕ) (s : State) → AreBehindCalls p s.waiting → Called s.trace (run p k s)
  run_called zero s callers = (callers, ([], refl))
  run_called (suc k) s callers = goes s.trace (step p s) (run p k) (run_called k) (called_within _ s.trace (step p s) (step_within s callers))
