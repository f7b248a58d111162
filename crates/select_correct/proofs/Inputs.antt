-- The bytes read and those left are the input: of flat code and of the table's machine.
use Rattle.std.proofs.Common.{◌≡◌, ℕ, zero, suc, ◌+◌, ◌*◌, ◌%◌, ◌^◌, List, [], ◌∷◌, Option, Some, None, Bool, true, false, refl, sym, ◌∙◌, subst}
use Rattle.std.specs.Prelude.{◌==◌, ◌&&◌, if◌then◌else◌}
use Rattle.rv32.specs.declared.state.Cause.TheVariants as cause
use Rattle.rv32.specs.declared.state.StepResult.{StepResult}
use Rattle.rv32.specs.declared.state.StepResult.TheVariants.{Went, Call, Trap}
use Rattle.rv32.specs.Arithmetic.{compare_of}
use Rattle.rv32.specs.Step.{Machine, step_of, register}
use Rattle.csem_events.specs.Events.{Event, Got, GotEnd, Put}
use Rattle.sim.specs.Runs as machine
use Rattle.frames_code.specs.declared.code.Operand.TheVariants as operand
use Rattle.frames_code.specs.declared.code.Target.{Target}
use Rattle.frames_code.specs.declared.code.Instruction.{Instruction}
use Rattle.frames_code.specs.declared.code.Instruction.TheVariants as instruction
use Rattle.frames_code.specs.Code.{Program}
use Rattle.frames_code.specs.Run.{Value, Frame, State, Progress, running, ended, stuck, value, word_at, word_in, reference_in, set, next, past, goes_to, place, memory, with_memory, with_element, element_in, gives, gives_word, operate, converted, loaded, stored, put, got, result_of, returned, act, step, run, goes_on, ◌>>=◌}
use Rattle.frames_code.specs.Run as flat
use Rattle.frames_code.specs.Costs.{next_of}
use Rattle.select_correct.proofs.Forms.{set_input, set_trace}
use Rattle.select_correct.proofs.Accesses.{memory_input, memory_trace}

pub step_is : (p : Program) (s : State) → step p s ≡ (next_of p s >>= act p s)
unfolding step
step_is p s = refl

-- ---- an invariant of the remaining input and of the trace, whatever flat code does

pub record Lasts (R : List ℕ → List Event → Type 0) (input : List ℕ) (trace : List Event) : Type 0 where
  pub now : R input trace
  pub at_put : (c : ℕ) → R input (Put c ∷ trace)
  pub at_end : input ≡ [] → R input (GotEnd ∷ trace)
  pub at_byte : (c : ℕ) (rest : List ℕ) → input ≡ c ∷ rest → R rest (Got c ∷ trace)

module _ (R : List ℕ → List Event → Type 0) where
  abbrev pub Kept : Progress → Type 0
  Kept (running s) = R s.input s.trace
  Kept (ended status input trace) = R input trace
  Kept stuck = Unit {0}

  used : {A : Type 0} (o : Option A) (go : A → Progress) → ((x : A) → Kept (go x)) → Kept (o >>= go)
  used None go each = tt
  used (Some x) go each = each x

  tested : (t : Bool) (x : Progress) → Kept x → Kept (if t then x else stuck)
  tested true x q = q
  tested false x q = tt

  either : (t : Bool) (x y : State) → R x.input x.trace → R y.input y.trace → Kept (running (if t then x else y))
  either true x y p q = p
  either false x y p q = q

  module _ (p : Program) (s : State) (q : Lasts R s.input s.trace) where
    same : (s2 : State) → s.input ≡ s2.input → s.trace ≡ s2.trace → R s2.input s2.trace
    same s2 ei et = subst (λ h. R s2.input h) et (subst (λ i. R i s.trace) ei q.now)

    sets : (d : Target) (v : Value) (s2 : State) → s.input ≡ s2.input → s.trace ≡ s2.trace → Kept (running (set d v s2))
    sets d v s2 ei et = same (set d v s2) (ei ∙ set_input d v s2) (et ∙ set_trace d v s2)

    returns : (result : Option Value) (ws : List Frame) → Kept (returned s result ws)
    returns result [] = used (word_in result) (λ v. ended (v % 2 ^ 8) s.input s.trace) (λ v. q.now)
    returns result (w ∷ ws) = q.now

    gets : (input : List ℕ) → s.input ≡ input → Kept (got s input)
    gets [] e = q.at_end e
    gets (c ∷ rest) e = q.at_byte c rest e

    acts : (x : Instruction) → Kept (act p s x)
    acts instruction.Nothing = q.now
    acts (instruction.Move d x) = used (value s x) (λ v. running (set d v (past s))) (λ v. sets d v (past s) refl refl)
    acts (instruction.Compute o d x y) =
        used (word_at s x) (λ a. word_at s y >>= λ c. gives_word d s (operate o a c)) (λ a.
        used (word_at s y) (λ c. gives_word d s (operate o a c)) (λ c. sets d (flat.word (operate o a c)) (next s) refl refl))
    acts (instruction.Convert c d x) = used (word_at s x) (λ a. gives_word d s (converted c a)) (λ a. sets d (flat.word (converted c a)) (next s) refl refl)
    acts (instruction.Load w d l) =
        used (place p s l) (loaded p s w d) (λ v.
        used (memory p s v.list) (λ m. if flat.fits w v.offset m then element_in w m.bytes v.offset >>= gives_word d s else stuck) (λ m.
        tested (flat.fits w v.offset m) (element_in w m.bytes v.offset >>= gives_word d s)
        (used (element_in w m.bytes v.offset) (gives_word d s) (λ k. sets d (flat.word k) (next s) refl refl))))
    acts (instruction.Store w x l) =
        used (word_at s x) (λ a. place p s l >>= stored p s w a) (λ a.
        used (place p s l) (stored p s w a) (λ v.
        used (memory p s v.list) (λ m. if flat.fits w v.offset m then running (with_memory p (next s) v.list (with_element w m.bytes v.offset a)) else stuck) (λ m.
        tested (flat.fits w v.offset m) (running (with_memory p (next s) v.list (with_element w m.bytes v.offset a)))
        (same (with_memory p (next s) v.list (with_element w m.bytes v.offset a)) (memory_input p s v.list (with_element w m.bytes v.offset a)) (memory_trace p s v.list (with_element w m.bytes v.offset a))))))
    acts (instruction.Address d l) = used (place p s l) (λ v. gives d s (flat.reference v.list v.offset)) (λ v. sets d (flat.reference v.list v.offset) (next s) refl refl)
    acts (instruction.Element d x y size) =
        used (reference_in (value s x)) (λ v. word_at s y >>= λ k. gives d s (flat.reference v.list (v.offset + k * size))) (λ v.
        used (word_at s y) (λ k. gives d s (flat.reference v.list (v.offset + k * size))) (λ k. sets d (flat.reference v.list (v.offset + k * size)) (next s) refl refl))
    acts (instruction.Jump to) = q.now
    acts (instruction.Branch t x y to) =
        used (word_at s x) (λ a. word_at s y >>= λ c. running (if compare_of t a c then goes_to s to else next s)) (λ a.
        used (word_at s y) (λ c. running (if compare_of t a c then goes_to s to else next s)) (λ c. either (compare_of t a c) (goes_to s to) (next s) q.now q.now))
    acts (instruction.Call f) = q.now
    acts instruction.PutByte = used (word_at s (operand.Temporary 0)) (put s) (λ v. q.at_put (v % 2 ^ 8))
    acts instruction.GetByte = gets s.input refl
    acts instruction.Exit = used (word_at s (operand.Temporary 0)) (λ v. ended (v % 2 ^ 8) s.input s.trace) (λ v. q.now)
    acts instruction.Return = returns (result_of p s) s.waiting

    pub step_keeps : Kept (step p s)
    step_keeps = subst Kept (sym (step_is p s)) (used (next_of p s) (act p s) acts)

  module _ (p : Program) (lasts : (input : List ℕ) (trace : List Event) → R input trace → Lasts R input trace) where
    goes : (x : Progress) (go : State → Progress) → ((s : State) → R s.input s.trace → Kept (go s)) → Kept x → Kept (goes_on x go)
    goes (running s) go each q = each s q
    goes (ended status input trace) go each q = q
    goes stuck go each q = tt

    pub run_keeps : (n : ℕ) (s : State) → R s.input s.trace → Kept (run p n s)
    run_keeps zero s q = q
    run_keeps (suc n) s q = goes (step p s) (run p n) (run_keeps n) (step_keeps p s (lasts s.input s.trace q))

-- ---- the whole input

-- the bytes read, and those left
abbrev pub whole : List Event → List ℕ → List ℕ
whole [] left = left
whole (Got c ∷ h) left = whole h (c ∷ left)
whole (GotEnd ∷ h) left = whole h left
whole (Put c ∷ h) left = whole h left

tail_same : (c : ℕ) (x y : List ℕ) → c ∷ x ≡ c ∷ y → x ≡ y
tail_same c x y e = cc

pub whole_once : (h : List Event) (x y : List ℕ) → whole h x ≡ whole h y → x ≡ y
whole_once [] x y e = e
whole_once (Got c ∷ h) x y e = tail_same c x y (whole_once h (c ∷ x) (c ∷ y) e)
whole_once (GotEnd ∷ h) x y e = whole_once h x y e
whole_once (Put c ∷ h) x y e = whole_once h x y e

abbrev pub Reads : List ℕ → List ℕ → List Event → Type 0
Reads all input trace = whole trace input ≡ all

reads_last : (all input : List ℕ) (trace : List Event) → Reads all input trace → Lasts (Reads all) input trace
reads_last all input trace q = record {
  now = q;
  at_put = λ c. q;
  at_end = λ e. q;
  at_byte = λ c rest e. subst (λ i. whole trace i ≡ all) e q;
}

pub flat_reads : (p : Program) (n : ℕ) (s : State) (all : List ℕ) → Reads all s.input s.trace → Kept (Reads all) (run p n s)
flat_reads p n s all q = run_keeps (Reads all) p (reads_last all) n s q

-- ---- the table's machine

module _ (all : List ℕ) where
  abbrev pub Has : machine.Progress → Type 0
  Has (machine.Running w) = Reads all w.input w.trace
  Has (machine.Ended s w) = Reads all w.input w.trace
  Has (machine.Trapped c w) = Reads all w.input w.trace

  if_has : (t : Bool) (p q : machine.Progress) → Has p → Has q → Has (if t then p else q)
  if_has true p q a b = a
  if_has false p q a b = b

  gets_has : (w : machine.World) (xs : List ℕ) (a : ℕ) → Reads all xs w.trace → Has (machine.gets w xs a)
  gets_has w [] a q = q
  gets_has w (x ∷ xs) a q = q

  call_has : (w : machine.World) → Reads all w.input w.trace → Has (machine.call_of w)
  call_has w q =
      let m = w.machine in
      let a = register m 11 in
      let reads = if m.space.can_write a then machine.gets w w.input a else machine.Trapped cause.StoreFault w in
      let writes = if m.space.can_read a then machine.puts w a else machine.Trapped cause.LoadFault w in
      let is_read = register m 17 == 63 && (register m 10 == 0 && register m 12 == 1) in
      let is_write = register m 17 == 64 && (register m 10 == 1 && register m 12 == 1) in
      if_has (register m 17 == 93) (machine.Ended (register m 10 % 2 ^ 8) w) (if is_read then reads else if is_write then writes else machine.Trapped cause.BadCall w) q
      (if_has is_read reads (if is_write then writes else machine.Trapped cause.BadCall w)
      (if_has (m.space.can_write a) (machine.gets w w.input a) (machine.Trapped cause.StoreFault w) (gets_has w w.input a q) q)
      (if_has is_write writes (machine.Trapped cause.BadCall w)
      (if_has (m.space.can_read a) (machine.puts w a) (machine.Trapped cause.LoadFault w) q q)
      q))

  result_has : (w : machine.World) (m : Machine) (r : StepResult) → Reads all w.input w.trace → Has (machine.result_of w m r)
  result_has w m Went q = q
  result_has w m Call q = call_has w q
  result_has w m (Trap c) q = q

  tick_has : (w : machine.World) → Reads all w.input w.trace → Has (machine.tick_of w)
  unfolding machine.tick_of
  tick_has w q = let s = step_of w.machine in result_has w s.machine s.result q

  on_has : (x : machine.Progress) (go : machine.World → machine.Progress) → ((w : machine.World) → Reads all w.input w.trace → Has (go w)) → Has x → Has (machine.goes_on x go)
  on_has (machine.Running w) go each q = each w q
  on_has (machine.Ended s w) go each q = q
  on_has (machine.Trapped c w) go each q = q

  pub machine_reads : (k : ℕ) (w : machine.World) → Reads all w.input w.trace → Has (machine.rvrun k w)
  machine_reads zero w q = q
  machine_reads (suc k) w q = on_has (machine.tick_of w) (machine.rvrun k) (machine_reads k) (tick_has w q)
