-- What a step may do that does not trap.
use Rattle.std.proofs.Common.{◌≡◌, ℕ, ◌+◌, ◌%◌, ◌^◌, ◌&&◌, Bool, true, false, Option, Some, None, refl, ap, ◌∙◌, subst}
use Rattle.std.specs.Prelude.{◌==◌, if◌then◌else◌}
use Rattle.rv32.specs.declared.instr.Instr.{Instr}
use Rattle.rv32.specs.declared.instr.Instr.TheVariants.{Load, Store, Ecall}
use Rattle.rv32.specs.declared.instr.LoadKind.{LoadKind}
use Rattle.rv32.specs.declared.instr.LoadKind.TheVariants as load_kind
use Rattle.rv32.specs.declared.instr.StoreKind.{StoreKind}
use Rattle.rv32.specs.declared.instr.StoreKind.TheVariants as store_kind
use Rattle.rv32.specs.declared.state.Cause.{Cause}
use Rattle.rv32.specs.declared.state.Cause.TheVariants as cause
use Rattle.rv32.specs.declared.state.StepResult.TheVariants.{Trap}
use Rattle.rv32.specs.Words.{decode_of}
use Rattle.rv32.specs.Space.{all_four, both, half_at, word_at, byte_put, half_put, word_put}
use Rattle.rv32.specs.Step.{Machine, Stepped, register, step_of, execute_of, decoded, fetched, trapped, extended, loaded, load_of, stored, store_of}
use Rattle.sim.specs.Runs.{World, Progress, Ended, Trapped, gets, puts, call_of, result_of, tick_of}
use Rattle.cc_laws.specs.Laws.{MayLoad, MayStore, instruction_at, IsInside}

-- the step does not trap
abbrev NoTrap : Stepped → Type 0
NoTrap s = (c : Cause) → s.result ≡ Trap c → ⊥

abbrev NeverTrapped : Progress → Type 0
NeverTrapped r = (c : Cause) (v : World) → r ≡ Trapped c v → ⊥

pub step_traps_not : (w : World) → NeverTrapped (tick_of w) → NoTrap (step_of w.machine)
unfolding tick_of
step_traps_not w h c e = h c w (ap (result_of w (step_of w.machine).machine) e)

-- ---- the word at the pc

abbrev stepped_by : Machine → (aligned allowed : Bool) → ℕ → Stepped
stepped_by m aligned allowed word = if aligned then fetched m (if allowed then Some word else None) else trapped m cause.Target

fetched_well : (m : Machine) (aligned allowed : Bool) (word : ℕ) → NoTrap (stepped_by m aligned allowed word) → (allowed ≡ true) × (stepped_by m aligned allowed word ≡ decoded m (decode_of word))
fetched_well m true true word h = (refl, refl)
fetched_well m true false word h = absurd (h cause.FetchFault refl)
fetched_well m false allowed word h = absurd (h cause.Target refl)

step_fetches : (m : Machine) → NoTrap (step_of m) → (all_four m.space.can_execute m.pc ≡ true) × (step_of m ≡ decoded m (decode_of (word_at m.space.byte m.pc)))
step_fetches m h = fetched_well m (m.pc % 4 == 0) (all_four m.space.can_execute m.pc) (word_at m.space.byte m.pc) h

does : (m : Machine) (i : Instr) → NoTrap (step_of m) → instruction_at m ≡ Some i → step_of m ≡ execute_of m i
does m i h e = (step_fetches m h).1 ∙ ap (decoded m) e

-- ---- a load

abbrev found_if : (allowed : Bool) → ℕ → Option ℕ
found_if allowed x = if allowed then Some x else None

loaded_well : (m : Machine) (rd x : ℕ) (allowed : Bool) → NoTrap (loaded m rd (found_if allowed x)) → allowed ≡ true
loaded_well m rd x true h = refl
loaded_well m rd x false h = absurd (h cause.LoadFault refl)

extended_well : (m : Machine) (rd k x : ℕ) (allowed : Bool) → NoTrap (loaded m rd (extended k (found_if allowed x))) → allowed ≡ true
extended_well m rd k x true h = refl
extended_well m rd k x false h = absurd (h cause.LoadFault refl)

is_aligned : (m : Machine) (aligned : Bool) (s : Stepped) → NoTrap (if aligned then s else trapped m cause.Misaligned) → NoTrap s
is_aligned m true s h = h
is_aligned m false s h = absurd (h cause.Misaligned refl)

may_load : (m : Machine) (kind : LoadKind) (rd a : ℕ) → NoTrap (load_of m kind rd a) → MayLoad m.space kind a
may_load m load_kind.Byte rd a h = extended_well m rd 7 (m.space.byte a) (m.space.can_read a) h
may_load m load_kind.ByteUnsigned rd a h = loaded_well m rd (m.space.byte a) (m.space.can_read a) h
may_load m load_kind.Half rd a h =
    let allowed = both m.space.can_read a in
    let x = half_at m.space.byte a in
    extended_well m rd 15 x allowed (is_aligned m (a % 2 == 0) (loaded m rd (extended 15 (found_if allowed x))) h)
may_load m load_kind.HalfUnsigned rd a h =
    let allowed = both m.space.can_read a in
    let x = half_at m.space.byte a in
    loaded_well m rd x allowed (is_aligned m (a % 2 == 0) (loaded m rd (found_if allowed x)) h)
may_load m load_kind.Word rd a h =
    let allowed = all_four m.space.can_read a in
    let x = word_at m.space.byte a in
    loaded_well m rd x allowed (is_aligned m (a % 4 == 0) (loaded m rd (found_if allowed x)) h)

-- ---- a store

stored_well : (m : Machine) (allowed : Bool) (g : ℕ → ℕ → ℕ) → NoTrap (stored m allowed g) → allowed ≡ true
unfolding stored
stored_well m true g h = refl
stored_well m false g h = absurd (h cause.StoreFault refl)

may_store : (m : Machine) (kind : StoreKind) (a v : ℕ) → NoTrap (store_of m kind a v) → MayStore m.space kind a
may_store m store_kind.Byte a v h = stored_well m (m.space.can_write a) (byte_put a (v % 2 ^ 8)) h
may_store m store_kind.Half a v h = stored_well m (both m.space.can_write a) (half_put a v) (is_aligned m (a % 2 == 0) (stored m (both m.space.can_write a) (half_put a v)) h)
may_store m store_kind.Word a v h = stored_well m (all_four m.space.can_write a) (word_put a v) (is_aligned m (a % 4 == 0) (stored m (all_four m.space.can_write a) (word_put a v)) h)

-- ---- an environment call

-- with 63 in a7
gets_well : (w : World) (n : ℕ) (others may more : Bool) (ends got put : Progress) → n ≡ 63
    → NeverTrapped (if n == 93 then ends else if n == 63 && others then (if may then got else Trapped cause.StoreFault w) else if n == 64 && more then put else Trapped cause.BadCall w)
    → may ≡ true
gets_well w n others true more ends got put e h = refl
gets_well w n true false more ends got put e h = absurd (h cause.StoreFault w (rw e refl))
gets_well w n false false more ends got put e h = absurd (h cause.BadCall w (rw e refl))

-- with 64
puts_well : (w : World) (n : ℕ) (others may more : Bool) (ends got put : Progress) → n ≡ 64
    → NeverTrapped (if n == 93 then ends else if n == 63 && more then got else if n == 64 && others then (if may then put else Trapped cause.LoadFault w) else Trapped cause.BadCall w)
    → may ≡ true
puts_well w n others true more ends got put e h = refl
puts_well w n true false more ends got put e h = absurd (h cause.LoadFault w (rw e refl))
puts_well w n false false more ends got put e h = absurd (h cause.BadCall w (rw e refl))

may_get : (w : World) → NeverTrapped (call_of w) → register w.machine 17 ≡ 63 → w.machine.space.can_write (register w.machine 11) ≡ true
may_get w h e =
    let m = w.machine in
    let a = register m 11 in
    gets_well w (register m 17) (register m 10 == 0 && register m 12 == 1) (m.space.can_write a) (register m 10 == 1 && register m 12 == 1)
    (Ended (register m 10 % 2 ^ 8) w) (gets w w.input a) (if m.space.can_read a then puts w a else Trapped cause.LoadFault w) e h

may_put : (w : World) → NeverTrapped (call_of w) → register w.machine 17 ≡ 64 → w.machine.space.can_read (register w.machine 11) ≡ true
may_put w h e =
    let m = w.machine in
    let a = register m 11 in
    puts_well w (register m 17) (register m 10 == 1 && register m 12 == 1) (m.space.can_read a) (register m 10 == 0 && register m 12 == 1)
    (Ended (register m 10 % 2 ^ 8) w) (if m.space.can_write a then gets w w.input a else Trapped cause.StoreFault w) (puts w a) e h

call_ticks : (w : World) → step_of w.machine ≡ execute_of w.machine Ecall → tick_of w ≡ call_of w
unfolding tick_of
call_ticks w e = ap (λ (s : Stepped). result_of w s.machine s.result) e

-- ---- all together

pub inside_now : (w : World) → NeverTrapped (tick_of w) → IsInside w.machine.space w.machine
inside_now w h =
    let m = w.machine in
    let fine = step_traps_not w h in
    let called = λ (e : instruction_at m ≡ Some Ecall). subst NeverTrapped (call_ticks w (does m Ecall fine e)) h in
    record {
      fetches = (step_fetches m fine).0;
      loads = λ kind rd base v e. may_load m kind rd ((register m base + v) % 2 ^ 32) (subst NoTrap (does m (Load kind rd base v) fine e) fine);
      stores = λ kind source base v e.
          may_store m kind ((register m base + v) % 2 ^ 32) (register m source) (subst NoTrap (does m (Store kind source base v) fine e) fine);
      gets = λ e which. may_get w (called e) which;
      puts = λ e which. may_put w (called e) which;
    }
