-- A run that does not trap takes the same steps with more permissions.
use Rattle.std.proofs.Common.{◌≡◌, ℕ, zero, suc, ◌+◌, ◌%◌, ◌^◌, ◌&&◌, List, [], ◌∷◌, Bool, true, false, Option, Some, None, refl, sym, ap, ◌∙◌}
use Rattle.std.specs.Prelude.{◌==◌, if◌then◌else◌}
use Rattle.rv32.specs.declared.instr.Instr.{Instr}
use Rattle.rv32.specs.declared.instr.Instr.TheVariants.{Lui, Auipc, Jal, Jalr, Branch, Load, Store, Immediate, Shift, Op, Fence, Ecall, Ebreak}
use Rattle.rv32.specs.declared.instr.LoadKind.{LoadKind}
use Rattle.rv32.specs.declared.instr.LoadKind.TheVariants as load_kind
use Rattle.rv32.specs.declared.instr.StoreKind.{StoreKind}
use Rattle.rv32.specs.declared.instr.StoreKind.TheVariants as store_kind
use Rattle.rv32.specs.declared.state.Cause.{Cause}
use Rattle.rv32.specs.declared.state.Cause.TheVariants as cause
use Rattle.rv32.specs.declared.state.StepResult.{StepResult}
use Rattle.rv32.specs.declared.state.StepResult.TheVariants.{Went, Call, Trap}
use Rattle.rv32.specs.Words.{decode_of}
use Rattle.rv32.specs.Space.{Space, all_four, both, half_at, word_at, byte_put, half_put, word_put}
use Rattle.rv32.specs.Step.{Machine, Stepped, register, step_of, execute_of, decoded, fetched, trapped, gives, jumps, links, extended, loaded, load_of, stored, store_of}
use Rattle.sim.specs.Runs.{World, Progress, Running, Ended, Trapped, answered, gets, puts, call_of, result_of, tick_of, goes_on, rvrun}
use Rattle.cc_laws.specs.Laws.{MayLoad, MayStore, IsInside}
use Rattle.cc_laws.proofs.Permissions.{Permits, world_of, tick_permits}

-- the same machine, with at least the permissions of another space
abbrev pub loose : Space → Machine → Machine
loose t m = record {
  registers = m.registers;
  pc = m.pc;
  space = record { byte = m.space.byte; can_read = t.can_read; can_write = t.can_write; can_execute = t.can_execute };
}

abbrev pub loose_world : Space → World → World
loose_world t w = record { machine = loose t w.machine; input = w.input; trace = w.trace }

-- what s permits, t permits
pub record Allows (s t : Space) : Type 0 where
  pub reads : (a : ℕ) → s.can_read a ≡ true → t.can_read a ≡ true
  pub writes : (a : ℕ) → s.can_write a ≡ true → t.can_write a ≡ true
  pub executes : (a : ℕ) → s.can_execute a ≡ true → t.can_execute a ≡ true

-- ---- tests

two : (x y z w : Bool) → (x ≡ true → z ≡ true) → (y ≡ true → w ≡ true) → (x && y) ≡ true → (z && w) ≡ true
two true true z w p q h = rw (p refl, q refl) refl
two true false z w p q h = cc
two false y z w p q h = cc

four : (x y z w x2 y2 z2 w2 : Bool) → (x ≡ true → x2 ≡ true) → (y ≡ true → y2 ≡ true) → (z ≡ true → z2 ≡ true) → (w ≡ true → w2 ≡ true)
    → (x && y && z && w) ≡ true → (x2 && y2 && z2 && w2) ≡ true
four true true true true x2 y2 z2 w2 a b c d h = rw (a refl, b refl, c refl, d refl) refl
four true true true false x2 y2 z2 w2 a b c d h = cc
four true true false w x2 y2 z2 w2 a b c d h = cc
four true false z w x2 y2 z2 w2 a b c d h = cc
four false y z w x2 y2 z2 w2 a b c d h = cc

both_more : (f g : ℕ → Bool) → ((a : ℕ) → f a ≡ true → g a ≡ true) → (a : ℕ) → both f a ≡ true → both g a ≡ true
both_more f g each a h = two (f a) (f (a + 1)) (g a) (g (a + 1)) (each a) (each (a + 1)) h

four_more : (f g : ℕ → Bool) → ((a : ℕ) → f a ≡ true → g a ≡ true) → (a : ℕ) → all_four f a ≡ true → all_four g a ≡ true
four_more f g each a h =
    four (f a) (f (a + 1)) (f (a + 2)) (f (a + 3)) (g a) (g (a + 1)) (g (a + 2)) (g (a + 3)) (each a) (each (a + 1)) (each (a + 2)) (each (a + 3)) h

-- ---- a step

abbrev pub loosened : Space → Stepped → Stepped
loosened t s = record { machine = loose t s.machine; result = s.result }

abbrev pub NoTrap : Stepped → Type 0
NoTrap s = (c : Cause) → s.result ≡ Trap c → ⊥

abbrev pub found_if : (allowed : Bool) → ℕ → Option ℕ
found_if allowed x = if allowed then Some x else None

gives_loose : (t : Space) (m : Machine) (rd v : ℕ) → gives (loose t m) rd v ≡ loosened t (gives m rd v)
unfolding gives
gives_loose t m rd v = refl

if_loose : (t : Space) (b : Bool) (s u s2 u2 : Stepped) → s2 ≡ loosened t s → u2 ≡ loosened t u → (if b then s2 else u2) ≡ loosened t (if b then s else u)
if_loose t true s u s2 u2 h g = h
if_loose t false s u s2 u2 h g = g

jumps_loose : (t : Space) (m : Machine) (a : ℕ) → jumps (loose t m) a ≡ loosened t (jumps m a)
unfolding jumps
jumps_loose t m a = if_loose t (a % 4 == 0) _ _ _ _ refl refl

links_loose : (t : Space) (m : Machine) (rd a : ℕ) → links (loose t m) rd a ≡ loosened t (links m rd a)
unfolding links
links_loose t m rd a = if_loose t (a % 4 == 0) _ _ _ _ refl refl

aligned_loose : (t : Space) (m : Machine) (c : Cause) (b : Bool) (s s2 : Stepped) → (NoTrap s → s2 ≡ loosened t s) → NoTrap (if b then s else trapped m c)
    → (if b then s2 else trapped (loose t m) c) ≡ loosened t (if b then s else trapped m c)
aligned_loose t m c true s s2 each h = each h
aligned_loose t m c false s s2 each h = refl

loaded_loose : (t : Space) (m : Machine) (rd x : ℕ) (a b : Bool) → (a ≡ true → b ≡ true) → NoTrap (loaded m rd (found_if a x))
    → loaded (loose t m) rd (found_if b x) ≡ loosened t (loaded m rd (found_if a x))
loaded_loose t m rd x true b more h = let e = more refl in rw e (gives_loose t m rd x)
loaded_loose t m rd x false b more h = absurd (h cause.LoadFault refl)

extended_loose : (t : Space) (m : Machine) (rd k x : ℕ) (a b : Bool) → (a ≡ true → b ≡ true) → NoTrap (loaded m rd (extended k (found_if a x)))
    → loaded (loose t m) rd (extended k (found_if b x)) ≡ loosened t (loaded m rd (extended k (found_if a x)))
extended_loose t m rd k x true b more h = let e = more refl in rw e (gives_loose t m rd _)
extended_loose t m rd k x false b more h = absurd (h cause.LoadFault refl)

stored_loose : (t : Space) (m : Machine) (a b : Bool) (g : ℕ → ℕ → ℕ) → (a ≡ true → b ≡ true) → NoTrap (stored m a g) → stored (loose t m) b g ≡ loosened t (stored m a g)
unfolding stored
stored_loose t m true b g more h = let e = more refl in rw e refl
stored_loose t m false b g more h = absurd (h cause.StoreFault refl)

module _ (t : Space) (m : Machine) (al : Allows m.space t) where
  load_loose : (kind : LoadKind) (rd a : ℕ) → NoTrap (load_of m kind rd a) → load_of (loose t m) kind rd a ≡ loosened t (load_of m kind rd a)
  load_loose load_kind.Byte rd a h = extended_loose t m rd 7 (m.space.byte a) (m.space.can_read a) (t.can_read a) (al.reads a) h
  load_loose load_kind.ByteUnsigned rd a h = loaded_loose t m rd (m.space.byte a) (m.space.can_read a) (t.can_read a) (al.reads a) h
  load_loose load_kind.Half rd a h = aligned_loose t m cause.Misaligned (a % 2 == 0) _ _
      (extended_loose t m rd 15 (half_at m.space.byte a) (both m.space.can_read a) (both t.can_read a) (both_more m.space.can_read t.can_read al.reads a)) h
  load_loose load_kind.HalfUnsigned rd a h = aligned_loose t m cause.Misaligned (a % 2 == 0) _ _
      (loaded_loose t m rd (half_at m.space.byte a) (both m.space.can_read a) (both t.can_read a) (both_more m.space.can_read t.can_read al.reads a)) h
  load_loose load_kind.Word rd a h = aligned_loose t m cause.Misaligned (a % 4 == 0) _ _
      (loaded_loose t m rd (word_at m.space.byte a) (all_four m.space.can_read a) (all_four t.can_read a) (four_more m.space.can_read t.can_read al.reads a)) h

  store_loose : (kind : StoreKind) (a v : ℕ) → NoTrap (store_of m kind a v) → store_of (loose t m) kind a v ≡ loosened t (store_of m kind a v)
  store_loose store_kind.Byte a v h = stored_loose t m (m.space.can_write a) (t.can_write a) (byte_put a (v % 2 ^ 8)) (al.writes a) h
  store_loose store_kind.Half a v h = aligned_loose t m cause.Misaligned (a % 2 == 0) _ _
      (stored_loose t m (both m.space.can_write a) (both t.can_write a) (half_put a v) (both_more m.space.can_write t.can_write al.writes a)) h
  store_loose store_kind.Word a v h = aligned_loose t m cause.Misaligned (a % 4 == 0) _ _
      (stored_loose t m (all_four m.space.can_write a) (all_four t.can_write a) (word_put a v) (four_more m.space.can_write t.can_write al.writes a)) h

  execute_loose : (i : Instr) → NoTrap (execute_of m i) → execute_of (loose t m) i ≡ loosened t (execute_of m i)
  execute_loose (Lui rd v) h = gives_loose t m rd _
  execute_loose (Auipc rd v) h = gives_loose t m rd _
  execute_loose (Jal rd v) h = links_loose t m rd _
  execute_loose (Jalr rd base v) h = links_loose t m rd _
  execute_loose (Branch b l r v) h = jumps_loose t m _
  execute_loose (Load kind rd base v) h = load_loose kind rd _ h
  execute_loose (Store kind source base v) h = store_loose kind _ _ h
  execute_loose (Immediate o rd l v) h = gives_loose t m rd _
  execute_loose (Shift o rd l k) h = gives_loose t m rd _
  execute_loose (Op o rd l r) h = gives_loose t m rd _
  execute_loose (Fence rd s v) h = refl
  execute_loose Ecall h = refl
  execute_loose Ebreak h = refl

  decoded_loose : (i : Option Instr) → NoTrap (decoded m i) → decoded (loose t m) i ≡ loosened t (decoded m i)
  decoded_loose None h = refl
  decoded_loose (Some i) h = execute_loose i h

  fetched_loose : (x : ℕ) (a b : Bool) → (a ≡ true → b ≡ true) → NoTrap (fetched m (found_if a x)) → fetched (loose t m) (found_if b x) ≡ loosened t (fetched m (found_if a x))
  fetched_loose x true b more h = let e = more refl in rw e (decoded_loose (decode_of x) h)
  fetched_loose x false b more h = absurd (h cause.FetchFault refl)

  pub step_loose : NoTrap (step_of m) → step_of (loose t m) ≡ loosened t (step_of m)
  step_loose h = aligned_loose t m cause.Target (m.pc % 4 == 0) _ _
      (fetched_loose (word_at m.space.byte m.pc) (all_four m.space.can_execute m.pc) (all_four t.can_execute m.pc) (four_more m.space.can_execute t.can_execute al.executes m.pc)) h

-- ---- an environment call

abbrev pub loose_progress : Space → Progress → Progress
loose_progress t (Running w) = Running (loose_world t w)
loose_progress t (Ended status w) = Ended status (loose_world t w)
loose_progress t (Trapped c w) = Trapped c (loose_world t w)

abbrev pub NeverTrapped : Progress → Type 0
NeverTrapped r = (c : Cause) (v : World) → r ≡ Trapped c v → ⊥

if_goes : (t : Space) (b : Bool) (p q p2 q2 : Progress) → (NeverTrapped p → p2 ≡ loose_progress t p) → (NeverTrapped q → q2 ≡ loose_progress t q) → NeverTrapped (if b then p else q)
    → (if b then p2 else q2) ≡ loose_progress t (if b then p else q)
if_goes t true p q p2 q2 h g k = h k
if_goes t false p q p2 q2 h g k = g k

may_go : (t : Space) (w : World) (c : Cause) (a b : Bool) (p p2 : Progress) → (a ≡ true → b ≡ true) → p2 ≡ loose_progress t p → NeverTrapped (if a then p else Trapped c w)
    → (if b then p2 else Trapped c (loose_world t w)) ≡ loose_progress t (if a then p else Trapped c w)
may_go t w c true b p p2 more same h = let e = more refl in rw e same
may_go t w c false b p p2 more same h = absurd (h c w refl)

gets_loose : (t : Space) (w : World) (xs : List ℕ) (a : ℕ) → gets (loose_world t w) xs a ≡ loose_progress t (gets w xs a)
unfolding answered
gets_loose t w [] a = refl
gets_loose t w (x ∷ xs) a = refl

puts_loose : (t : Space) (w : World) (a : ℕ) → puts (loose_world t w) a ≡ loose_progress t (puts w a)
unfolding answered
puts_loose t w a = refl

call_loose : (t : Space) (w : World) → Allows w.machine.space t → NeverTrapped (call_of w) → call_of (loose_world t w) ≡ loose_progress t (call_of w)
call_loose t w al h =
    let m = w.machine in
    let a = register m 11 in
    let is_read = register m 17 == 63 && (register m 10 == 0 && register m 12 == 1) in
    let is_write = register m 17 == 64 && (register m 10 == 1 && register m 12 == 1) in
    if_goes t (register m 17 == 93) _ _ _ _ (λ k. refl)
    (if_goes t is_read _ _ _ _ (may_go t w cause.StoreFault (m.space.can_write a) (t.can_write a) _ _ (al.writes a) (gets_loose t w w.input a))
    (if_goes t is_write _ _ _ _ (may_go t w cause.LoadFault (m.space.can_read a) (t.can_read a) _ _ (al.reads a) (puts_loose t w a)) (λ k. refl))) h

-- ---- a run

result_loose : (t : Space) (w : World) (m : Machine) (r : StepResult) → Allows w.machine.space t → NeverTrapped (result_of w m r)
    → result_of (loose_world t w) (loose t m) r ≡ loose_progress t (result_of w m r)
result_loose t w m Went al h = refl
result_loose t w m Call al h = call_loose t w al h
result_loose t w m (Trap c) al h = refl

pub tick_loose : (t : Space) (w : World) → Allows w.machine.space t → NeverTrapped (tick_of w) → tick_of (loose_world t w) ≡ loose_progress t (tick_of w)
unfolding tick_of
tick_loose t w al h =
    let s = step_of w.machine in
    let fine : NoTrap s = λ c e. h c w (ap (result_of w s.machine) e) in
    ap (λ (x : Stepped). result_of (loose_world t w) x.machine x.result) (step_loose t w.machine al fine) ∙ result_loose t w s.machine s.result al h

pub permits_further : (s u t : Space) → Permits s u → Allows s t → Allows u t
permits_further s u t k al = record {
  reads = λ a e. al.reads a (sym (k.can_read a) ∙ e);
  writes = λ a e. al.writes a (sym (k.can_write a) ∙ e);
  executes = λ a e. al.executes a (sym (k.can_execute a) ∙ e);
}

on_tick : (t : Space) (k : ℕ) (q : Progress) (v : World) → Allows (world_of q).machine.space t
    → ((x : World) → Allows x.machine.space t → rvrun k x ≡ Running v → rvrun k (loose_world t x) ≡ Running (loose_world t v))
    → goes_on q (rvrun k) ≡ Running v → (goes_on (loose_progress t q) (rvrun k) ≡ Running (loose_world t v)) × NeverTrapped q
on_tick t k (Running x) v al each e = (each x al e, λ c u f. cc)
on_tick t k (Ended status x) v al each e = (cc, λ c u f. cc)
on_tick t k (Trapped c x) v al each e = (cc, λ c u f. cc)

pub runs_loosely : (t : Space) (k : ℕ) (w v : World) → Allows w.machine.space t → rvrun k w ≡ Running v → rvrun k (loose_world t w) ≡ Running (loose_world t v)
runs_loosely t zero w v al e = ap (loose_progress t) e
runs_loosely t (suc k) w v al e =
    let further = permits_further w.machine.space (world_of (tick_of w)).machine.space t (tick_permits w) al in
    let on = on_tick t k (tick_of w) v further (λ x more f. runs_loosely t k x v more f) e in
    ap (λ p. goes_on p (rvrun k)) (tick_loose t w al on.1) ∙ on.0

-- ---- a run that ends

after_tick : (t : Space) (k : ℕ) (q : Progress) → Allows (world_of q).machine.space t
    → ((x : World) → Allows x.machine.space t → NeverTrapped (rvrun k x) → rvrun k (loose_world t x) ≡ loose_progress t (rvrun k x))
    → NeverTrapped (goes_on q (rvrun k)) → (goes_on (loose_progress t q) (rvrun k) ≡ loose_progress t (goes_on q (rvrun k))) × NeverTrapped q
after_tick t k (Running x) al each n = (each x al n, λ c u f. cc)
after_tick t k (Ended status x) al each n = (refl, λ c u f. cc)
after_tick t k (Trapped c x) al each n = absurd (n c x refl)

pub runs_as_loosely : (t : Space) (k : ℕ) (w : World) → Allows w.machine.space t → NeverTrapped (rvrun k w) → rvrun k (loose_world t w) ≡ loose_progress t (rvrun k w)
runs_as_loosely t zero w al n = refl
runs_as_loosely t (suc k) w al n =
    let further = permits_further w.machine.space (world_of (tick_of w)).machine.space t (tick_permits w) al in
    let on = after_tick t k (tick_of w) further (λ x more m. runs_as_loosely t k x more m) n in
    ap (λ p. goes_on p (rvrun k)) (tick_loose t w al on.1) ∙ on.0

-- ---- what a step may do with more permissions

load_more : (s t : Space) (kind : LoadKind) (a : ℕ) → Allows s t → MayLoad s kind a → MayLoad t kind a
load_more s t load_kind.Byte a al h = al.reads a h
load_more s t load_kind.ByteUnsigned a al h = al.reads a h
load_more s t load_kind.Half a al h = both_more s.can_read t.can_read al.reads a h
load_more s t load_kind.HalfUnsigned a al h = both_more s.can_read t.can_read al.reads a h
load_more s t load_kind.Word a al h = four_more s.can_read t.can_read al.reads a h

store_more : (s t : Space) (kind : StoreKind) (a : ℕ) → Allows s t → MayStore s kind a → MayStore t kind a
store_more s t store_kind.Byte a al h = al.writes a h
store_more s t store_kind.Half a al h = both_more s.can_write t.can_write al.writes a h
store_more s t store_kind.Word a al h = four_more s.can_write t.can_write al.writes a h

pub inside_more : (s t : Space) (m : Machine) → Allows s t → IsInside s m → IsInside t m
inside_more s t m al h = record {
  fetches = four_more s.can_execute t.can_execute al.executes m.pc h.fetches;
  loads = λ kind rd base v e. load_more s t kind ((register m base + v) % 2 ^ 32) al (h.loads kind rd base v e);
  stores = λ kind source base v e. store_more s t kind ((register m base + v) % 2 ^ 32) al (h.stores kind source base v e);
  gets = λ e which. al.writes (register m 11) (h.gets e which);
  puts = λ e which. al.reads (register m 11) (h.puts e which);
}
