-- A run keeps the permissions with which it began.
use Rattle.std.proofs.Common.{◌≡◌, ℕ, zero, suc, ◌%◌, ◌^◌, ◌&&◌, List, [], ◌∷◌, Bool, true, false, Option, Some, None, refl, ap, ◌+◌, ◌∙◌, arith, eqb}
use Rattle.std.specs.Prelude.{◌==◌, if◌then◌else◌}
use Rattle.std.proofs.lemmas.Bool.Decides.{nat_tests}
use Rattle.cc_backend.proofs.Plain.{bool_cases, and_left, and_right}
use Rattle.rv32.specs.declared.instr.Instr.{Instr}
use Rattle.rv32.specs.declared.instr.Instr.TheVariants.{Lui, Auipc, Jal, Jalr, Branch, Load, Store, Immediate, Shift, Op, Fence, Ecall, Ebreak}
use Rattle.rv32.specs.declared.instr.LoadKind.{LoadKind}
use Rattle.rv32.specs.declared.instr.LoadKind.TheVariants as load_kind
use Rattle.rv32.specs.declared.instr.StoreKind.{StoreKind}
use Rattle.rv32.specs.declared.instr.StoreKind.TheVariants as store_kind
use Rattle.rv32.specs.declared.state.Cause.TheVariants as cause
use Rattle.rv32.specs.declared.state.StepResult.{StepResult}
use Rattle.rv32.specs.declared.state.StepResult.TheVariants.{Went, Call, Trap}
use Rattle.rv32.specs.Words.{decode_of}
use Rattle.rv32.specs.Space.{Space, fetch_of, with_bytes, both, all_four, byte_put, half_put, word_put}
use Rattle.rv32.specs.Step.{Machine, Stepped, register, step_of, execute_of, decoded, fetched, gives, jumps, links, loaded, load_of, stored, store_of}
use Rattle.sim.specs.Runs.{World, Progress, Running, Ended, Trapped, answered, with_space, gets, puts, call_of, result_of, tick_of, goes_on, rvrun}

-- a byte that is not writable is not one that was written
byte_kept : (w : ℕ → Bool) (a k v x : ℕ) → w a ≡ true → w k ≡ false → byte_put a v k x ≡ x
byte_kept w a k v x p q =
    bool_cases (eqb k a)
    (λ e. let same : k ≡ a = grind (arith, nat_tests) in let t : w k ≡ w a = ap w same in cc)
    (λ e. rw e refl)

half_kept : (w : ℕ → Bool) (a k v x : ℕ) → both w a ≡ true → w k ≡ false → half_put a v k x ≡ x
half_kept w a k v x p q = byte_kept w a k _ _ (and_left _ _ p) q ∙ byte_kept w (a + 1) k _ _ (and_right _ _ p) q

word_kept : (w : ℕ → Bool) (a k v x : ℕ) → all_four w a ≡ true → w k ≡ false → word_put a v k x ≡ x
word_kept w a k v x p q =
    let p3 = and_right _ _ p in
    let r = and_left _ _ p in
    let p2 = and_right _ _ r in
    let r2 = and_left _ _ r in
    let p1 = and_right _ _ r2 in
    let p0 = and_left _ _ r2 in
    byte_kept w a k _ _ p0 q ∙ (byte_kept w (a + 1) k _ _ p1 q ∙ (byte_kept w (a + 2) k _ _ p2 q ∙ byte_kept w (a + 3) k _ _ p3 q))

-- t has the permissions of s, and the same bytes where they are not writable
pub record Permits (s t : Space) : Type 0 where
  pub can_read : (a : ℕ) → t.can_read a ≡ s.can_read a
  pub can_write : (a : ℕ) → t.can_write a ≡ s.can_write a
  pub can_execute : (a : ℕ) → t.can_execute a ≡ s.can_execute a
  pub bytes : (a : ℕ) → s.can_write a ≡ false → t.byte a ≡ s.byte a

same : (s : Space) → Permits s s
same s = record { can_read = λ a. refl; can_write = λ a. refl; can_execute = λ a. refl; bytes = λ a e. refl }

bytes_alone : (s : Space) (g : ℕ → ℕ → ℕ) → ((a : ℕ) → s.can_write a ≡ false → g a (s.byte a) ≡ s.byte a) → Permits s (with_bytes s g)
bytes_alone s g h = record { can_read = λ a. refl; can_write = λ a. refl; can_execute = λ a. refl; bytes = h }

further : (s t u : Space) → Permits s t → Permits t u → Permits s u
further s t u h g = record {
  can_read = λ a. g.can_read a ∙ h.can_read a;
  can_write = λ a. g.can_write a ∙ h.can_write a;
  can_execute = λ a. g.can_execute a ∙ h.can_execute a;
  bytes = λ a e. g.bytes a (h.can_write a ∙ e) ∙ h.bytes a e;
}

-- ---- a step

abbrev Kept : Machine → Stepped → Type 0
Kept m s = Permits m.space s.machine.space

if_kept : (m : Machine) (t : Bool) (s u : Stepped) → Kept m s → Kept m u → Kept m (if t then s else u)
if_kept m true s u h g = h
if_kept m false s u h g = g

gives_kept : (m : Machine) (rd v : ℕ) → Kept m (gives m rd v)
unfolding gives
gives_kept m rd v = same m.space

jumps_kept : (m : Machine) (a : ℕ) → Kept m (jumps m a)
unfolding jumps
jumps_kept m a = if_kept m (a % 4 == 0) _ _ (same m.space) (same m.space)

links_kept : (m : Machine) (rd a : ℕ) → Kept m (links m rd a)
unfolding links
links_kept m rd a = if_kept m (a % 4 == 0) _ _ (same m.space) (same m.space)

stored_kept : (m : Machine) (allowed : Bool) (g : ℕ → ℕ → ℕ) → (allowed ≡ true → (a : ℕ) → m.space.can_write a ≡ false → g a (m.space.byte a) ≡ m.space.byte a) → Kept m (stored m allowed g)
unfolding stored
stored_kept m true g h = bytes_alone m.space g (h refl)
stored_kept m false g h = same m.space

loaded_kept : (m : Machine) (rd : ℕ) (v : Option ℕ) → Kept m (loaded m rd v)
loaded_kept m rd None = same m.space
loaded_kept m rd (Some v) = gives_kept m rd v

load_kept : (m : Machine) (kind : LoadKind) (rd a : ℕ) → Kept m (load_of m kind rd a)
load_kept m load_kind.Byte rd a = loaded_kept m rd _
load_kept m load_kind.ByteUnsigned rd a = loaded_kept m rd _
load_kept m load_kind.Half rd a = if_kept m (a % 2 == 0) _ _ (loaded_kept m rd _) (same m.space)
load_kept m load_kind.HalfUnsigned rd a = if_kept m (a % 2 == 0) _ _ (loaded_kept m rd _) (same m.space)
load_kept m load_kind.Word rd a = if_kept m (a % 4 == 0) _ _ (loaded_kept m rd _) (same m.space)

store_kept : (m : Machine) (kind : StoreKind) (a v : ℕ) → Kept m (store_of m kind a v)
store_kept m store_kind.Byte a v = stored_kept m (m.space.can_write a) (byte_put a (v % 2 ^ 8)) (λ e k q. byte_kept m.space.can_write a k (v % 2 ^ 8) _ e q)
store_kept m store_kind.Half a v = if_kept m (a % 2 == 0) _ _ (stored_kept m (both m.space.can_write a) (half_put a v) (λ e k q. half_kept m.space.can_write a k v _ e q)) (same m.space)
store_kept m store_kind.Word a v = if_kept m (a % 4 == 0) _ _ (stored_kept m (all_four m.space.can_write a) (word_put a v) (λ e k q. word_kept m.space.can_write a k v _ e q)) (same m.space)

execute_kept : (m : Machine) (i : Instr) → Kept m (execute_of m i)
execute_kept m (Lui rd v) = gives_kept m rd _
execute_kept m (Auipc rd v) = gives_kept m rd _
execute_kept m (Jal rd v) = links_kept m rd _
execute_kept m (Jalr rd base v) = links_kept m rd _
execute_kept m (Branch t l r v) = jumps_kept m _
execute_kept m (Load kind rd base v) = load_kept m kind rd _
execute_kept m (Store kind source base v) = store_kept m kind _ _
execute_kept m (Immediate o rd l v) = gives_kept m rd _
execute_kept m (Shift o rd l k) = gives_kept m rd _
execute_kept m (Op o rd l r) = gives_kept m rd _
execute_kept m (Fence rd s v) = same m.space
execute_kept m Ecall = same m.space
execute_kept m Ebreak = same m.space

decoded_kept : (m : Machine) (i : Option Instr) → Kept m (decoded m i)
decoded_kept m None = same m.space
decoded_kept m (Some i) = execute_kept m i

fetched_kept : (m : Machine) (word : Option ℕ) → Kept m (fetched m word)
fetched_kept m None = same m.space
fetched_kept m (Some word) = decoded_kept m (decode_of word)

step_kept : (m : Machine) → Kept m (step_of m)
step_kept m = if_kept m (m.pc % 4 == 0) _ _ (fetched_kept m (fetch_of m.space m.pc)) (same m.space)

-- ---- an environment call

abbrev pub world_of : Progress → World
world_of (Running w) = w
world_of (Ended s w) = w
world_of (Trapped c w) = w

abbrev pub PermitsIn : Space → Progress → Type 0
PermitsIn s r = Permits s (world_of r).machine.space

if_permits : (s : Space) (t : Bool) (q r : Progress) → PermitsIn s q → PermitsIn s r → PermitsIn s (if t then q else r)
if_permits s true q r a b = a
if_permits s false q r a b = b

if_may : (s : Space) (t : Bool) (q r : Progress) → (t ≡ true → PermitsIn s q) → PermitsIn s r → PermitsIn s (if t then q else r)
if_may s true q r a b = a refl
if_may s false q r a b = b

answered_permits : (m : Machine) (n : ℕ) → Permits m.space (answered m n).space
unfolding answered
answered_permits m n = same m.space

gets_permits : (w : World) (xs : List ℕ) (a : ℕ) → w.machine.space.can_write a ≡ true → PermitsIn w.machine.space (gets w xs a)
gets_permits w [] a may = answered_permits w.machine 0
gets_permits w (x ∷ xs) a may =
    let m = with_space w.machine (with_bytes w.machine.space (byte_put a x)) in
    further w.machine.space m.space (answered m 1).space (bytes_alone w.machine.space (byte_put a x) (λ k q. byte_kept w.machine.space.can_write a k x _ may q)) (answered_permits m 1)

call_permits : (w : World) → PermitsIn w.machine.space (call_of w)
call_permits w =
    let m = w.machine in
    let s = m.space in
    let a = register m 11 in
    let stays : Permits s s = same s in
    let reads = if s.can_write a then gets w w.input a else Trapped cause.StoreFault w in
    let writes = if s.can_read a then puts w a else Trapped cause.LoadFault w in
    let is_read = register m 17 == 63 && (register m 10 == 0 && register m 12 == 1) in
    let is_write = register m 17 == 64 && (register m 10 == 1 && register m 12 == 1) in
    let last = if is_write then writes else Trapped cause.BadCall w in
    if_permits s (register m 17 == 93) (Ended (register m 10 % 2 ^ 8) w) (if is_read then reads else last) stays
    (if_permits s is_read reads last
    (if_may s (s.can_write a) (gets w w.input a) (Trapped cause.StoreFault w) (gets_permits w w.input a) stays)
    (if_permits s is_write writes (Trapped cause.BadCall w) (if_permits s (s.can_read a) (puts w a) (Trapped cause.LoadFault w) (answered_permits m 1) stays) stays))

-- ---- a run

result_permits : (w : World) (m : Machine) (r : StepResult) → Permits w.machine.space m.space → PermitsIn w.machine.space (result_of w m r)
result_permits w m Went k = k
result_permits w m Call k = call_permits w
result_permits w m (Trap c) k = same w.machine.space

pub tick_permits : (w : World) → PermitsIn w.machine.space (tick_of w)
unfolding tick_of
tick_permits w = let s = step_of w.machine in result_permits w s.machine s.result (step_kept w.machine)

on_permits : (s : Space) (r : Progress) (go : World → Progress) → PermitsIn s r → ((w : World) → PermitsIn w.machine.space (go w)) → PermitsIn s (goes_on r go)
on_permits s (Running w) go k each = further s w.machine.space (world_of (go w)).machine.space k (each w)
on_permits s (Ended status w) go k each = k
on_permits s (Trapped c w) go k each = k

pub run_permits : (k : ℕ) (w : World) → PermitsIn w.machine.space (rvrun k w)
run_permits zero w = same w.machine.space
run_permits (suc k) w = on_permits w.machine.space (tick_of w) (rvrun k) (tick_permits w) (λ v. run_permits k v)
