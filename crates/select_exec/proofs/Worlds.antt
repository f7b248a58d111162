-- The table's machine simulates the light machine.
use Rattle.std.proofs.Common.{◌≡◌, ℕ, zero, suc, ◌+◌, ◌*◌, ◌/◌, ◌%◌, ◌^◌, ◌<◌, List, [], ◌∷◌, length, Option, Some, None, Bool, true, false, ◌&&◌, refl, sym, ap, ◌∙◌, subst, arith, eqb}
use Rattle.std.specs.Prelude.{◌==◌, if◌then◌else◌, slice_index, slice_set}
use Rattle.std.proofs.lemmas.Bool.Decides.{nat_tests}
use Rattle.std.proofs.lemmas.List.{get_or-set_same, get_or-set_other, length-set}
use Rattle.csem_events.specs.Events.{Event, Got, GotEnd, Put}
use Rattle.rv32.specs.declared.instr.Instr.{Instr}
use Rattle.rv32.specs.declared.instr.Instr.TheVariants.{Lui, Auipc, Jal, Jalr, Branch, Load, Store, Immediate, Shift, Op, Fence, Ecall, Ebreak}
use Rattle.rv32.specs.declared.instr.LoadKind.{LoadKind}
use Rattle.rv32.specs.declared.instr.LoadKind.TheVariants as load_kind
use Rattle.rv32.specs.declared.instr.StoreKind.{StoreKind}
use Rattle.rv32.specs.declared.instr.StoreKind.TheVariants as store_kind
use Rattle.rv32.specs.declared.state.Cause.TheVariants as cause
use Rattle.rv32.specs.Words.{decode_of, sign_extended}
use Rattle.rv32.specs.Arithmetic.{compare_of, operate_immediate_of, shift_by}
use Rattle.rv32.specs.Space.{both, all_four, half_at, word_at, fetch_of}
use Rattle.rv32.specs.Step.{Machine, Stepped, register, with_register, execute_of, gives, jumps, links, stored, load_of, store_of}
use Rattle.rv32.proofs.Uses.{step_at}
use Rattle.sim.specs.Runs.{World, Progress, Running, Ended, Trapped, tick_of, result_of, call_of, gets, puts, answered, goes_on, rvrun}
use Rattle.select_exec.specs.Light as light
use Rattle.select_exec.specs.Light.{Light, Go, Done, Fell, reg, with_reg, with_word, with_byte, sum32, act, goes}
use Rattle.select_exec.specs.Whole.{Permits, fetched, fixed, whole_step, whole_run}
use Rattle.select_exec.specs.Worlds.{Registers, world, Follows, RunFollows}
use Rattle.select_exec.proofs.Bridge.{bool_cases, and_left, and_right, run_same}
use Rattle.select_exec.proofs.Fields.{RegistersIn, AllIn, decoded_in}

-- ---- registers

set_each : (list : List ℕ) (r : ℕ → ℕ) (d v k : ℕ) → Registers list r → d < 32 → k < 32 → eqb d 0 ≡ false → (if k == 0 then 0 else slice_index (slice_set list d v) k) ≡ reg (λ j. if j == d then v else r j) k
set_each list r d v k q dl kl nz =
    bool_cases (eqb k 0)
    (λ e. rw e refl)
    (λ e.
    bool_cases (eqb k d)
    (λ f.
    let same : k ≡ d = grind (arith, nat_tests) in
    let inside : d < length list = omega (arith, dl, q.count) in
    rw (e, f, same) (get_or-set_same list d v 0 inside))
    (λ f.
    let other : slice_index (slice_set list d v) k ≡ slice_index list k = get_or-set_other list d k v 0 (grind (arith, nat_tests)) in
    let old : (if eqb k 0 then 0 else slice_index list k) ≡ (if eqb k 0 then 0 else r k) = q.each k kl in
    let old2 : slice_index list k ≡ r k = subst (λ t. (if t then 0 else slice_index list k) ≡ (if t then 0 else r k)) e old in
    rw (e, f) (other ∙ old2)))

pub set_register : (list : List ℕ) (r : ℕ → ℕ) (d v : ℕ) → Registers list r → d < 32 → Registers (with_register list d v) (with_reg r d v)
set_register list r d v q dl =
    bool_cases (eqb d 0)
    (λ e. rw e q)
    (λ e. rw e (record { count = length-set list d v ∙ q.count; each = λ k kl. set_each list r d v k q dl kl e }))

-- ---- one step

module _ (P : Permits) (list : List ℕ) (r : ℕ → ℕ) (pc : ℕ) (b : ℕ → ℕ) (i : List ℕ) (h : List Event) (q : Registers list r) (low : pc + 4 < 2 ^ 32) where
  abbrev here : World
  here = world P list pc b i h

  abbrev m : Machine
  m = here.machine

  on : (pc + 4) % 2 ^ 32 ≡ pc + 4
  on = omega (arith, low)

  abbrev came : Stepped → Progress
  came s = result_of here s.machine s.result

  gives_follows : (d v v' : ℕ) → d < 32 → v ≡ v' → Follows P (Go (with_reg r d v') (pc + 4) b i h) (came (gives m d v))
  unfolding gives
  gives_follows d v v' dl e = record {
    list = with_register list d v;
    is = ap (λ x. Running (world P (with_register list d v) x b i h)) on;
    shows = subst (λ x. Registers (with_register list d v) (with_reg r d x)) e (set_register list r d v q dl);
    small = low;
  }

  links_follows : (d target : ℕ) → d < 32 → target < 2 ^ 32 → Follows P (goes target (with_reg r d (pc + 4)) b i h) (came (links m d target))
  unfolding links
  links_follows d target dl small =
      bool_cases (eqb (target % 4) 0)
      (λ e. rw e (record {
        list = with_register list d ((pc + 4) % 2 ^ 32);
        is = refl;
        shows = subst (λ x. Registers (with_register list d ((pc + 4) % 2 ^ 32)) (with_reg r d x)) on (set_register list r d ((pc + 4) % 2 ^ 32) q dl);
        small = small;
      }))
      (λ e. rw e tt)

  jumps_follows : (target : ℕ) → target < 2 ^ 32 → Follows P (goes target r b i h) (came (jumps m target))
  unfolding jumps
  jumps_follows target small =
      bool_cases (eqb (target % 4) 0)
      (λ e. rw e (record { list = list; is = refl; shows = q; small = small }))
      (λ e. rw e tt)

  stored_follows : (g : ℕ → ℕ → ℕ) → Follows P (Go r (pc + 4) (λ k. g k (b k)) i h) (came (stored m true g))
  unfolding stored
  stored_follows g = record { list = list; is = ap (λ x. Running (world P list x (λ k. g k (b k)) i h)) on; shows = q; small = low }

  load_follows : (o : LoadKind) (d a : ℕ) → d < 32 → Follows P (light.load (fixed P b) o d a r pc b i h) (came (load_of m o d a))
  load_follows load_kind.Word d a dl =
      bool_cases (eqb (a % 4) 0 && all_four P.can_read a)
      (λ e. rw (and_left (eqb (a % 4) 0) (all_four P.can_read a) e, and_right (eqb (a % 4) 0) (all_four P.can_read a) e) (gives_follows d (word_at b a) (word_at b a) dl refl))
      (λ e. rw e tt)
  load_follows load_kind.ByteUnsigned d a dl =
      bool_cases (P.can_read a)
      (λ e. rw e (gives_follows d (b a) (b a) dl refl))
      (λ e. rw e tt)
  load_follows load_kind.Byte d a dl =
      bool_cases (P.can_read a)
      (λ e. rw e (gives_follows d (sign_extended 7 (b a)) (sign_extended 7 (b a)) dl refl))
      (λ e. rw e tt)
  load_follows load_kind.Half d a dl =
      bool_cases (eqb (a % 2) 0 && both P.can_read a)
      (λ e. rw (and_left (eqb (a % 2) 0) (both P.can_read a) e, and_right (eqb (a % 2) 0) (both P.can_read a) e) (gives_follows d (sign_extended 15 (half_at b a)) (sign_extended 15 (half_at b a)) dl refl))
      (λ e. rw e tt)
  load_follows load_kind.HalfUnsigned d a dl =
      bool_cases (eqb (a % 2) 0 && both P.can_read a)
      (λ e. rw (and_left (eqb (a % 2) 0) (both P.can_read a) e, and_right (eqb (a % 2) 0) (both P.can_read a) e) (gives_follows d (half_at b a) (half_at b a) dl refl))
      (λ e. rw e tt)

  store_follows : (o : StoreKind) (a v : ℕ) → Follows P (light.store (fixed P b) o a v r pc b i h) (came (store_of m o a v))
  store_follows store_kind.Word a v =
      bool_cases (eqb (a % 4) 0 && all_four P.can_write a)
      (λ e. rw (and_left (eqb (a % 4) 0) (all_four P.can_write a) e, and_right (eqb (a % 4) 0) (all_four P.can_write a) e) (stored_follows _))
      (λ e. rw e tt)
  store_follows store_kind.Byte a v =
      bool_cases (P.can_write a)
      (λ e. rw e (stored_follows _))
      (λ e. rw e tt)
  store_follows store_kind.Half a v =
      bool_cases (eqb (a % 2) 0 && both P.can_write a)
      (λ e. rw (and_left (eqb (a % 2) 0) (both P.can_write a) e, and_right (eqb (a % 2) 0) (both P.can_write a) e) (stored_follows _))
      (λ e. rw e tt)

  register_is : (k : ℕ) → k < 32 → register m k ≡ reg r k
  register_is k kl = q.each k kl

  branch_follows : (t : Bool) (v : ℕ) → Follows P (goes (if t then sum32 pc v else pc + 4) r b i h) (came (jumps m ((pc + (if t then v else 4)) % 2 ^ 32)))
  branch_follows true v = jumps_follows ((pc + v) % 2 ^ 32) (omega arith)
  branch_follows false v = subst (λ x. Follows P (goes (pc + 4) r b i h) (came (jumps m x))) (sym on) (jumps_follows (pc + 4) low)

  answered_follows : (n : ℕ) (b' : ℕ → ℕ) (i' : List ℕ) (h' : List Event) → Follows P (Go (with_reg r 10 n) (pc + 4) b' i' h') (Running (record { machine = answered (world P list pc b' i h).machine n; input = i'; trace = h' }))
  unfolding answered
  answered_follows n b' i' h' = record {
    list = with_register list 10 n;
    is = ap (λ x. Running (world P (with_register list 10 n) x b' i' h')) on;
    shows = set_register list r 10 n q (omega arith);
    small = low;
  }

  gets_follows : (xs : List ℕ) (a : ℕ) → Follows P (light.gets r pc b xs a h) (gets (world P list pc b xs h) xs a)
  gets_follows [] a = answered_follows 0 b [] (GotEnd ∷ h)
  gets_follows (c ∷ rest) a = answered_follows 1 (with_byte b a c) rest (Got c ∷ h)

  -- an environment call, by the values of its registers
  call_by : (a7 a0 a1 a2 : ℕ) → Progress
  call_by a7 a0 a1 a2 =
      if a7 == 93 then Ended (a0 % 2 ^ 8) here else
      if a7 == 63 && (a0 == 0 && a2 == 1)
      then (if P.can_write a1 then gets here i a1 else Trapped cause.StoreFault here) else
      if a7 == 64 && (a0 == 1 && a2 == 1)
      then (if P.can_read a1 then puts here a1 else Trapped cause.LoadFault here) else
      Trapped cause.BadCall here

  light_by : (a7 a0 a1 a2 : ℕ) → Light
  light_by a7 a0 a1 a2 =
      if a7 == 93 then Done (a0 % 2 ^ 8) h else
      if a7 == 63 && (a0 == 0 && a2 == 1)
      then (if P.can_write a1 then light.gets r pc b i a1 h else Fell h) else
      if a7 == 64 && (a0 == 1 && a2 == 1)
      then (if P.can_read a1 then Go (with_reg r 10 1) (pc + 4) b i (Put (b a1) ∷ h) else Fell h) else
      Fell h

  by_follows : (a7 a0 a1 a2 : ℕ) → Follows P (light_by a7 a0 a1 a2) (call_by a7 a0 a1 a2)
  unfolding light_by call_by
  by_follows a7 a0 a1 a2 =
      bool_cases (eqb a7 93)
      (λ e. rw e (here, refl, refl))
      (λ e1.
      bool_cases (eqb a7 63 && (eqb a0 0 && eqb a2 1))
      (λ e2.
      bool_cases (P.can_write a1)
      (λ e3. rw (e1, e2, e3) (gets_follows i a1))
      (λ e3. rw (e1, e2, e3) tt))
      (λ e2.
      bool_cases (eqb a7 64 && (eqb a0 1 && eqb a2 1))
      (λ e3.
      bool_cases (P.can_read a1)
      (λ e4. rw (e1, e2, e3, e4) (answered_follows 1 b i (Put (b a1) ∷ h)))
      (λ e4. rw (e1, e2, e3, e4) tt))
      (λ e3. rw (e1, e2, e3) tt)))

  call_follows : Follows P (light.call (fixed P b) (reg r 17) r pc b i h) (call_of here)
  unfolding light_by call_by
  call_follows =
      let e7 : register m 17 ≡ reg r 17 = register_is 17 (omega arith) in
      let e0 : register m 10 ≡ reg r 10 = register_is 10 (omega arith) in
      let e1 : register m 11 ≡ reg r 11 = register_is 11 (omega arith) in
      let e2 : register m 12 ≡ reg r 12 = register_is 12 (omega arith) in
      let same : call_by (register m 17) (register m 10) (register m 11) (register m 12) ≡ call_by (reg r 17) (reg r 10) (reg r 11) (reg r 12) = rw (e7, e0, e1, e2) refl in
      subst (Follows P (light_by (reg r 17) (reg r 10) (reg r 11) (reg r 12))) (sym same) (by_follows (reg r 17) (reg r 10) (reg r 11) (reg r 12))

  pub act_follows : (x : Instr) → RegistersIn x → Follows P (act (fixed P b) (Some x) r pc b i h) (came (execute_of m x))
  act_follows (Lui d v) f = gives_follows d v v f refl
  act_follows (Auipc d v) f = gives_follows d _ _ f refl
  act_follows (Jal d v) f = links_follows d ((pc + v) % 2 ^ 32) f (omega arith)
  act_follows (Jalr d base v) f =
      let e : register m base ≡ reg r base = register_is base f.1 in
      let T : ℕ → ℕ = λ x. (x + v) % 2 ^ 32 / 2 * 2 in
      subst (λ x. Follows P (goes (T (reg r base)) (with_reg r d (pc + 4)) b i h) (came (links m d (T x)))) (sym e) (links_follows d (T (reg r base)) f.0 (omega arith))
  act_follows (Branch t l k v) f =
      let e1 : register m l ≡ reg r l = register_is l f.0 in
      let e2 : register m k ≡ reg r k = register_is k f.1 in
      rw (e1, e2) (branch_follows (compare_of t (reg r l) (reg r k)) v)
  act_follows (Load o d base v) f =
      let e : register m base ≡ reg r base = register_is base f.1 in
      rw e (load_follows o d (sum32 (reg r base) v) f.0)
  act_follows (Store o s base v) f =
      let e1 : register m base ≡ reg r base = register_is base f.1 in
      let e2 : register m s ≡ reg r s = register_is s f.0 in
      rw (e1, e2) (store_follows o (sum32 (reg r base) v) (reg r s))
  act_follows (Immediate o d l v) f = gives_follows d _ _ f.0 (ap (λ x. operate_immediate_of o x v) (register_is l f.1))
  act_follows (Op o d l k) f =
      let e1 : register m l ≡ reg r l = register_is l f.1 in
      let e2 : register m k ≡ reg r k = register_is k f.2 in
      gives_follows d _ _ f.0 (rw (e1, e2) refl)
  act_follows Ecall f = call_follows
  act_follows (Shift o d l k) f = gives_follows d _ _ f.0 (ap (λ x. shift_by o x k) (register_is l f.1))
  act_follows (Fence d s v) f = tt
  act_follows Ebreak f = tt

-- ---- runs

some_if : (t : Bool) (x : Option Instr) (i : Instr) → (if t then x else None) ≡ Some i → (t ≡ true) × (x ≡ Some i)
some_if true x i e = (refl, e)
some_if false x i e = cc

option_cases : {A : Type 0} (o : Option Instr) → (o ≡ None → A) → ((x : Instr) → o ≡ Some x → A) → A
option_cases None none some = none refl
option_cases (Some x) none some = some x refl

module _ (P : Permits) (low : (a : ℕ) → P.can_execute a ≡ true → a < 2 ^ 31) where
  tick_follows : (r : ℕ → ℕ) (pc : ℕ) (b : ℕ → ℕ) (i : List ℕ) (h : List Event) (list : List ℕ) → Registers list r → Follows P (whole_step P (Go r pc b i h)) (tick_of (world P list pc b i h))
  unfolding tick_of
  tick_follows r pc b i h list q =
      option_cases (fetched P b pc)
      (λ e. rw e tt)
      (λ x e.
      let t = eqb (pc % 4) 0 in
      let u = all_four P.can_execute pc in
      let both = some_if (t && u) (decode_of (word_at b pc)) x e in
      let aligned : t ≡ true = and_left t u both.0 in
      let may : u ≡ true = and_right t u both.0 in
      let first : P.can_execute pc ≡ true = and_left _ _ (and_left _ _ (and_left _ _ may)) in
      let small : pc + 4 < 2 ^ 32 = omega (arith, low pc first) in
      let w = world P list pc b i h in
      let four : pc % 4 ≡ 0 = grind (arith, nat_tests) in
      let word : fetch_of w.machine.space pc ≡ Some (word_at b pc) = rw may refl in
      let stepped = step_at w.machine (word_at b pc) x four word both.1 in
      let fields : RegistersIn x = subst AllIn both.1 (decoded_in (word_at b pc)) in
      rw (e, stepped) (act_follows P list r pc b i h q small x fields))

  next_follows : (m : Light) (p : Progress) → Follows P m p → Follows P (whole_step P m) (goes_on p tick_of)
  next_follows (Go r pc b i h) p f =
      subst (λ x. Follows P (whole_step P (Go r pc b i h)) (goes_on x tick_of)) (sym f.is) (tick_follows r pc b i h f.list f.shows)
  next_follows (Done s h) p f = (f.0, ap (λ x. goes_on x tick_of) f.1, f.2)
  next_follows (Fell h) p f = tt

  goes_on_twice : (p : Progress) (f g : World → Progress) → goes_on (goes_on p f) g ≡ goes_on p (λ w. goes_on (f w) g)
  goes_on_twice (Running w) f g = refl
  goes_on_twice (Ended s w) f g = refl
  goes_on_twice (Trapped c w) f g = refl

  goes_on_running : (p : Progress) → goes_on p Running ≡ p
  goes_on_running (Running w) = refl
  goes_on_running (Ended s w) = refl
  goes_on_running (Trapped c w) = refl

  pub run_follows : (k : ℕ) (m : Light) (p : Progress) → Follows P m p → Follows P (whole_run P k m) (goes_on p (rvrun k))
  run_follows zero m p f = subst (Follows P m) (sym (goes_on_running p)) f
  run_follows (suc k) m p f =
      subst (Follows P (whole_run P k (whole_step P m))) (goes_on_twice p tick_of (rvrun k)) (run_follows k (whole_step P m) (goes_on p tick_of) (next_follows m p f))

module _ (P : Permits) (low : (a : ℕ) → P.can_execute a ≡ true → a < 2 ^ 31) (apart : (a : ℕ) → P.can_execute a ≡ true → P.can_write a ≡ false) where
  -- from a world that shows the light machine, after each number of steps
  pub real_follows : RunFollows P
  real_follows list r pc b i h q small k =
      let w = world P list pc b i h in
      let start : Follows P (Go r pc b i h) (Running w) = record { list = list; is = refl; shows = q; small = small } in
      subst (λ m. Follows P m (rvrun k w)) (run_same P b apart k (Go r pc b i h) (λ a e. refl)) (run_follows P low k (Go r pc b i h) (Running w) start)
