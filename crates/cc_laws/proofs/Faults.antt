-- If a step traps, and would not with more readable and writable bytes, it is a load or a store that is refused.
use Rattle.std.proofs.Common.{◌≡◌, ◌⊎◌, inl, inr, ℕ, ◌+◌, ◌%◌, ◌&&◌, List, [], ◌∷◌, Bool, true, false, Option, Some, None, refl, sym, ap, ◌∙◌, subst}
use Rattle.std.specs.Prelude.{◌==◌, if◌then◌else◌}
use Rattle.rv32.specs.declared.instr.Instr.{Instr}
use Rattle.rv32.specs.declared.instr.Instr.TheVariants.{Lui, Auipc, Jal, Jalr, Branch, Load, Store, Immediate, Shift, Op, Fence, Ecall, Ebreak}
use Rattle.rv32.specs.declared.instr.LoadKind.{LoadKind}
use Rattle.rv32.specs.declared.instr.LoadKind.TheVariants as load_kind
use Rattle.rv32.specs.declared.instr.StoreKind.{StoreKind}
use Rattle.rv32.specs.declared.instr.StoreKind.TheVariants as store_kind
use Rattle.rv32.specs.declared.state.Cause.{Cause}
use Rattle.rv32.specs.declared.state.Cause.TheVariants as cause
use Rattle.rv32.specs.declared.state.StepResult.{StepResult}
use Rattle.rv32.specs.declared.state.StepResult.TheVariants.{Went, Call, Trap}
use Rattle.rv32.specs.Words.{decode_of}
use Rattle.rv32.specs.Space.{Space, all_four, word_at}
use Rattle.rv32.specs.Step.{Machine, Stepped, register, step_of, execute_of, decoded, fetched, trapped, gives, jumps, links, loaded, load_of, stored, store_of}
use Rattle.sim.specs.Runs.{World, Progress, Running, Ended, Trapped, gets, puts, call_of, result_of, tick_of}
use Rattle.cc_laws.proofs.Loosening.{loose, loose_world, found_if, NoTrap, NeverTrapped, Allows, step_loose}

abbrev pub IsFault : Cause → Type 0
IsFault c = (c ≡ cause.LoadFault) ⊎ (c ≡ cause.StoreFault)

-- the first traps, and the step with the other result does not, only because of such a fault
abbrev Only : Stepped → StepResult → Type 0
Only s r = (c : Cause) → s.result ≡ Trap c → ((d : Cause) → r ≡ Trap d → ⊥) → IsFault c

if_only : (t : Bool) (s s2 u u2 : Stepped) → Only s u.result → Only s2 u2.result → Only (if t then s else s2) (if t then u else u2).result
if_only true s s2 u u2 h g = h
if_only false s s2 u u2 h g = g

same_only : (m m2 : Machine) (c0 : Cause) → Only (trapped m c0) (trapped m2 c0).result
same_only m m2 c0 c e h = absurd (h c0 refl)

gives_only : (m : Machine) (rd v : ℕ) (r : StepResult) → Only (gives m rd v) r
unfolding gives
gives_only m rd v r c e h = cc

goes_only : (t : Bool) (m m2 n n2 : Machine)
    → Only (if t then record { machine = n; result = Went } else trapped m cause.Target) (if t then record { machine = n2; result = Went } else trapped m2 cause.Target).result
goes_only true m m2 n n2 = λ c e h. cc
goes_only false m m2 n n2 = same_only m m2 cause.Target

jumps_only : (m m2 : Machine) (a : ℕ) → Only (jumps m a) (jumps m2 a).result
unfolding jumps
jumps_only m m2 a = goes_only (a % 4 == 0) m m2 _ _

links_only : (m m2 : Machine) (rd a : ℕ) → Only (links m rd a) (links m2 rd a).result
unfolding links
links_only m m2 rd a = goes_only (a % 4 == 0) m m2 _ _

loaded_only : (m : Machine) (rd : ℕ) (o : Option ℕ) (r : StepResult) → Only (loaded m rd o) r
loaded_only m rd None r = λ c e h. let same : cause.LoadFault ≡ c = cc in inl (sym same)
loaded_only m rd (Some v) r = gives_only m rd v r

stored_only : (m : Machine) (allowed : Bool) (g : ℕ → ℕ → ℕ) (r : StepResult) → Only (stored m allowed g) r
unfolding stored
stored_only m true g r = λ c e h. cc
stored_only m false g r = λ c e h. let same : cause.StoreFault ≡ c = cc in inr (sym same)

module _ (t : Space) (m : Machine) (executes : (a : ℕ) → t.can_execute a ≡ m.space.can_execute a) where
  abbrev there : Machine
  there = loose t m

  load_only : (kind : LoadKind) (rd a : ℕ) → Only (load_of m kind rd a) (load_of there kind rd a).result
  load_only load_kind.Byte rd a = loaded_only m rd _ _
  load_only load_kind.ByteUnsigned rd a = loaded_only m rd _ _
  load_only load_kind.Half rd a = if_only (a % 2 == 0) _ _ _ _ (loaded_only m rd _ _) (same_only m there cause.Misaligned)
  load_only load_kind.HalfUnsigned rd a = if_only (a % 2 == 0) _ _ _ _ (loaded_only m rd _ _) (same_only m there cause.Misaligned)
  load_only load_kind.Word rd a = if_only (a % 4 == 0) _ _ _ _ (loaded_only m rd _ _) (same_only m there cause.Misaligned)

  store_only : (kind : StoreKind) (a v : ℕ) → Only (store_of m kind a v) (store_of there kind a v).result
  store_only store_kind.Byte a v = stored_only m _ _ _
  store_only store_kind.Half a v = if_only (a % 2 == 0) _ _ _ _ (stored_only m _ _ _) (same_only m there cause.Misaligned)
  store_only store_kind.Word a v = if_only (a % 4 == 0) _ _ _ _ (stored_only m _ _ _) (same_only m there cause.Misaligned)

  execute_only : (i : Instr) → Only (execute_of m i) (execute_of there i).result
  execute_only (Lui rd v) = gives_only m rd _ _
  execute_only (Auipc rd v) = gives_only m rd _ _
  execute_only (Jal rd v) = links_only m there rd _
  execute_only (Jalr rd base v) = links_only m there rd _
  execute_only (Branch b l r v) = jumps_only m there _
  execute_only (Load kind rd base v) = load_only kind rd _
  execute_only (Store kind source base v) = store_only kind _ _
  execute_only (Immediate o rd l v) = gives_only m rd _ _
  execute_only (Shift o rd l k) = gives_only m rd _ _
  execute_only (Op o rd l r) = gives_only m rd _ _
  execute_only (Fence rd s v) = λ c e h. cc
  execute_only Ecall = λ c e h. cc
  execute_only Ebreak = same_only m there cause.Break

  decoded_only : (i : Option Instr) → Only (decoded m i) (decoded there i).result
  decoded_only None = same_only m there cause.Illegal
  decoded_only (Some i) = execute_only i

  fetched_only : (x : ℕ) (a b : Bool) → b ≡ a → Only (fetched m (found_if a x)) (fetched there (found_if b x)).result
  fetched_only x true b e = rw e (decoded_only (decode_of x))
  fetched_only x false b e = rw e (same_only m there cause.FetchFault)

  executes_four : (a : ℕ) → all_four t.can_execute a ≡ all_four m.space.can_execute a
  executes_four a = rw (executes a, executes (a + 1), executes (a + 2), executes (a + 3)) refl

  step_only : Only (step_of m) (step_of there).result
  step_only =
      if_only (m.pc % 4 == 0) _ _ _ _ (fetched_only (word_at m.space.byte m.pc) (all_four m.space.can_execute m.pc) (all_four t.can_execute m.pc) (executes_four m.pc))
      (same_only m there cause.Target)

-- ---- an environment call

abbrev OnlySo : World → Progress → Progress → Type 0
OnlySo w x y = (c : Cause) (v : World) → x ≡ Trapped c v → NeverTrapped y → IsFault c × (v ≡ w)

if_only_so : (t : Bool) (w : World) (x x2 y y2 : Progress) → OnlySo w x y → OnlySo w x2 y2 → OnlySo w (if t then x else x2) (if t then y else y2)
if_only_so true w x x2 y y2 h g = h
if_only_so false w x x2 y y2 h g = g

running_only : (w v : World) (y : Progress) → OnlySo w (Running v) y
running_only w v y c u e h = cc

ended_only : (status : ℕ) (w v : World) (y : Progress) → OnlySo w (Ended status v) y
ended_only status w v y c u e h = cc

gets_only : (w : World) (xs : List ℕ) (a : ℕ) (y : Progress) → OnlySo w (gets w xs a) y
gets_only w [] a y = running_only w _ y
gets_only w (x ∷ xs) a y = running_only w _ y

may_only : (t : Bool) (w : World) (c0 : Cause) (x y : Progress) → IsFault c0 → OnlySo w x y → OnlySo w (if t then x else Trapped c0 w) y
may_only true w c0 x y f h = h
may_only false w c0 x y f h = λ c v e k. let same : c0 ≡ c = cc in let stays : w ≡ v = cc in (subst IsFault same f, sym stays)

bad_only : (w w2 : World) (c0 : Cause) → OnlySo w (Trapped c0 w) (Trapped c0 w2)
bad_only w w2 c0 c v e h = absurd (h c0 w2 refl)

call_only : (t : Space) (w : World) → OnlySo w (call_of w) (call_of (loose_world t w))
call_only t w =
    let m = w.machine in
    let a = register m 11 in
    let is_read = register m 17 == 63 && (register m 10 == 0 && register m 12 == 1) in
    let is_write = register m 17 == 64 && (register m 10 == 1 && register m 12 == 1) in
    if_only_so (register m 17 == 93) w _ _ _ _ (ended_only _ w w _)
    (if_only_so is_read w _ _ _ _ (may_only (m.space.can_write a) w cause.StoreFault (gets w w.input a) _ (inr refl) (gets_only w w.input a _))
    (if_only_so is_write w _ _ _ _ (may_only (m.space.can_read a) w cause.LoadFault (puts w a) _ (inl refl) (running_only w _ _)) (bad_only w (loose_world t w) cause.BadCall)))

-- ---- a step of a run

module _ (t : Space) (w : World) (al : Allows w.machine.space t) (executes : (a : ℕ) → t.can_execute a ≡ w.machine.space.can_execute a) where
  abbrev here : Stepped
  here = step_of w.machine

  abbrev wide : Stepped
  wide = step_of (loose t w.machine)

  -- the step with more permissions does not trap
  wide_goes : NeverTrapped (result_of (loose_world t w) wide.machine wide.result) → NoTrap wide
  wide_goes h c e = h c (loose_world t w) (ap (result_of (loose_world t w) wide.machine) e)

  by_result : (r : StepResult) → here.result ≡ r → NeverTrapped (result_of (loose_world t w) wide.machine wide.result) → (c : Cause) (v : World) → result_of w here.machine r ≡ Trapped c v → IsFault c × (v ≡ w)
  by_result Went f h c v e = cc
  by_result Call f h c v e =
      let fine : NoTrap here = λ d g. let both = sym f ∙ g in cc in
      let called : wide.result ≡ Call = ap (λ (x : Stepped). x.result) (step_loose t w.machine al fine) ∙ f in
      call_only t w c v e (subst (λ r. NeverTrapped (result_of (loose_world t w) wide.machine r)) called h)
  by_result (Trap d) f h c v e =
      let same : d ≡ c = cc in
      let stays : w ≡ v = cc in
      (step_only t w.machine executes c (f ∙ ap Trap same) (wide_goes h), sym stays)

  pub tick_only : OnlySo w (tick_of w) (tick_of (loose_world t w))
  unfolding tick_of
  tick_only c v e h = by_result here.result refl h c v e
