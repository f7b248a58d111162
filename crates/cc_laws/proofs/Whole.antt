-- The laws.
use Rattle.std.proofs.Common.{◌≡◌, inl, inr, ◌≤◌, ◌<◌, ℕ, zero, suc, ◌+◌, ◌*◌, ◌%◌, ◌^◌, List, [], ◌∷◌, ◌++◌, reverse, length, Bool, true, Some, refl, sym, ap, ◌∙◌, subst, arith}
use Rattle.std.specs.Prelude.{slice_get}
use Rattle.std.proofs.lemmas.List.{reverse-append}
use Rattle.rv32.specs.declared.state.Cause.{Cause}
use Rattle.rv32.specs.declared.instr.LoadKind.{LoadKind}
use Rattle.rv32.specs.declared.instr.LoadKind.TheVariants as load_kind
use Rattle.rv32.specs.declared.instr.StoreKind.{StoreKind}
use Rattle.rv32.specs.declared.instr.StoreKind.TheVariants as store_kind
use Rattle.rv32.specs.Space.{Space, all_four}
use Rattle.rv32.specs.Step.{Machine, register}
use Rattle.loader.specs.File.{Image}
use Rattle.sim.specs.Runs as sim
use Rattle.sim.specs.Runs.{World, Progress, Running, Trapped, rvrun, start_world, tick_of}
use Rattle.cc_laws.proofs.Composed.{rvrun_more}
use Rattle.select_exec.specs.Laws.{trace_of}
use Rattle.select_exec.proofs.Keeping.{runs_keep}
use Rattle.typing_spec.specs.Program.{Program}
use Rattle.csem.specs.Machine.{Ended, Stops}
use Rattle.csem.specs.Meaning.{cstep, answer, last_of}
use Rattle.cc_backend.specs.Runs.{RunsAs, IsInput}
use Rattle.cc_laws.specs.Laws.{OfEachFile, run_of, done_in, DoesAll, IsBeginning, DoesNoMore, NeverTraps, MayLoad, MayStore, IsInside, StaysInside, EndsOnlySo, HasMain, EndsInTime}
use Rattle.cc_laws.proofs.Clock.{run_stops, no_ticks}
use Rattle.cc_laws.proofs.Permissions.{Permits, world_of, run_permits}
use Rattle.cc_laws.proofs.Steps.{inside_now}
use Rattle.cc_laws.proofs.Instants.{Stands, same_at, Serves, by_weights, at_some, at_later}

-- it suffices to prove it of the image that the file is known to run from
of_each : (Promise : Program → Image → List ℕ → Type 0) → ((p : Program) (image : Image) (input : List ℕ) → Serves p image input → Promise p image input) → OfEachFile Promise
of_each Promise holds stack p frames file r = (r.image, r.loads, λ input bytes fine. holds p r.image input (by_weights stack p frames file r input bytes fine))

-- ---- what the file does

abbrev All : Program → Image → List ℕ → Type 0
All p image input = (n : ℕ) → (k : ℕ) × (done_in (run_of image input k) ≡ (answer n p input).trace)

pub all_done : (p : Program) (image : Image) (input : List ℕ) → Serves p image input → All p image input
all_done p image input m n = let found = at_some p image input m n in (found.0, same_at image p input n found.0 found.1)

pub does_all : DoesAll
does_all = of_each All all_done

pub done_is : (r : Progress) → done_in r ≡ reverse (trace_of r)
done_is (Running w) = refl
done_is (sim.Ended status w) = refl
done_is (Trapped c w) = refl

pub begins : (image : Image) (input : List ℕ) (k j : ℕ) → IsBeginning (done_in (run_of image input k)) (done_in (run_of image input (k + j)))
begins image input k j =
    let first = run_of image input k in
    let kept = (runs_keep k j (start_world image input)).0 in
    let whole = done_is (run_of image input (k + j)) ∙ ap reverse kept.1 ∙ reverse-append kept.0 (trace_of first) in
    (reverse kept.0, whole ∙ ap (λ xs. xs ++ reverse kept.0) (sym (done_is first)))

abbrev NoMore : Program → Image → List ℕ → Type 0
NoMore p image input = (k : ℕ) → (n : ℕ) × IsBeginning (done_in (run_of image input k)) (answer n p input).trace

pub no_more_done : (p : Program) (image : Image) (input : List ℕ) → Serves p image input → NoMore p image input
no_more_done p image input m k =
    let found = at_later p image input m k in
    let same = same_at image p input found.0 (k + found.1) found.2 in
    (found.0, subst (IsBeginning (done_in (run_of image input k))) same (begins image input k found.1))

pub does_no_more : DoesNoMore
does_no_more = of_each NoMore no_more_done

-- ---- where it stays

abbrev TrapsNowhere : Program → Image → List ℕ → Type 0
TrapsNowhere p image input = (k : ℕ) (c : Cause) (w : World) → run_of image input k ≡ Trapped c w → ⊥

no_trap_at : (image : Image) (p : Program) (input : List ℕ) (n k : ℕ) (c : Cause) (w : World) → Stands image p input n k → run_of image input k ≡ Trapped c w → ⊥
no_trap_at image p input n k c w (inl g) e = let both = sym g.runs ∙ e in cc
no_trap_at image p input n k c w (inr g) e = let both = sym g.runs ∙ e in cc

pub traps_nowhere : (p : Program) (image : Image) (input : List ℕ) → Serves p image input → TrapsNowhere p image input
traps_nowhere p image input m k c w e =
    let found = at_later p image input m k in
    no_trap_at image p input found.0 (k + found.1) c w found.2 ((runs_keep k found.1 (start_world image input)).2 c w e)

pub never_traps : NeverTraps
never_traps = of_each TrapsNowhere traps_nowhere

-- the permissions are those of the image
pub kept_four : (f g : ℕ → Bool) → ((a : ℕ) → g a ≡ f a) → (a : ℕ) → all_four g a ≡ true → all_four f a ≡ true
kept_four f g each a h = rw (each a, each (a + 1), each (a + 2), each (a + 3)) at h

may_still_load : (s t : Space) (kind : LoadKind) (a : ℕ) → Permits s t → MayLoad t kind a → MayLoad s kind a
may_still_load s t load_kind.Byte a k h = sym (k.can_read a) ∙ h
may_still_load s t load_kind.ByteUnsigned a k h = sym (k.can_read a) ∙ h
may_still_load s t load_kind.Half a k h = rw (k.can_read a, k.can_read (a + 1)) at h
may_still_load s t load_kind.HalfUnsigned a k h = rw (k.can_read a, k.can_read (a + 1)) at h
may_still_load s t load_kind.Word a k h = kept_four s.can_read t.can_read k.can_read a h

may_still_store : (s t : Space) (kind : StoreKind) (a : ℕ) → Permits s t → MayStore t kind a → MayStore s kind a
may_still_store s t store_kind.Byte a k h = sym (k.can_write a) ∙ h
may_still_store s t store_kind.Half a k h = rw (k.can_write a, k.can_write (a + 1)) at h
may_still_store s t store_kind.Word a k h = kept_four s.can_write t.can_write k.can_write a h

pub kept_inside : (s : Space) (m : Machine) → Permits s m.space → IsInside m.space m → IsInside s m
kept_inside s m k h = record {
  fetches = kept_four s.can_execute m.space.can_execute k.can_execute m.pc h.fetches;
  loads = λ kind rd base v e. may_still_load s m.space kind ((register m base + v) % 2 ^ 32) k (h.loads kind rd base v e);
  stores = λ kind source base v e. may_still_store s m.space kind ((register m base + v) % 2 ^ 32) k (h.stores kind source base v e);
  gets = λ e which. sym (k.can_write (register m 11)) ∙ h.gets e which;
  puts = λ e which. sym (k.can_read (register m 11)) ∙ h.puts e which;
}

abbrev Inside : Program → Image → List ℕ → Type 0
Inside p image input = (k : ℕ) (w : World) → run_of image input k ≡ Running w → IsInside image.space w.machine

pub always_inside : (p : Program) (image : Image) (input : List ℕ) → Serves p image input → Inside p image input
always_inside p image input m k w e =
    let kept = subst (λ q. Permits image.space (world_of q).machine.space) e (run_permits k (start_world image input)) in
    let more = rvrun_more k (start_world image input) w e in
    kept_inside image.space w.machine kept (inside_now w (λ c v traps. traps_nowhere p image input m (k + 1) c v (more ∙ traps)))

pub stays_inside : StaysInside
stays_inside = of_each Inside always_inside

-- ---- how it ends

abbrev EndsSo : Program → Image → List ℕ → ℕ → World → Type 0
EndsSo p image input status w = (n : ℕ) × ((answer n p input).ending ≡ Ended status) × ((answer n p input).trace ≡ reverse w.trace)

ends_so : (image : Image) (p : Program) (input : List ℕ) (n k status : ℕ) (w : World) → Stands image p input n k → run_of image input k ≡ sim.Ended status w → EndsSo p image input status w
ends_so image p input n k status w (inl g) e = absurd (let both = sym g.runs ∙ e in cc)
ends_so image p input n k status w (inr g) e =
    let both = sym g.runs ∙ e in
    let same : g.status ≡ status = cc in
    (n, g.ends ∙ ap Ended same, sym g.same ∙ ap done_in e)

abbrev OnlySo : Program → Image → List ℕ → Type 0
OnlySo p image input = (k status : ℕ) (w : World) → run_of image input k ≡ sim.Ended status w → EndsSo p image input status w

pub ends_as_meant : (p : Program) (image : Image) (input : List ℕ) → Serves p image input → OnlySo p image input
ends_as_meant p image input m k status w e =
    let found = at_later p image input m k in
    ends_so image p input found.0 (k + found.1) status w found.2 ((runs_keep k found.1 (start_world image input)).1 status w e)

pub ends_only_so : EndsOnlySo
ends_only_so = of_each OnlySo ends_as_meant

-- ---- the time

some_at : {A : Type 0} (xs : List A) (k : ℕ) → k < length xs → (x : A) × (slice_get xs k ≡ Some x)
some_at [] k h = absurd (omega arith)
some_at (x ∷ xs) zero h = (x, refl)
some_at (x ∷ xs) (suc k) h = some_at xs k (omega arith)

some_tick : (p : Program) (input : List ℕ) (n status : ℕ) → HasMain p → (answer n p input).ending ≡ Ended status → 0 < n
some_tick p input zero status main e =
    let found = some_at p.functions p.main main in
    absurd (let both = sym (no_ticks p input found.0 found.1) ∙ e in cc)
some_tick p input (suc n) status main e = omega arith

abbrev Soon : Program → Image → List ℕ → (n status : ℕ) → Type 0
Soon p image input n status = (k : ℕ) × (w : World) × (k ≤ 64 * n + 64) × (run_of image input k ≡ sim.Ended status w) × (reverse w.trace ≡ (answer n p input).trace)

soon : (stack : ℕ) (p : Program) (frames file : List ℕ) (r : RunsAs stack p frames file) → HasMain p → (input : List ℕ) → IsInput input
    → (n status : ℕ) → (answer n p input).ending ≡ Ended status → (answer n p input).greatest ≤ stack → Soon p r.image input n status
soon stack p frames file r main input bytes n status e small =
    let last = last_of (cstep n p input) in
    let stops : cstep n p input ≡ Stops (Ended status) last = run_stops n p input ∙ ap (λ x. Stops x last) e in
    let found = r.ends input bytes n status last stops small in
    let one = some_tick p input n status main e in
    (found.0, found.1, omega (arith, found.2, one), found.3.0, ap reverse found.3.1.0)

pub ends_in_time : EndsInTime
ends_in_time stack p frames file r main = (r.image, r.loads, soon stack p frames file r main)
