-- What an observer was shown during a run.
use Rattle.std.proofs.Common.{◌≡◌, ◌≤◌, ◌<◌, inl, inr, ℕ, zero, suc, ◌+◌, List, [], ◌∷◌, refl, sym, ap, ◌∙◌, subst, arith, Bor}
use Rattle.std.proofs.lemmas.Bool.{cases_lt}
use Rattle.typing_spec.specs.Program as typed
use Rattle.typed_ast.specs.declared.units.Program as unit
use Rattle.typed_ast.specs.View.{program_of}
use Rattle.csem.specs.History.{Entry}
use Rattle.csem.specs.Store.{Store}
use Rattle.csem.specs.Machine as machine
use Rattle.csem.specs.Machine.{State, Ending, Goes, Stops}
use Rattle.csem.specs.Meaning.{start, calling, cstep, last_of, ending_of, answer}
use Rattle.interp_store.specs.layer.Frames as on
use Rattle.interp_store.specs.layer.Frames.{enters}
use Rattle.interp_store.specs.layer.Agrees.{state_in, frames_of}
use Rattle.interp_store.specs.View.{store_of}
use Rattle.interp_transitions.specs.declared.tally.Tally.{Tally}
use Rattle.io_ports.specs.Port.{PortView}
use Rattle.cabs.specs.declared.state.Interpreter.{Interpreter}
use Rattle.cabs.specs.declared.outcome.Run.{Run}
use Rattle.cabs.specs.declared.outcome.Run.TheVariants as run
use Rattle.cabs.specs.Interpreting.{moments, IsShownWhole, IsShownSome, IsShown}
use Rattle.cabs.specs.inside.Standing.{Outset, Whole, Stands, StopsAs, StoppedBy, moments_of, Waits, Showing, ShowsWhole, ShowsUntil}
use Rattle.cabs.proofs.Following.{outside, node_waits_in}
use Rattle.cabs.proofs.Ticking.{given_stops, given_last, never_goes, as_found, run_of}

-- ---- before the first tick, and one tick more

pub nothing_shown : (S : List Store → Type 0) (all : Whole) → S [] → Showing S all 0
nothing_shown S all s = record { shown = s; waits = λ j (lt : j < 0). absurd (omega (arith, lt)) }

pub shown_on : (S U : List Store → Type 0) (all : Whole) (k : ℕ) → ((l : List Store) → S l → U l) → Showing S all k → Showing U all k
shown_on S U all k f s = record { shown = f (moments_of all k) s.shown; waits = s.waits }

below_next : (P : ℕ → Type 0) (k j : ℕ) → ((j : ℕ) → j < k → P j) → P k → j < k + 1 → P j
below_next P k j below here le = elim (cases_lt j k) [
  | inl lt ↦ below j lt
  | inr ge ↦
      let same : k ≡ j = omega (arith, le, ge) in
      subst P same here
]

shown_next : (S U : List Store → Type 0) (all : Whole) (k : ℕ) (s : State) → ((l : List Store) → S l → U (s.store ∷ l)) → all k ≡ Stops machine.TicksUsed s → Showing S all k → Showing U all (k + 1)
shown_next S U all k s tell is shows =
    let next : suc k ≡ k + 1 = omega arith in
    let P : ℕ → Type 0 = λ n. U (moments_of all n) in
    let Q : Store → Type 0 = λ o. U (o ∷ moments_of all k) in
    let W : ℕ → Type 0 = λ j. Waits (all j) in
    let waits_now : W k = (s, is) in
    record {
      shown = subst P next (subst Q (sym (ap (λ r. (last_of r).store) is)) (tell (moments_of all k) shows.shown));
      waits = λ j lt. below_next W k j shows.waits waits_now lt;
    }

-- at a node that takes the next tick
pub tick_shown : (T : List Entry → Type 0) (S U : List Store → Type 0) (p : typed.Program) (all : Whole) (o : Outset) (k : ℕ) (mid : Interpreter) (x : on.Node) (port : PortView) →
    Stands T p (λ n. all (n + k)) o mid (enters x) port → ((l : List Store) → S l → U (store_of mid.machine.scene.store ∷ l)) → Showing S all k → Showing U all (k + 1)
tick_shown T S U p all o k mid x port s tell shows =
    let same : k ≡ 0 + k = omega arith in
    let fs = frames_of mid.machine in
    let scene = mid.machine.scene in
    shown_next S U all k (state_in scene (outside 0 s.input s.history)) tell (ap all same ∙ node_waits_in p fs fs x scene scene s.input s.history (λ n. all (n + k)) s.follows) shows

-- ---- the run stops

module _ (S : List Store → Type 0) (all : Whole) (k ticks : ℕ) (le : k ≤ ticks) (shows : Showing S all k) where
  shown_whole : (e : Ending) (input : List ℕ) (h : List Entry) → StopsAs (all (0 + k)) e input h → ShowsWhole S all ticks e
  shown_whole e input h s =
      let same : k ≡ 0 + k = omega arith in
      record { taken = k; within = le; shows = shows; state = s.state; stops = ap all same ∙ s.is }

  pub shown_until : (T : List Entry → Type 0) (p : typed.Program) (o : Outset) (r : Run) (tally : Tally) (port : PortView) →
      StoppedBy T p (λ n. all (n + k)) o r tally port → ShowsUntil S all ticks r
  shown_until T p o (run.Ended status) tally port s = shown_whole (machine.Ended status) s.input s.history (s.stops 0)
  shown_until T p o (run.Undefined act at) tally port s = shown_whole (machine.Undefined act at) s.input s.history (s.stops 0)
  shown_until T p o run.TicksUsed tally port s = inr (0 + k, s 0)
  shown_until T p o (run.Port fault) tally port s = (k, (le, shows))
  shown_until T p o run.Memory tally port s = (k, (le, shows))

pub shown_all : (S : List Store → Type 0) (all : Whole) (k ticks : ℕ) (r : Run) → k ≡ ticks → r ≡ run.TicksUsed → Showing S all k → ShowsUntil S all ticks r
shown_all S all k ticks r e f shows =
    let P : ℕ → Type 0 = λ k. Showing S all k in
    let Q : Run → Type 0 = λ r. ShowsUntil S all ticks r in
    subst Q (sym f) (inl (subst P e shows))

pub shown_as : (S : List Store → Type 0) (all : Whole) (ticks : ℕ) (x r : Run) → r ≡ x → ShowsUntil S all ticks x → ShowsUntil S all ticks r
shown_as S all ticks x r e h = let Q : Run → Type 0 = λ r. ShowsUntil S all ticks r in subst Q (sym e) h

-- ---- the definition's run

module _ (p : typed.Program) (input : List ℕ) where
  moments_are : (k : ℕ) → moments_of (run_of p input) k ≡ moments p input k
  unfolding run_of
  moments_are zero = refl
  moments_are (suc k) =
      ap (λ (s : State). s.store ∷ moments_of (run_of p input) k) (given_last as_found (cstep k p input))
      ∙ ap (λ l. (last_of (cstep k p input)).store ∷ l) (moments_are k)

  ends_as : (k : ℕ) (e : Ending) (s : State) → run_of p input k ≡ Stops e s → (answer k p input).ending ≡ e
  unfolding run_of
  ends_as k e s h = ap ending_of (given_stops as_found (cstep k p input) e s h)

  goes_never : (k : ℕ) (x : on.Found) (s : State) → run_of p input k ≡ Goes x s → ⊥
  unfolding run_of
  goes_never k x s h = never_goes as_found (calling p (suc k) p.main [] (start k p input)) x s h

  module _ (S : List Store → Type 0) (ticks : ℕ) where
    is_shown_whole : (e : Ending) → ShowsWhole S (run_of p input) ticks e → IsShownWhole S p input ticks e
    is_shown_whole e h =
        let waits : (j : ℕ) → j < h.taken → (answer j p input).ending ≡ machine.TicksUsed = λ j lt. ends_as j machine.TicksUsed (h.shows.waits j lt).0 (h.shows.waits j lt).1 in
        (h.taken, (h.within, (record { ends = ends_as h.taken e h.state h.stops; waits = waits }, subst S (moments_are h.taken) h.shows.shown)))

    is_shown_some : (k : ℕ) → k ≤ ticks → Showing S (run_of p input) k → IsShownSome S p input ticks
    is_shown_some k le h = (k, (le, subst S (moments_are k) h.shown))

    pub is_shown : (r : Run) → ShowsUntil S (run_of p input) ticks r → IsShown S p input ticks r
    is_shown (run.Ended status) h = is_shown_whole (machine.Ended status) h
    is_shown (run.Undefined act at) h = is_shown_whole (machine.Undefined act at) h
    is_shown run.TicksUsed (inl h) = subst S (moments_are ticks) h.shown
    is_shown run.TicksUsed (inr h) = absurd (goes_never h.0 h.1.0 h.1.1.0 h.1.1.1)
    is_shown (run.Port fault) h = is_shown_some h.0 h.1.0 h.1.1
    is_shown run.Memory h = is_shown_some h.0 h.1.0 h.1.1

    pub none_shown : S [] → IsShownSome S p input ticks
    none_shown s = (0, (omega arith, s))

pub shown_new : (S : List Store → Type 0) (a b : Bor unit.Program) (input : List ℕ) (ticks : ℕ) (r : Run) → a ≡ b → IsShown S (program_of a.now) input ticks r → IsShown S (program_of b.now) input ticks r
shown_new S a b input ticks r e h = let P : Bor unit.Program → Type 0 = λ b. IsShown S (program_of b.now) input ticks r in subst P e h
