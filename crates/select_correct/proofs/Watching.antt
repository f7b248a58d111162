-- Each call within a run keeps the stack pointer and s0 to s11: it is the call of which one speaks.
use Rattle.std.proofs.Common.{◌≡◌, ℕ, zero, suc, ◌+◌, ◌<◌, ◌≤◌, List, [], ◌∷◌, Some, refl, sym, ◌∙◌, subst, arith}
use Rattle.rv32.specs.Space.{word_at}
use Rattle.frames_code.specs.declared.code.Instruction.TheVariants as instruction
use Rattle.frames_code.specs.Code.{Function, frame_bytes}
use Rattle.frames_code.specs.Costs.{next_of}
use Rattle.frames_code.specs.Run.{Value, word, reference, Values, Bytes, Frame, State, Progress, running, ended, stuck, entered, function_at, bytes_of, run}
use Rattle.select_exec.specs.Light.{Light, Go, Done, Fell, Comes, light_run}
use Rattle.select_exec.proofs.Steps.{comes_now, comes_then}
use Rattle.select.specs.Program.{calls_are_near}
use Rattle.select.specs.Selected.{return_home}
use Rattle.select_correct.specs.Matches.{Ground, Ready, FrameHolds, Waits, Matched, Matches, HasRoom, IsBelow, address, file_of, file_below, return_at, shown}
use Rattle.select_correct.specs.Costs.{least_spent, opening_cost, row, call_cost, most_spent}
use Rattle.select_correct.specs.Laws.{Anything, AreBytes}
use Rattle.select_correct.specs.Runs.{IsWithin, IsBack, EachCallKeeps}
use Rattle.select_correct.proofs.Fits.{frame_room}
use Rattle.select_correct.proofs.Frames.{sum_is}
use Rattle.select_correct.proofs.Calls.{at_entry, calls_to, opens, leaves}
use Rattle.select_correct.proofs.Steps.{steps}

-- one speaks of the call that begins there
abbrev watching : Ground → ℕ → ℕ → (ℕ → ℕ) → Ground
watching G sp ra file = record G { watch_sp = sp; watch_ra = ra; watch_file = file }

module _ (G : Ground) (sp ra : ℕ) (file : ℕ → ℕ) where
  abbrev W : Ground
  W = watching G sp ra file

  ready_watched : Ready G → Ready W
  ready_watched q = record {
    sound = q.sound;
    aligned = q.aligned;
    stands = q.stands;
    calls = q.calls;
    entries = q.entries;
    entry_aligned = q.entry_aligned;
    stack_read = q.stack_read;
    stack_written = q.stack_written;
    data_read = q.data_read;
    data_written = q.data_written;
    data_aligned = q.data_aligned;
    data_below = q.data_below;
    floor_below = q.floor_below;
    top = q.top;
    return_aligned = q.return_aligned;
    return_small = q.return_small;
  }

  frame_watched : (f : Function) (cells : Values) (area : Bytes) (b : ℕ → ℕ) (at : ℕ) (s : ℕ → ℕ) → FrameHolds G f cells area b at s → FrameHolds W f cells area b at s
  frame_watched f cells area b at s h = record { aligned = h.aligned; small = h.small; cells = h.cells; area = h.area }

  -- the calls above it are others
  waits_watched : (ws : List Frame) (b s : ℕ → ℕ) (base to : ℕ) → sp < base → Waits G ws b s base to → Waits W ws b s base to
  waits_watched [] b s base to lt st = st
  waits_watched (w ∷ ws) b s base to lt st =
      let f = function_at G.program w.function in (
        record { at_is = st.0.at_is; aligned = st.0.aligned; small = st.0.small; calls = st.0.calls; seen = λ x. absurd (omega (arith, x, lt)) },
        frame_watched f w.cells w.area b base s st.1,
        waits_watched ws b (file_below f b base s) (base + frame_bytes f) (word_at b (base + return_home f)) (omega (arith, lt)) st.2,
      )

  matched_watched : (s : State) (r : ℕ → ℕ) (at : ℕ) (b : ℕ → ℕ) → (m : Matched G s r at b) → m.sp ≡ sp → Matched W s r at b
  matched_watched s r at b m e =
      let f = function_at G.program s.frame.function in
      record {
        sp = m.sp;
        at_is = m.at_is;
        sp_is = m.sp_is;
        gp_is = m.gp_is;
        low = m.low;
        bytes = m.bytes;
        frame = frame_watched f s.frame.cells s.frame.area b m.sp (file_of r) m.frame;
        temporaries = m.temporaries;
        arguments = m.arguments;
        statics = m.statics;
        waits = waits_watched s.waiting b (file_below f b m.sp (file_of r)) (m.sp + frame_bytes f) (return_at f b m.sp (r 1)) (omega (arith, e, frame_room f)) m.waits;
      }

-- a return to the call of which one speaks
module _ (G : Ground) (s : State) (r b : ℕ → ℕ) (ready : Ready G) (m : Matched G s r (address G s.frame.function s.frame.at) b) where
  abbrev base : ℕ
  base = m.sp + frame_bytes (function_at G.program s.frame.function)

  abbrev back_to : ℕ
  back_to = return_at (function_at G.program s.frame.function) b m.sp (r 1)

  abbrev below : ℕ → ℕ
  below = file_below (function_at G.program s.frame.function) b m.sp (file_of r)

  comes_back : (r0 : ℕ → ℕ) → G.watch_sp ≡ r0 2 → ((j : ℕ) → G.watch_file j ≡ file_of r0 j) → (ws : List Frame) → Waits G ws b below base back_to → base ≡ G.watch_sp → 0 < bytes_of G.program ws → next_of G.program s ≡ Some instruction.Return
      → Comes G.machine Anything 1 (row (function_at G.program s.frame.function) instruction.Return) (Go r (address G s.frame.function s.frame.at) b s.input s.trace) (IsBack G r0 s G.watch_ra)
  comes_back r0 e2 ef [] st eb some e = absurd (omega (arith, some))
  comes_back r0 e2 ef (w ∷ ws) st eb some e =
      let q = st.0.seen eb in
      leaves G s r b ready m (IsBack G r0 s G.watch_ra) e st.0.aligned st.0.small (λ r2 es es12 e10 e3.
      comes_now G.machine Anything 0 _ (IsBack G r0 s G.watch_ra) tt (q.0, es ∙ (eb ∙ e2), λ j. es12 j ∙ (q.1 j ∙ ef j), λ v h. e10 ∙ (m.temporaries 0 v h).2, refl, refl))

module _ (G : Ground) (ready : Ready G) where
  returns_back : (r0 : ℕ → ℕ) → G.watch_sp ≡ r0 2 → ((j : ℕ) → G.watch_file j ≡ file_of r0 j) → (t : State) → bytes_of G.program t.waiting + G.watch_sp ≡ G.sp → 0 < bytes_of G.program t.waiting → next_of G.program t ≡ Some instruction.Return → (m : Light) → Matches G (running t) m
      → Comes G.machine Anything 1 (row (function_at G.program t.frame.function) instruction.Return) m (IsBack G r0 t G.watch_ra)
  returns_back r0 e2 ef t sum some e (Go r at b i h) q =
      let R : Light → Type 0 = λ x. Comes G.machine Anything 1 (row (function_at G.program t.frame.function) instruction.Return) x (IsBack G r0 t G.watch_ra) in
      let m = subst (λ x. Matched G t r x b) q.0.at_is q.0 in
      let there = address G t.frame.function t.frame.at in
      let whole = sum_is G ready t r there b m in
      let c : R (Go r there b t.input t.trace) = comes_back G t r b ready m r0 e2 ef t.waiting m.waits (omega (arith, whole, sum)) some e in
      subst (λ x. R (Go r x b i h)) (sym q.0.at_is) (subst (λ x. R (Go r there b x h)) (sym q.1) (subst (λ x. R (Go r there b t.input x)) (sym q.2) c))
  returns_back r0 e2 ef t sum some e (Done x h) q = absurd q
  returns_back r0 e2 ef t sum some e (Fell h) q = absurd q

-- within the call is below it
under : (G : Ground) (s : State) (x : Progress) → G.watch_sp + bytes_of G.program (s.frame ∷ s.waiting) ≡ G.sp → IsWithin G.program s x → IsBelow G x
under G s (running t) sum lt = omega (arith, sum, lt)
under G s (ended status input trace) sum lt = tt
under G s stuck sum lt = tt

-- of whatever call one speaks
shown_same : (G : Ground) (sp ra : ℕ) (file : ℕ → ℕ) (v : Value) → shown (watching G sp ra file) v ≡ shown G v
shown_same G sp ra file (word w) = refl
shown_same G sp ra file (reference zero o) = refl
shown_same G sp ra file (reference (suc l) o) = refl

back_same : (G : Ground) (sp ra : ℕ) (file r : ℕ → ℕ) (t : State) (to : ℕ) (m : Light) → IsBack (watching G sp ra file) r t to m → IsBack G r t to m
back_same G sp ra file r t to (Go r2 at b i h) q = (q.0, q.1, q.2, λ v e. q.3 v e ∙ shown_same G sp ra file v, q.4, q.5)
back_same G sp ra file r t to (Done x h) q = q
back_same G sp ra file r t to (Fell h) q = q

-- from the entry of the function that is called
pub each_entry_keeps : (G : Ground) (s t : State) (f n : ℕ) (r b : ℕ → ℕ) (ready : Ready G) (m : Matched G s r (address G s.frame.function s.frame.at) b) → AreBytes s.input
    → next_of G.program s ≡ Some (instruction.Call f) → run G.program n (entered s f) ≡ running t
    → next_of G.program t ≡ Some instruction.Return → bytes_of G.program t.waiting ≡ bytes_of G.program (s.frame ∷ s.waiting)
    → ((k : ℕ) → k ≤ n → HasRoom G (run G.program k (entered s f))) → ((k : ℕ) → k ≤ n → IsWithin G.program s (run G.program k (entered s f)))
    → Comes G.machine Anything 1 (opening_cost (function_at G.program f) + most_spent G.program n (entered s f) + row (function_at G.program t.frame.function) instruction.Return) (at_entry G s r b ready m f)
    (IsBack G r t (address G s.frame.function (s.frame.at + 1)))
each_entry_keeps G s t f n r b ready m bytes e over et same rooms within =
    let p = G.program in
    let here = address G s.frame.function s.frame.at in
    let to = address G s.frame.function (s.frame.at + 1) in
    let mine = function_at p s.frame.function in
    let H = watching G m.sp to (file_of r) in
    let hr = ready_watched G m.sp to (file_of r) ready in
    let hm = matched_watched G m.sp to (file_of r) s r here b m refl in
    let sum = sum_is G ready s r here b m in
    let s1 = entered s f in
    let opening = opening_cost (function_at p f) in
    let leaving = row (function_at p t.frame.function) instruction.Return in
    let begin = at_entry G s r b ready m f in
    let one : Comes H.machine Anything 1 opening begin (Matches H (running s1)) = opens H s r b hr hm f (λ x. (refl, λ j. refl)) e (rooms 0 (omega arith)) in
    let two : Comes H.machine Anything (1 + least_spent p n s1) (opening + most_spent p n s1) begin (Matches H (run p n s1)) =
    comes_then H.machine Anything opening (most_spent p n s1) begin (Matches H (running s1)) (Matches H (run p n s1)) one
    (λ m2 q. steps H hr n s1 m2 q bytes rooms (λ k lt. under H s (run p k s1) (omega (arith, sum)) (within k (omega (arith, lt))))) in
    let three : Comes H.machine Anything (1 + least_spent p n s1 + 1) (opening + most_spent p n s1 + leaving) begin (IsBack H r t to) =
    comes_then H.machine Anything (opening + most_spent p n s1) leaving begin (Matches H (run p n s1)) (IsBack H r t to) two
    (λ m2 q. returns_back H hr r (sym m.sp_is) (λ j. refl) t (omega (arith, sum, same)) (omega (arith, same, frame_room mine)) et m2 (subst (λ x. Matches H x m2) over q)) in
    record { j = three.j; some = omega (arith, three.some); within = three.within; kept = three.kept; good = back_same G m.sp to (file_of r) r t to (light_run G.machine three.j begin) three.good }

pub each_call_keeps : EachCallKeeps
each_call_keeps G s t f n r b ready m bytes e over et same rooms within =
    let p = G.program in
    let here = address G s.frame.function s.frame.at in
    let to = address G s.frame.function (s.frame.at + 1) in
    let more = opening_cost (function_at p f) + most_spent p n (entered s f) + row (function_at p t.frame.function) instruction.Return in
    let begin = Go r here b s.input s.trace in
    let P : Light → Type 0 = λ x. x ≡ at_entry G s r b ready m f in
    let c : Comes G.machine Anything (1 + 1) (call_cost (calls_are_near G.program) + more) begin (IsBack G r t to) =
    comes_then G.machine Anything (call_cost (calls_are_near G.program)) more begin P (IsBack G r t to) (calls_to G s r b ready m f e)
    (λ x ex. subst (λ y. Comes G.machine Anything 1 more y (IsBack G r t to)) (sym ex) (each_entry_keeps G s t f n r b ready m bytes e over et same rooms within)) in
    record { j = c.j; some = omega (arith, c.some); within = omega (arith, c.within); kept = c.kept; good = c.good }
