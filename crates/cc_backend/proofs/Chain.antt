-- Each step of the way from a typed program to its file is a simulation, and so is the way.
use Rattle.std.proofs.Common.{◌≡◌, ℕ, zero, suc, ◌+◌, ◌-◌, ◌*◌, ◌<◌, ◌≤◌, List, [], ◌∷◌, ◌++◌, length, map, Option, Some, None, refl, sym, ap, ◌∙◌, subst, arith}
use Rattle.std.proofs.Math.Nat.{le_trans, le-max_left, le-max_right}
use Rattle.std.specs.Prelude.{slice_get, option_map}
use Rattle.std.proofs.lemmas.Option.{slice_get-map}
use Rattle.rv32.specs.Step.{register}
use Rattle.memory_map.specs.MemoryMap.{stack_end}
use Rattle.sim.specs.Runs.{World}
use Rattle.typing_spec.specs.Program as typed
use Rattle.csem.specs.History.{Entry, weight_in, sum_of, greatest_sum, trace_of, active}
use Rattle.csem.specs.Machine as machine
use Rattle.csem.specs.Meaning.{cstep, last_of}
use Rattle.tac_code.specs.Code as tac
use Rattle.tac_code.specs.Run as tac_run
use Rattle.csem.specs.Laws.{Grows}
use Rattle.tac_code.specs.Laws.{ComesOf, HasCalls}
use Rattle.tac_code.specs.Lowered.{GoesOn}
use Rattle.tac_code.proofs.Growing.{run_grows, calls_are_active}
use Rattle.frames_code.specs.Code as flat
use Rattle.frames_code.specs.Run as flat_run
use Rattle.frames_code.specs.Sound.{IsSoundProgram}
use Rattle.frames.specs.Flattened.{HasItsCalls, before, behind}
use Rattle.select_correct.specs.Runs.{StandsWith, slack}
use Rattle.select_correct.proofs.Table.{spent_is_more}
use Rattle.elf_out.specs.Layout.{Parts}
use Rattle.elf_out.specs.Program.{program_image}
use Rattle.tac_code.specs.Sound.{AreBytes}
use Rattle.cc_backend.specs.FlatImages.{IsImageOf}
use Rattle.cc_backend.specs.Runs.{bytes_or_none}
use Rattle.cc_backend.specs.Simulation.{Doing, System, AreWithin, both, step_for_step}
use Rattle.cc_backend.specs.Chain.{StandsBelow, of_program, of_tac, of_plain, of_flat, of_image, anew, into_file, TacSimulatesProgram, FlatSimulatesTac, ImageSimulatesFlat, FlatSimulatesProgram, FileSimulatesProgram}
use Rattle.cc_backend.proofs.Simulation.{compose}
use Rattle.cc_backend.proofs.FlatImages.{image_goes_on, image_ends}
use Rattle.cc_backend.proofs.Known.{AreKnown, Known, run_known}
use Rattle.cc_backend.proofs.Forms.{none_within, frame_within, frames_fit}
use Rattle.cc_backend.proofs.Optimising.{optimised_simulates_flat, simplified_simulates_flat, laid_out_simulates_flat, optimised_form}
use Rattle.cc_backend.proofs.Renumbering.{renumbered_simulates_flat, renumbered_form}

-- ---- sums of weights

now : (weight : ℕ → ℕ) (h : List Entry) → sum_of weight (active h) ≤ greatest_sum weight h
now weight [] = omega arith
now weight (e ∷ h) = le-max_left (sum_of weight (active (e ∷ h))) (greatest_sum weight h)

later : (weight : ℕ → ℕ) (new h : List Entry) → greatest_sum weight h ≤ greatest_sum weight (new ++ h)
later weight [] h = omega arith
later weight (e ∷ new) h = le_trans (later weight new h) (le-max_right (sum_of weight (active (e ∷ (new ++ h)))) (greatest_sum weight (new ++ h)))

grown : (weight : ℕ → ℕ) (h h2 : List Entry) → Grows h h2 → sum_of weight (active h) ≤ greatest_sum weight h2
grown weight h h2 grows = subst (λ x. sum_of weight (active h) ≤ greatest_sum weight x) (sym grows.1) (le_trans (now weight h) (later weight grows.0 h))

-- ---- three-address code

-- the open calls are those of its history
calls_of : (q : tac.Program) (input : List ℕ) (m : ℕ) (t : tac_run.State) → before q input m ≡ tac_run.running t → tac_run.open_calls t ≡ active t.history
calls_of q input m t e = subst HasCalls e (calls_are_active q m input)

module _ (p : typed.Program) (q : tac.Program) (input : List ℕ) where
  -- the trace of a step is a prefix of that of each later one
  leads : (k m : ℕ) (t : tac_run.State) → k ≤ m → before q input k ≡ tac_run.running t → ComesOf (tac_run.running t) (before q input m)
  leads k m t le e =
      let sum : k + (m - k) ≡ m = omega (arith, le) in
      subst (λ j. ComesOf (tac_run.running t) (before q input j)) sum (subst (λ x. ComesOf x (before q input (k + (m - k)))) e (run_grows q k (m - k) (tac_run.start q input)))

  -- where the history after m steps is a part of the history after n ticks
  its_calls : (n m : ℕ) → ((t : tac_run.State) → ComesOf (tac_run.running t) (before q input m) → Grows t.history (last_of (cstep n p input)).history)
      → (calls : List ℕ) → (of_tac q input).Calls m calls → (of_program p input).Calls n calls
  its_calls n m grows calls c = (c.1.history, grows c.1 (leads c.0 m c.1 c.2 c.3), sym (calls_of q input c.0 c.1 c.3) ∙ c.4)

  -- the code goes on after m steps, with the history, the input and the calls of the abstract machine after n ticks
  comes_to : (n m : ℕ) (s : machine.State) (x : Doing) → GoesOn q input m s → s.history ≡ (last_of (cstep n p input)).history
      → trace_of s.history ≡ x.trace → s.input ≡ x.input → active s.history ≡ x.calls
      → (of_tac q input).Goes m x × ((calls : List ℕ) → (of_tac q input).Calls m calls → (of_program p input).Calls n calls)
  comes_to n m s x b last trace left active_calls =
      let t = b.0 in
      let calls : tac_run.open_calls t ≡ x.calls = calls_of q input m t b.1 ∙ (ap active b.2 ∙ active_calls) in
      let done : t.history ≡ (last_of (cstep n p input)).history = b.2 ∙ last in
      let grows : (u : tac_run.State) → ComesOf (tac_run.running u) (before q input m) → Grows u.history (last_of (cstep n p input)).history = λ u h.
      subst (Grows u.history) done (subst (ComesOf (tac_run.running u)) b.1 h) in
      ((t, b.1, ap trace_of b.2 ∙ trace, b.3 ∙ left, calls), its_calls n m grows)

pub tac_simulates_program : TacSimulatesProgram
tac_simulates_program weight limit p q input lowered bytes = record {
  goes_on = λ n x goes fit.
      let b = (lowered.behaves input bytes).goes_on n goes.0 goes.1 in
      let c = comes_to p q input n b.0 goes.0 x b.2 (sym (ap (λ r. (last_of r).history) goes.1)) goes.2 goes.3 goes.4 in
      (b.0, omega (arith, b.1), omega arith, omega (arith, b.3), c.0, c.1);
  halts = λ n x halts fit.
      let b = (lowered.behaves input bytes).stops n halts.0 halts.1 halts.2 halts.3 in
      let c = comes_to p q input n b.0 halts.2 x b.1 (sym (ap (λ r. (last_of r).history) halts.3)) halts.4 halts.5 halts.6 in
      (b.0, omega (arith, b.2), c.0, c.1);
  ends = λ n x ends fit.
      let s = ends.0 in
      let b = (lowered.behaves input bytes).ends n x.status s ends.1 in
      let m = b.0 in
      let over : before q input m ≡ tac_run.ended x.status x.input s.history = b.1 ∙ ap (λ i. tac_run.ended x.status i s.history) ends.3 in
      let done : s.history ≡ (last_of (cstep n p input)).history = sym (ap (λ r. (last_of r).history) ends.1) in
      let grows : (u : tac_run.State) → ComesOf (tac_run.running u) (before q input m) → Grows u.history (last_of (cstep n p input)).history = λ u h.
      subst (Grows u.history) done (subst (ComesOf (tac_run.running u)) b.1 h) in
      (m, omega (arith, b.2), (s.history, over, ends.2), its_calls p q input n m grows);
}

-- ---- flat code

same_calls : (q : tac.Program) (f : flat.Program) (input : List ℕ) (n m : ℕ) → HasItsCalls q f input n m → (calls : List ℕ) → (of_plain f input).Calls m calls → (of_tac q input).Calls n calls
same_calls q f input n m its calls c =
    let d = its c.0 c.1 c.2 c.3 in
    (d.0, d.2.0, d.1, d.2.1, sym d.2.2 ∙ c.4)

pub flat_simulates_tac : FlatSimulatesTac
flat_simulates_tac weight limit q f input flattened bytes = record {
  goes_on = λ n x goes fit.
      let c = (flattened.in_step input bytes).goes_on n goes.0 goes.1 in
      let at = c.2.2 in
      (c.0, omega (arith, c.1), omega arith, omega (arith, c.3), (c.2.0, c.2.1, at.0 ∙ goes.2, at.1 ∙ goes.3, at.2 ∙ goes.4), same_calls q f input n c.0 c.4);
  halts = λ n x goes fit.
      let c = (flattened.in_step input bytes).goes_on n goes.0 goes.1 in
      let at = c.2.2 in
      (c.0, omega (arith, c.3), (c.2.0, c.2.1, at.0 ∙ goes.2, at.1 ∙ goes.3, at.2 ∙ goes.4), same_calls q f input n c.0 c.4);
  ends = λ n x ends fit.
      let c = (flattened.in_step input bytes).ends n x.status x.input ends.0 ends.1 in
      (c.0, omega (arith, c.2), c.1 ∙ ap (flat_run.ended x.status x.input) ends.2, same_calls q f input n c.0 c.3);
}

-- ---- the image

module _ (f : flat.Program) where
  abbrev frames : List ℕ
  frames = map flat.frame_bytes f.functions

  abbrev frame_in : ℕ → ℕ
  frame_in g = bytes_or_none (slice_get frames g)

  pub frame_known : (g : ℕ) (c : Option flat.Function) → slice_get f.functions g ≡ c → g < length f.functions → flat.frame_bytes (flat_run.function_at f g) ≡ frame_in g
  frame_known g None e lt = absurd (none_within f.functions g e lt)
  frame_known g (Some h) e lt =
      let there : slice_get frames g ≡ Some (flat.frame_bytes h) = slice_get-map flat.frame_bytes f.functions g ∙ ap (option_map flat.frame_bytes) e in
      let here : flat.frame_bytes (flat_run.function_at f g) ≡ flat.frame_bytes h = rw e refl in
      here ∙ sym (ap bytes_or_none there)

  frames_sum : (ws : List flat_run.Frame) → AreKnown (length f.functions) ws → flat_run.bytes_of f ws ≡ sum_of frame_in (map (λ w. w.function) ws)
  frames_sum [] known = refl
  frames_sum (w ∷ ws) known =
      ap (λ b. flat.frame_bytes (flat_run.function_at f w.function) + b) (frames_sum ws known.1)
      ∙ ap (λ b. b + sum_of frame_in (map (λ w. w.function) ws)) (frame_known w.function (slice_get f.functions w.function) refl known.0)

  stands_below : (env : ℕ → ℕ) (s : flat_run.State) (w : World) (calls : List ℕ) → AreKnown (length f.functions) (s.frame ∷ s.waiting) → StandsWith f env s w → flat_run.active s ≡ calls → StandsBelow frames calls w
  stands_below env s w calls known stands same =
      let sum : flat_run.bytes_of f (s.frame ∷ s.waiting) ≡ sum_of frame_in calls = frames_sum (s.frame ∷ s.waiting) known ∙ ap (sum_of frame_in) same in
      (stands.aligned, subst (λ b. register w.machine 2 + b ≡ stack_end) sum stands.sp)

  known_at : (sound : IsSoundProgram f) (input : List ℕ) (m : ℕ) (s : flat_run.State) → behind f input m ≡ flat_run.running s → AreKnown (length f.functions) (s.frame ∷ s.waiting)
  known_at sound input m s e = subst (Known f sound) e (run_known f sound m (flat_run.start f input) (sound.has_main, tt))

some_steps : (n a k : ℕ) → n < a * k → 1 ≤ k
some_steps n a zero lt = omega (arith, lt)
some_steps n a (suc k) lt = omega arith

module _ (weight : ℕ → ℕ) (f : flat.Program) (parts : Parts) (input : List ℕ) (image : IsImageOf f parts) (bytes : AreBytes input)
    (each : (g : ℕ) → g < length f.functions → flat.frame_bytes (flat_run.function_at f g) ≤ weight g) where
  abbrev system : System
  system = of_image (frames f) (program_image parts) input

  goes_from : (n : ℕ) (x : Doing) → (of_flat f input).Goes n x → AreWithin weight parts.stack (of_flat f input) n
      → (k : ℕ) × (n < slack f * k) × (k ≤ (of_flat f input).cost n + 6) × system.Goes k x
  goes_from n x goes fit =
      let s = goes.0 in
      let w = image_goes_on f parts input image bytes n s goes.1
      (λ j le. frames_fit weight f image.sound each parts.stack input j (behind f input j) refl (λ u e. fit (flat_run.active u) (j, u, le, e, refl))) in
      let table = spent_is_more f image.sound in
      let below = stands_below f image.assembled.env s w.1 x.calls (known_at f image.sound input n s goes.1) w.5 goes.4 in
      (w.0, w.2, omega (arith, w.3, table.0, table.1 n (flat_run.start f input)), (w.1, w.4, w.5.trace ∙ goes.2, w.5.input ∙ goes.3, below))

pub image_simulates_flat : ImageSimulatesFlat
image_simulates_flat weight f parts input image bytes each = record {
  goes_on = λ n x goes fit.
      let w = goes_from weight f parts input image bytes each n x goes fit in
      (w.0, omega (arith, w.1), some_steps n (slack f) w.0 w.1, w.2, w.3, λ calls none. absurd none);
  halts = λ n x goes fit.
      let w = goes_from weight f parts input image bytes each n x goes fit in
      (w.0, w.2, w.3, λ calls none. absurd none);
  ends = λ n x ends fit.
      let w = image_ends f parts input image bytes n x.status x.input x.trace ends
      (λ j le. frames_fit weight f image.sound each parts.stack input j (behind f input j) refl (λ u e. fit (flat_run.active u) (j, u, le, e, refl))) in
      let table = spent_is_more f image.sound in
      (w.0, omega (arith, w.2, table.0, table.1 n (flat_run.start f input)), (w.1, w.3, w.4, w.5), λ calls none. absurd none);
}

-- ---- the way

pub flat_simulates_program : FlatSimulatesProgram
flat_simulates_program weight limit p f input made bytes =
    let best = both step_for_step step_for_step in
    let laid = both anew best in
    let simple = both step_for_step laid in
    let plain = both step_for_step simple in
    compose step_for_step plain weight limit _ _ _ (tac_simulates_program weight limit p made.code input made.lowered bytes)
    (compose step_for_step simple weight limit _ _ _ (flat_simulates_tac weight limit made.code made.plain input made.flattened bytes)
    (compose step_for_step laid weight limit _ _ _ (simplified_simulates_flat weight limit made.plain made.better.simple input made.better.simplified)
    (compose anew best weight limit _ _ _ (laid_out_simulates_flat weight limit made.better.simple made.better.laid input made.better.laid_out)
    (compose step_for_step step_for_step weight limit _ _ _ (optimised_simulates_flat weight limit made.better.laid made.simpler input made.better.optimised)
    (renumbered_simulates_flat weight limit made.simpler f input made.renumbered)))))

pub file_simulates_program : FileSimulatesProgram
file_simulates_program p f parts input made image bytes =
    let form = renumbered_form made.code made.simpler f (optimised_form made.code made.plain made.simpler made.flattened made.better) made.renumbered in
    compose _ (into_file f) (weight_in p) parts.stack _ _ _ (flat_simulates_program (weight_in p) parts.stack p f input made bytes)
    (image_simulates_flat (weight_in p) f parts input image bytes (frame_within p made.code f made.lowered form))

-- the calls of a moment of the abstract machine weigh no more than its greatest sum
pub calls_weigh_within : (weight : ℕ → ℕ) (p : typed.Program) (input : List ℕ) (limit n : ℕ) → greatest_sum weight (last_of (cstep n p input)).history ≤ limit → AreWithin weight limit (of_program p input) n
calls_weigh_within weight p input limit n small calls c =
    le_trans (subst (λ cs. sum_of weight cs ≤ greatest_sum weight (last_of (cstep n p input)).history) c.2 (grown weight c.0 (last_of (cstep n p input)).history c.1)) small

pub calls_are_within : (p : typed.Program) (input : List ℕ) (limit n : ℕ) → greatest_sum (weight_in p) (last_of (cstep n p input)).history ≤ limit → AreWithin (weight_in p) limit (of_program p input) n
calls_are_within p = calls_weigh_within (weight_in p) p
