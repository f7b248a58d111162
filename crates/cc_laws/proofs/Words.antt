-- The words that calls pass and return, from the history of the abstract machine to the registers of a file's run.
use Rattle.std.proofs.Common.{◌≡◌, ⊎_elim, ℕ, zero, suc, ◌+◌, ◌-◌, ◌*◌, ◌≤◌, ◌<◌, List, [], ◌∷◌, Option, Some, None, Ok, refl, sym, ap, ◌∙◌, subst, arith}
use Rattle.std.proofs.lemmas.Bool.{cases_lt}
use Rattle.std.proofs.lemmas.Bool.Decides.{nat_tests}
use Rattle.std.specs.Prelude.{is_some, slice_get, nat_lt, true, false}
use Rattle.ctypes.specs.declared.types.IntType.{IntType}
use Rattle.rv32.specs.Space.{word_at}
use Rattle.rv32.specs.Step.{register}
use Rattle.loader.specs.File.{file_image}
use Rattle.elf_out.specs.Program.{program_image}
use Rattle.elf_out.proofs.Memory.{written_image}
use Rattle.sim.specs.Runs.{World, Running}
use Rattle.typing_spec.specs.Program.{Function, Program}
use Rattle.csem.specs.History.{Entry, Entered, Left, active, without_innermost}
use Rattle.csem.specs.Laws.{Grows}
use Rattle.csem.specs.Machine.{Ending, Ended, Undefined, TicksUsed, Stops}
use Rattle.csem.specs.Meaning.{cstep, ending_of, last_of}
use Rattle.tac_code.specs.Code as tac_code
use Rattle.tac_code.specs.declared.code.Instruction.{Instruction}
use Rattle.tac_code.specs.declared.code.Instruction.TheVariants as tac_instruction
use Rattle.tac_code.specs.Run as tac
use Rattle.tac_code.specs.Run.{◌>>=◌}
use Rattle.tac_code.specs.Laws.{ComesOf, HasCalls}
use Rattle.tac_code.specs.Lowered.{IsLowered}
use Rattle.tac_code.proofs.Growing.{run_grows, calls_are_active}
use Rattle.lower_correct.specs.Words.{ArePassed, IsReturned, PassesWords, LeavesWord, ReturnsWord}
use Rattle.lower_correct.proofs.History.{calls_pass_words, returns_pass_words}
use Rattle.frames_code.specs.declared.code.Instruction.TheVariants as instruction
use Rattle.frames_code.specs.Costs.{next_of}
use Rattle.frames_code.specs.Run as flat
use Rattle.frames_code.proofs.Results.{result_there}
use Rattle.frames.specs.Flattened.{before, behind, IsAtCall, HasItsWords, HasItsResult}
use Rattle.frames_correct.proofs.Runs.{run_both}
use Rattle.frames_layout.specs.LaidOut.{pace}
use Rattle.select_correct.specs.Convention.{passed, AtEntry, AtReturn, KeepsConvention, IsInCallee, ComesToCall}
use Rattle.cc_backend.specs.Runs.{IsInput}
use Rattle.cc_backend.specs.Made.{IsFileOf}
use Rattle.cc_backend.specs.Words.{IsAsMeant}
use Rattle.cc_backend.proofs.Words.{steps_are_as_meant}
use Rattle.cc_laws.specs.Laws.{IsDefined, HasImage, HasComeTo, CallsAreKept}
use Rattle.cc_laws.specs.Frames.{StaysWithinFrames}
use Rattle.cc_laws.specs.Words.{argument_word, CallsPassWords, FilesPassWords}
use Rattle.cc_laws.proofs.Clock.{run_stops}
use Rattle.cc_laws.proofs.Conventions.{called, convention, fits}
use Rattle.cc_laws.proofs.ByFrames.{fits_within}

-- ---- one step of three-address code

step_on : (q : tac_code.Program) (i : ℕ) (r : tac.Progress) (t : tac.State) → tac.goes_on r (tac.run q i) ≡ tac.running t
    → ((u : tac.State) → tac.run q i u ≡ tac.running t → tac.run q (suc i) u ≡ tac.step q t) → tac.goes_on r (tac.run q (suc i)) ≡ tac.step q t
step_on q i (tac.running u) t e next = next u e
step_on q i (tac.ended status input history) t e next = absurd (let z : ⊥ = cc in z)
step_on q i tac.stuck t e next = absurd (let z : ⊥ = cc in z)

alone : (q : tac_code.Program) (r : tac.Progress) → tac.goes_on r (tac.run q 0) ≡ r
alone q (tac.running u) = refl
alone q (tac.ended status input history) = refl
alone q tac.stuck = refl

same_state : (a b : tac.State) → tac.running a ≡ tac.running b → a ≡ b
same_state a b e = cc

one_more : (q : tac_code.Program) (i : ℕ) (s t : tac.State) → tac.run q i s ≡ tac.running t → tac.run q (suc i) s ≡ tac.step q t
one_more q zero s t e = alone q (tac.step q s) ∙ ap (tac.step q) (same_state s t e)
one_more q (suc i) s t e = step_on q i (tac.step q s) t e (λ u eu. one_more q i u t eu)

step_is : (q : tac_code.Program) (t : tac.State) → tac.step q t ≡ (tac.instruction_at q t >>= tac.act q t)
unfolding tac.step
step_is q t = refl

-- a call ends no run
never_ended : {A : Type 0} (o : Option A) (go : A → tac.Progress) (status : ℕ) (left : List ℕ) (h : List Entry) → ((x : A) → go x ≡ tac.ended status left h → ⊥) → (o >>= go) ≡ tac.ended status left h → ⊥
never_ended None go status left h each e = let z : ⊥ = cc in z
never_ended (Some x) go status left h each e = each x e

no_end : (q : tac_code.Program) (t : tac.State) (f status : ℕ) (left : List ℕ) (h : List Entry) → tac.instruction_at q t ≡ Some (tac_instruction.Call f) → tac.step q t ≡ tac.ended status left h → ⊥
no_end q t f status left h call e =
    never_ended (slice_get q.functions f) _ status left h
    (λ g. never_ended (tac.numbers_in g.parameters g.objects t.temporaries 0) _ status left h
    (λ numbers. never_ended (tac.arrays_in g.parameters t.temporaries 0) _ status left h (λ arrays b. let z : ⊥ = cc in z)))
    (sym (step_is q t ∙ ap (λ o. o >>= tac.act q t) call) ∙ e)

heads : (a b : ℕ) (xs ys : List ℕ) → a ∷ xs ≡ b ∷ ys → a ≡ b
heads a b xs ys e = cc

-- the type of the result of a function that has an instruction
known_result : (q : tac_code.Program) (n i : ℕ) (r : Option IntType) (x : Instruction) → ((g : tac_code.Function) → slice_get q.functions n ≡ Some g → g.result ≡ r)
    → slice_get (tac_code.function_at q n).code i ≡ Some x → (tac_code.function_at q n).result ≡ r
known_result q n i r x = on (slice_get q.functions n)
  where
    on : (o : Option tac_code.Function) → ((g : tac_code.Function) → o ≡ Some g → g.result ≡ r) → slice_get (tac_code.or_no_function o).code i ≡ Some x → (tac_code.or_no_function o).result ≡ r
    on None each e = absurd (let z : ⊥ = cc in z)
    on (Some g) each e = each g refl

-- a word is returned only where there is a result
some_result : (r : Option IntType) (result : Option ℕ) (w : ℕ) → IsReturned r result → result ≡ Some w → is_some r ≡ true
some_result None result w none e = absurd (let no : None ≡ Some w = sym none ∙ e in let z : ⊥ = cc in z)
some_result (Some t) result w fits e = refl

-- ---- what three-address code has done, the abstract machine has done

module _ (p : Program) (q : tac_code.Program) (lowered : IsLowered p q) (input : List ℕ) (bytes : IsInput input) (fine : (n : ℕ) → IsDefined (ending_of (cstep n p input))) where
  -- a state, or the end, of three-address code, as far as the abstract machine comes within n ticks
  abbrev pub HasDone : tac.Progress → Type 0
  HasDone (tac.running u) = (n : ℕ) × HasComeTo p input n u.history
  HasDone (tac.ended status left history) = (n : ℕ) × HasComeTo p input n history
  HasDone tac.stuck = ⊥

  -- before a state that the abstract machine has reached
  before_running : (n : ℕ) (r : tac.Progress) (t : tac.State) → t.history ≡ (last_of (cstep n p input)).history → ComesOf r (tac.running t) → HasDone r
  before_running n (tac.running u) t e c = (n, subst (Grows u.history) e c)
  before_running n (tac.ended status left history) t e c = absurd (let z : ⊥ = cc in z)
  before_running n tac.stuck t e c = absurd (let z : ⊥ = cc in z)

  before_end : (n status : ℕ) (left : List ℕ) (h : List Entry) (r : tac.Progress) → h ≡ (last_of (cstep n p input)).history → ComesOf r (tac.ended status left h) → HasDone r
  before_end n status left h (tac.running u) e c = (n, subst (Grows u.history) e c)
  before_end n status left h (tac.ended status2 left2 h2) e c =
      let same : h ≡ h2 = same_history status left h status2 left2 h2 c in
      (n, ([], sym e ∙ same))
    where
      same_history : (s1 : ℕ) (l1 : List ℕ) (h1 : List Entry) (s2 : ℕ) (l2 : List ℕ) (h2 : List Entry) → tac.ended s1 l1 h1 ≡ tac.ended s2 l2 h2 → h1 ≡ h2
      same_history s1 l1 h1 s2 l2 h2 e = cc
  before_end n status left h tac.stuck e c = absurd (let z : ⊥ = cc in z)

  comes_of : (i m : ℕ) → i ≤ m → ComesOf (before q input i) (before q input m)
  comes_of i m le = let sum : i + (m - i) ≡ m = omega (arith, le) in subst (λ j. ComesOf (before q input i) (before q input j)) sum (run_grows q i (m - i) (tac.start q input))

  not_before : (i m status : ℕ) (left : List ℕ) (h : List Entry) (t : tac.State) → before q input i ≡ tac.running t → before q input m ≡ tac.ended status left h → m ≤ i → ⊥
  not_before i m status left h t ei em le =
      let c = comes_of m i le in
      let d : ComesOf (tac.ended status left h) (before q input i) = subst (λ x. ComesOf x (before q input i)) em c in
      let z : ⊥ = cc in z

  at_ending : (i : ℕ) (t : tac.State) → before q input i ≡ tac.running t → (e : Ending) → IsDefined e → cstep (suc i) p input ≡ Stops e (last_of (cstep (suc i) p input)) → HasDone (before q input (suc i))
  at_ending i t ei (Ended status) ok stops =
      let b = (lowered.behaves input bytes).ends (suc i) status (last_of (cstep (suc i) p input)) stops in
      ⊎_elim
      (λ lt. before_end (suc i) status (last_of (cstep (suc i) p input)).input (last_of (cstep (suc i) p input)).history (before q input (suc i)) refl
      (subst (ComesOf (before q input (suc i))) b.1 (comes_of (suc i) b.0 (omega (arith, lt)))))
      (λ ge. absurd (not_before i b.0 status (last_of (cstep (suc i) p input)).input (last_of (cstep (suc i) p input)).history t ei b.1 (omega (arith, ge))))
      (cases_lt i b.0)
  at_ending i t ei (Undefined act at) ok stops = absurd ok
  at_ending i t ei TicksUsed ok stops =
      let b = (lowered.behaves input bytes).goes_on (suc i) (last_of (cstep (suc i) p input)) stops in
      before_running (suc i) (before q input (suc i)) b.2.0 b.2.2 (subst (ComesOf (before q input (suc i))) b.2.1 (comes_of (suc i) b.0 (omega (arith, b.1))))

  pub step_has_done : (i : ℕ) (t : tac.State) → before q input i ≡ tac.running t → HasDone (tac.step q t)
  step_has_done i t e =
      subst HasDone (one_more q i (tac.start q input) t e) (at_ending i t e (ending_of (cstep (suc i) p input)) (fine (suc i)) (run_stops (suc i) p input))

  calls_of : (i : ℕ) (t : tac.State) → before q input i ≡ tac.running t → tac.open_calls t ≡ active t.history
  calls_of i t e = subst HasCalls e (calls_are_active q i input)

-- ---- a point of flat code's run at which a call begins or ends

module _ (stack : ℕ) (p : Program) (file frames : List ℕ) (made : IsFileOf stack p file frames) (input : List ℕ) (bytes : IsInput input)
    (defined : (n : ℕ) → IsDefined (ending_of (cstep n p input))) (kept : CallsAreKept made (program_image made.parts) input) where
  abbrev q : tac_code.Program
  q = made.code_is.code

  abbrev lowered : IsLowered p q
  lowered = made.code_is.lowered

  abbrev Point : flat.State → Type 0
  Point s = (i : ℕ) × (t : tac.State) × (before q input i ≡ tac.running t) × (flat.active s ≡ tac.open_calls t) × IsAtCall q made.code t s

  point_in : (history : List Entry) (s : flat.State) → IsAsMeant q made.code input history s → Point s
  point_in history s m = (m.step, m.state, m.is, m.calls, m.at_call)

  -- where the abstract machine has used n ticks, which are enough for k steps
  point_at : (n k : ℕ) (s : flat.State) → pace * k + 1 ≤ n → behind made.code input k ≡ flat.running s → (e : Ending) → IsDefined e → cstep n p input ≡ Stops e (last_of (cstep n p input)) → Point s
  point_at n k s le e (Ended status) ok stops =
      point_in (last_of (cstep n p input)).history s ((steps_are_as_meant p made.code input made.code_is bytes).1 n status (last_of (cstep n p input)) stops k s e)
  point_at n k s le e (Undefined act at) ok stops = absurd ok
  point_at n k s le e TicksUsed ok stops =
      point_in (last_of (cstep n p input)).history s ((steps_are_as_meant p made.code input made.code_is bytes).0 n (last_of (cstep n p input)) stops k s le e)

  point : (k : ℕ) (s : flat.State) → behind made.code input k ≡ flat.running s → Point s
  point k s e =
      let n : ℕ = pace * k + 1 in
      point_at n k s (omega arith) e (ending_of (cstep n p input)) (defined n) (run_stops n p input)

  -- of a call: what the history has, and what the flat code's temporaries have
  pub record CallsWith (f : ℕ) (g : Function) (s : flat.State) : Type 0 where
    pub ticks : ℕ
    pub earlier : List Entry
    pub words : List (Option ℕ)
    pub begins : HasComeTo p input ticks (Entered f words ∷ earlier)
    pub calls_are : active (Entered f words ∷ earlier) ≡ f ∷ flat.active s
    pub passed : ArePassed g.type.parameters words
    pub given : (k w : ℕ) → slice_get words k ≡ Some (Some w) → s.temporaries k ≡ Some (flat.word w)

  call_goes : (f : ℕ) (g : Function) (s : flat.State) (i : ℕ) (t : tac.State) → before q input i ≡ tac.running t → flat.active s ≡ tac.open_calls t
      → tac.instruction_at q t ≡ Some (tac_instruction.Call f) → HasItsWords s t → slice_get p.functions f ≡ Some g
      → (r : tac.Progress) → tac.step q t ≡ r → HasDone p q lowered input bytes defined r → CallsWith f g s
  call_goes f g s i t at same call its known (tac.running u) e done =
      let w = calls_pass_words p q made.well_typed lowered t u f g call e known in
      record {
        ticks = done.0;
        earlier = t.history;
        words = w.0;
        begins = subst (HasComeTo p input done.0) w.1 done.1;
        calls_are = ap (λ l. f ∷ l) (sym (calls_of p q lowered input bytes defined i t at) ∙ sym same);
        passed = w.2;
        given = λ k x ex. its k x (w.3 k x ex);
      }
  call_goes f g s i t at same call its known (tac.ended status left history) e done = absurd (no_end q t f status left history call e)
  call_goes f g s i t at same call its known tac.stuck e done = absurd done

  calls_with : (n f : ℕ) (g : Function) (s : flat.State) → ComesToCall made.code input n f s → slice_get p.functions f ≡ Some g → CallsWith f g s
  calls_with n f g s c known =
      let x = point n s c.runs in
      let y = x.4.calls f c.next in
      call_goes f g s x.0 x.1 x.2 x.3 y.0 y.1 known (tac.step q x.1) refl (step_has_done p q lowered input bytes defined x.0 x.1 x.2)

  -- of a return
  pub record ReturnsWith (g : Function) (s : flat.State) : Type 0 where
    pub ticks : ℕ
    pub earlier : List Entry
    pub result : Option ℕ
    pub ends : HasComeTo p input ticks (Left result ∷ earlier)
    pub calls_are : active earlier ≡ flat.active s
    pub returned : IsReturned g.type.result result
    pub given : (x : ℕ) → result ≡ Some x → s.temporaries 0 ≡ Some (flat.word x)

  -- the function of three-address code has a result of the same type
  abbrev HasResultOf : tac.State → Function → Type 0
  HasResultOf t g = (tac_code.function_at q t.call.function).result ≡ g.type.result

  left_with : (g : Function) (s : flat.State) (i : ℕ) (t : tac.State) (n : ℕ) (h : List Entry) → before q input i ≡ tac.running t → flat.active s ≡ tac.open_calls t → HasResultOf t g → HasItsResult q made.code s t
      → HasComeTo p input n h → LeavesWord g t h → ReturnsWith g s
  left_with g s i t n h at same type its done w = record {
    ticks = n;
    earlier = t.history;
    result = w.0;
    ends = subst (HasComeTo p input n) w.1 done;
    calls_are = sym (calls_of p q lowered input bytes defined i t at) ∙ sym same;
    returned = w.2;
    given = λ x ex. result_there made.code s (flat.word x) (its (ap is_some type ∙ some_result g.type.result w.0 x w.2 ex) x (w.3 x ex));
  }

  return_goes : (g : Function) (s : flat.State) (i : ℕ) (t : tac.State) → before q input i ≡ tac.running t → flat.active s ≡ tac.open_calls t → HasResultOf t g → HasItsResult q made.code s t
      → (r : tac.Progress) → HasDone p q lowered input bytes defined r → ReturnsWord g t r → ReturnsWith g s
  return_goes g s i t at same type its (tac.running u) done w = left_with g s i t done.0 u.history at same type its done.1 w
  return_goes g s i t at same type its (tac.ended status left history) done w = left_with g s i t done.0 history at same type its done.1 w
  return_goes g s i t at same type its tac.stuck done w = absurd done

  returns_with : (k f : ℕ) (g : Function) (s : flat.State) → behind made.code input k ≡ flat.running s → next_of made.code s ≡ Some instruction.Return → s.frame.function ≡ f
      → slice_get p.functions f ≡ Some g → ReturnsWith g s
  returns_with k f g s e next own known =
      let x = point k s e in
      let y = x.4.returns next in
      let function : x.1.call.function ≡ f = heads x.1.call.function s.frame.function _ _ (sym x.3) ∙ own in
      let there : slice_get p.functions x.1.call.function ≡ Some g = ap (slice_get p.functions) function ∙ known in
      let type : HasResultOf x.1 g = known_result q x.1.call.function x.1.call.at g.type.result tac_instruction.Return (λ h e. (lowered.each x.1.call.function g h there e).result) y.0 in
      return_goes g s x.0 x.1 x.2 x.3 type y.1 (tac.step q x.1) (step_has_done p q lowered input bytes defined x.0 x.1 x.2)
      (returns_pass_words p q lowered x.1 g y.0 there)

  -- ---- on the machine

  lies : (data_at entry back : ℕ) (s : flat.State) (f : ℕ) (v : World) → AtEntry data_at entry back (flat.entered s f) v → (k x : ℕ) → s.temporaries k ≡ Some (flat.word x) → argument_word v k ≡ x
  lies data_at entry back s f v at k x e =
      ⊎_elim
      (λ lt.
      let low : nat_lt k 8 ≡ true = grind (arith, nat_tests) in
      let there : flat.below_eight s.temporaries k ≡ Some (flat.word x) = rw low e in
      rw low (at.registers k (flat.word x) there).1)
      (λ ge.
      let high : nat_lt k 8 ≡ false = grind (arith, nat_tests) in
      let sum : 8 + (k - 8) ≡ k = omega (arith, ge) in
      let there : flat.from_eight s.temporaries k ≡ Some (flat.word x) = rw high e in
      rw high (at.stack (k - 8) (flat.word x) (ap (flat.from_eight s.temporaries) sum ∙ there)))
      (cases_lt k 8)

  reached : (n f m : ℕ) (s t : flat.State) → ComesToCall made.code input n f s → IsInCallee made.code (flat.entered s f) m t → behind made.code input (n + suc m) ≡ flat.running t
  reached n f m s t c inside =
      run_both made.code n (suc m) (flat.start made.code input)
      ∙ (ap (λ x. flat.goes_on x (flat.run made.code (suc m))) c.runs ∙ (ap (λ x. flat.goes_on x (flat.run made.code m)) (called made.code s f c.next) ∙ inside.runs))

  pub passes : CallsPassWords p made (program_image made.parts) input
  passes n f s g c known =
      let its = kept n f s c in
      let w = calls_with n f g s c known in
      record {
        k = its.k;
        v = its.v;
        runs = its.runs;
        pc = its.enters.pc;
        ra = its.enters.ra;
        arguments = record {
          ticks = w.ticks;
          earlier = w.earlier;
          words = w.words;
          begins = w.begins;
          calls_are = w.calls_are;
          passed = w.passed;
          lie = λ k x ex. lies _ _ _ s f its.v its.enters k x (w.given k x ex);
        };
        returns = λ m t inside next.
            let out = its.leaves m t tt inside next in
            let own : t.frame.function ≡ f = heads t.frame.function f _ _ inside.own in
            let r = returns_with (n + suc m) f g t (reached n f m s t c inside) next own known in (
              out.0,
              out.1,
              out.2,
              out.3.pc,
              record {
                ticks = r.ticks;
                earlier = r.earlier;
                result = r.result;
                ends = r.ends;
                calls_are = r.calls_are;
                returned = r.returned;
                in_a0 = λ x ex. out.3.result (flat.word x) (r.given x ex);
              },
            );
      }

pub files_pass_words : FilesPassWords
files_pass_words stack p file frames made =
    let image = program_image made.parts in (
      image,
      subst (λ f. file_image f ≡ Ok image) (sym made.file_is) (written_image made.parts made.image_is.size made.image_is.stack.2),
      λ input bytes fine.
          passes stack p file frames made input bytes (λ n. (fine n).0) (convention stack p file frames made input bytes (fits stack p file frames made input bytes fine)).0,
    )

-- if the frames of the active calls are within the stack
pub files_pass_words_within_frames : (stack : ℕ) (p : Program) (file frames : List ℕ) (made : IsFileOf stack p file frames)
    → HasImage file (λ image. (input : List ℕ) → IsInput input → StaysWithinFrames stack frames p input → CallsPassWords p made image input)
files_pass_words_within_frames stack p file frames made =
    let image = program_image made.parts in (
      image,
      subst (λ f. file_image f ≡ Ok image) (sym made.file_is) (written_image made.parts made.image_is.size made.image_is.stack.2),
      λ input bytes fine.
          passes stack p file frames made input bytes (λ n. (fine n).0) (convention stack p file frames made input bytes (fits_within stack p file frames made input bytes fine)).0,
    )
