-- The new code runs as the old, step by step, where a step of the new code stands for one of the old code and those that only lead on.
use Rattle.std.proofs.Common.{◌≡◌, ◌≤◌, ◌⊎◌, inl, inr, ⊎_elim, ℕ, zero, suc, ◌+◌, ◌-◌, ◌*◌, List, [], ◌∷◌, map, Option, Some, None, Bool, true, false, refl, sym, ap, ◌∙◌, subst, arith}
use Rattle.std.specs.Prelude.{slice_get}
use Rattle.std.proofs.lemmas.Bool.{cases_lt}
use Rattle.csem_events.specs.Events.{Event}
use Rattle.frames_code.specs.declared.code.Instruction.{Instruction}
use Rattle.frames_code.specs.declared.code.Instruction.TheVariants as instruction
use Rattle.frames_code.specs.Code.{Program}
use Rattle.frames_code.specs.Costs.{cost_if, cost_on, next_of, spent}
use Rattle.frames_code.specs.Run.{Value, Values, Frame, State, Progress, running, ended, stuck, act, step, run, goes_on, result_of, function_at, active, ◌>>=◌}
use Rattle.frames_opt.specs.Simplified.{DoesTheSame, IsDefined, HasItsValues, HasItsResult, IsAtCall}
use Rattle.frames_reach.proofs.Acting.{result_same}
use Rattle.frames_layout.specs.layer.Plans.{owed}
use Rattle.frames_layout.specs.LaidOut.{pace, IsRunning, HasDone, HasComeFrom}
use Rattle.frames_layout.proofs.Moving.{over, Waits, IsStraight, same_some}
use Rattle.frames_layout.proofs.Walking.{at_place}
use Rattle.frames_layout.proofs.Stepping.{Back, IsLaid, Stands, Goes, Alike, Steps, step_both, Fits}
use Rattle.frames_layout.proofs.Fitting.{straight, jumps, inserted, branches, calls, exits, returns}

same_running : (s t : State) → running s ≡ running t → s ≡ t
same_running s t e = cc

run_split : (p : Program) (j k : ℕ) (s : State) → run p (j + k) s ≡ goes_on (run p j s) (run p k)
run_split p zero k s = ap (λ n. run p n s) (let e : 0 + k ≡ k = omega arith in e)
run_split p (suc j) k s = ap (λ n. run p n s) (let e : suc j + k ≡ suc (j + k) = omega arith in e) ∙ on (step p s) (run_split p j k)
  where
    on : (x : Progress) → ((u : State) → run p (j + k) u ≡ goes_on (run p j u) (run p k)) → goes_on x (run p (j + k)) ≡ goes_on (goes_on x (run p j)) (run p k)
    on (running u) more = more u
    on (ended status input trace) more = refl
    on stuck more = refl

spent_split : (p : Program) (j k : ℕ) (s u : State) → run p j s ≡ running u → spent p (j + k) s ≡ spent p j s + spent p k u
spent_split p zero k s u e = ap (λ n. spent p n s) (let h : 0 + k ≡ k = omega arith in h) ∙ ap (spent p k) (same_running s u e) ∙ (let h : spent p k u ≡ 0 + spent p k u = omega arith in h)
spent_split p (suc j) k s u e =
    ap (λ n. spent p n s) (let h : suc j + k ≡ suc (j + k) = omega arith in h)
    ∙ (ap (λ m. cost_if (next_of p s) + m) (on (step p s) e (λ v. spent_split p j k v u))
    ∙ (let h : cost_if (next_of p s) + (cost_on (step p s) (spent p j) + spent p k u) ≡ cost_if (next_of p s) + cost_on (step p s) (spent p j) + spent p k u = omega arith in h))
  where
    on : (x : Progress) → goes_on x (run p j) ≡ running u → ((v : State) → run p j v ≡ running u → spent p (j + k) v ≡ spent p j v + spent p k u) → cost_on x (spent p (j + k)) ≡ cost_on x (spent p j) + spent p k u
    on (running v) h more = more v h
    on (ended status input trace) h more = absurd (let z : ⊥ = cc in z)
    on stuck h more = absurd (let z : ⊥ = cc in z)

active_alike : (Q : ℕ → ℕ → ℕ → Type 0) (fs gs : List Frame) → Waits Q fs gs → map (λ (f : Frame). f.function) gs ≡ map (λ (f : Frame). f.function) fs
active_alike Q [] [] w = refl
active_alike Q [] (g ∷ gs) w = absurd w
active_alike Q (f ∷ fs) [] w = absurd w
active_alike Q (f ∷ fs) (g ∷ gs) w =
    ap (λ (h : Frame). h.function ∷ map (λ (f : Frame). f.function) gs) w.0 ∙ ap (λ (ns : List ℕ). f.function ∷ ns) (active_alike Q fs gs w.1.1)

module _ (p q : Program) (At : ℕ → ℕ → ℕ → Type 0) (owes : ℕ → ℕ → Bool) (laid : IsLaid p q At owes) where
  abbrev pub Good : State → ℕ → Values → List Frame → Type 0
  Good = Stands p q At owes

  active_same : (s : State) (j : ℕ) (a : Values) (ws : List Frame) → Waits (Back p q At owes) s.waiting ws → active (over j a ws s) ≡ active s
  active_same s j a ws w = ap (λ (ns : List ℕ). s.frame.function ∷ ns) (active_alike (Back p q At owes) s.waiting ws w)

  step_none : (s : State) → next_of p s ≡ None → step p s ≡ stuck
  unfolding step
  step_none s e = ap (λ o. o >>= act p s) e

  -- ---- forward

  abbrev pub Follows : ℕ → Type 0
  Follows n = (s : State) (j : ℕ) (a : Values) (ws : List Frame) → Good s j a ws → IsDefined (run p n s) → HasDone p q n (owed (owes s.frame.function j)) s (over j a ws s)

  started : (s : State) (j : ℕ) (a : Values) (ws : List Frame) → Good s j a ws → HasDone p q 0 (owed (owes s.frame.function j)) s (over j a ws s)
  started s j a ws good = record {
    steps = 0;
    same = (refl, refl, active_same s j a ws good.waits);
    fast = λ r. omega arith;
    cheap = omega arith;
    calls = λ i v le e. on i v le e;
  }
    where
      on : (i : ℕ) (v : State) → i ≤ 0 → run q i (over j a ws s) ≡ running v → (h : ℕ) × ((w : State) × ((h ≤ 0) × ((run p h s ≡ running w) × (active v ≡ active w))))
      on zero v le e = (0, (s, (omega arith, (refl, ap active (sym (same_running (over j a ws s) v e)) ∙ active_same s j a ws good.waits))))
      on (suc i) v le e = absurd (omega (arith, le))

  module _ (s : State) (j : ℕ) (a : Values) (ws : List Frame) (good : Good s j a ws) where
    abbrev t : State
    t = over j a ws s

    abbrev may : ℕ
    may = owed (owes s.frame.function j)

    -- the calls of the first step of the new code, and of what follows
    first_calls : (n : ℕ) (i : ℕ) (v : State) → i ≤ 0 → run q i t ≡ running v → (h : ℕ) × ((w : State) × ((h ≤ n) × ((run p h s ≡ running w) × (active v ≡ active w))))
    first_calls n zero v le e = (0, (s, (omega arith, (refl, ap active (sym (same_running t v e)) ∙ active_same s j a ws good.waits))))
    first_calls n (suc i) v le e = absurd (omega (arith, le))

    module _ (s1 : State) (first : step p s ≡ running s1) (z : Steps p q At owes laid s j a ws good (step p s) (step q t) (cost_if (next_of q t)) (cost_if (next_of p s))) (g : Goes p q At owes may (cost_if (next_of q t)) (cost_if (next_of p s)) s1 (step q t)) where
      abbrev t1 : State
      t1 = over g.place g.given g.calls s1

      abbrev s2 : State
      s2 = at_place g.to g.walk.given s1

      -- within the instructions that only lead on
      within : (m : ℕ) → m ≤ g.length → HasDone p q (suc m) may s t
      within m le =
          let o = g.way m le in
          let old : run p (suc m) s ≡ running (at_place o.to o.given s1) = ap (λ x. goes_on x (run p m)) first ∙ o.is in
          let new : run q 1 t ≡ running t1 = ap (λ x. goes_on x (run q 0)) g.is in
          let there : active t1 ≡ active s1 = active_same s2 g.place g.given g.calls g.stands.waits in
          record {
            steps = 1;
            same = subst (λ x. DoesTheSame x (run q 1 t)) (sym old) (subst (DoesTheSame (running (at_place o.to o.given s1))) (sym new) (refl, refl, there));
            fast = λ r. omega (arith, le, g.short);
            cheap =
                let one : spent q 1 t ≡ cost_if (next_of q t) + cost_on (step q t) (spent q 0) = refl in
                let none : cost_on (step q t) (spent q 0) ≡ 0 = ap (λ x. cost_on x (spent q 0)) g.is in
                let whole : spent p (suc m) s ≡ cost_if (next_of p s) + cost_on (step p s) (spent p m) = refl in
                omega (arith, one, none, whole, z.cheap);
            calls = λ i v below e. on i v below e new there;
          }
        where
          on : (i : ℕ) (v : State) → i ≤ 1 → run q i t ≡ running v → run q 1 t ≡ running t1 → active t1 ≡ active s1 → (h : ℕ) × ((w : State) × ((h ≤ suc m) × ((run p h s ≡ running w) × (active v ≡ active w))))
          on zero v below e new there = first_calls (suc m) 0 v (omega arith) e
          on (suc zero) v below e new there =
              (1, (s1, (omega arith, (ap (λ x. goes_on x (run p 0)) first, ap active (sym (same_running t1 v (sym new ∙ e))) ∙ there))))
          on (suc (suc i)) v below e new there = absurd (omega (arith, below))

      -- and behind them
      behind : (m : ℕ) → HasDone p q m (owed (owes s2.frame.function g.place)) s2 t1 → HasDone p q (suc (g.length + m)) may s t
      behind m more =
          let old : run p (suc (g.length + m)) s ≡ run p m s2 = ap (λ x. goes_on x (run p (g.length + m))) first ∙ (run_split p g.length m s1 ∙ ap (λ x. goes_on x (run p m)) g.walk.runs) in
          let new : run q (suc more.steps) t ≡ run q more.steps t1 = ap (λ x. goes_on x (run q more.steps)) g.is in
          record {
            steps = suc more.steps;
            same = subst (λ x. DoesTheSame x (run q (suc more.steps) t)) (sym old) (subst (DoesTheSame (run p m s2)) (sym new) more.same);
            fast = λ r. omega (arith, g.short, more.fast (subst IsRunning old r));
            cheap =
                let one : spent q (suc more.steps) t ≡ cost_if (next_of q t) + spent q more.steps t1 = ap (λ x. cost_if (next_of q t) + cost_on x (spent q more.steps)) g.is in
                let whole : spent p (suc (g.length + m)) s ≡ cost_if (next_of p s) + spent p (g.length + m) s1 = ap (λ x. cost_if (next_of p s) + cost_on x (spent p (g.length + m))) first in
                let two = spent_split p g.length m s1 s2 g.walk.runs in
                omega (arith, one, whole, two, g.walk.spends, g.paid, more.cheap);
            calls = λ i v below e. on i v below e;
          }
        where
          after : (i : ℕ) (v : State) → run q (suc i) t ≡ running v → run q i t1 ≡ running v
          after i v e = sym (ap (λ x. goes_on x (run q i)) g.is) ∙ e

          later : (h : ℕ) → run p (suc (g.length + h)) s ≡ run p h s2
          later h = ap (λ x. goes_on x (run p (g.length + h))) first ∙ (run_split p g.length h s1 ∙ ap (λ x. goes_on x (run p h)) g.walk.runs)

          on : (i : ℕ) (v : State) → i ≤ suc more.steps → run q i t ≡ running v → (h : ℕ) × ((w : State) × ((h ≤ suc (g.length + m)) × ((run p h s ≡ running w) × (active v ≡ active w))))
          on zero v below e = first_calls (suc (g.length + m)) 0 v (omega arith) e
          on (suc i) v below e =
              let c = more.calls i v (omega (arith, below)) (after i v e) in
              (suc (g.length + c.0), (c.1.0, (omega (arith, c.1.1.0), (later c.0 ∙ c.1.1.1.0, c.1.1.1.1))))

    ends_now : (m status : ℕ) (input : List ℕ) (trace : List Event) → step p s ≡ ended status input trace → step q t ≡ ended status input trace → cost_if (next_of q t) ≤ cost_if (next_of p s) + may → HasDone p q (suc m) may s t
    ends_now m status input trace first second le =
        let old : run p (suc m) s ≡ ended status input trace = ap (λ x. goes_on x (run p m)) first in
        let new : run q 1 t ≡ ended status input trace = ap (λ x. goes_on x (run q 0)) second in
        record {
          steps = 1;
          same = subst (λ x. DoesTheSame x (run q 1 t)) (sym old) (subst (DoesTheSame (ended status input trace)) (sym new) refl);
          fast = λ r. absurd (subst IsRunning old r);
          cheap =
              let one : spent q 1 t ≡ cost_if (next_of q t) + 0 = ap (λ x. cost_if (next_of q t) + cost_on x (spent q 0)) second in
              let two : spent p (suc m) s ≡ cost_if (next_of p s) + 0 = ap (λ x. cost_if (next_of p s) + cost_on x (spent p m)) first in
              omega (arith, one, two, le);
          calls = λ i v below e. on i v below e new;
        }
      where
        on : (i : ℕ) (v : State) → i ≤ 1 → run q i t ≡ running v → run q 1 t ≡ ended status input trace → (h : ℕ) × ((w : State) × ((h ≤ suc m) × ((run p h s ≡ running w) × (active v ≡ active w))))
        on zero v below e new = first_calls (suc m) 0 v (omega arith) e
        on (suc zero) v below e new = let never : ended status input trace ≡ running v = sym new ∙ e in absurd (let z : ⊥ = cc in z)
        on (suc (suc i)) v below e new = absurd (omega (arith, below))

    -- the state behind the first step and what only leads on, after so many more
    follow_late : (m k : ℕ) (s1 : State) (first : step p s ≡ running s1) (z : Steps p q At owes laid s j a ws good (step p s) (step q t) (cost_if (next_of q t)) (cost_if (next_of p s)))
        (g : Goes p q At owes may (cost_if (next_of q t)) (cost_if (next_of p s)) s1 (step q t)) → m ≡ g.length + k → Follows k → IsDefined (run p (suc m) s) → HasDone p q (suc m) may s t
    follow_late m k s1 first z g e more defined =
        let s2 : State = at_place g.to g.walk.given s1 in
        let old : run p (suc m) s ≡ run p k s2 =
        ap (λ x. goes_on x (run p m)) first ∙ (ap (λ i. run p i s1) e ∙ (run_split p g.length k s1 ∙ ap (λ x. goes_on x (run p k)) g.walk.runs)) in
        subst (λ i. HasDone p q (suc i) may s t) (sym e) (behind s1 first z g k (more s2 g.place g.given g.calls g.stands (subst IsDefined old defined)))

    follow_on : (m : ℕ) → ((k : ℕ) → k ≤ m → Follows k) → IsDefined (run p (suc m) s) → (x : Progress) → step p s ≡ x
        → Steps p q At owes laid s j a ws good (step p s) (step q t) (cost_if (next_of q t)) (cost_if (next_of p s)) → Alike p q At owes may (cost_if (next_of q t)) (cost_if (next_of p s)) x (step q t) → HasDone p q (suc m) may s t
    follow_on m more defined (running s1) first z g =
        ⊎_elim
        (λ lt. follow_late m (m - g.length) s1 first z g (omega (arith, lt)) (more (m - g.length) (omega arith)) defined)
        (λ ge. within s1 first z g m ge) (cases_lt g.length m)
    follow_on m more defined (ended status input trace) first z g = ends_now m status input trace first g z.cheap
    follow_on m more defined stuck first z g = absurd (subst IsDefined (ap (λ x. goes_on x (run p m)) first) defined)

    follow_some : (m : ℕ) → ((k : ℕ) → k ≤ m → Follows k) → IsDefined (run p (suc m) s) → (o : Option Instruction) → next_of p s ≡ o → HasDone p q (suc m) may s t
    follow_some m more defined None e = absurd (subst IsDefined (ap (λ x. goes_on x (run p m)) (step_none s e)) defined)
    follow_some m more defined (Some x) e =
        let z = step_both p q At owes laid s j a ws good x e in
        follow_on m more defined (step p s) refl z z.alike

  pub follow_all : (most n : ℕ) → n ≤ most → Follows n
  follow_all most zero le s j a ws good defined = started s j a ws good
  follow_all zero (suc m) le s j a ws good defined = absurd (omega (arith, le))
  follow_all (suc most) (suc m) le s j a ws good defined =
      follow_some s j a ws good m (λ k below. follow_all most k (omega (arith, le, below))) defined (next_of p s) refl

  -- ---- back

  pub record Came (k : ℕ) (s : State) (v : State) : Type 0 where
    pub steps : ℕ
    pub state : State
    pub slow : steps ≤ pace * k
    pub is : run p steps s ≡ running state
    pub place : ℕ
    pub given : Values
    pub calls : List Frame
    pub v_is : v ≡ over place given calls state
    pub stands : Good state place given calls

  abbrev pub Comes : ℕ → Type 0
  Comes k = (m : ℕ) (s : State) (j : ℕ) (a : Values) (ws : List Frame) → Good s j a ws → (v : State) → pace * k ≤ m → IsDefined (run p m s) → run q k (over j a ws s) ≡ running v → Came k s v

  module _ (k : ℕ) (s : State) (j : ℕ) (a : Values) (ws : List Frame) (good : Good s j a ws) (v : State) where
    abbrev u : State
    u = over j a ws s

    came_on : Comes k → (m : ℕ) → pace * k ≤ m → IsDefined (run p (pace + m) s) → run q (suc k) u ≡ running v → (x : Progress) → step p s ≡ x
        → Alike p q At owes (owed (owes s.frame.function j)) (cost_if (next_of q u)) (cost_if (next_of p s)) x (step q u) → Came (suc k) s v
    came_on more m le defined e (running s1) first g =
        let s2 : State = at_place g.to g.walk.given s1 in
        let rest : ℕ = 64 - g.length + m in
        let sum : pace + m ≡ suc (g.length + rest) = omega (arith, g.short) in
        let old : run p (pace + m) s ≡ run p rest s2 =
        ap (λ i. run p i s) sum ∙ (ap (λ x. goes_on x (run p (g.length + rest))) first ∙ (run_split p g.length rest s1 ∙ ap (λ x. goes_on x (run p rest)) g.walk.runs)) in
        let new : run q k (over g.place g.given g.calls s1) ≡ running v = sym (ap (λ x. goes_on x (run q k)) g.is) ∙ e in
        let c = more rest s2 g.place g.given g.calls g.stands v (omega (arith, le)) (subst IsDefined old defined) new in
        record {
          steps = suc (g.length + c.steps);
          state = c.state;
          slow = omega (arith, g.short, c.slow);
          is = ap (λ x. goes_on x (run p (g.length + c.steps))) first ∙ (run_split p g.length c.steps s1 ∙ (ap (λ x. goes_on x (run p c.steps)) g.walk.runs ∙ c.is));
          place = c.place;
          given = c.given;
          calls = c.calls;
          v_is = c.v_is;
          stands = c.stands;
        }
    came_on more m le defined e (ended status input trace) first g =
        let never : ended status input trace ≡ running v = sym (ap (λ x. goes_on x (run q k)) g) ∙ e in
        absurd (let z : ⊥ = cc in z)
    came_on more m le defined e stuck first g =
        absurd (subst IsDefined (ap (λ i. run p i s) (let sum : pace + m ≡ suc (64 + m) = omega arith in sum) ∙ ap (λ x. goes_on x (run p (64 + m))) first) defined)

    came_some : Comes k → (m : ℕ) → pace * k ≤ m → IsDefined (run p (pace + m) s) → run q (suc k) u ≡ running v → (o : Option Instruction) → next_of p s ≡ o → Came (suc k) s v
    came_some more m le defined e None h =
        absurd (subst IsDefined (ap (λ i. run p i s) (let sum : pace + m ≡ suc (64 + m) = omega arith in sum) ∙ ap (λ x. goes_on x (run p (64 + m))) (step_none s h)) defined)
    came_some more m le defined e (Some x) h = came_on more m le defined e (step p s) refl (step_both p q At owes laid s j a ws good x h).alike

  pub come : (k : ℕ) → Comes k
  come zero m s j a ws good v le defined e =
      record { steps = 0; state = s; slow = omega arith; is = refl; place = j; given = a; calls = ws; v_is = sym (same_running (over j a ws s) v e); stands = good }
  come (suc k) m s j a ws good v le defined e =
      let sum : m ≡ pace + (m - pace) = omega (arith, le) in
      came_some k s j a ws good v (come k) (m - pace) (omega (arith, le)) (subst (λ i. IsDefined (run p i s)) sum defined) e (next_of p s) refl

  -- ---- at calls

  at_call_is : (s : State) (j : ℕ) (a : Values) (ws : List Frame) → Good s j a ws → (x : Instruction) → next_of p s ≡ Some x → IsAtCall p q s (over j a ws s)
  at_call_is s j a ws good x e = record { calls = λ g h. called g h (laid.each s.frame.function j s.frame.at x good.at e); returns = λ h. returned_to h (laid.each s.frame.function j s.frame.at x good.at e) }
    where
      not_call : (g : ℕ) (y : Instruction) → IsStraight y → y ≡ instruction.Call g → ⊥
      not_call g y is h = subst IsStraight h is

      not_return : (y : Instruction) → IsStraight y → y ≡ instruction.Return → ⊥
      not_return y is h = subst IsStraight h is

      called : (g : ℕ) → next_of q (over j a ws s) ≡ Some (instruction.Call g) → Fits p q At owes s.frame.function j s.frame.at x → (next_of p s ≡ Some (instruction.Call g)) × HasItsValues s (over j a ws s)
      called g h (straight is new on) = absurd (not_call g x is (same_some x (instruction.Call g) (sym new ∙ h)))
      called g h (jumps to place is new on) = let never : Some (instruction.Jump place) ≡ Some (instruction.Call g) = sym new ∙ h in absurd (let z : ⊥ = cc in z)
      called g h (inserted w place is owing new on) = let never : Some (instruction.Jump place) ≡ Some (instruction.Call g) = sym new ∙ h in absurd (let z : ⊥ = cc in z)
      called g h (branches c y z to place is new on there) = let never : Some (instruction.Branch c y z place) ≡ Some (instruction.Call g) = sym new ∙ h in absurd (let z : ⊥ = cc in z)
      called g h (calls f is new back) = (e ∙ (ap Some is ∙ (sym new ∙ h)), λ k v f. f)
      called g h (exits is new) = let never : Some instruction.Exit ≡ Some (instruction.Call g) = sym new ∙ h in absurd (let z : ⊥ = cc in z)
      called g h (returns is new) = let never : Some instruction.Return ≡ Some (instruction.Call g) = sym new ∙ h in absurd (let z : ⊥ = cc in z)

      returned_to : next_of q (over j a ws s) ≡ Some instruction.Return → Fits p q At owes s.frame.function j s.frame.at x → (next_of p s ≡ Some instruction.Return) × HasItsResult p q s (over j a ws s)
      returned_to h (straight is new on) = absurd (not_return x is (same_some x instruction.Return (sym new ∙ h)))
      returned_to h (jumps to place is new on) = let never : Some (instruction.Jump place) ≡ Some instruction.Return = sym new ∙ h in absurd (let z : ⊥ = cc in z)
      returned_to h (inserted w place is owing new on) = let never : Some (instruction.Jump place) ≡ Some instruction.Return = sym new ∙ h in absurd (let z : ⊥ = cc in z)
      returned_to h (branches c y z to place is new on there) = let never : Some (instruction.Branch c y z place) ≡ Some instruction.Return = sym new ∙ h in absurd (let z : ⊥ = cc in z)
      returned_to h (calls f is new back) = let never : Some (instruction.Call f) ≡ Some instruction.Return = sym new ∙ h in absurd (let z : ⊥ = cc in z)
      returned_to h (exits is new) = let never : Some instruction.Exit ≡ Some instruction.Return = sym new ∙ h in absurd (let z : ⊥ = cc in z)
      returned_to h (returns is new) = (e ∙ ap Some is, λ v r. result_same p q laid.sized s ∙ r)

  -- where the old code has come, and goes on
  pub from_came : (k m : ℕ) (s v : State) → Came k s v → pace * k + 1 ≤ m → IsDefined (run p m s) → HasComeFrom p q k s v
  from_came k m s v c le defined = record {
    steps = c.steps;
    state = c.state;
    slow = c.slow;
    is = c.is;
    calls = ap active c.v_is ∙ active_same c.state c.place c.given c.calls c.stands.waits;
    at_call = subst (IsAtCall p q c.state) (sym c.v_is) (on (next_of p c.state) refl);
  }
    where
      old : run p m s ≡ run p (suc (m - suc c.steps)) c.state
      old = ap (λ i. run p i s) (let sum : m ≡ c.steps + suc (m - suc c.steps) = omega (arith, le, c.slow) in sum)
          ∙ (run_split p c.steps (suc (m - suc c.steps)) s ∙ ap (λ x. goes_on x (run p (suc (m - suc c.steps)))) c.is)

      on : (o : Option Instruction) → next_of p c.state ≡ o → IsAtCall p q c.state (over c.place c.given c.calls c.state)
      on None e = absurd (subst IsDefined (old ∙ ap (λ x. goes_on x (run p (m - suc c.steps))) (step_none c.state e)) defined)
      on (Some x) e = at_call_is c.state c.place c.given c.calls c.stands x e
