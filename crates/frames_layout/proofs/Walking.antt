-- Instructions that only lead on: a run over them.
use Rattle.std.proofs.Common.{◌≡◌, ◌≤◌, ◌⊎◌, inl, inr, ⊎_elim, ℕ, zero, suc, ◌+◌, ◌-◌, List, [], ◌∷◌, Option, Some, None, Bool, true, false, refl, sym, ap, ◌∙◌, subst, arith}
use Rattle.std.specs.Prelude.{◌==◌, ◌&&◌, ◌||◌, slice_get}
use Rattle.std.proofs.lemmas.Bool.{eqb-true}
use Rattle.frames_code.specs.declared.code.Instruction.{Instruction}
use Rattle.frames_code.specs.declared.code.Instruction.TheVariants as instruction
use Rattle.frames_code.specs.Code.{Program}
use Rattle.frames_code.specs.Costs.{cost, cost_if, cost_on, next_of, spent}
use Rattle.frames_code.specs.Run.{Value, Values, Frame, State, Progress, running, ended, stuck, unset, act, step, run, goes_on, function_at, ◌>>=◌}
use Rattle.frames_opt.proofs.Alike.{left_true, right_true}
use Rattle.frames_layout.specs.declared.walks.Onward.{Onward}
use Rattle.frames_layout.specs.layer.Plans.{onward, onward_if, onward_at, holds_in, walks}
use Rattle.frames_layout.proofs.Moving.{More, same_some}

-- l such instructions from k to m, of which n are jumps
abbrev pub Walk : List Instruction → (l n m k : ℕ) → Type 0
Walk code zero n m k = (k ≡ m) × (n ≡ 0)
Walk code (suc l) n m k = (w : Onward) × ((onward_at code k ≡ Some w) × ((r : ℕ) × ((n ≡ w.jumps + r) × Walk code l r m w.to)))

or_either : (a b : Bool) → (a || b) ≡ true → (a ≡ true) ⊎ (b ≡ true)
or_either true b e = inl refl
or_either false b e = inr e

pub record Found (code : List Instruction) (most least m k : ℕ) : Type 0 where
  pub length : ℕ
  pub jumps : ℕ
  pub short : length ≤ most
  pub enough : least ≤ jumps
  pub walk : Walk code length jumps m k

found_here : (code : List Instruction) (most least m k : ℕ) → ((k == m) && (least == 0)) ≡ true → Found code most least m k
found_here code most least m k e =
    let one : k ≡ m = eqb-true k m (left_true (k == m) (least == 0) e) in
    let two : least ≡ 0 = eqb-true least 0 (right_true (k == m) (least == 0) e) in
    record { length = 0; jumps = 0; short = omega arith; enough = omega (arith, two); walk = (one, refl) }

found_on : (code : List Instruction) (n least m k : ℕ) (w : Onward) → onward_at code k ≡ Some w → Found code n (least - w.jumps) m w.to → Found code (suc n) least m k
found_on code n least m k w e f = record {
  length = suc f.length;
  jumps = w.jumps + f.jumps;
  short = omega (arith, f.short);
  enough = omega (arith, f.enough);
  walk = (w, (e, (f.jumps, (refl, f.walk))));
}

pub found : (code : List Instruction) (n least m k : ℕ) → walks code n least m k ≡ true → Found code n least m k
found code zero least m k e = found_here code 0 least m k e
found code (suc n) least m k e =
    ⊎_elim (λ h. found_here code (suc n) least m k h) (λ h. on (found code n) (onward_at code k) refl h)
    (or_either ((k == m) && (least == 0)) (holds_in (λ w. walks code n (least - w.jumps) m w.to) (onward_at code k)) e)
  where
    on : ((least m k : ℕ) → walks code n least m k ≡ true → Found code n least m k) → (o : Option Onward) → onward_at code k ≡ o → holds_in (λ w. walks code n (least - w.jumps) m w.to) o ≡ true
        → Found code (suc n) least m k
    on more None h never = absurd (let z : ⊥ = cc in z)
    on more (Some w) h there = found_on code n least m k w h (more (least - w.jumps) m w.to there)

-- nothing is left
abbrev pub Clear : Values → Type 0
Clear a = (k : ℕ) (v : Value) → a k ≡ Some v → ⊥

pub unset_clear : Clear unset
unset_clear k v e = let z : ⊥ = cc in z

-- the same call at another place
abbrev pub at_place : ℕ → Values → State → State
at_place m a s = record s { frame = record s.frame { at = m }; arguments = a }

module _ (p : Program) where
  -- after l steps from s the run is at m and has spent n
  pub record Walked (l n m : ℕ) (s : State) : Type 0 where
    pub given : Values
    pub runs : run p l s ≡ running (at_place m given s)
    pub less : More given s.arguments
    pub clear : 1 ≤ n → Clear given
    pub spends : spent p l s ≡ n

  pub record Onwards (w : Onward) (s : State) : Type 0 where
    pub given : Values
    pub goes : step p s ≡ running (at_place w.to given s)
    pub less : More given s.arguments
    pub clear : 1 ≤ w.jumps → Clear given
    pub costs : cost_if (next_of p s) ≡ w.jumps

  no_onward : {A : Type 0} (w : Onward) → None ≡ Some w → A
  no_onward w e = absurd (let z : ⊥ = cc in z)

  pub step_is : (s : State) (x : Instruction) → next_of p s ≡ Some x → step p s ≡ act p s x
  unfolding step
  step_is s x e = ap (λ o. o >>= act p s) e

  pub onward_is : (s : State) (w : Onward) (x : Instruction) → next_of p s ≡ Some x → onward s.frame.at x ≡ Some w → Onwards w s
  onward_is s w x at e = on x (step_is s x at) (ap cost_if at) e
    where
      on : (y : Instruction) → step p s ≡ act p s y → cost_if (next_of p s) ≡ cost y → onward s.frame.at y ≡ Some w → Onwards w s
      on instruction.Nothing goes costs h =
          let same : record { to = s.frame.at + 1; jumps = 0 } ≡ w = same_some (record { to = s.frame.at + 1; jumps = 0 }) w h in
          subst (λ z. Onwards z s) same (record { given = s.arguments; goes = goes; less = λ k v f. f; clear = λ le. absurd (omega (arith, le)); costs = costs })
      on (instruction.Move d x) goes costs h = no_onward w h
      on (instruction.Compute o d x y) goes costs h = no_onward w h
      on (instruction.Convert c d x) goes costs h = no_onward w h
      on (instruction.Load k d l) goes costs h = no_onward w h
      on (instruction.Store k x l) goes costs h = no_onward w h
      on (instruction.Address d l) goes costs h = no_onward w h
      on (instruction.Element d x y size) goes costs h = no_onward w h
      on (instruction.Jump to) goes costs h =
          let same : record { to = to; jumps = 1 } ≡ w = same_some (record { to = to; jumps = 1 }) w h in
          subst (λ z. Onwards z s) same (record { given = unset; goes = goes; less = λ k v f. absurd (unset_clear k v f); clear = λ le. unset_clear; costs = costs })
      on (instruction.Branch t x y to) goes costs h = no_onward w h
      on (instruction.Call f) goes costs h = no_onward w h
      on instruction.PutByte goes costs h = no_onward w h
      on instruction.GetByte goes costs h = no_onward w h
      on instruction.Exit goes costs h = no_onward w h
      on instruction.Return goes costs h = no_onward w h

  onward_from : (s : State) (w : Onward) → onward_at (function_at p s.frame.function).code s.frame.at ≡ Some w → Onwards w s
  onward_from s w e = on (next_of p s) refl e
    where
      on : (o : Option Instruction) → next_of p s ≡ o → onward_if s.frame.at o ≡ Some w → Onwards w s
      on None at h = no_onward w h
      on (Some x) at h = onward_is s w x at h

  walked_on : (l r m : ℕ) (s : State) (w : Onward) (o : Onwards w s) → Walked l r m (at_place w.to o.given s) → Walked (suc l) (w.jumps + r) m s
  walked_on l r m s w o more = record {
    given = more.given;
    runs = ap (λ x. goes_on x (run p l)) o.goes ∙ more.runs;
    less = λ k v e. o.less k v (more.less k v e);
    clear = λ le. on le (w.jumps) refl;
    spends = ap (λ c. c + cost_on (step p s) (spent p l)) o.costs ∙ ap (λ x. w.jumps + cost_on x (spent p l)) o.goes ∙ ap (λ n. w.jumps + n) more.spends;
  }
    where
      on : 1 ≤ w.jumps + r → (j : ℕ) → w.jumps ≡ j → Clear more.given
      on le zero e = more.clear (omega (arith, le, e))
      on le (suc j) e = λ k v h. o.clear (omega (arith, e)) k v (more.less k v h)

  pub walked : (l n m : ℕ) (s : State) → Walk (function_at p s.frame.function).code l n m s.frame.at → Walked l n m s
  walked zero n m s w =
      let at : s.frame.at ≡ m = w.0 in
      let none : n ≡ 0 = w.1 in
      record {
        given = s.arguments;
        runs = ap (λ k. running (at_place k s.arguments s)) at;
        less = λ k v e. e;
        clear = λ le. absurd (omega (arith, le, none));
        spends = sym none;
      }
  walked (suc l) n m s w =
      let o = onward_from s w.0 w.1.0 in
      subst (λ k. Walked (suc l) k m s) (sym w.1.1.1.0)
      (walked_on l w.1.1.0 m s w.0 o (walked l w.1.1.0 m (at_place w.0.to o.given s) w.1.1.1.1))

  -- on the way nothing is done
  pub record OnTheWay (i : ℕ) (s : State) : Type 0 where
    pub to : ℕ
    pub given : Values
    pub is : run p i s ≡ running (at_place to given s)

  pub on_the_way : (l n m : ℕ) (s : State) → Walk (function_at p s.frame.function).code l n m s.frame.at → (i : ℕ) → i ≤ l → OnTheWay i s
  on_the_way l n m s w zero le = record { to = s.frame.at; given = s.arguments; is = refl }
  on_the_way zero n m s w (suc i) le = absurd (omega (arith, le))
  on_the_way (suc l) n m s w (suc i) le =
      let o = onward_from s w.0 w.1.0 in
      let more = on_the_way l w.1.1.0 m (at_place w.0.to o.given s) w.1.1.1.1 i (omega (arith, le)) in
      record { to = more.to; given = more.given; is = ap (λ x. goes_on x (run p i)) o.goes ∙ more.is }
