-- A step of the new code, and the steps of the old code that belong to it: one, and those that only lead on.
use Rattle.std.proofs.Common.{◌≡◌, ◌≤◌, ◌⊎◌, inl, inr, ⊎_elim, ℕ, zero, suc, ◌+◌, ◌-◌, ◌%◌, ◌^◌, List, [], ◌∷◌, Option, Some, None, Bool, true, false, refl, sym, ap, ◌∙◌, subst, arith}
use Rattle.std.specs.Prelude.{slice_get, if◌then◌else◌}
use Rattle.rv32.specs.declared.instr.Test.{Test}
use Rattle.rv32.specs.Arithmetic.{compare_of}
use Rattle.frames_code.specs.declared.code.Operand.{Operand}
use Rattle.frames_code.specs.declared.code.Operand.TheVariants as operand
use Rattle.frames_code.specs.declared.code.Instruction.{Instruction}
use Rattle.frames_code.specs.declared.code.Instruction.TheVariants as instruction
use Rattle.frames_code.specs.Code.{Program}
use Rattle.frames_code.specs.Costs.{cost, cost_if, next_of}
use Rattle.frames_code.specs.Run.{Value, Values, Frame, State, Progress, running, ended, stuck, unset, word_at, word_in, next, goes_to, entered, from_eight, result_alone, result_of, returned, act, step, function_at, ◌>>=◌}
use Rattle.frames_opt.proofs.Alike.{Sized}
use Rattle.frames_opt.proofs.Stands.{Sat}
use Rattle.frames_reach.proofs.Acting.{act_same}
use Rattle.frames_layout.specs.declared.walks.Onward.{Onward}
use Rattle.frames_layout.specs.layer.Plans.{onward, owed, most_onward}
use Rattle.frames_layout.proofs.Moving.{over, More, Waits, IsStraight, Moved, Becomes, straight_becomes, word_more, same_some}
use Rattle.frames_layout.proofs.Fitting.{OntoIn, FitsIn, straight, jumps, inserted, branches, calls, exits, returns}
use Rattle.frames_layout.proofs.Straight.{After, straight_after}
use Rattle.frames_layout.proofs.Walking.{Found, Clear, unset_clear, at_place, Walked, walked, OnTheWay, on_the_way, onward_is, step_is}

-- At f j k: where the new code of function f is at j, the old is at k; owes f j: whether the old has passed a jump more
module _ (p q : Program) (At : ℕ → ℕ → ℕ → Type 0) (owes : ℕ → ℕ → Bool) where
  abbrev pub debt : ℕ → ℕ → ℕ
  debt f j = owed (owes f j)

  abbrev pub Onto : (f least k j : ℕ) → Type 0
  Onto f least k j = OntoIn (function_at p f).code (function_at q f).code (At f) (owes f) least k j

  -- a call that waits
  abbrev pub Back : ℕ → ℕ → ℕ → Type 0
  Back f k j = (owes f j ≡ false) × Onto f 0 k j

  abbrev pub Fits : (f j k : ℕ) → Instruction → Type 0
  Fits f j k x = FitsIn (function_at p f).code (function_at q f).code (At f) (owes f) j k x

  pub record IsLaid : Type 0 where
    pub sized : Sized p q
    pub main : q.main ≡ p.main
    pub starts : (f : ℕ) → At f 0 0
    pub fresh : (f : ℕ) → owes f 0 ≡ false
    pub each : (f j k : ℕ) (x : Instruction) → At f j k → slice_get (function_at p f).code k ≡ Some x → Fits f j k x

  pub record Stands (s : State) (j : ℕ) (a : Values) (ws : List Frame) : Type 0 where
    pub at : At s.frame.function j s.frame.at
    pub more : More s.arguments a
    pub waits : Waits Back s.waiting ws
    pub clear : owes s.frame.function j ≡ true → Clear s.arguments

  -- the old code, which came to s1 in a step, leads on to where the new is
  pub record Goes (b new old : ℕ) (s1 : State) (z : Progress) : Type 0 where
    pub place : ℕ
    pub given : Values
    pub calls : List Frame
    pub is : z ≡ running (over place given calls s1)
    pub length : ℕ
    pub jumps : ℕ
    pub to : ℕ
    pub short : length ≤ most_onward
    pub walk : Walked p length jumps to s1
    pub way : (i : ℕ) → i ≤ length → OnTheWay p i s1
    pub stands : Stands (at_place to walk.given s1) place given calls
    pub paid : new + debt s1.frame.function place ≤ old + jumps + b

  abbrev pub Alike : (b new old : ℕ) → Progress → Progress → Type 0
  Alike b new old (running s) z = Goes b new old s z
  Alike b new old (ended status input trace) z = z ≡ ended status input trace
  Alike b new old stuck z = Unit {0}

  pub arrive : (b new old least j : ℕ) (a : Values) (ws : List Frame) (s1 : State) (z : Progress) → z ≡ running (over j a ws s1) → More s1.arguments a → Waits Back s1.waiting ws
      → (owes s1.frame.function j ≡ true → (1 ≤ least) ⊎ Clear s1.arguments) → new + debt s1.frame.function j ≤ old + least + b → Onto s1.frame.function least s1.frame.at j → Goes b new old s1 z
  arrive b new old least j a ws s1 z is more waits cleared paid onto =
      let w = walked p onto.found.length onto.found.jumps onto.to s1 onto.found.walk in
      record {
        place = j;
        given = a;
        calls = ws;
        is = is;
        length = onto.found.length;
        jumps = onto.found.jumps;
        to = onto.to;
        short = onto.found.short;
        walk = w;
        way = on_the_way p onto.found.length onto.found.jumps onto.to s1 onto.found.walk;
        stands = record {
          at = onto.at;
          more = λ k v e. more k v (w.less k v e);
          waits = waits;
          clear = λ e. ⊎_elim (λ le. w.clear (omega (arith, le, onto.found.enough))) (λ c k v h. c k v (w.less k v h)) (cleared e);
        };
        paid = omega (arith, paid, onto.found.enough);
      }

  -- ---- straight on

  owes_more : (one two : Bool) (s s1 : State) → two ≡ true → (one ≡ true → Clear s1.arguments) → (1 ≤ owed two - owed one) ⊎ Clear s1.arguments
  owes_more true two s s1 e clear = inr (clear refl)
  owes_more false true s s1 e clear = inl (omega arith)
  owes_more false false s s1 e clear = absurd (let z : ⊥ = cc in z)

  debt_true : (f j : ℕ) → owes f j ≡ true → debt f j ≡ 1
  debt_true f j e = ap owed e

  debt_false : (f j : ℕ) → owes f j ≡ false → debt f j ≡ 0
  debt_false f j e = ap owed e

  module _ (laid : IsLaid) (s : State) (j : ℕ) (a : Values) (ws : List Frame) (good : Stands s j a ws) where
    abbrev f : ℕ
    f = s.frame.function

    abbrev t : State
    t = over j a ws s

    abbrev b : ℕ
    b = debt f j

    arrives_straight : (c : ℕ) (s1 : State) (z : Progress) → Moved p Back (j + 1) s1 z → After s s1 → Onto f (debt f (j + 1) - b) (s.frame.at + 1) (j + 1) → Goes b c c s1 z
    arrives_straight c s1 z m after on =
        let there : Onto s1.frame.function (debt f (j + 1) - b) s1.frame.at (j + 1) =
        subst (λ k. Onto s1.frame.function (debt f (j + 1) - b) k (j + 1)) (sym after.at_is) (subst (λ g. Onto g (debt f (j + 1) - b) (s.frame.at + 1) (j + 1)) (sym after.function_is) on) in
        let same : debt s1.frame.function (j + 1) ≡ debt f (j + 1) = ap (λ g. debt g (j + 1)) after.function_is in
        arrive b c c (debt f (j + 1) - b) (j + 1) m.given m.calls s1 z m.is m.more m.waits
        (λ e. owes_more (owes f j) (owes f (j + 1)) s s1 (sym (ap (λ g. owes g (j + 1)) after.function_is) ∙ e) (λ h. after.clear (good.clear h)))
        (omega (arith, same)) there

    straight_alike : (c : ℕ) (x z : Progress) → Becomes p Back (j + 1) x z → Sat (After s) x → Onto f (debt f (j + 1) - b) (s.frame.at + 1) (j + 1) → Alike b c c x z
    straight_alike c (running s1) z m after on = arrives_straight c s1 z m after on
    straight_alike c (ended status input trace) z m after on = m
    straight_alike c stuck z m after on = tt

    -- ---- jumps

    arrives_by_jump : (new old to place : ℕ) → new ≤ old → Onto f (debt f place - b) to place → Goes b new old (goes_to s to) (running (goes_to t place))
    arrives_by_jump new old to place le on =
        arrive b new old (debt f place - b) place unset ws (goes_to s to) (running (goes_to t place)) refl (λ k v e. absurd (unset_clear k v e)) good.waits (λ e. inr unset_clear)
        (omega (arith, le)) on

    bind_alike : {A : Type 0} (c : ℕ) (o o2 : Option A) (go go2 : A → Progress) → ((v : A) → o ≡ Some v → o2 ≡ Some v) → ((v : A) → Alike b c c (go v) (go2 v)) → Alike b c c (o >>= go) (o2 >>= go2)
    bind_alike c None o2 go go2 more each = tt
    bind_alike c (Some v) o2 go go2 more each = subst (λ y. Alike b c c (go v) (y >>= go2)) (sym (more v refl)) (each v)

    branch_alike : (c to place : ℕ) (h : Bool) → Onto f (debt f (j + 1) - b) (s.frame.at + 1) (j + 1) → Onto f (debt f place - b) to place
        → Goes b c c (if h then goes_to s to else next s) (running (if h then goes_to t place else next t))
    branch_alike c to place true on there = arrives_by_jump c c to place (omega arith) there
    branch_alike c to place false on there =
        arrive b c c (debt f (j + 1) - b) (j + 1) unset ws (next s) (running (next t)) refl (λ k v e. absurd (unset_clear k v e)) good.waits (λ e. inr unset_clear) (omega arith) on

    -- ---- calls and returns

    call_alike : (c g : ℕ) → Back f (s.frame.at + 1) (j + 1) → Goes b c c (entered s g) (running (entered t g))
    call_alike c g back =
        let none : debt g 0 ≡ 0 = debt_false g 0 (laid.fresh g) in
        arrive b c c 0 0 (from_eight s.temporaries) (record s.frame { at = j + 1 } ∷ ws) (entered s g) (running (entered t g)) refl (λ k v e. e) (refl, (back, good.waits))
        (λ e. absurd (let z : ⊥ = cc in z)) (omega (arith, none))
        (record { to = 0; at = laid.starts g; found = record { length = 0; jumps = 0; short = omega arith; enough = omega arith; walk = (refl, refl) } })

    abbrev after_return : Option Value → Frame → List Frame → State
    after_return v h hs = record s { frame = h; temporaries = result_alone v; arguments = unset; waiting = hs }

    return_alike : (c : ℕ) (v : Option Value) (fs gs : List Frame) → Waits Back fs gs → Alike b c c (returned s v fs) (returned t v gs)
    return_alike c v [] [] w = on (word_in v)
      where
        on : (o : Option ℕ) → Alike b c c (o >>= λ x. ended (x % 2 ^ 8) s.input s.trace) (o >>= λ x. ended (x % 2 ^ 8) t.input t.trace)
        on None = tt
        on (Some x) = refl
    return_alike c v [] (g ∷ gs) w = absurd w
    return_alike c v (h ∷ hs) [] w = absurd w
    return_alike c v (h ∷ hs) (g ∷ gs) w =
        let none : debt h.function g.at ≡ 0 = debt_false h.function g.at w.1.0.0 in
        arrive b c c 0 g.at unset gs (after_return v h hs) (running (after_return v g gs)) (ap (λ x. running (after_return v x gs)) w.0) (λ k u e. absurd (unset_clear k u e)) w.1.1
        (λ e. inr unset_clear) (omega (arith, none)) w.1.0.1

    exit_alike : (c : ℕ) → Alike b c c (word_at s (operand.Temporary 0) >>= λ v. ended (v % 2 ^ 8) s.input s.trace) (word_at t (operand.Temporary 0) >>= λ v. ended (v % 2 ^ 8) t.input t.trace)
    exit_alike c = bind_alike c (word_at s (operand.Temporary 0)) (word_at t (operand.Temporary 0)) (λ v. ended (v % 2 ^ 8) s.input s.trace) (λ v. ended (v % 2 ^ 8) t.input t.trace) (λ v e. e) (λ v. refl)

    -- ---- any instruction

    pub record Steps (x z : Progress) (new old : ℕ) : Type 0 where
      pub cheap : new ≤ old + b
      pub alike : Alike b new old x z

    -- where the new code has y at j
    by_new : (x y : Instruction) → next_of p s ≡ Some x → slice_get (function_at q f).code j ≡ Some y → cost y ≤ cost x + b → Alike b (cost y) (cost x) (act p s x) (act p t y)
        → Steps (step p s) (step q t) (cost_if (next_of q t)) (cost_if (next_of p s))
    by_new x y at new le h =
        let first : step p s ≡ act p s x = step_is p s x at in
        let second : step q t ≡ act p t y = step_is q t y new ∙ act_same p q laid.sized t y in
        let one : cost_if (next_of p s) ≡ cost x = ap cost_if at in
        let two : cost_if (next_of q t) ≡ cost y = ap cost_if new in
        record {
          cheap = omega (arith, one, two, le);
          alike = subst (λ m. Alike b m (cost_if (next_of p s)) (step p s) (step q t)) (sym two)
              (subst (λ m. Alike b (cost y) m (step p s) (step q t)) (sym one)
              (subst (λ u. Alike b (cost y) (cost x) u (step q t)) (sym first)
              (subst (λ u. Alike b (cost y) (cost x) (act p s x) u) (sym second) h)));
        }

    inserted_alike : (x : Instruction) (w : Onward) (place : ℕ) → next_of p s ≡ Some x → onward s.frame.at x ≡ Some w → owes f j ≡ true → slice_get (function_at q f).code j ≡ Some (instruction.Jump place)
        → Onto f (debt f place - w.jumps) w.to place → Steps (step p s) (step q t) (cost_if (next_of q t)) (cost_if (next_of p s))
    inserted_alike x w place at is owing new on =
        let o = onward_is p s w x at is in
        let second : step q t ≡ running (goes_to t place) = step_is q t (instruction.Jump place) new in
        let two : cost_if (next_of q t) ≡ 1 = ap cost_if new in
        let one : debt f j ≡ 1 = debt_true f j owing in
        let clear : Clear o.given = λ k v e. good.clear owing k v (o.less k v e) in
        record {
          cheap = omega (arith, one, two);
          alike = subst (λ u. Alike b (cost_if (next_of q t)) (cost_if (next_of p s)) u (step q t)) (sym o.goes)
              (arrive b (cost_if (next_of q t)) (cost_if (next_of p s)) (debt f place - w.jumps) place unset ws (at_place w.to o.given s) (step q t) second (λ k v e. absurd (clear k v e)) good.waits (λ e. inr clear)
              (omega (arith, one, two, o.costs)) on);
        }

    pub step_both : (x : Instruction) → next_of p s ≡ Some x → Steps (step p s) (step q t) (cost_if (next_of q t)) (cost_if (next_of p s))
    step_both x at = on (laid.each f j s.frame.at x good.at at)
      where
        on : Fits f j s.frame.at x → Steps (step p s) (step q t) (cost_if (next_of q t)) (cost_if (next_of p s))
        on (straight is new there) =
            by_new x x at new (omega arith) (straight_alike (cost x) (act p s x) (act p t x) (straight_becomes p Back s j a ws good.more good.waits x is) (straight_after p s x is) there)
        on (jumps to place is new there) =
            by_new (instruction.Jump to) (instruction.Jump place) (at ∙ ap Some is) new (omega arith) (arrives_by_jump 1 1 to place (omega arith) there)
        on (inserted w place is owing new there) = inserted_alike x w place at is owing new there
        on (branches c y z to place is new there far) =
            by_new (instruction.Branch c y z to) (instruction.Branch c y z place) (at ∙ ap Some is) new (omega arith)
            (bind_alike 8 (word_at s y) (word_at t y) (λ u. word_at s z >>= λ v. running (if compare_of c u v then goes_to s to else next s)) (λ u. word_at t z >>= λ v. running (if compare_of c u v then goes_to t place else next t))
            (word_more p Back s j a ws good.more good.waits y)
            (λ u. bind_alike 8 (word_at s z) (word_at t z) (λ v. running (if compare_of c u v then goes_to s to else next s)) (λ v. running (if compare_of c u v then goes_to t place else next t))
            (word_more p Back s j a ws good.more good.waits z) (λ v. branch_alike 8 to place (compare_of c u v) there far)))
        on (calls g is new back) = by_new (instruction.Call g) (instruction.Call g) (at ∙ ap Some is) new (omega arith) (call_alike (cost (instruction.Call g)) g back)
        on (exits is new) = by_new instruction.Exit instruction.Exit (at ∙ ap Some is) new (omega arith) (exit_alike 2)
        on (returns is new) = by_new instruction.Return instruction.Return (at ∙ ap Some is) new (omega arith) (return_alike 43 (result_of p s) s.waiting ws good.waits)
