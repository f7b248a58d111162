-- The result of a part that is done.
use Rattle.std.proofs.Common.{◌≡◌, ◌<◌, ◌≤◌, ℕ, zero, suc, ◌+◌, ◌-◌, Option, Some, None, refl, sym, ap, subst, ◌∙◌, arith}
use Rattle.std.specs.Prelude.{Bool, true, false, Result, Ok, Err}
use Rattle.std.specs.Bool.{OnTrue, OnFalse}
use Rattle.csem.specs.Machine.{State, Run, Goes, Stops, TicksUsed, then_do, tick, ticks}
use Rattle.interp_store.specs.declared.scene.Scene.{Scene}
use Rattle.interp_store.specs.declared.stop.Stop.{Stop}
use Rattle.interp_store.specs.declared.stop.Stop.TheVariants as stop
use Rattle.interp_store.specs.layer.Frames.{Found}
use Rattle.interp_store.specs.layer.Presents.{given}
use Rattle.interp_store.specs.layer.Agrees.{Outside, state_in, Runs}
use Rattle.interp_eval.specs.declared.clock.Clock.{Clock}
use Rattle.interp_eval.specs.declared.clock.Why.{Why}
use Rattle.interp_eval.specs.declared.clock.Why.TheVariants as why
use Rattle.interp_eval.specs.layer.Comes.{Course, state_at, Leads, StopsBy, Comes, Idles, Gives}

pub then_assoc : {A B C : Type 0} (r : Run A) (f : A → State → Run B) (g : B → State → Run C) → then_do (then_do r f) g ≡ then_do r (λ a s. then_do (f a s) g)
then_assoc (Goes a s) f g = refl
then_assoc (Stops e s) f g = refl

pub on_true : (P : Type 0) (b : Bool) → b ≡ true → OnTrue b P → P
on_true P b e h = let Q : Bool → Type 0 = λ b. OnTrue b P in subst Q e h

pub on_false : (P : Type 0) (b : Bool) → b ≡ false → OnFalse b P → P
on_false P b e h = let Q : Bool → Type 0 = λ b. OnFalse b P in subst Q e h

-- ---- a tick

taken : {A : Type 0} (c : Course) (k k2 : ℕ) (scene : Scene) (part : State → Run A) (rest : A → State → Run Found) → k2 ≡ k + 1 →
    Leads c k scene (λ s. tick s part) rest → Leads c k2 scene part rest
taken c k k2 scene part rest e h = record {
  is_left = λ n. let same : suc n + k ≡ n + k2 = omega (arith, e) in h.is_left (suc n) ∙ ap c.whole same;
}

-- is taken
pub after_tick : {A : Type 0} (c : Course) (k k2 : ℕ) (scene : Scene) (part : State → Run A) (rest : A → State → Run Found) (b : Bool) → b ≡ true → OnTrue b (k2 ≡ k + 1) →
    Leads c k scene (λ s. tick s part) rest → Leads c k2 scene part rest
after_tick c k k2 scene part rest b on t h = taken c k k2 scene part rest (on_true (k2 ≡ k + 1) b on t) h

idles : {A : Type 0} (c : Course) (limit k k2 : ℕ) (scene : Scene) (part : State → Run A) (rest : A → State → Run Found) → k2 ≡ k →
    Leads c k scene (λ s. tick s part) rest → (w : Why) → Idles w k2 limit → StopsBy c limit w k2 scene
idles c limit k k2 scene part rest e h why.Ticks i = (i, (let same : 0 + k ≡ k2 = omega (arith, e) in sym (h.is_left 0 ∙ ap c.whole same)))
idles c limit k k2 scene part rest e h (why.Undefined act at) i = absurd i
idles c limit k k2 scene part rest e h why.Memory i = absurd i
idles c limit k k2 scene part rest e h why.Elsewhere i = absurd i

-- or none is left
pub no_tick : {A : Type 0} (c : Course) (limit k : ℕ) (new : Clock) (scene : Scene) (part : State → Run A) (rest : A → State → Run Found) (b : Bool) → b ≡ false →
    OnFalse b (Idles new.why new.spent limit) → OnFalse b (new.spent ≡ k) → Leads c k scene (λ s. tick s part) rest → StopsBy c limit new.why new.spent scene
no_tick c limit k new scene part rest b off i e h =
    idles c limit k new.spent scene part rest (on_false (new.spent ≡ k) b off e) h new.why (on_false (Idles new.why new.spent limit) b off i)

-- ---- a number of ticks

paid : (n m j : ℕ) (s : State) → j ≡ n + m → ticks n (record s { clock = j }) ≡ Goes tt (record s { clock = m })
paid zero m j s e = ap (λ j. Goes tt (record s { clock = j })) (omega (arith, e))
paid (suc n) m zero s e = absurd (omega (arith, e))
paid (suc n) m (suc j) s e = paid n m j s (omega (arith, e))

unpaid : (n j : ℕ) (s : State) → j < n → ticks n (record s { clock = j }) ≡ Stops TicksUsed (record s { clock = 0 })
unpaid zero j s h = absurd (omega (arith, h))
unpaid (suc n) zero s h = refl
unpaid (suc n) (suc j) s h = unpaid n j s (omega (arith, h))

module _ {A : Type 0} (c : Course) (k n : ℕ) (scene : Scene) (next : Unit {0} → State → Run A) (rest : A → State → Run Found)
    (h : Leads c k scene (λ s. then_do (ticks n s) next) rest) where
  pub all_taken : (k2 : ℕ) → k2 ≡ k + n → Leads c k2 scene (next tt) rest
  all_taken k2 e = record {
    is_left = λ m.
        let same : (n + m) + k ≡ m + k2 = omega (arith, e) in
        ap (λ r. then_do (then_do r next) rest) (sym (paid n m (n + m) (state_at c scene m) refl)) ∙ h.is_left (n + m) ∙ ap c.whole same;
  }

  -- are taken
  pub after_ticks : (k2 : ℕ) (b : Bool) → b ≡ true → OnTrue b (k2 ≡ k + n) → Leads c k2 scene (next tt) rest
  after_ticks k2 b on t = all_taken k2 (on_true (k2 ≡ k + n) b on t)

  too_few : (limit : ℕ) → k ≤ limit → limit < k + n → c.whole limit ≡ Stops TicksUsed (state_at c scene 0)
  too_few limit below short =
      let same : (limit - k) + k ≡ limit = omega (arith, below) in
      let few : limit - k < n = omega (arith, below, short) in
      sym (ap c.whole same) ∙ sym (h.is_left (limit - k)) ∙ ap (λ r. then_do (then_do r next) rest) (unpaid n (limit - k) (state_at c scene 0) few)

  idles_at : (limit spent : ℕ) → c.whole limit ≡ Stops TicksUsed (state_at c scene 0) → (w : Why) → Idles w spent limit → StopsBy c limit w spent scene
  idles_at limit spent e why.Ticks i = (i, ap c.whole i ∙ e)
  idles_at limit spent e (why.Undefined act at) i = absurd i
  idles_at limit spent e why.Memory i = absurd i
  idles_at limit spent e why.Elsewhere i = absurd i

  -- or too few are left
  pub ticks_short : (limit : ℕ) (new : Clock) (b : Bool) → b ≡ false → OnFalse b (Idles new.why new.spent limit) → limit < k + n → k ≤ limit →
      StopsBy c limit new.why new.spent scene
  ticks_short limit new b off i short below =
      idles_at limit new.spent (too_few limit below short) new.why (on_false (Idles new.why new.spent limit) b off i)

  pub no_ticks : (limit : ℕ) (new : Clock) (b : Bool) → b ≡ false → OnFalse b (Idles new.why new.spent limit) → OnFalse b (limit < k + n) → k ≤ limit →
      StopsBy c limit new.why new.spent scene
  no_ticks limit new b off i short = ticks_short limit new b off i (on_false (limit < k + n) b off short)

-- the same number
pub ticks_as : {A : Type 0} (c : Course) (k : ℕ) (scene : Scene) (next : Unit {0} → State → Run A) (rest : A → State → Run Found) (n m : ℕ) → n ≡ m →
    Leads c k scene (λ s. then_do (ticks n s) next) rest → Leads c k scene (λ s. then_do (ticks m s) next) rest
ticks_as c k scene next rest n m e h = record { is_left = λ i. ap (λ n. then_do (then_do (ticks n (state_at c scene i)) next) rest) (sym e) ∙ h.is_left i }

-- ---- a part

-- the next part, and then the rest
abbrev then_rest : {A B : Type 0} → (A → State → Run B) → (B → State → Run Found) → A → State → Run Found
then_rest next rest a s = then_do (next a s) rest

-- the part gave the value that the next one takes
pub gone_on : {A B C : Type 0} (view : A → B) (c : Course) (limit k : ℕ) (scene : Scene) (part : State → Run B) (next : B → State → Run C) (rest : C → State → Run Found)
    (r : Option A) (a : A) (new : Clock) (later : Scene) → r ≡ Some a →
    ((rest2 : B → State → Run Found) → Leads c k scene part rest2 → Comes view c rest2 limit r new later) →
    Leads c k scene (λ s. then_do (part s) next) rest → Leads c new.spent later (next (view a)) rest
gone_on view c limit k scene part next rest r a new later e does h =
    let rest2 = then_rest next rest in
    let P : Option _ → Type 0 = λ r. Comes view c rest2 limit r new later in
    let came : Comes view c rest2 limit (Some a) new later =
    subst P e (does rest2 (record { is_left = λ n. sym (then_assoc (part (state_at c scene n)) next rest) ∙ h.is_left n })) in
    record { is_left = came }

-- or stopped
pub gone_none : {A B C : Type 0} (view : A → B) (c : Course) (limit k : ℕ) (scene : Scene) (part : State → Run B) (next : B → State → Run C) (rest : C → State → Run Found)
    (r : Option A) (new : Clock) (later : Scene) → r ≡ None →
    ((rest2 : B → State → Run Found) → Leads c k scene part rest2 → Comes view c rest2 limit r new later) →
    Leads c k scene (λ s. then_do (part s) next) rest → StopsBy c limit new.why new.spent later
gone_none view c limit k scene part next rest r new later e does h =
    let rest2 = then_rest next rest in
    let P : Option _ → Type 0 = λ r. Comes view c rest2 limit r new later in
    subst P e (does rest2 (record { is_left = λ n. sym (then_assoc (part (state_at c scene n)) next rest) ∙ h.is_left n }))

-- is the same as another one
pub leads_as : {A : Type 0} (c : Course) (k : ℕ) (scene : Scene) (part part2 : State → Run A) (rest : A → State → Run Found) → ((s : State) → part s ≡ part2 s) →
    Leads c k scene part rest → Leads c k scene part2 rest
leads_as c k scene part part2 rest e h = record { is_left = λ n. ap (λ r. then_do r rest) (sym (e (state_at c scene n))) ∙ h.is_left n }

-- gives its value at once
pub gave_now : {A B : Type 0} (view : A → B) (c : Course) (limit : ℕ) (scene : Scene) (b : B) (rest : B → State → Run Found) (a : A) (new : Clock) → b ≡ view a →
    Leads c new.spent scene (λ s. Goes b s) rest → Comes view c rest limit (Some a) new scene
gave_now view c limit scene b rest a new e h = λ n. ap (λ b. rest b (state_at c scene n)) (sym e) ∙ h.is_left n

-- ---- a leaf

module _ {A B : Type 0} (view : A → B) (c : Course) (limit k : ℕ) (before later : Scene) (part : State → Run B) (rest : B → State → Run Found) (new : Clock) (same : new.spent ≡ k)
    (h : Leads c k before part rest) where
  left_at : (n : ℕ) → then_do (part (state_at c before n)) rest ≡ c.whole (n + new.spent)
  left_at n = h.is_left n ∙ ap (λ k. c.whole (n + k)) (sym same)

  stops_with : (w : Why) → new.why ≡ w → StopsBy c limit w new.spent later → StopsBy c limit new.why new.spent later
  stops_with w e h = let P : Why → Type 0 = λ w. StopsBy c limit w new.spent later in subst P (sym e) h

  as_none : (r : Option A) → r ≡ None → StopsBy c limit new.why new.spent later → Comes view c rest limit r new later
  as_none r e h = let P : Option A → Type 0 = λ r. Comes view c rest limit r new later in subst P (sym e) h

  pub gave : (x : Result A Stop) (r : Option A) → ((o : Outside) → Runs view (part (state_in before o)) x (state_in later o)) → Gives x r new.why → Comes view c rest limit r new later
  gave (Ok a) r runs g =
      let P : Option A → Type 0 = λ r. Comes view c rest limit r new later in
      let came : Comes view c rest limit (Some a) new later =
      λ n. sym (ap (λ x. then_do x rest) (runs (record { clock = n; input = c.input; history = c.history }))) ∙ left_at n in
      subst P (sym g) came
  gave (Err stop.Memory) r runs g = as_none r g.0 (stops_with why.Memory g.1 tt)
  gave (Err (stop.Ended n)) r runs g = absurd g
  gave (Err (stop.Undefined act at)) r runs g = as_none r g.0 (stops_with (why.Undefined act at) g.1
      (λ n. sym (left_at n) ∙ ap (λ x. then_do x rest) (runs (record { clock = n; input = c.input; history = c.history }))))

-- ---- the value found

given_then : {A : Type 0} (f : A → Found) (r : Run A) (rest : Found → State → Run Found) → then_do (given f r) rest ≡ then_do r (λ a s. rest (f a) s)
given_then f (Goes a s) rest = refl
given_then f (Stops e s) rest = refl

pub leads_given : {A : Type 0} (f : A → Found) (c : Course) (k : ℕ) (scene : Scene) (part : State → Run A) (rest : Found → State → Run Found) →
    Leads c k scene (λ s. given f (part s)) rest → Leads c k scene part (λ a s. rest (f a) s)
leads_given f c k scene part rest h = record { is_left = λ n. sym (given_then f (part (state_at c scene n)) rest) ∙ h.is_left n }

pub came : {A B : Type 0} (view : A → B) (c : Course) (limit : ℕ) (rest : B → State → Run Found) (r s : Option A) (new : Clock) (later : Scene) → r ≡ s →
    Comes view c rest limit r new later → Comes view c rest limit s new later
came view c limit rest r s new later e h = let P : Option _ → Type 0 = λ r. Comes view c rest limit r new later in subst P e h

-- the postcondition holds trivially where the part is left out
pub left_out : {A B : Type 0} (view : A → B) (c : Course) (limit : ℕ) (rest : B → State → Run Found) (r : Option A) (new : Clock) (later : Scene) → r ≡ None → new.why ≡ why.Elsewhere →
    Comes view c rest limit r new later
left_out view c limit rest r new later e w =
    let P : Option _ → Type 0 = λ r. Comes view c rest limit r new later in
    let Q : Why → Type 0 = λ w. StopsBy c limit w new.spent later in
    let stops : Q new.why = subst Q (sym w) tt in
    subst P (sym e) stops
