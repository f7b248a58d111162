-- Parts of a run within which the calls that are active stay the same, and no sum of their weights is greater than allowed.
use Rattle.std.proofs.Common.{◌≡◌, ℕ, zero, suc, ◌+◌, ◌≤◌, List, [], ◌∷◌, ◌++◌, Option, Bool, true, false, sym, ap, subst, arith}
use Rattle.csem_events.specs.Events.{Event}
use Rattle.csem.specs.History.{Entry, Did, Entered, Left, active, without_innermost, sum_of, greatest_sum}
use Rattle.csem.specs.Machine.{State, Ending, Run, Goes, Stops, then_do, choose, tick_of, tick, ticks}
use Rattle.csem.specs.Expressions.{Passed, Calling}

-- the weight of each function, the greatest sum that is allowed, and the functions of the calls that are active
pub record Limits : Type 0 where
  pub weight : ℕ → ℕ
  pub most : ℕ
  pub stack : List ℕ

pub record Has (k : Limits) (h : List Entry) : Type 0 where
  pub are_active : active h ≡ k.stack
  pub within : greatest_sum k.weight h ≤ k.most

abbrev pub Stays : {A : Type 0} → Limits → Run A → Type 0
Stays k (Goes a s) = Has k s.history
Stays k (Stops e s) = greatest_sum k.weight s.history ≤ k.most

pub record Keeps {A : Type 0} (k : Limits) (f : State → Run A) : Type 0 where
  pub keeps : (s : State) → Has k s.history → Stays k (f s)

-- a change of the state that does nothing that is seen
pub record Plain (g : State → State) : Type 0 where
  pub same : (s : State) → (g s).history ≡ s.history

-- ---- histories

sum_within : (weight : ℕ → ℕ) (h : List Entry) → sum_of weight (active h) ≤ greatest_sum weight h
sum_within weight [] = omega arith
sum_within weight (e ∷ h) = omega arith

sum_without : (weight : ℕ → ℕ) (fs : List ℕ) → sum_of weight (without_innermost fs) ≤ sum_of weight fs
sum_without weight [] = omega arith
sum_without weight (f ∷ fs) = omega arith

pub did_has : (k : Limits) (e : Event) (h : List Entry) → Has k h → Has k (Did e ∷ h)
did_has k e h m = record { are_active = m.are_active; within = omega (arith, sum_within k.weight h, m.within) }

abbrev pub inside : Limits → ℕ → Limits
inside k f = record k { stack = f ∷ k.stack }

pub entered_has : (k : Limits) (f : ℕ) (arguments : List (Option ℕ)) (h : List Entry) → k.weight f + sum_of k.weight k.stack ≤ k.most → Has k h → Has (inside k f) (Entered f arguments ∷ h)
entered_has k f arguments h fits m =
    let e : sum_of k.weight (active h) ≡ sum_of k.weight k.stack = ap (sum_of k.weight) m.are_active in
    record { are_active = ap (λ fs. f ∷ fs) m.are_active; within = omega (arith, fits, e, m.within) }

pub left_has : (k : Limits) (f : ℕ) (result : Option ℕ) (h : List Entry) → Has (inside k f) h → Has k (Left result ∷ h)
left_has k f result h m = record {
  are_active = ap without_innermost m.are_active;
  within = omega (arith, sum_without k.weight (active h), sum_within k.weight h, m.within);
}

-- ---- parts of a run

tick_of_keeps : {A : Type 0} (k : Limits) (go : State → Run A) → Keeps k go → (n : ℕ) (s : State) → Has k s.history → Stays k (tick_of n s go)
tick_of_keeps k go h zero s m = m.within
tick_of_keeps k go h (suc n) s m = h.keeps (record s { clock = n }) m

pub keeps_tick : {A : Type 0} (k : Limits) (go : State → Run A) → Keeps k go → Keeps k (λ s. tick s go)
keeps_tick k go h = record { keeps = λ s m. tick_of_keeps k go h s.clock s m }

then_keeps : {A B : Type 0} (k : Limits) (r : Run A) (g : A → State → Run B) → ((a : A) → Keeps k (g a)) → Stays k r → Stays k (then_do r g)
then_keeps k (Goes a s) g h m = (h a).keeps s m
then_keeps k (Stops e s) g h m = m

pub keeps_then : {A B : Type 0} (k : Limits) (f : State → Run A) (g : A → State → Run B) → Keeps k f → ((a : A) → Keeps k (g a)) → Keeps k (λ s. then_do (f s) g)
keeps_then k f g h j = record { keeps = λ s m. then_keeps k (f s) g j (h.keeps s m) }

pub keeps_choose : {A : Type 0} (k : Limits) (b : Bool) (f g : State → Run A) → Keeps k f → Keeps k g → Keeps k (λ s. choose b (f s) (g s))
keeps_choose k true f g h j = h
keeps_choose k false f g h j = j

pub keeps_stay : {A : Type 0} (k : Limits) (a : A) → Keeps k (λ s. Goes a s)
keeps_stay k a = record { keeps = λ s m. m }

pub keeps_stop : {A : Type 0} (k : Limits) (e : Ending) → Keeps {A = A} k (λ s. Stops e s)
keeps_stop k e = record { keeps = λ s m. m.within }

-- a change of state, and the run after it
pub keeps_after : {A : Type 0} (k : Limits) (g : State → State) → Plain g → (f : State → Run A) → Keeps k f → Keeps k (λ s. f (g s))
keeps_after k g pl f h = record { keeps = λ s m. h.keeps (g s) (subst (λ x. Has k x) (sym (pl.same s)) m) }

pub keeps_change : {A : Type 0} (k : Limits) (a : A) (g : State → State) → Plain g → Keeps k (λ s. Goes a (g s))
keeps_change k a g pl = keeps_after k g pl (λ s. Goes a s) (keeps_stay k a)

pub keeps_ticks : (k : Limits) (n : ℕ) → Keeps k (ticks n)
keeps_ticks k zero = keeps_stay k tt
keeps_ticks k (suc n) = keeps_tick k _ (keeps_ticks k n)

-- ---- calls

-- a call of each of these functions keeps within the limits
abbrev pub EachKept : Limits → Calling → (calls : List ℕ) → Type 0
EachKept k c [] = Unit {0}
EachKept k c (f ∷ calls) = ((passed : List Passed) → Keeps k (c f passed)) × EachKept k c calls

pub kept_first : (k : Limits) (c : Calling) (xs ys : List ℕ) → EachKept k c (xs ++ ys) → EachKept k c xs
kept_first k c [] ys h = tt
kept_first k c (f ∷ xs) ys h = (h.0, kept_first k c xs ys h.1)

pub kept_rest : (k : Limits) (c : Calling) (xs ys : List ℕ) → EachKept k c (xs ++ ys) → EachKept k c ys
kept_rest k c [] ys h = h
kept_rest k c (f ∷ xs) ys h = kept_rest k c xs ys h.1
