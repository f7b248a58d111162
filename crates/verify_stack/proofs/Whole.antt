-- By usages of functions that meet their inequalities, a run takes no more than the usage of main.
use Rattle.std.proofs.Common.{◌≡◌, ℕ, zero, suc, ◌+◌, ◌-◌, ◌≤◌, List, [], ◌∷◌, Option, Some, None, Result, Ok, Err, Bool, refl, ap, ◌∙◌, subst, length, map, arith}
use Rattle.std.specs.Prelude.{option_map, slice_get, nat_eq, IfOk}
use Rattle.typing_spec.specs.Program.{Function, Program}
use Rattle.csem.specs.History.{Entry, active, weight_or_none, weight_in, sum_of, greatest_sum}
use Rattle.csem.specs.Machine.{State, Run, Goes, Stops, Ended, TicksUsed, then_do, ticks}
use Rattle.csem.specs.Expressions.{Passed}
use Rattle.csem.specs.Statements.{Flow}
use Rattle.csem.specs.Meaning.{enter, leave, word_of, words_of, value_left, body_of, call_defined, calling, start, status_of, end_with, cstep, last_of}
use Rattle.verify_stack.specs.Calls.{statement_calls}
use Rattle.verify_stack.specs.Usages.{FitsIn, EachFits, Covers, CoversIfSaid, EachCovers, AreUsages}
use Rattle.verify_stack.specs.declared.bounds.Bound.{Bound}
use Rattle.verify_stack.specs.declared.bounds.Bound.TheVariants.{AtMost, Recursive, Unknown}
use Rattle.verify_stack.specs.Bounds.{SumsWithin, size_or_none, size_in, Says}
use Rattle.verify_stack.proofs.Runs.{Limits, Stays, Keeps, inside, entered_has, left_has, keeps_then, keeps_stay, keeps_stop, keeps_ticks, EachKept}
use Rattle.verify_stack.proofs.Trees.{keeps_body}

-- the claim for one function
covers_at : (usages : List (Option ℕ)) (gs : List Function) (ns : List (Option ℕ)) (sizes : List ℕ) (f usage : ℕ) (g : Function)
    → EachCovers usages gs ns sizes → slice_get gs f ≡ Some g → slice_get ns f ≡ Some (Some usage) → (size : ℕ) × (slice_get sizes f ≡ Some size) × Covers usages size g usage
covers_at usages [] ns sizes f usage g h e d = absurd (cc e)
covers_at usages (x ∷ gs) [] sizes f usage g h e d = absurd (cc d)
covers_at usages (x ∷ gs) (n ∷ ns) [] f usage g h e d = absurd h
covers_at usages (x ∷ gs) (n ∷ ns) (s ∷ sizes) zero usage g h e d =
    let e2 : x ≡ g = cc e in
    let d2 : n ≡ Some usage = cc d in
    (s, refl, subst (λ y. Covers usages s y usage) e2 (subst (λ m. CoversIfSaid usages s x m) d2 h.0))
covers_at usages (x ∷ gs) (n ∷ ns) (s ∷ sizes) (suc f) usage g h e d = covers_at usages gs ns sizes f usage g h.1 e d

stays_last : {A : Type 0} (k : Limits) (r : Run A) → Stays k r → greatest_sum k.weight (last_of r).history ≤ k.most
stays_last k (Goes a s) m = m.within
stays_last k (Stops e s) m = m

-- a call ends
then_left : (k : Limits) (f : ℕ) (is_main : Bool) (caller : State) (r : Run Flow) → Stays (inside k f) r
    → Stays k (then_do r (λ flow s. Goes (value_left is_main flow) (leave caller (value_left is_main flow) s)))
then_left k f is_main caller (Goes flow s) m = left_has k f (option_map word_of (value_left is_main flow)) s.history m
then_left k f is_main caller (Stops e s) m = m

module _ (p : Program) (sizes : List ℕ) (usages : List (Option ℕ)) (are : AreUsages p sizes usages) (most : ℕ) where
  abbrev size : ℕ → ℕ
  size = size_in sizes

  abbrev limits : List ℕ → Limits
  limits stack = record { weight = size; most = most; stack = stack }

  -- calls at most d deep keep within the limits where there is room for their usage
  abbrev CallsKeep : ℕ → Type 0
  CallsKeep d = (stack : List ℕ) (f usage : ℕ) → slice_get usages f ≡ Some (Some usage) → usage + sum_of size stack ≤ most
      → (passed : List Passed) → Keeps (limits stack) (calling p d f passed)

  fitting : (d : ℕ) → CallsKeep d → (stack : List ℕ) (room : ℕ) → room + sum_of size stack ≤ most
      → (f : ℕ) (o : Option (Option ℕ)) → slice_get usages f ≡ o → FitsIn room o → (passed : List Passed) → Keeps (limits stack) (calling p d f passed)
  fitting d ih stack room fits f None e h passed = absurd h
  fitting d ih stack room fits f (Some None) e h passed = absurd h
  fitting d ih stack room fits f (Some (Some usage)) e h passed = ih stack f usage e (omega (arith, fits, h)) passed

  each_kept : (d : ℕ) → CallsKeep d → (stack : List ℕ) (room : ℕ) → room + sum_of size stack ≤ most
      → (calls : List ℕ) → EachFits usages room calls → EachKept (limits stack) (calling p d) calls
  each_kept d ih stack room fits [] h = tt
  each_kept d ih stack room fits (f ∷ calls) h = (fitting d ih stack room fits f (slice_get usages f) refl h.0, each_kept d ih stack room fits calls h.1)

  body_keeps : (d : ℕ) → CallsKeep d → (stack : List ℕ) (f usage own : ℕ) (g : Function) → slice_get sizes f ≡ Some own → Covers usages own g usage
      → usage + sum_of size stack ≤ most → Keeps (limits (f ∷ stack)) (body_of p (calling p d) g)
  body_keeps d ih stack f usage own g e c fits =
      let w : size f ≡ own = ap size_or_none e in
      let k : Limits = limits (f ∷ stack) in
      let room : (usage - own) + sum_of size (f ∷ stack) ≤ most = omega (arith, w, c.own, fits) in
      keeps_then k (ticks (suc (length g.type.parameters))) _ (keeps_ticks k (suc (length g.type.parameters))) (λ u.
      keeps_body k p (calling p d) g.objects g.body (each_kept d ih (f ∷ stack) (usage - own) room (statement_calls g.body) c.calls))

  defined : (d : ℕ) → CallsKeep d → (stack : List ℕ) (f usage : ℕ) → slice_get usages f ≡ Some (Some usage) → usage + sum_of size stack ≤ most
      → (o : Option Function) → slice_get p.functions f ≡ o → (passed : List Passed) → Keeps (limits stack) (call_defined p (calling p d) o f passed)
  defined d ih stack f usage e fits None q passed = keeps_stay (limits stack) None
  defined d ih stack f usage e fits (Some g) q passed =
      let found = covers_at usages p.functions usages sizes f usage g are q e in
      let c : Covers usages found.0 g usage = found.2 in
      let w : size f ≡ found.0 = ap size_or_none found.1 in
      let room : size f + sum_of size stack ≤ most = omega (arith, w, c.own, fits) in
      record {
        keeps = λ s m.
            then_left (limits stack) f (nat_eq f p.main) s (body_of p (calling p d) g (enter f g passed s))
            ((body_keeps d ih stack f usage found.0 g found.1 c fits).keeps (enter f g passed s) (entered_has (limits stack) f (words_of passed) s.history room m));
      }

  calls_keep : (d : ℕ) → CallsKeep d
  calls_keep zero stack f usage e fits passed = keeps_stop (limits stack) TicksUsed
  calls_keep (suc d) stack f usage e fits passed = defined d (calls_keep d) stack f usage e fits (slice_get p.functions f) refl passed

  pub usages_bound : slice_get usages p.main ≡ Some (Some most) → SumsWithin size most p
  usages_bound e n input =
      let k : Limits = limits [] in
      let fits : most + sum_of size [] ≤ most = omega arith in
      let none : greatest_sum size [] ≤ most = omega arith in
      stays_last k (cstep n p input)
      ((keeps_then k (calling p (suc n) p.main []) end_with (calls_keep (suc n) [] p.main most e fits []) (λ v. keeps_stop k (Ended (status_of v)))).keeps
      (start n p input) (record { are_active = refl; within = none }))

-- ---- sizes that are the same

sum_same : (a b : ℕ → ℕ) → ((f : ℕ) → a f ≡ b f) → (fs : List ℕ) → sum_of a fs ≡ sum_of b fs
sum_same a b e [] = refl
sum_same a b e (f ∷ fs) = rw (e f, sum_same a b e fs) refl

-- the greatest sum depends on the sizes alone
pub greatest_same : (a b : ℕ → ℕ) → ((f : ℕ) → a f ≡ b f) → (h : List Entry) → greatest_sum a h ≡ greatest_sum b h
greatest_same a b e [] = refl
greatest_same a b e (x ∷ earlier) = rw (sum_same a b e (active (x ∷ earlier)), greatest_same a b e earlier) refl

pub sums_same : (a b : ℕ → ℕ) (p : Program) (most : ℕ) → ((f : ℕ) → a f ≡ b f) → SumsWithin a most p → SumsWithin b most p
sums_same a b p most e h n input = subst (λ k. k ≤ most) (greatest_same a b e (last_of (cstep n p input)).history) (h n input)

says_same : (a b : ℕ → ℕ) (p : Program) (bound : Bound) → ((f : ℕ) → a f ≡ b f) → Says a p bound → Says b p bound
says_same a b p (AtMost most) e h = sums_same a b p most e h
says_same a b p (Recursive r) e h = h
says_same a b p Unknown e h = tt

weight_at : (gs : List Function) (f : ℕ) → size_in (map (λ (g : Function). g.weight) gs) f ≡ weight_or_none (slice_get gs f)
weight_at [] f = refl
weight_at (g ∷ gs) zero = refl
weight_at (g ∷ gs) (suc f) = weight_at gs f

-- the sizes that are weights
pub says_by_weights : (p : Program) (sizes : List ℕ) (bound : Bound) → sizes ≡ map (λ (g : Function). g.weight) p.functions → Says (size_in sizes) p bound → Says (weight_in p) p bound
says_by_weights p sizes bound e h = says_same (size_in sizes) (weight_in p) p bound (λ f. ap (λ xs. size_in xs f) e ∙ weight_at p.functions f) h

pub ok_by_weights : {E : Type 0} (p : Program) (sizes : List ℕ) (r : Result Bound E) → sizes ≡ map (λ (g : Function). g.weight) p.functions → IfOk r (Says (size_in sizes) p) → IfOk r (Says (weight_in p) p)
ok_by_weights p sizes (Ok bound) e h = says_by_weights p sizes bound e h
ok_by_weights p sizes (Err x) e h = tt
