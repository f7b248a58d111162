-- A plan that fits makes code of which each instruction fits the one that it stands for.
use Rattle.std.proofs.Common.{◌≡◌, ◌≤◌, ℕ, zero, suc, ◌+◌, ◌-◌, List, [], ◌∷◌, map, Option, Some, None, Bool, true, false, refl, sym, ap, ◌∙◌, subst, arith}
use Rattle.std.specs.Prelude.{◌==◌, ◌&&◌, not, if◌then◌else◌, slice_get, option_map}
use Rattle.std.proofs.lemmas.Bool.{eqb-true}
use Rattle.std.proofs.lemmas.Option.{slice_get-map}
use Rattle.frames_code.specs.declared.code.Instruction.{Instruction}
use Rattle.frames_code.specs.declared.code.Instruction.TheVariants as instruction
use Rattle.frames_opt.proofs.Alike.{left_true, right_true}
use Rattle.frames_layout.specs.declared.plan.Stand.{Stand}
use Rattle.frames_layout.specs.declared.walks.Onward.{Onward}
use Rattle.frames_layout.specs.layer.Plans.{onward, onward_if, onward_at, holds_in, walks, most_onward, led_to, led_if, made, all_made, owed, comes, is_plain, leads_as, jumps_as, fits, all_fit, begins}
use Rattle.frames_layout.specs.layer.Functions.{IsPlanned}
use Rattle.frames_layout.proofs.Moving.{IsStraight, same_some}
use Rattle.frames_layout.proofs.Walking.{Found, found}
use Rattle.frames_layout.proofs.Fitting.{OntoIn, BackIn, FitsIn, straight, jumps, inserted, branches, calls, exits, returns}

-- one that there is, and of which this holds
pub record Held {A : Type 0} (P : A → Bool) (o : Option A) : Type 0 where
  pub it : A
  pub is : o ≡ Some it
  pub holds : P it ≡ true

pub held : {A : Type 0} (P : A → Bool) (o : Option A) → holds_in P o ≡ true → Held P o
held P None e = absurd (let z : ⊥ = cc in z)
held P (Some x) e = record { it = x; is = refl; holds = e }

abbrev pub At : List Stand → ℕ → ℕ → Type 0
At plan j k = (e : Stand) × ((slice_get plan j ≡ Some e) × (e.old ≡ k))

abbrev pub owes_of : Option Stand → Bool
owes_of None = false
owes_of (Some e) = e.is_owed

abbrev pub owes : List Stand → ℕ → Bool
owes plan j = owes_of (slice_get plan j)

not_true : (b : Bool) → not b ≡ true → b ≡ false
not_true true e = absurd (let z : ⊥ = cc in z)
not_true false e = refl

module _ (old : List Instruction) (plan : List Stand) where
  abbrev new : List Instruction
  new = all_made old plan

  abbrev Onto : ℕ → ℕ → ℕ → Type 0
  Onto = OntoIn old new (At plan) (owes plan)

  onto : (before k j : ℕ) → comes old plan before k j ≡ true → Onto (owed (owes plan j) - before) k j
  onto before k j e =
      let h = held (λ (x : Stand). walks old most_onward (owed x.is_owed - before) x.old k) (slice_get plan j) e in
      let debt : owed (owes plan j) ≡ owed h.it.is_owed = ap (λ o. owed (owes_of o)) h.is in
      subst (λ n. Onto (n - before) k j) (sym debt) (record { to = h.it.old; at = (h.it, (h.is, refl)); found = found old most_onward (owed h.it.is_owed - before) h.it.old k h.holds })

  there_is : (j : ℕ) (e : Stand) (y : Instruction) → slice_get plan j ≡ Some e → made old e ≡ y → slice_get new j ≡ Some y
  there_is j e y at is = slice_get-map (made old) plan j ∙ (ap (option_map (made old)) at ∙ ap Some is)

  made_kept : (e : Stand) (x : Instruction) → e.is_jump ≡ false → slice_get old e.old ≡ Some x → made old e ≡ led_to e.place x
  made_kept e x kept is = ap (λ b. if b then instruction.Jump e.place else led_if e.place (slice_get old e.old)) kept ∙ ap (led_if e.place) is

  made_jump : (e : Stand) → e.is_jump ≡ true → made old e ≡ instruction.Jump e.place
  made_jump e is = ap (λ b. if b then instruction.Jump e.place else led_if e.place (slice_get old e.old)) is

  module _ (j : ℕ) (e : Stand) (at : slice_get plan j ≡ Some e) where
    debt_here : owed (owes plan j) ≡ owed e.is_owed
    debt_here = ap (λ o. owed (owes_of o)) at

    onto_here : (k i : ℕ) → comes old plan (owed e.is_owed) k i ≡ true → Onto (owed (owes plan i) - owed (owes plan j)) k i
    onto_here k i h = subst (λ n. Onto (owed (owes plan i) - n) k i) (sym debt_here) (onto (owed e.is_owed) k i h)

    goes_straight : (x : Instruction) → IsStraight x → slice_get new j ≡ Some x → comes old plan (owed e.is_owed) (e.old + 1) (j + 1) ≡ true → FitsIn old new (At plan) (owes plan) j e.old x
    goes_straight x is there h = straight is there (onto_here (e.old + 1) (j + 1) h)

    kept_fits : (x : Instruction) → slice_get new j ≡ Some (led_to e.place x) → leads_as old plan j e x ≡ true → FitsIn old new (At plan) (owes plan) j e.old x
    kept_fits instruction.Nothing there h = goes_straight instruction.Nothing tt there h
    kept_fits (instruction.Move d x) there h = goes_straight (instruction.Move d x) tt there h
    kept_fits (instruction.Compute o d x y) there h = goes_straight (instruction.Compute o d x y) tt there h
    kept_fits (instruction.Convert c d x) there h = goes_straight (instruction.Convert c d x) tt there h
    kept_fits (instruction.Load w d l) there h = goes_straight (instruction.Load w d l) tt there h
    kept_fits (instruction.Store w x l) there h = goes_straight (instruction.Store w x l) tt there h
    kept_fits (instruction.Address d l) there h = goes_straight (instruction.Address d l) tt there h
    kept_fits (instruction.Element d x y size) there h = goes_straight (instruction.Element d x y size) tt there h
    kept_fits (instruction.Jump to) there h = jumps to e.place refl there (onto_here to e.place h)
    kept_fits (instruction.Branch t x y to) there h =
        branches t x y to e.place refl there
        (onto_here (e.old + 1) (j + 1) (left_true (comes old plan (owed e.is_owed) (e.old + 1) (j + 1)) (comes old plan (owed e.is_owed) to e.place) h))
        (onto_here to e.place (right_true (comes old plan (owed e.is_owed) (e.old + 1) (j + 1)) (comes old plan (owed e.is_owed) to e.place) h))
    kept_fits (instruction.Call g) there h =
        let plain = held is_plain (slice_get plan (j + 1)) (left_true (holds_in is_plain (slice_get plan (j + 1))) (comes old plan 0 (e.old + 1) (j + 1)) h) in
        let none : owes plan (j + 1) ≡ false = ap owes_of plain.is ∙ not_true plain.it.is_owed plain.holds in
        let on = onto 0 (e.old + 1) (j + 1) (right_true (holds_in is_plain (slice_get plan (j + 1))) (comes old plan 0 (e.old + 1) (j + 1)) h) in
        calls g refl there (none, subst (λ n. Onto n (e.old + 1) (j + 1)) (let zero_is : owed (owes plan (j + 1)) - 0 ≡ 0 = ap (λ b. owed b - 0) none in zero_is) on)
    kept_fits instruction.PutByte there h = goes_straight instruction.PutByte tt there h
    kept_fits instruction.GetByte there h = goes_straight instruction.GetByte tt there h
    kept_fits instruction.Exit there h = exits refl there
    kept_fits instruction.Return there h = returns refl there

    jump_fits : (x : Instruction) → slice_get old e.old ≡ Some x → e.is_jump ≡ true → jumps_as old plan e ≡ true → FitsIn old new (At plan) (owes plan) j e.old x
    jump_fits x is jump h =
        let owing : e.is_owed ≡ true = left_true e.is_owed (holds_in (λ (w : Onward). comes old plan w.jumps w.to e.place) (onward_at old e.old)) h in
        let w = held (λ (w : Onward). comes old plan w.jumps w.to e.place) (onward_at old e.old) (right_true e.is_owed (holds_in (λ (w : Onward). comes old plan w.jumps w.to e.place) (onward_at old e.old)) h) in
        let leads : onward e.old x ≡ Some w.it = sym (ap (onward_if e.old) is) ∙ w.is in
        inserted w.it e.place leads (ap owes_of at ∙ owing) (there_is j e (instruction.Jump e.place) at (made_jump e jump)) (onto w.it.jumps w.it.to e.place w.holds)

    fits_here : (x : Instruction) → slice_get old e.old ≡ Some x → fits old plan j e ≡ true → FitsIn old new (At plan) (owes plan) j e.old x
    fits_here x is h = on e.is_jump refl h
      where
        on : (b : Bool) → e.is_jump ≡ b → (if b then jumps_as old plan e else holds_in (leads_as old plan j e) (slice_get old e.old)) ≡ true → FitsIn old new (At plan) (owes plan) j e.old x
        on true jump g = jump_fits x is jump g
        on false kept g = kept_fits x (there_is j e (led_to e.place x) at (made_kept e x kept is)) (sym (ap (holds_in (leads_as old plan j e)) is) ∙ g)

  -- number j + i, which is number i from j on
  fit_at : (j : ℕ) (es : List Stand) → all_fit old plan j es ≡ true → (i : ℕ) (e : Stand) → slice_get es i ≡ Some e → fits old plan (j + i) e ≡ true
  fit_at j [] right i e h = absurd (let z : ⊥ = cc in z)
  fit_at j (x ∷ xs) right zero e h =
      let same : x ≡ e = cc in
      let here : j ≡ j + 0 = omega arith in
      subst (λ n. fits old plan n e ≡ true) here (subst (λ z. fits old plan j z ≡ true) same (left_true (fits old plan j x) (all_fit old plan (j + 1) xs) right))
  fit_at j (x ∷ xs) right (suc i) e h =
      let there : (j + 1) + i ≡ j + suc i = omega arith in
      subst (λ n. fits old plan n e ≡ true) there (fit_at (j + 1) xs (right_true (fits old plan j x) (all_fit old plan (j + 1) xs) right) i e h)

  pub each_fits : all_fit old plan 0 plan ≡ true → (j k : ℕ) (x : Instruction) → At plan j k → slice_get old k ≡ Some x → FitsIn old new (At plan) (owes plan) j k x
  each_fits right j k x at is =
      let e = at.0 in
      let here : 0 + j ≡ j = omega arith in
      let fit : fits old plan j e ≡ true = subst (λ n. fits old plan n e ≡ true) here (fit_at 0 plan right j e at.1.0) in
      subst (λ n. FitsIn old new (At plan) (owes plan) j n x) at.1.1 (fits_here j e at.1.0 x (ap (slice_get old) at.1.1 ∙ is) fit)

  pub begins_at : holds_in begins (slice_get plan 0) ≡ true → At plan 0 0 × (owes plan 0 ≡ false)
  begins_at e =
      let h = held begins (slice_get plan 0) e in
      let old_is : h.it.old ≡ 0 = eqb-true h.it.old 0 (left_true (h.it.old == 0) (not h.it.is_owed) h.holds) in
      ((h.it, (h.is, old_is)), ap owes_of h.is ∙ not_true h.it.is_owed (right_true (h.it.old == 0) (not h.it.is_owed) h.holds))
