-- The places of names.
use Rattle.std.proofs.Common.{◌≡◌, ℕ, zero, suc, ◌+◌, ◌-◌, ◌<◌, ◌≤◌, List, [], ◌∷◌, ◌++◌, length, Some, refl, sym, ap, ◌∙◌, arith, get_or, nat_eq, true, false, cond, length-append, set, length-set, get_or-set_same, get_or-set_other, eq-eqb, subst, ◌≢◌, drop}
use Rattle.std.specs.Prelude.{reverse}
use Rattle.std.proofs.lemmas.Grind.{common_steps}
use Rattle.std.proofs.lemmas.List.{length-reverse, reverse-append}
use Rattle.typing_scopes.specs.declared.newest_names.Entry.{Entry}
use Rattle.typing_scopes.specs.NewestNames.{names_of, place_of, before, Hides}

-- one more zero at the end changes no place
pub one_zero_more : (xs : List ℕ) (n : ℕ) → get_or (xs ++ 0 ∷ []) n 0 ≡ get_or xs n 0
one_zero_more [] zero = refl
one_zero_more [] (suc n) = refl
one_zero_more (x ∷ xs) zero = refl
one_zero_more (x ∷ xs) (suc n) = one_zero_more xs n

pub past_end : (xs : List ℕ) (n : ℕ) → length xs ≤ n → get_or xs n 0 ≡ 0
past_end [] n h = refl
past_end (x ∷ xs) zero h = absurd (omega (arith, h))
past_end (x ∷ xs) (suc n) h = past_end xs n (omega (arith, h))

pub one_before : (p : ℕ) → p ≢ 0 → Some (p - 1) ≡ before p
one_before zero h = absurd (h refl)
one_before (suc k) h = ap Some (omega arith)

pub names_length : (es : List Entry) → length (names_of es) ≡ length es
names_length [] = refl
names_length (e ∷ es) = ap suc (names_length es)

name_same : (m n : ℕ) → nat_eq m n ≡ true → m ≡ n
name_same m n q = grind arith

false-≢-true : (m n : ℕ) → nat_eq m n ≡ false → m ≡ n → ⊥
false-≢-true m n q e = let t = eq-eqb m n e in cc

pub more_room : (m k : ℕ) (es : List Entry) → m ≤ k → Hides m es → Hides k es
more_room m k [] le h = tt
more_room m k (e ∷ es) le h = (h.0, omega (arith, h.1, le), more_room m k es le h.2)

same_place : (xs : List ℕ) (b : Entry) (bs : List ℕ) (n : ℕ) → b.name < length xs → b.hides ≡ place_of bs b.name → b.name ≡ n → get_or (set xs b.name b.hides) n 0 ≡ place_of bs n
same_place xs b bs n lt hides q = ap (λ m. get_or (set xs b.name b.hides) m 0) (sym q) ∙ rw get_or-set_same (hides ∙ ap (λ m. place_of bs m) q)

-- the newest places once the newest name is removed
unhidden : (xs : List ℕ) (b : Entry) (bs : List ℕ) → b.name < length xs → b.hides ≡ place_of bs b.name → ((n : ℕ) → get_or xs n 0 ≡ place_of (b.name ∷ bs) n)
    → (n : ℕ) → get_or (set xs b.name b.hides) n 0 ≡ place_of bs n
unhidden xs b bs lt hides all n =
    elim (nat_eq b.name n) as (λ v. nat_eq b.name n ≡ v → get_or xs n 0 ≡ cond v (length bs + 1) (place_of bs n) → get_or (set xs b.name b.hides) n 0 ≡ place_of bs n) [
      | true ↦ λ q w. same_place xs b bs n lt hides (name_same b.name n q)
      | false ↦ λ q w. let ne : n ≢ b.name = λ x. false-≢-true b.name n q (sym x) in rw get_or-set_other w
    ] refl (all n)

pub left : (xs : List ℕ) (old new : List Entry) (b : Entry) → old ≡ new ++ b ∷ [] → Hides (length xs) (reverse old) → ((n : ℕ) → get_or xs n 0 ≡ place_of (names_of (reverse old)) n)
    → Hides (length (set xs b.name b.hides)) (reverse new) × ((n : ℕ) → get_or (set xs b.name b.hides) n 0 ≡ place_of (names_of (reverse new)) n)
left xs old new b e hides all =
    let r : reverse old ≡ b ∷ reverse new = ap reverse e ∙ reverse-append new (b ∷ []) in
    let P : List Entry → Type 0 = λ l. Hides (length xs) l in
    let h : Hides (length xs) (b ∷ reverse new) = subst P r hides in
    let Q : ℕ → Type 0 = λ k. Hides k (reverse new) in (
      subst Q (sym (length-set xs b.name b.hides)) h.2,
      unhidden xs b (names_of (reverse new)) h.1 h.0 (λ n. all n ∙ ap (λ l. place_of (names_of l) n) r),
    )

pub left_names : (old new : List Entry) (b : Entry) → old ≡ new ++ b ∷ [] → names_of (reverse new) ≡ drop 1 (names_of (reverse old))
left_names old new b e = sym (ap (λ l. drop 1 (names_of l)) (ap reverse e ∙ reverse-append new (b ∷ [])))

-- one more name
newly : (xs : List ℕ) (b : Entry) (bs : List ℕ) (k : ℕ) → b.name < length xs → k ≡ length bs + 1 → ((n : ℕ) → get_or xs n 0 ≡ place_of bs n) → (n : ℕ) → get_or (set xs b.name k) n 0 ≡ place_of (b.name ∷ bs) n
newly xs b bs k lt e all n =
    elim (nat_eq b.name n) as (λ v. nat_eq b.name n ≡ v → get_or (set xs b.name k) n 0 ≡ cond v (length bs + 1) (place_of bs n)) [
      | true ↦ λ q. ap (λ m. get_or (set xs b.name k) m 0) (sym (name_same b.name n q)) ∙ rw get_or-set_same e
      | false ↦ λ q. let ne : n ≢ b.name = λ x. false-≢-true b.name n q (sym x) in rw get_or-set_other (all n)
    ] refl

pub declared : (xs : List ℕ) (old new : List Entry) (b : Entry) (k : ℕ) → new ≡ old ++ b ∷ [] → k ≡ length new → b.name < length xs → b.hides ≡ get_or xs b.name 0
    → Hides (length xs) (reverse old) → ((n : ℕ) → get_or xs n 0 ≡ place_of (names_of (reverse old)) n)
    → Hides (length (set xs b.name k)) (reverse new) × ((n : ℕ) → get_or (set xs b.name k) n 0 ≡ place_of (names_of (reverse new)) n)
declared xs old new b k e ek lt eh hides all =
    let r : reverse new ≡ b ∷ reverse old = ap reverse e ∙ reverse-append old (b ∷ []) in
    let P : List Entry → Type 0 = λ l. Hides (length (set xs b.name k)) l in
    let Q : ℕ → Type 0 = λ m. Hides m (b ∷ reverse old) in
    let h : Hides (length xs) (b ∷ reverse old) = (eh ∙ all b.name, lt, hides) in
    let lk : k ≡ length (names_of (reverse old)) + 1 = (let a = ap length e in let l = length-append old (b ∷ []) in let m = names_length (reverse old) in let o = length-reverse old in omega (arith, ek, a, l, m, o)) in (
      subst P (sym r) (subst Q (sym (length-set xs b.name k)) h),
      λ n. newly xs b (names_of (reverse old)) k lt lk all n ∙ ap (λ l. place_of (names_of l) n) (sym r),
    )

pub declared_names : (old new : List Entry) (b : Entry) → new ≡ old ++ b ∷ [] → names_of (reverse new) ≡ b.name ∷ names_of (reverse old)
declared_names old new b e = ap (λ l. names_of l) (ap reverse e ∙ reverse-append old (b ∷ []))

-- more room changes nothing
pub grown : (xs ys : List ℕ) (old new : List Entry) → new ≡ old → length xs ≤ length ys → ((n : ℕ) → get_or ys n 0 ≡ get_or xs n 0)
    → Hides (length xs) (reverse old) × ((n : ℕ) → get_or xs n 0 ≡ place_of (names_of (reverse old)) n)
    → Hides (length ys) (reverse new) × ((n : ℕ) → get_or ys n 0 ≡ place_of (names_of (reverse new)) n)
grown xs ys old new e le keeps h =
    let P : List Entry → Type 0 = λ l. Hides (length ys) (reverse l) in
    (subst P (sym e) (more_room (length xs) (length ys) (reverse old) le h.0), λ n. keeps n ∙ h.1 n ∙ ap (λ l. place_of (names_of (reverse l)) n) (sym e))

pub declared_in : (xs ys : List ℕ) (old new : List Entry) (b : Entry) (k : ℕ) → new ≡ old ++ b ∷ [] → k ≡ length new → b.name < length ys → b.hides ≡ get_or ys b.name 0
    → length xs ≤ length ys → ((n : ℕ) → get_or ys n 0 ≡ get_or xs n 0)
    → Hides (length xs) (reverse old) × ((n : ℕ) → get_or xs n 0 ≡ place_of (names_of (reverse old)) n)
    → Hides (length (set ys b.name k)) (reverse new) × ((n : ℕ) → get_or (set ys b.name k) n 0 ≡ place_of (names_of (reverse new)) n)
declared_in xs ys old new b k e ek lt eh le keeps h = let g = grown xs ys old old refl le keeps h in declared ys old new b k e ek lt eh g.0 g.1

pub read_at : (xs : List ℕ) (n r : ℕ) → n < length xs → r ≡ get_or xs n r → r ≡ get_or xs n 0
read_at xs n r h e = grind (arith, common_steps)
