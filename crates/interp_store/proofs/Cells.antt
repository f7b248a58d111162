-- The values of elements by their cells and marks, after a change of these.
use Rattle.std.proofs.Common.{◌≡◌, ℕ, zero, suc, ◌<◌, ◌≤◌, ◌⊎◌, inl, inr, Bool, true, false, List, [], ◌∷◌, length, get_or, ℤ, Option, Some, None, refl, sym, ap, ◌∙◌, arith}
use Rattle.std.specs.Prelude.{slice_get}
use Rattle.std.proofs.lemmas.Bool.{cases_lt}
use Rattle.std.proofs.lemmas.Option.{slice_get-get_or}
use Rattle.std.proofs.lemmas.List.{get_or_past}
use Rattle.csem.specs.Machine.{choose}
use Rattle.interp_store.specs.Cells.{cell}

pub got_beyond : {A : Type 0} (xs : List A) (k : ℕ) → length xs ≤ k → slice_get xs k ≡ None
got_beyond [] k h = refl
got_beyond (x ∷ xs) zero h = absurd (omega arith)
got_beyond (x ∷ xs) (suc k) h = got_beyond xs k (omega arith)

-- ---- marks and numbers that became more

-- ys is xs with n elements, of which those behind the last of xs are x
pub record Resized {A : Type 0} (xs ys : List A) (n : ℕ) (x : A) : Type 0 where
  pub size : length ys ≡ n
  pub kept : (k : ℕ) (d : A) → k < n → k < length xs → get_or ys k d ≡ get_or xs k d
  pub more : (k : ℕ) (d : A) → length xs ≤ k → k < n → get_or ys k d ≡ x

-- by the lengths that a vector has
pub resized_by : {A : Type 0} (xs ys : List A) (old new n : ℕ) (x : A) → old ≡ length xs → new ≡ length ys → new ≡ n → ((k : ℕ) (d : A) → k < n → k < old → get_or ys k d ≡ get_or xs k d) →
    ((k : ℕ) (d : A) → true ≡ true → old ≤ k → k < n → get_or ys k d ≡ x) → Resized xs ys n x
resized_by xs ys old new n x a b c kept more = record {
  size = omega (arith, b, c);
  kept = λ k d h s. kept k d h (omega (arith, a, s));
  more = λ k d h s. more k d refl (omega (arith, a, h)) s;
}

got_more : {A : Type 0} (xs ys : List A) (n : ℕ) (x : A) (k : ℕ) → Resized xs ys n x → k < length xs → length xs ≤ n → slice_get ys k ≡ slice_get xs k
got_more [] ys n x k r h le = absurd (omega arith)
got_more (d ∷ xs) ys n x k r h le =
    slice_get-get_or ys k d (omega (arith, r.size)) ∙ ap Some (r.kept k d (omega arith) h) ∙ sym (slice_get-get_or (d ∷ xs) k d h)

-- marks that are cut to n, or filled up with false
marked_more : (us ws : List Bool) (n k : ℕ) → Resized us ws n false → k < n → get_or ws k false ≡ get_or us k false
marked_more us ws n k r h = by_place (cases_lt k (length us))
  where
    by_place : (k < length us) ⊎ (length us ≤ k) → get_or ws k false ≡ get_or us k false
    by_place (inl l) = r.kept k false h l
    by_place (inr l) = r.more k false l h ∙ sym (get_or_past us k false l)

pub no_cell : (cs : List ℤ) (us : List Bool) (k : ℕ) → length cs ≤ k → cell cs us k ≡ None
no_cell cs us k h = ap (choose (get_or us k false) None) (got_beyond cs k h) ∙ nothing (get_or us k false)
  where
    nothing : (b : Bool) → choose {A = Option ℤ} b None None ≡ None
    nothing true = refl
    nothing false = refl

-- the first marks are enough
pub marks_cut : (cs : List ℤ) (us ws : List Bool) (n j : ℕ) → n ≡ length cs → Resized us ws n false → cell cs ws j ≡ cell cs us j
marks_cut cs us ws n j e r = by_place (cases_lt j (length cs))
  where
    by_place : (j < length cs) ⊎ (length cs ≤ j) → cell cs ws j ≡ cell cs us j
    by_place (inl h) = ap (λ b. choose b None (slice_get cs j)) (marked_more us ws n j r (omega (arith, e, h)))
    by_place (inr h) = no_cell cs ws j h ∙ sym (no_cell cs us j h)

-- more marks are of no cell yet
pub marks_more : (cs : List ℤ) (us vs ws : List Bool) (n end j : ℕ) → n ≡ length cs → length cs ≤ end → Resized us vs n false → Resized vs ws end true → cell cs ws j ≡ cell cs us j
marks_more cs us vs ws n end j e le r s = by_place (cases_lt j (length cs))
  where
    by_place : (j < length cs) ⊎ (length cs ≤ j) → cell cs ws j ≡ cell cs us j
    by_place (inl h) = ap (λ b. choose b None (slice_get cs j)) (s.kept j false (omega arith) (omega (arith, r.size)) ∙ marked_more us vs n j r (omega (arith, e, h)))
    by_place (inr h) = no_cell cs ws j h ∙ sym (no_cell cs us j h)

-- and then each has one
pub cells_more : (cs ds : List ℤ) (us vs ws : List Bool) (n end j : ℕ) (c : ℤ) → n ≡ length cs → length cs ≤ end → Resized us vs n false → Resized vs ws end true → Resized cs ds end c →
    cell ds ws j ≡ cell cs us j
cells_more cs ds us vs ws n end j c e le r s t = by_place (cases_lt j (length cs)) (cases_lt j end)
  where
    by_place : (j < length cs) ⊎ (length cs ≤ j) → (j < end) ⊎ (end ≤ j) → cell ds ws j ≡ cell cs us j
    by_place (inl h) _ = ap (choose (get_or ws j false) None) (got_more cs ds end c j t h le) ∙ marks_more cs us vs ws n end j e le r s
    by_place (inr h) (inl l) = ap (λ b. choose b None (slice_get ds j)) (s.more j false (omega (arith, r.size)) l) ∙ sym (no_cell cs us j h)
    by_place (inr h) (inr l) = no_cell ds ws j (omega (arith, t.size)) ∙ sym (no_cell cs us j h)
