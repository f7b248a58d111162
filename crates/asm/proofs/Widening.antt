-- One round over the branches.
use Rattle.std.proofs.Common.{◌≢◌, length, set, ◌≡◌, inl, inr, ℕ, zero, suc, ◌+◌, ◌<◌, ◌≤◌, List, Bool, true, false, refl, sym, ap, ◌∙◌, subst, arith, get_or-set_same, get_or-set_other}
use Rattle.std.specs.Prelude.{slice_index, if◌then◌else◌, ◌↔◌, replicate}
use Rattle.std.proofs.lemmas.List.{length-replicate}
use Rattle.std.proofs.lemmas.List.Sums.{sum_by-set}
use Rattle.std.proofs.lemmas.Bool.{cases_lt, cases_eq}
use Rattle.asm.specs.declared.item.Item.{Item}
use Rattle.asm.specs.declared.item.Item.TheVariants.{Mark, Plain, Branch, Jump, Call, NearCall, Constant, LabelAddress, DataAddress}
use Rattle.rv32.specs.declared.instr.Test.{Test}
use Rattle.asm.specs.Layout.{item_at, size, place, all_short, Within, Near, Fits, FitsAt, IsBelowAll}
use Rattle.asm.specs.inside.Choice.{longs, shorts, IsTable, IsMeasured, MeasuredTo, IsClose, AllClose, Widens, IsChosen, Counted}
use Rattle.asm.proofs.Tables.{home_of, mark_there, near_mark}
use Rattle.asm.proofs.Grow.{near_back, near_few}

-- before item i; `was` are the branches long at the start of the round
pub record Widening (homes : List ℕ) (base : ℕ) (xs : List Item) (was now : List Bool) (i : ℕ) (changed : Bool) : Type 0 where
  pub widens : Widens base xs (longs was) (longs now)
  pub rest : (k : ℕ) → i ≤ k → longs now k ≡ longs was k
  pub count : shorts now + (if changed then 1 else 0) ≤ shorts was
  pub same : changed ≡ false → now ≡ was
  pub fits : changed ≡ false → (k : ℕ) → k < i → FitsAt (longs was) base xs k (item_at xs k)

-- a branch that is too far is long in each choice that fits
far_must : (homes : List ℕ) (L N : ℕ → Bool) (base : ℕ) (xs : List Item) (k : ℕ) (t : Test) (l r to : ℕ) → IsTable homes xs → Fits N base xs → Within L N → k < length xs → item_at xs k ≡ Branch t l r to → (Near (place L base xs k) (place L base xs (slice_index homes to)) → ⊥) → (b : Bool) → N k ≡ b → b ≡ true
far_must homes L N base xs k t l r to s f w lt e far true is = refl
far_must homes L N base xs k t l r to s f w lt e far false is =
    let P : Item → Type 0 = λ x. FitsAt N base xs k x in
    let h = slice_index homes to in
    let known : to < length homes = home_of homes xs k t l r to s lt e in
    absurd (far (near_back L N w base xs k h (subst P e (f.all k lt) is h (s.inside to known) (mark_there homes xs to s known))))

-- nothing widens at item i
pub stays : (homes : List ℕ) (base : ℕ) (xs : List Item) (was now : List Bool) (i : ℕ) (changed : Bool) → Widening homes base xs was now i changed → FitsAt (longs was) base xs i (item_at xs i) → Widening homes base xs was now (i + 1) changed
stays homes base xs was now i changed w f = record {
  widens = w.widens;
  rest = λ k le. w.rest k (omega arith);
  count = w.count;
  same = w.same;
  fits = λ e k lt. elim (cases_lt k i) [
    | inl below ↦ w.fits e k below
    | inr above ↦ (let same : k ≡ i = omega arith in rw same f)
  ];
}

-- the branch at i becomes long
pub grows : (homes : List ℕ) (base : ℕ) (xs : List Item) (was now : List Bool) (i : ℕ) (changed : Bool) (t : Test) (l r to : ℕ) → IsTable homes xs → Widening homes base xs was now i changed → i < length xs → length now ≡ length xs → item_at xs i ≡ Branch t l r to → longs now i ≡ false → (Near (place (longs was) base xs i) (place (longs was) base xs (slice_index homes to)) → ⊥) → Widening homes base xs was (set now i true) (i + 1) true
grows homes base xs was now i changed t l r to s w lt len is short far =
    let lt2 : i < length now = omega arith in
    let here : longs (set now i true) i ≡ true = rw get_or-set_same in
    let there : (k : ℕ) → k ≢ i → longs (set now i true) k ≡ longs now k = λ k ne. rw get_or-set_other in
    record {
      widens = record {
        grows = record {
          all = λ k e. elim (cases_eq k i) [
            | inl same ↦ rw same here
            | inr ne ↦ there k ne ∙ w.widens.grows.all k e
          ];
        };
        below = λ N f sub. record {
          all = λ k e. elim (cases_eq k i) [
            | inl same ↦ rw same (far_must homes (longs was) N base xs i t l r to s f sub lt is far (N i) refl)
            | inr ne ↦ (w.widens.below N f sub).all k (sym (there k ne) ∙ e)
          ];
        };
      };
      rest = λ k le. there k (λ same. omega arith) ∙ w.rest k (omega arith);
      count = omega (arith, counted now i lt2 short, w.count, least changed);
      same = λ e. cc;
      fits = λ e. cc;
    }
  where
    least : (b : Bool) → 0 ≤ (if b then 1 else 0)
    least b = omega arith

    counted : (now : List Bool) (i : ℕ) → i < length now → longs now i ≡ false → shorts (set now i true) + 1 ≡ shorts now
    counted now i lt2 short =
        let sums = sum_by-set (λ (b : Bool). if b then 0 else 1) now i true false lt2 in
        let counted = rw short at sums in
        omega (arith, counted)

-- an item that is no branch, a short branch that is near, and a long branch need no change
fits_other : (L : ℕ → Bool) (base : ℕ) (xs : List Item) (k : ℕ) (x : Item) → ((t : Test) (l r to : ℕ) → x ≡ Branch t l r to → ⊥) → FitsAt L base xs k x
fits_other L base xs k (Branch t l r to) differs = absurd (differs t l r to refl)
fits_other L base xs k (Mark l) differs = tt
fits_other L base xs k (Plain i) differs = tt
fits_other L base xs k (Jump to) differs = tt
fits_other L base xs k (Call to) differs = tt
fits_other L base xs k (NearCall to) differs = tt
fits_other L base xs k (Constant rd v) differs = tt
fits_other L base xs k (LabelAddress rd l) differs = tt
fits_other L base xs k (DataAddress rd o) differs = tt

pub stays_other : (homes : List ℕ) (base : ℕ) (xs : List Item) (was now : List Bool) (i : ℕ) (changed : Bool) → Widening homes base xs was now i changed → ((t : Test) (l r to : ℕ) → item_at xs i ≡ Branch t l r to → ⊥) → Widening homes base xs was now (i + 1) changed
stays_other homes base xs was now i changed w differs = stays homes base xs was now i changed w (fits_other (longs was) base xs i (item_at xs i) differs)

pub stays_branch : (homes : List ℕ) (base : ℕ) (xs : List Item) (was now : List Bool) (i : ℕ) (changed : Bool) (t : Test) (l r to : ℕ) → IsTable homes xs → Widening homes base xs was now i changed → item_at xs i ≡ Branch t l r to → (longs now i ≡ false → Near (place (longs was) base xs i) (place (longs was) base xs (slice_index homes to))) → Widening homes base xs was now (i + 1) changed
stays_branch homes base xs was now i changed t l r to s w is near =
    let P : Item → Type 0 = λ x. FitsAt (longs was) base xs i x in
    stays homes base xs was now i changed w (subst P (sym is) (λ short h lt m. near_mark homes (longs was) base xs i h to s lt m (near (w.rest i (omega arith) ∙ short))))

-- where all branches are close to their labels each choice fits
close_fits : (homes : List ℕ) (L : ℕ → Bool) (base : ℕ) (xs : List Item) (k : ℕ) (x : Item) → IsTable homes xs → IsClose homes k x → FitsAt L base xs k x
close_fits homes L base xs k (Branch t l r to) s c = λ short h lt m. near_mark homes L base xs k h to s lt m (near_few L base xs k (slice_index homes to) c.1 c.0)
close_fits homes L base xs k (Mark l) s c = tt
close_fits homes L base xs k (Plain i) s c = tt
close_fits homes L base xs k (Jump to) s c = tt
close_fits homes L base xs k (Call to) s c = tt
close_fits homes L base xs k (NearCall to) s c = tt
close_fits homes L base xs k (Constant rd v) s c = tt
close_fits homes L base xs k (LabelAddress rd l) s c = tt
close_fits homes L base xs k (DataAddress rd o) s c = tt

pub close_none : (homes : List ℕ) (xs : List Item) → AllClose homes xs 0
close_none homes xs = record { all = λ k lt. absurd (omega (arith, lt)) }

-- item n is x, which is close
pub close_more : (homes : List ℕ) (xs : List Item) (n : ℕ) (x : Item) → AllClose homes xs n → item_at xs n ≡ x → IsClose homes n x → AllClose homes xs (n + 1)
close_more homes xs n x before is c = record {
  all = λ k lt. elim (cases_lt k n) [
    | inl below ↦ before.all k below
    | inr above ↦ (
        let same : n ≡ k = omega arith in
        let P : Item → Type 0 = λ y. IsClose homes n y in
        subst (λ (j : ℕ). IsClose homes j (item_at xs j)) same (subst P (sym is) c))
  ];
}

pub fits_close : (homes : List ℕ) (L : ℕ → Bool) (base : ℕ) (xs : List Item) → IsTable homes xs → AllClose homes xs (length xs) → Fits L base xs
fits_close homes L base xs s c = record { all = λ k lt. close_fits homes L base xs k (item_at xs k) s (c.all k lt) }

-- near by the measured addresses
pub near_measured : (places homes : List ℕ) (base : ℕ) (xs : List Item) (L : ℕ → Bool) (i to : ℕ) → IsMeasured places L base xs → i ≤ length xs → slice_index homes to ≤ length xs → Near (place L base xs i) (place L base xs (slice_index homes to)) ↔ Near (slice_index places i) (slice_index places (slice_index homes to))
near_measured places homes base xs L i to m le le2 =
    let a = m.at i le in
    let b = m.at (slice_index homes to) le2 in
    ((λ n. (omega arith, omega arith)), (λ n. (omega arith, omega arith)))

pub home_inside : (homes : List ℕ) (xs : List Item) (k to : ℕ) (t : Test) (l r : ℕ) → IsTable homes xs → k < length xs → item_at xs k ≡ Branch t l r to → slice_index homes to ≤ length xs
home_inside homes xs k to t l r s lt e = omega (arith, s.inside to (home_of homes xs k t l r to s lt e))

-- between two rounds
pub record Choosing (base : ℕ) (xs : List Item) (long : List Bool) (places : List ℕ) : Type 0 where
  pub longs_len : length long ≡ length xs
  pub places_len : length places ≡ length xs + 1
  pub measured : IsMeasured places (longs long) base xs
  pub least : IsBelowAll (longs long) base xs

-- none long
pub least_none : (base : ℕ) (xs : List Item) (n : ℕ) → IsBelowAll (longs (replicate n false)) base xs
least_none base xs n = record { below = λ M f. record { all = λ k e. absurd (none_long n k e) } }
  where
    none_long : (n k : ℕ) → longs (replicate n false) k ≡ true → ⊥
    none_long zero k e = cc
    none_long (suc n) zero e = cc
    none_long (suc n) (suc k) e = none_long n k e

pub measured_none : (places : List ℕ) (base : ℕ) (xs : List Item) → MeasuredTo places base xs 0
measured_none places base xs = record { at = λ k lt. absurd (omega (arith, lt)) }

-- the address of item n is stored
pub measured_more : (places : List ℕ) (base : ℕ) (xs : List Item) (n a : ℕ) → MeasuredTo places base xs n → n < length places → a ≡ place all_short base xs n → MeasuredTo (set places n a) base xs (n + 1)
measured_more places base xs n a before room is = record {
  at = λ k lt. elim (cases_lt k n) [
    | inl below ↦ (
        let other : k ≢ n = λ same. omega (arith, same, below) in
        let kept : slice_index (set places n a) k ≡ slice_index places k = rw get_or-set_other in
        kept ∙ before.at k below)
    | inr above ↦ (
        let same : k ≡ n = omega arith in
        let here : slice_index (set places n a) n ≡ a = rw get_or-set_same in
        rw same (here ∙ is))
  ];
}

-- the end's is stored too
pub measured_all : (places : List ℕ) (base : ℕ) (xs : List Item) → MeasuredTo places base xs (length xs + 1) → IsMeasured places all_short base xs
measured_all places base xs m = record { at = λ k le. m.at k (omega arith) }

-- the places measured with all branches short are those measured with none long
pub short_measured : (places : List ℕ) (base : ℕ) (xs : List Item) (n : ℕ) → IsMeasured places all_short base xs → IsMeasured places (longs (replicate n false)) base xs
short_measured places base xs n m = record { at = λ k le. m.at k le ∙ same k }
  where
    short : (n k : ℕ) → longs (replicate n false) k ≡ false
    short zero k = refl
    short (suc n) zero = refl
    short (suc n) (suc k) = short n k

    same : (k : ℕ) → place all_short base xs k ≡ place (longs (replicate n false)) base xs k
    same zero = refl
    same (suc k) =
        let here : size (longs (replicate n false) k) (item_at xs k) ≡ size false (item_at xs k) = ap (λ (b : Bool). size b (item_at xs k)) (short n k) in
        let before : place all_short base xs k ≡ place (longs (replicate n false)) base xs k = same k in
        omega (arith, here, before)

pub least_short : (base : ℕ) (xs : List Item) (long : List Bool) (n : ℕ) → long ≡ replicate n false → IsBelowAll (longs long) base xs
least_short base xs long n short = subst (λ (l : List Bool). IsBelowAll (longs l) base xs) (sym short) (least_none base xs n)

-- where all branches are close none is long
pub chosen_close : (homes places : List ℕ) (base : ℕ) (xs : List Item) (long : List Bool) → IsTable homes xs → long ≡ replicate (length xs) false → length places ≡ length xs + 1 → IsMeasured places all_short base xs → AllClose homes xs (length xs) → IsChosen base xs long places
chosen_close homes places base xs long table short room measured close = record {
  longs_len = ap length short ∙ length-replicate (length xs) false;
  places_len = room;
  measured = subst (λ (l : List Bool). IsMeasured places (longs l) base xs) (sym short) (short_measured places base xs (length xs) measured);
  fits = fits_close homes (longs long) base xs table close;
  least = least_short base xs long (length xs) short;
}

pub least_widens : (base : ℕ) (xs : List Item) (L M : ℕ → Bool) → Widens base xs L M → IsBelowAll L base xs → IsBelowAll M base xs
least_widens base xs L M w b = record { below = λ N f. w.below N f (b.below N f) }

-- ---- a round over a part

pub widens_none : (base : ℕ) (xs : List Item) (L : ℕ → Bool) → Widens base xs L L
widens_none base xs L = record { grows = record { all = λ k e. e }; below = λ N f w. w }

pub widens_then : (base : ℕ) (xs : List Item) (L M N : ℕ → Bool) → Widens base xs L M → Widens base xs M N → Widens base xs L N
widens_then base xs L M N u v = record { grows = record { all = λ k e. v.grows.all k (u.grows.all k e) }; below = λ P f w. v.below P f (u.below P f w) }

pub widens_at : (homes : List ℕ) (base : ℕ) (xs : List Item) (was now : List Bool) (i : ℕ) (t : Test) (l r to : ℕ) → IsTable homes xs → Widens base xs (longs was) (longs now) → i < length xs → length now ≡ length xs → item_at xs i ≡ Branch t l r to → (Near (place (longs was) base xs i) (place (longs was) base xs (slice_index homes to)) → ⊥) → Widens base xs (longs was) (longs (set now i true))
widens_at homes base xs was now i t l r to s w lt len is far =
    let lt2 : i < length now = omega arith in
    let here : longs (set now i true) i ≡ true = rw get_or-set_same in
    let there : (k : ℕ) → k ≢ i → longs (set now i true) k ≡ longs now k = λ k ne. rw get_or-set_other in
    record {
      grows = record {
        all = λ k e. elim (cases_eq k i) [
          | inl same ↦ rw same here
          | inr ne ↦ there k ne ∙ w.grows.all k e
        ];
      };
      below = λ N f sub. record {
        all = λ k e. elim (cases_eq k i) [
          | inl same ↦ rw same (far_must homes (longs was) N base xs i t l r to s f sub lt is far (N i) refl)
          | inr ne ↦ (w.below N f sub).all k (sym (there k ne) ∙ e)
        ];
      };
    }

pub near_counted : (places : List ℕ) (base : ℕ) (xs : List Item) (L : ℕ → Bool) (low high i h : ℕ) → Counted places L base xs low high → low ≤ i → i < high → low ≤ h → h < high → Near (place L base xs i) (place L base xs h) → Near (slice_index places i) (slice_index places h)
near_counted places base xs L low high i h c a b d e n =
    let p = c.at i a b in
    let q = c.at h d e in
    (omega (arith, p, q, n.0), omega (arith, p, q, n.1))
