-- The properties of the layout that the emission of the items needs.
use Rattle.std.proofs.Common.{length, get_or, ◌≡◌, inl, inr, ℕ, zero, suc, ◌+◌, ◌%◌, ◌<◌, ◌≤◌, List, Bool, true, false, refl, sym, ap, ◌∙◌, subst, arith}
use Rattle.std.specs.Prelude.{slice_index}
use Rattle.std.proofs.lemmas.Bool.{cases_lt}
use Rattle.asm.specs.declared.item.Item.{Item}
use Rattle.asm.specs.declared.item.Item.TheVariants.{Mark, Plain, Branch, Jump, Call, NearCall, Constant, LabelAddress, DataAddress}
use Rattle.asm.specs.Layout.{item_at, size, place, all_long, Reach, FitsAt, Refers, MissesMark, SomeMisses}
use Rattle.asm.specs.inside.Choice.{longs, IsTable, IsMeasured, IsChosen}
use Rattle.asm.specs.inside.Code.{address, NearIfShort, Misses, IsGood}
use Rattle.asm.specs.inside.Refusing.{IfFar}
use Rattle.asm.proofs.Tables.{mark_there}
use Rattle.asm.specs.declared.refusal.Refusal.{Refusal}
use Rattle.asm.specs.declared.refusal.Refusal.TheVariants.{Far, Memory, Write}
use Rattle.asm.proofs.Grow.{apart_grows, place_rises, in_all, measured_low}

size_even : (x : Item) (l : Bool) → size l x % 4 ≡ 0
size_even (Branch t a b to) true = refl
size_even (Branch t a b to) false = refl
size_even (Mark l) b = refl
size_even (Plain l) b = refl
size_even (Jump l) b = refl
size_even (Call l) b = refl
size_even (NearCall l) b = refl
size_even (Constant l v) b = refl
size_even (LabelAddress l v) b = refl
size_even (DataAddress l v) b = refl

pub place_even : (L : ℕ → Bool) (base : ℕ) (xs : List Item) (k : ℕ) → base % 4 ≡ 0 → place L base xs k % 4 ≡ 0
place_even L base xs zero e = e
place_even L base xs (suc k) e = omega (arith, place_even L base xs k e, size_even (item_at xs k) (L k))

pub measured_even : (places : List ℕ) (L : ℕ → Bool) (base : ℕ) (xs : List Item) (k : ℕ) → IsMeasured places L base xs → k ≤ length xs → base % 4 ≡ 0 → get_or places k 0 % 4 ≡ 0
measured_even places L base xs k m le e = ap (λ n. n % 4) (m.at k le) ∙ place_even L base xs k e

module _ (homes : List ℕ) (base : ℕ) (xs : List Item) (long : List Bool) (places : List ℕ) (table : IsTable homes xs) (c : IsChosen base xs long places) where
  pub good : base % 4 ≡ 0 → place all_long base xs (length xs) < 0x70000000 → IsGood homes places
  good e low = record {
    inside = λ l lt. omega (arith, table.inside l lt, c.places_len);
    low = λ l lt. measured_low places (longs long) base xs (slice_index homes l) c.measured (omega (arith, table.inside l lt)) low;
    even = λ l lt. measured_even places (longs long) base xs (slice_index homes l) c.measured (omega (arith, table.inside l lt)) e;
  }

  home_le : (l : ℕ) → l < length homes → slice_index homes l ≤ length xs
  home_le l lt = omega (arith, table.inside l lt)

  near_item : (k : ℕ) (x : Item) → k < length xs → Refers (length homes) x → FitsAt (longs long) base xs k x → NearIfShort (longs long k) (slice_index places k) (address homes places) x
  near_item k (Branch t l r to) lt q f = λ short. rw (c.measured.at k (omega arith), c.measured.at (slice_index homes to) (home_le to q)) (f short (slice_index homes to) (table.inside to q) (mark_there homes xs to table q))
  near_item k (Mark l) lt q f = tt
  near_item k (Plain i) lt q f = tt
  near_item k (Jump to) lt q f = tt
  near_item k (Call to) lt q f = tt
  near_item k (NearCall to) lt q f = tt
  near_item k (Constant rd v) lt q f = tt
  near_item k (LabelAddress rd l) lt q f = tt
  near_item k (DataAddress rd o) lt q f = tt

  pub near_if_short : (k : ℕ) → k < length xs → NearIfShort (longs long k) (slice_index places k) (address homes places) (item_at xs k)
  near_if_short k lt = near_item k (item_at xs k) lt (table.refers k lt) (c.fits.all k lt)

  -- a distance within reach with all branches long is within reach
  reach_back : (j k d : ℕ) → d ≤ 4 → Reach (place all_long base xs j + d) (place all_long base xs k) → Reach (place (longs long) base xs j + d) (place (longs long) base xs k)
  reach_back j k d small n =
      elim (cases_lt k j) [
        | inl lt ↦ (omega (arith, apart_grows (longs long) all_long (in_all (longs long)) base xs k j (omega arith)), omega (arith, place_rises (longs long) base xs k j (omega arith)))
        | inr ge ↦ (omega (arith, place_rises (longs long) base xs j k ge), omega (arith, apart_grows (longs long) all_long (in_all (longs long)) base xs j k ge))
      ]

  -- a jump that misses misses with all branches long
  missed : (k : ℕ) (x : Item) → k < length xs → item_at xs k ≡ x → Refers (length homes) x → Misses (longs long k) (slice_index places k) (address homes places) x → SomeMisses base xs
  missed k (Branch t l r to) lt e q m = record {
    item = k;
    target = slice_index homes to;
    inside = lt;
    target_inside = table.inside to q;
    misses = subst (λ (x : Item). MissesMark base xs k (slice_index homes to) x) (sym e) (mark_there homes xs to table q, λ reach. m.1 (rw (c.measured.at k (omega arith), c.measured.at (slice_index homes to) (home_le to q)) (reach_back k (slice_index homes to) 4 (omega arith) reach)));
  }
  missed k (Jump to) lt e q m = record {
    item = k;
    target = slice_index homes to;
    inside = lt;
    target_inside = table.inside to q;
    misses = subst (λ (x : Item). MissesMark base xs k (slice_index homes to) x) (sym e) (
      mark_there homes xs to table q,
      (
          let a = c.measured.at k (omega arith) in
          let b = c.measured.at (slice_index homes to) (home_le to q) in
          λ reach.
          let h = reach_back k (slice_index homes to) 0 (omega arith) (omega (arith, reach.0), omega (arith, reach.1)) in
          m (omega (arith, h.0), omega (arith, h.1))),
    );
  }
  missed k (NearCall to) lt e q m = record {
    item = k;
    target = slice_index homes to;
    inside = lt;
    target_inside = table.inside to q;
    misses = subst (λ (x : Item). MissesMark base xs k (slice_index homes to) x) (sym e) (
      mark_there homes xs to table q,
      (
          let a = c.measured.at k (omega arith) in
          let b = c.measured.at (slice_index homes to) (home_le to q) in
          λ reach.
          let h = reach_back k (slice_index homes to) 0 (omega arith) (omega (arith, reach.0), omega (arith, reach.1)) in
          m (omega (arith, h.0), omega (arith, h.1))),
    );
  }
  missed k (Mark l) lt e q m = absurd m
  missed k (Plain i) lt e q m = absurd m
  missed k (Call to) lt e q m = absurd m
  missed k (Constant rd v) lt e q m = absurd m
  missed k (LabelAddress rd l) lt e q m = absurd m
  missed k (DataAddress rd o) lt e q m = absurd m

  pub some_misses : (k : ℕ) → k < length xs → Misses (longs long k) (slice_index places k) (address homes places) (item_at xs k) → SomeMisses base xs
  some_misses k lt m = missed k (item_at xs k) lt refl (table.refers k lt) m

pub far_map : (P Q : Type 0) → (P → Q) → (e : Refusal) → IfFar P e → IfFar Q e
far_map P Q f Far p = f p
far_map P Q f Memory p = tt
far_map P Q f Write p = absurd p
