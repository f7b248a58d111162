-- The table from labels to items.
use Rattle.std.proofs.Common.{◌≢◌, length, set, ◌≡◌, inl, inr, ℕ, ◌+◌, ◌<◌, List, Bool, refl, sym, ap, ◌∙◌, subst, arith, get_or-set_same, get_or-set_other, length-set}
use Rattle.std.specs.Prelude.{slice_index}
use Rattle.std.proofs.lemmas.Bool.{cases_lt, cases_eq}
use Rattle.rv32.specs.declared.instr.Test.{Test}
use Rattle.asm.specs.declared.item.Item.{Item}
use Rattle.asm.specs.declared.item.Item.TheVariants.{Mark, Plain, Branch, Jump, Call, NearCall, Constant, LabelAddress, DataAddress}
use Rattle.asm.specs.Layout.{item_at, place, Near, Refers, IsSound}
use Rattle.asm.specs.inside.Choice.{IsMark, IsTable, IsNoted, IsUnfit, IsHome, AllAre, AllInside, Noting}

is_mark : (x : Item) (l : ℕ) → IsMark x l → x ≡ Mark l
is_mark (Mark k) l e = ap Mark e
is_mark (Plain i) l e = absurd e
is_mark (Branch t a b to) l e = absurd e
is_mark (Jump to) l e = absurd e
is_mark (Call to) l e = absurd e
is_mark (NearCall to) l e = absurd e
is_mark (Constant rd v) l e = absurd e
is_mark (LabelAddress rd k) l e = absurd e
is_mark (DataAddress rd o) l e = absurd e

mark_is : (x : Item) (l : ℕ) → x ≡ Mark l → IsMark x l
mark_is x l e = subst (λ (y : Item). IsMark y l) (sym e) refl

-- the table's item of a label is its mark
pub mark_there : (homes : List ℕ) (xs : List Item) (l : ℕ) → IsTable homes xs → l < length homes → item_at xs (slice_index homes l) ≡ Mark l
mark_there homes xs l s known = is_mark (item_at xs (slice_index homes l)) l (s.marks l known)

-- a branch names a label of the table
pub home_of : (homes : List ℕ) (xs : List Item) (k : ℕ) (t : Test) (l r to : ℕ) → IsTable homes xs → k < length xs → item_at xs k ≡ Branch t l r to → to < length homes
home_of homes xs k t l r to s lt e =
    let P : Item → Type 0 = λ x. Refers (length homes) x in
    subst P e (s.refers k lt)

-- an item near the table's item of a label is near the label's mark
pub near_mark : (homes : List ℕ) (L : ℕ → Bool) (base : ℕ) (xs : List Item) (i h to : ℕ) → IsTable homes xs → h < length xs → item_at xs h ≡ Mark to → Near (place L base xs i) (place L base xs (slice_index homes to)) → Near (place L base xs i) (place L base xs h)
near_mark homes L base xs i h to s lt m n = subst (λ (j : ℕ). Near (place L base xs i) (place L base xs j)) (s.once h to lt m) n

-- ---- how the table is filled

pub noting_none : (homes : List ℕ) (xs : List Item) → AllAre homes (length xs) (length homes) → Noting homes xs 0
noting_none homes xs a = record {
  refers = λ k lt. absurd (omega (arith, lt));
  once = λ k l lt e. absurd (omega (arith, lt));
  marks = λ l lt ne. absurd (ne (a.all l lt));
}

-- item n marks no label
noting_other : (homes : List ℕ) (xs : List Item) (n : ℕ) → Noting homes xs n → Refers (length homes) (item_at xs n) → ((l : ℕ) → item_at xs n ≡ Mark l → ⊥) → Noting homes xs (n + 1)
noting_other homes xs n s r bare = record {
  refers = λ k lt. elim (cases_lt k n) [ inl below ↦ s.refers k below | inr above ↦ (let same : k ≡ n = omega arith in rw same r) ];
  once = λ k l lt e. elim (cases_lt k n) [
    | inl below ↦ s.once k l below e
    | inr above ↦ (let same : k ≡ n = omega arith in absurd (bare l (subst (λ (j : ℕ). item_at xs j ≡ Mark l) same e)))
  ];
  marks = λ l lt ne. (let h = s.marks l lt ne in (omega (arith, h.0), h.1));
}

same_label : (k l : ℕ) → Mark k ≡ Mark l → k ≡ l
same_label k l e = subst (λ (x : Item). IsMark x l) (sym e) refl

-- item n marks a label that has the end
noting_mark : (homes : List ℕ) (xs : List Item) (n m : ℕ) → Noting homes xs n → n < length xs → item_at xs n ≡ Mark m → m < length homes → slice_index homes m ≡ length xs → Noting (set homes m n) xs (n + 1)
noting_mark homes xs n m s lt is known free =
    let here : slice_index (set homes m n) m ≡ n = rw get_or-set_same in
    let there : (l : ℕ) → l ≢ m → slice_index (set homes m n) l ≡ slice_index homes l = λ l ne. rw get_or-set_other in
    let size : length (set homes m n) ≡ length homes = rw length-set in
    record {
      refers = λ k below. subst (λ (w : ℕ). Refers w (item_at xs k)) (sym size) (elim (cases_lt k n) [
        | inl before ↦ s.refers k before
        | inr above ↦ (let same : k ≡ n = omega arith in rw (same, is) known)
      ]);
      once = λ k l below e. elim (cases_lt k n) [
        | inl before ↦ there l (λ same. (let home = s.once k l before e in let full = subst (λ (j : ℕ). slice_index homes j ≡ k) same home in omega (arith, full, free))) ∙ s.once k l before e
        | inr above ↦ (let same : k ≡ n = omega arith in
            let label : m ≡ l = same_label m l (sym is ∙ subst (λ (j : ℕ). item_at xs j ≡ Mark l) same e) in
            subst (λ (j : ℕ). slice_index (set homes m n) j ≡ k) label (here ∙ sym same))
      ];
      marks = λ l below ne. elim (cases_eq l m) [
        | inl same ↦ subst (λ (j : ℕ). IsHome xs (n + 1) j (slice_index (set homes m n) j)) (sym same)
            (subst (λ (j : ℕ). IsHome xs (n + 1) m j) (sym here) (omega arith, mark_is (item_at xs n) m is))
        | inr other ↦ (let h = s.marks l (omega (arith, below, size)) (λ e. ne (there l other ∙ e)) in
            subst (λ (j : ℕ). IsHome xs (n + 1) l j) (sym (there l other)) (omega (arith, h.0), h.1))
      ];
    }

-- item n is x, which marks no label
kept : (was now : List ℕ) (xs : List Item) (n : ℕ) (x : Item) → Noting was xs n → item_at xs n ≡ x → now ≡ was → Refers (length was) x → ((l : ℕ) → IsMark x l → ⊥) → Noting now xs (n + 1)
kept was now xs n x s e same r bare =
    let P : Item → Type 0 = λ y. Refers (length was) y in
    subst (λ (h : List ℕ). Noting h xs (n + 1)) (sym same) (noting_other was xs n s (subst P (sym e) r) (λ l m. bare l (mark_is x l (sym e ∙ m))))

pub noting_more : (was now : List ℕ) (xs : List Item) (n : ℕ) (x : Item) → Noting was xs n → n < length xs → item_at xs n ≡ x → IsNoted was now (length xs) n x → Noting now xs (n + 1)
noting_more was now xs n (Mark l) s lt e f = subst (λ (h : List ℕ). Noting h xs (n + 1)) (sym f.2) (noting_mark was xs n l s lt e f.0 f.1)
noting_more was now xs n (Plain i) s lt e f = kept was now xs n (Plain i) s e f tt (λ l m. m)
noting_more was now xs n (Branch t a b to) s lt e f = kept was now xs n (Branch t a b to) s e f.1 f.0 (λ l m. m)
noting_more was now xs n (Jump to) s lt e f = kept was now xs n (Jump to) s e f.1 f.0 (λ l m. m)
noting_more was now xs n (Call to) s lt e f = kept was now xs n (Call to) s e f.1 f.0 (λ l m. m)
noting_more was now xs n (NearCall to) s lt e f = kept was now xs n (NearCall to) s e f.1 f.0 (λ l m. m)
noting_more was now xs n (Constant rd v) s lt e f = kept was now xs n (Constant rd v) s e f.1 f.0 (λ l m. m)
noting_more was now xs n (LabelAddress rd k) s lt e f = kept was now xs n (LabelAddress rd k) s e f.1 f.0 (λ l m. m)
noting_more was now xs n (DataAddress rd o) s lt e f = kept was now xs n (DataAddress rd o) s e f.1 f.0 (λ l m. m)

pub unfit_unsound : (homes : List ℕ) (xs : List Item) (n : ℕ) (x : Item) → Noting homes xs n → n < length xs → item_at xs n ≡ x → IsUnfit homes (length xs) x → IsSound (length homes) xs → ⊥
unfit_unsound homes xs n x s lt e u sound = unfit homes xs n x s lt e u sound (subst (λ (y : Item). Refers (length homes) y) e (sound.refers n lt))
  where
    unfit : (homes : List ℕ) (xs : List Item) (n : ℕ) (x : Item) → Noting homes xs n → n < length xs → item_at xs n ≡ x → IsUnfit homes (length xs) x → IsSound (length homes) xs → Refers (length homes) x → ⊥
    unfit homes xs n (Mark l) s lt e u sound r =
        let h = s.marks l r (u r) in
        let same = sound.once (slice_index homes l) n l (omega (arith, h.0, lt)) lt (is_mark (item_at xs (slice_index homes l)) l h.1) e in
        omega (arith, same, h.0)
    unfit homes xs n (Plain i) s lt e u sound r = u
    unfit homes xs n (Branch t a b to) s lt e u sound r = u r
    unfit homes xs n (Jump to) s lt e u sound r = u r
    unfit homes xs n (Call to) s lt e u sound r = u r
    unfit homes xs n (NearCall to) s lt e u sound r = u r
    unfit homes xs n (Constant rd v) s lt e u sound r = u
    unfit homes xs n (LabelAddress rd k) s lt e u sound r = u r
    unfit homes xs n (DataAddress rd o) s lt e u sound r = u r

pub table_of : (homes : List ℕ) (xs : List Item) → Noting homes xs (length xs) → AllInside homes (length xs) (length homes) → IsTable homes xs
table_of homes xs s a = record {
  refers = s.refers;
  inside = a.all;
  marks = λ l lt. (s.marks l lt (λ e. omega (arith, e, a.all l lt))).1;
  once = s.once;
}

-- ---- sound lists

pub sound_of : (homes : List ℕ) (xs : List Item) → IsTable homes xs → IsSound (length homes) xs
sound_of homes xs s = record {
  refers = s.refers;
  marked = λ l lt. (slice_index homes l, s.inside l lt, mark_there homes xs l s lt);
  once = λ j k l a b p q. sym (s.once j l a p) ∙ s.once k l b q;
}

pub all_inside : (homes : List ℕ) (xs : List Item) → Noting homes xs (length xs) → IsSound (length homes) xs → AllInside homes (length xs) (length homes)
all_inside homes xs s sound = record { all = λ l lt. (let m = sound.marked l lt in let e = s.once m.0 l m.1 m.2 in omega (arith, e, m.1)) }
