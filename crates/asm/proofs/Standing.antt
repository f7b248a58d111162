-- The instructions of the items, at their addresses, are the items placed.
use Rattle.std.proofs.Common.{length, get_or, ◌≡◌, inl, inr, ℕ, zero, suc, ◌+◌, ◌-◌, ◌*◌, ◌/◌, ◌%◌, ◌^◌, ◌<◌, ◌≤◌, List, [], ◌∷◌, ◌++◌, Option, Some, Bool, true, false, refl, sym, ap, ◌∙◌, subst, arith, length-append}
use Rattle.std.specs.Prelude.{slice_index, slice_index_or}
use Rattle.std.proofs.lemmas.Bool.{cases_lt}
use Rattle.std.proofs.lemmas.List.{get_or-append_right, length-map}
use Rattle.std.specs.Prelude.{map}
use Rattle.rv32.specs.declared.instr.Instr.{Instr}
use Rattle.rv32.specs.declared.instr.Instr.TheVariants as instr
use Rattle.rv32.specs.Words.{decode_of, word_of}
use Rattle.rv32.specs.Space.{word_at}
use Rattle.asm.specs.declared.item.Item.{Item}
use Rattle.asm.specs.declared.item.Item.TheVariants.{Mark, Plain, Branch, Jump, Call, NearCall, Constant, LabelAddress, DataAddress}
use Rattle.asm.specs.Layout.{item_at, size, place, all_long, all_short, IsLow, IsSized, Within, Refers}
use Rattle.asm.specs.inside.Choice.{longs, IsTable}
use Rattle.asm.specs.inside.Code.{address, code, item_code, upper, lower, offset_from, whole_code, Decoding, IsResolved}
use Rattle.asm.specs.Placed.{bytes_of, word_bytes}
use Rattle.asm.specs.Placed.{sum32, ItemAt, Stands, StandsInParts, IsPlacedWith, IsFewest, text_of, data_start, Holds, Assembles}
use Rattle.asm.proofs.Emitting.{good, place_even}
use Rattle.asm.proofs.Grow.{measured_low, place_grows, in_all}

-- the instructions are at a and after it
abbrev pub TextIs : (ℕ → Option Instr) → ℕ → List Instr → Type 0
TextIs T a [] = Unit {0}
TextIs T a (i ∷ is) = (T a ≡ Some i) × TextIs T (a + 4) is

text_split : (T : ℕ → Option Instr) (a : ℕ) (is js : List Instr) → TextIs T a (is ++ js) → TextIs T a is × TextIs T (a + 4 * length is) js
text_split T a [] js t = (tt, subst (λ (b : ℕ). TextIs T b js) (omega arith) t)
text_split T a (i ∷ is) js t =
    let q = text_split T (a + 4) is js t.1 in
    ((t.0, q.0), subst (λ (b : ℕ). TextIs T b js) (omega arith) q.1)

-- ---- arithmetic

offset_arrives : (a b : ℕ) → a < 2 ^ 32 → b < 2 ^ 32 → sum32 a (offset_from a b) ≡ b
offset_arrives a b la lb = omega arith

parts_sum : (v : ℕ) → v < 2 ^ 32 → sum32 (upper v) (lower v) ≡ v
parts_sum v lv = omega arith

call_arrives : (a b : ℕ) → a < 2 ^ 32 → b < 2 ^ 32 → sum32 (sum32 a (upper (offset_from a b))) (lower (offset_from a b)) ≡ b
call_arrives a b la lb =
    let s = parts_sum (offset_from a b) (omega arith) in
    let w = offset_arrives a b la lb in
    omega (arith, s, w)

-- ---- one item

item_size : (env : ℕ → ℕ) (seg : ℕ) (long : Bool) (a : ℕ) (x : Item) → 4 * length (item_code env seg long a x) ≡ size long x
item_size env seg true a (Branch t l r to) = refl
item_size env seg false a (Branch t l r to) = refl
item_size env seg long a (Mark l) = refl
item_size env seg long a (Plain i) = refl
item_size env seg long a (Jump to) = refl
item_size env seg long a (Call to) = refl
item_size env seg long a (NearCall to) = refl
item_size env seg long a (Constant rd v) = refl
item_size env seg long a (LabelAddress rd l) = refl
item_size env seg long a (DataAddress rd o) = refl

module _ (T : ℕ → Option Instr) (env : ℕ → ℕ) (n seg : ℕ) (low : (l : ℕ) → l < n → env l < 0x70000000) (seg_low : seg < 0x70001000) where
  item_stands : (long : Bool) (a next : ℕ) (x : Item) → a < 0x70000000 → next ≡ a + size long x → Refers n x → ((l : ℕ) → x ≡ Mark l → env l ≡ a) → TextIs T a (item_code env seg long a x) → ItemAt T env seg x a next
  item_stands long a next (Mark l) la e q m t = (m l refl, omega arith)
  item_stands long a next (Plain i) la e q m t = (t.0, e)
  item_stands true a next (Branch t l r to) la e q m text = inr (record { over = 8; v = offset_from (a + 4) (env to); at = text.0; skips = omega arith; jump = text.1.0; target = offset_arrives (a + 4) (env to) (omega arith) (omega (arith, low to q)); next_is = e })
  item_stands false a next (Branch t l r to) la e q m text = inl (record { v = offset_from a (env to); at = text.0; target = offset_arrives a (env to) (omega arith) (omega (arith, low to q)); next_is = e })
  item_stands long a next (Jump to) la e q m text = record { v = offset_from a (env to); at = text.0; target = offset_arrives a (env to) (omega arith) (omega (arith, low to q)); next_is = e }
  item_stands long a next (Call to) la e q m text = record { high = upper (offset_from a (env to)); low = lower (offset_from a (env to)); first = text.0; second = text.1.0; target = call_arrives a (env to) (omega arith) (omega (arith, low to q)); next_is = e }
  item_stands long a next (NearCall to) la e q m text = record { v = offset_from a (env to); at = text.0; target = offset_arrives a (env to) (omega arith) (omega (arith, low to q)); next_is = e }
  item_stands long a next (Constant rd v) la e q m text = record { high = upper v; low = lower v; first = text.0; second = text.1.0; value = parts_sum v q; next_is = e }
  item_stands long a next (LabelAddress rd l) la e q m text = record { high = upper (env l); low = lower (env l); first = text.0; second = text.1.0; value = parts_sum (env l) (omega (arith, low l q)); next_is = e }
  item_stands long a next (DataAddress rd o) la e q m text = record { high = upper (seg + o); low = lower (seg + o); first = text.0; second = text.1.0; value = parts_sum (seg + o) (omega (arith, q)); next_is = e }

-- ---- all items

module _ (env : ℕ → ℕ) (seg : ℕ) (L : ℕ → Bool) (base : ℕ) (xs : List Item) where
  code_length : (n : ℕ) → base + 4 * length (code env seg L base xs n) ≡ place L base xs n
  code_length zero = omega arith
  code_length (suc n) =
      let h = code_length n in
      let s = item_size env seg (L n) (place L base xs n) (item_at xs n) in
      let l = length-append (code env seg L base xs n) (item_code env seg (L n) (place L base xs n) (item_at xs n)) in
      omega (arith, h, s, l)

  item_text : (T : ℕ → Option Instr) (n : ℕ) → TextIs T base (code env seg L base xs n) → (k : ℕ) → k < n → TextIs T (place L base xs k) (item_code env seg (L k) (place L base xs k) (item_at xs k))
  item_text T zero t k lt = elim lt [ ]
  item_text T (suc n) t k lt =
      let q = text_split T base (code env seg L base xs n) _ t in
      elim (cases_lt k n) [
        | inl below ↦ item_text T n q.0 k below
        | inr above ↦ (
            let same : k ≡ n = omega arith in
            let here : TextIs T (place L base xs n) (item_code env seg (L n) (place L base xs n) (item_at xs n)) = subst (λ (b : ℕ). TextIs T b (item_code env seg (L n) (place L base xs n) (item_at xs n))) (code_length n) q.1 in
            rw same here)
      ]

-- ---- bytes

pub bytes_len : (ws : List ℕ) → length (bytes_of ws) ≡ 4 * length ws
bytes_len [] = refl
bytes_len (w ∷ ws) = omega (arith, bytes_len ws)

-- the word in memory is the first word of the bytes
word_held : (m : ℕ → ℕ) (a w : ℕ) (bs : List ℕ) → Holds m a (word_bytes w ++ bs) → word_at m a ≡ w
word_held m a w bs h =
    let z : m a ≡ w % 2 ^ 8 = ap m (omega arith) ∙ h.at 0 (omega arith) in
    let b : m (a + 1) ≡ w / 2 ^ 8 % 2 ^ 8 = h.at 1 (omega arith) in
    let c : m (a + 2) ≡ w / 2 ^ 16 % 2 ^ 8 = h.at 2 (omega arith) in
    let d : m (a + 3) ≡ w / 2 ^ 24 = h.at 3 (omega arith) in
    omega (arith, z, b, c, d)

-- the bytes after the first word follow it in memory
rest_held : (m : ℕ → ℕ) (a w : ℕ) (bs : List ℕ) → Holds m a (word_bytes w ++ bs) → Holds m (a + 4) bs
rest_held m a w bs h = record {
  at = λ j lt.
      let same : 4 + j - 4 ≡ j = omega arith in
      let moved : get_or (word_bytes w ++ bs) (4 + j) 0 ≡ get_or bs (4 + j - 4) 0 = get_or-append_right (word_bytes w) bs 4 (4 + j) 0 refl (omega arith) in
      ap m (omega arith) ∙ h.at (4 + j) (omega arith) ∙ moved ∙ ap (λ n. get_or bs n 0) same;
}

text_held : (m : ℕ → ℕ) (a : ℕ) (is : List Instr) → Holds m a (bytes_of (map word_of is)) → Decoding is → TextIs (text_of m) a is
text_held m a [] h d = tt
text_held m a (i ∷ is) h d =
    let w = word_held m a (word_of i) (bytes_of (map word_of is)) h in
    (ap decode_of w ∙ d.0, text_held m (a + 4) is (rest_held m a (word_of i) (bytes_of (map word_of is)) h) d.1)

-- word n and the instruction it decodes to
pub held_at : (m : ℕ → ℕ) (a : ℕ) (is : List Instr) (n : ℕ) → Holds m a (bytes_of (map word_of is)) → Decoding is → n < length is → (word_at m (a + 4 * n) ≡ word_of (slice_index_or is n instr.Ebreak)) × (decode_of (word_at m (a + 4 * n)) ≡ Some (slice_index_or is n instr.Ebreak))
held_at m a [] n h d lt = absurd (omega (arith, lt))
held_at m a (i ∷ is) zero h d lt =
    let w = word_held m a (word_of i) (bytes_of (map word_of is)) h in
    let same : a + 4 * 0 ≡ a = omega arith in
    subst (λ (b : ℕ). (word_at m b ≡ word_of i) × (decode_of (word_at m b) ≡ Some i)) (sym same) (w, ap decode_of w ∙ d.0)
held_at m a (i ∷ is) (suc n) h d lt =
    let q = held_at m (a + 4) is n (rest_held m a (word_of i) (bytes_of (map word_of is)) h) d.1 (omega (arith, lt)) in
    let same : a + 4 * suc n ≡ a + 4 + 4 * n = omega arith in
    subst (λ (b : ℕ). (word_at m b ≡ word_of (slice_index_or is n instr.Ebreak)) × (decode_of (word_at m b) ≡ Some (slice_index_or is n instr.Ebreak))) (sym same) q

-- ---- the whole

placed_with : (homes : List ℕ) (base : ℕ) (xs : List Item) (bs : List ℕ) (m : ℕ → ℕ) → IsTable homes xs → base % 4 ≡ 0 → IsLow base xs → (r : IsResolved homes base xs bs) → TextIs (text_of m) base (whole_code homes r.long r.places base xs) → IsPlacedWith (address homes r.places) (longs r.long) xs base m
placed_with homes base xs bs m table aligned fits r text =
    let n = length xs in
    let L = longs r.long in
    let env = address homes r.places in
    let seg = data_start (slice_index r.places n) in
    let g = good homes base xs r.long r.places table r.chosen aligned fits in
    let low = λ (k : ℕ) (le : k ≤ n). measured_low r.places L base xs k r.chosen.measured le fits in
    let text2 : TextIs (text_of m) base (code env seg L base xs n) = text in
    let top : slice_index r.places n < 0x70000000 = low n (omega arith) in
    let mark : (k : ℕ) → k < n → (l : ℕ) → item_at xs k ≡ Mark l → env l ≡ place L base xs k = λ k lt l e. ap (slice_index r.places) (table.once k l lt e) ∙ r.chosen.measured.at k (omega arith) in
    record {
      stands = λ k lt.
          let here : slice_index r.places k < 0x70000000 = low k (omega arith) in
          let stands : ItemAt (text_of m) env seg (item_at xs k) (place L base xs k) (place L base xs (suc k)) = item_stands (text_of m) env (length homes) seg g.low (omega arith) (L k) (place L base xs k) (place L base xs (suc k)) (item_at xs k) (omega (arith, here, r.chosen.measured.at k (omega arith))) refl (table.refers k lt) (mark k lt) (item_text env seg L base xs (text_of m) n text2 k lt) in
          subst (λ (e : ℕ). ItemAt (text_of m) env (data_start e) (item_at xs k) (place L base xs k) (place L base xs (suc k))) (r.chosen.measured.at n (omega arith)) stands;
    }

-- items placed one by one are placed as a list
stands_all : (T : ℕ → Option Instr) (env : ℕ → ℕ) (seg : ℕ) (xs : List Item) (p : ℕ → ℕ) → ((j : ℕ) → j < length xs → ItemAt T env seg (item_at xs j) (p j) (p (suc j))) → Stands T env seg xs (p 0) (p (length xs))
stands_all T env seg [] p h = refl
stands_all T env seg (x ∷ rest) p h = (p 1, h 0 (omega arith), stands_all T env seg rest (λ j. p (suc j)) (λ j lt. h (suc j) (omega arith)))

-- a list in two parts is placed in two parts
stands_split : (T : ℕ → Option Instr) (env : ℕ → ℕ) (seg : ℕ) (xs ys : List Item) (a e : ℕ) → Stands T env seg (xs ++ ys) a e → (mid : ℕ) × Stands T env seg xs a mid × Stands T env seg ys mid e
stands_split T env seg [] ys a e s = (a, refl, s)
stands_split T env seg (x ∷ xs) ys a e s =
    let q = stands_split T env seg xs ys s.0 e s.2 in
    (q.0, (s.0, s.1, q.1), q.2)

-- and two parts that are placed one after the other are placed as one list
stands_joined : (T : ℕ → Option Instr) (env : ℕ → ℕ) (seg : ℕ) (xs ys : List Item) (a mid e : ℕ) → Stands T env seg xs a mid → Stands T env seg ys mid e → Stands T env seg (xs ++ ys) a e
stands_joined T env seg [] ys a mid e s t = subst (λ (b : ℕ). Stands T env seg ys b e) (sym s) t
stands_joined T env seg (x ∷ xs) ys a mid e s t = (s.0, s.1, stands_joined T env seg xs ys s.0 mid e s.2 t)

pub in_parts : StandsInParts
in_parts T env seg xs ys a e = (stands_split T env seg xs ys a e, λ p. stands_joined T env seg xs ys a p.0 e p.1 p.2)

-- the bytes end where the items do
resolved_end : (homes : List ℕ) (base : ℕ) (xs : List Item) (bs : List ℕ) → (r : IsResolved homes base xs bs) → base + length bs ≡ place (longs r.long) base xs (length xs)
resolved_end homes base xs bs r =
    let n = length xs in
    let L = longs r.long in
    let env = address homes r.places in
    let seg = data_start (slice_index r.places n) in
    let is : List Instr = code env seg L base xs n in
    let len : length bs ≡ length (bytes_of (map word_of is)) = ap length r.written.bytes in
    omega (arith, len, bytes_len (map word_of is), length-map is word_of, code_length env seg L base xs n)

pub resolved_low : (homes : List ℕ) (base : ℕ) (xs : List Item) (bs : List ℕ) → IsResolved homes base xs bs → IsLow base xs → base + length bs < 0x70000000
resolved_low homes base xs bs r fits = omega (arith, resolved_end homes base xs bs r, place_grows (longs r.long) all_long (in_all (longs r.long)) base xs (length xs), fits)

pub assembled : (homes : List ℕ) (base : ℕ) (xs : List Item) (bs : List ℕ) → IsTable homes xs → base % 4 ≡ 0 → IsLow base xs → IsResolved homes base xs bs → IsFewest xs base bs
assembled homes base xs bs table aligned fits r = record {
  long = longs r.long;
  fits = r.chosen.fits;
  least = r.chosen.least;
  size = resolved_end homes base xs bs r;
  env = address homes r.places;
  placed = λ m h. placed_with homes base xs bs m table aligned fits r (text_held m base (whole_code homes r.long r.places base xs) (subst (λ (b : List ℕ). Holds m base b) r.written.bytes h) r.written.decoding);
}

pub assembles : (xs : List Item) (base : ℕ) (bs : List ℕ) → IsFewest xs base bs → Assembles xs base bs
assembles xs base bs f = record {
  env = f.env;
  placed = λ m h. subst (λ (e : ℕ). Stands (text_of m) f.env (data_start e) xs base e) (sym f.size) (stands_all (text_of m) f.env (data_start (place f.long base xs (length xs))) xs (place f.long base xs) (f.placed m h).stands);
}

none_long : (L : ℕ → Bool) → Within all_short L
none_long L = record { all = λ k e. cc }

pub sized : (xs : List Item) (base : ℕ) (bs : List ℕ) → base % 4 ≡ 0 → IsFewest xs base bs → IsSized base xs (length bs)
sized xs base bs even f = record {
  whole = omega (arith, even, f.size, place_even f.long base xs (length xs) even);
  least = omega (arith, f.size, place_grows all_short f.long (none_long f.long) base xs (length xs));
  most = omega (arith, f.size, place_grows f.long all_long (in_all f.long) base xs (length xs));
}
