-- Elements of a list of bytes, and those of the machine's memory that holds the list.
use Rattle.std.proofs.Common.{◌≡◌, ◌≢◌, ◌⊎◌, ⊎_elim, ℕ, suc, ◌+◌, ◌*◌, ◌/◌, ◌%◌, ◌^◌, ◌<◌, ◌≤◌, List, Bool, true, false, Option, Some, None, refl, ap, ◌∙◌, arith, eqb}
use Rattle.std.specs.Prelude.{if◌then◌else◌}
use Rattle.std.proofs.lemmas.Bool.Decides.{nat_tests}
use Rattle.rv32.specs.declared.instr.Instr.TheVariants as instr
use Rattle.rv32.specs.Words.{sign_extended}
use Rattle.rv32.specs.Space.{both, all_four, half_at, word_at}
use Rattle.csem_events.specs.Events.{Event}
use Rattle.frames_code.specs.declared.code.Width.{Width}
use Rattle.frames_code.specs.declared.code.Width.TheVariants as width
use Rattle.frames_code.specs.Run.{Bytes, with_at, size_of, joined, half_in, extended, element_in, with_half as half_in_list, with_element}
use Rattle.select_exec.specs.Light.{Fixed, Light, Go, reg, with_reg, with_word, with_half, with_byte, sum32, Comes}
use Rattle.select_exec.proofs.Bridge.{bool_cases}
use Rattle.select_exec.proofs.Words.{byte_off, byte_back, half_off, word_off, byte_bytes, half_bytes, word_bytes, word_small, half_small}
use Rattle.select_exec.proofs.Steps.{on_load, on_store, on_load_byte, on_load_signed_byte, on_load_half, on_load_signed_half, on_store_byte, on_store_half}
use Rattle.select.specs.Selected.{load_of, store_of}
use Rattle.select_correct.specs.Matches.{Holds}
use Rattle.select_correct.specs.Laws.{Anything}

-- ---- the bytes that the machine reads

abbrev pub element_here : Width → (ℕ → ℕ) → ℕ → ℕ
element_here width.Byte b a = b a
element_here width.SignedByte b a = sign_extended 7 (b a)
element_here width.Half b a = half_at b a
element_here width.SignedHalf b a = sign_extended 15 (half_at b a)
element_here width.Word b a = word_at b a

abbrev pub put_here : Width → (ℕ → ℕ) → ℕ → ℕ → ℕ → ℕ
put_here width.Byte b a v = with_byte b a (v % 2 ^ 8)
put_here width.SignedByte b a v = with_byte b a (v % 2 ^ 8)
put_here width.Half b a v = with_half b a v
put_here width.SignedHalf b a v = with_half b a v
put_here width.Word b a v = with_word b a v

-- two parts of a number
record Parts (x y : Option ℕ) (n v : ℕ) : Type 0 where
  pub low : ℕ
  pub high : ℕ
  pub low_is : x ≡ Some low
  pub high_is : y ≡ Some high
  pub sum : low + high * 2 ^ n ≡ v

joined_some : (x y : Option ℕ) (n v : ℕ) → joined x y n ≡ Some v → Parts x y n v
joined_some None y n v e = cc
joined_some (Some low) None n v e = cc
joined_some (Some low) (Some high) n v e =
    let same : low + high * 2 ^ n ≡ v = cc in
    record { low = low; high = high; low_is = refl; high_is = refl; sum = same }

extended_some : (k : ℕ) (x : Option ℕ) (v : ℕ) → extended k x ≡ Some v → (u : ℕ) × (x ≡ Some u) × (sign_extended k u ≡ v)
extended_some k None v e = cc
extended_some k (Some u) v e = let same : sign_extended k u ≡ v = cc in (u, refl, same)

word_halves : (b : ℕ → ℕ) (a : ℕ) → word_at b a ≡ half_at b a + half_at b (a + 2) * 2 ^ 16
word_halves b a =
    let last : b (a + 2 + 1) ≡ b (a + 3) = ap b (omega arith) in
    rw last (omega arith)

module _ (bytes : Bytes) (start first past : ℕ) (b : ℕ → ℕ) (held : Holds bytes start first past b) where
  half_held : (o v : ℕ) → half_in bytes o ≡ Some v → half_at b (start + o) ≡ v
  half_held o v e =
      let q = joined_some (bytes o) (bytes (o + 1)) 8 v e in
      let low : b (start + o) ≡ q.low = (held o q.low q.low_is).2 in
      let there : start + o + 1 ≡ start + (o + 1) = omega arith in
      let high : b (start + o + 1) ≡ q.high = ap b there ∙ (held (o + 1) q.high q.high_is).2 in
      rw (low, high) q.sum

  pub element_held : (w : Width) (o v : ℕ) → element_in w bytes o ≡ Some v → element_here w b (start + o) ≡ v
  element_held width.Byte o v e = (held o v e).2
  element_held width.SignedByte o v e =
      let q = extended_some 7 (bytes o) v e in
      ap (sign_extended 7) (held o q.0 q.1).2 ∙ q.2
  element_held width.Half o v e = half_held o v e
  element_held width.SignedHalf o v e =
      let q = extended_some 15 (half_in bytes o) v e in
      ap (sign_extended 15) (half_held o q.0 q.1) ∙ q.2
  element_held width.Word o v e =
      let q = joined_some (half_in bytes o) (half_in bytes (o + 2)) 16 v e in
      let there : start + o + 2 ≡ start + (o + 2) = omega arith in
      let low : half_at b (start + o) ≡ q.low = half_held o q.low q.low_is in
      let high : half_at b (start + o + 2) ≡ q.high = ap (half_at b) there ∙ half_held (o + 2) q.high q.high_is in
      word_halves b (start + o) ∙ (ap (λ x. x + half_at b (start + o + 2) * 2 ^ 16) low ∙ (ap (λ x. q.low + x * 2 ^ 16) high ∙ q.sum))

  -- ---- one byte more

  pub byte_held : (o x : ℕ) → first ≤ o → o < past → Holds (with_at bytes o x) start first past (with_byte b (start + o) x)
  byte_held o x lo hi k c e =
      bool_cases (eqb k o)
      (λ t.
      let is : k ≡ o = grind (arith, nat_tests) in
      let now : Some x ≡ Some c = rw t at e in
      let same : x ≡ c = cc in
      (omega (arith, lo, is), omega (arith, hi, is), ap (λ y. with_byte b (start + o) x (start + y)) is ∙ (byte_back b (start + o) x ∙ same)))
      (λ t.
      let before : bytes k ≡ Some c = rw t at e in
      let old = held k c before in
      let ne : k ≢ o = grind (arith, nat_tests) in
      (old.0, old.1, byte_off b (start + o) x (start + k) (λ y. ne (omega (arith, y))) ∙ old.2))

  pub held_same : (b2 : ℕ → ℕ) → ((k : ℕ) → b2 k ≡ b k) → Holds bytes start first past b2
  held_same b2 same k c e = let old = held k c e in (old.0, old.1, same (start + k) ∙ old.2)

element_of_bytes : (w : Width) (b : ℕ → ℕ) (a : ℕ) → ((k : ℕ) → b k < 2 ^ 8) → element_here w b a < 2 ^ 32
element_of_bytes width.Byte b a s = omega (arith, s a)
element_of_bytes width.SignedByte b a s = omega (arith, s a)
element_of_bytes width.Half b a s = omega (arith, half_small b a s)
element_of_bytes width.SignedHalf b a s = omega (arith, half_small b a s)
element_of_bytes width.Word b a s = word_small b a s

-- elements are words
pub element_small : (w : Width) (b : ℕ → ℕ) (a v : ℕ) → ((k : ℕ) → b k < 2 ^ 8) → element_here w b a ≡ v → v < 2 ^ 32
element_small w b a v s e = omega (arith, element_of_bytes w b a s, e)

-- ---- the bytes that the machine writes

if_swapped : (s t : Bool) (x y z : ℕ) → (s ≡ true → t ≡ false) → (if s then x else (if t then y else z)) ≡ (if t then y else (if s then x else z))
if_swapped true t x y z h = let f : t ≡ false = h refl in rw f refl
if_swapped false t x y z h = refl

half_steps : (b : ℕ → ℕ) (a v k : ℕ) → with_half b a v k ≡ with_byte (with_byte b a (v % 2 ^ 8)) (a + 1) (v / 2 ^ 8 % 2 ^ 8) k
half_steps b a v k = if_swapped (eqb k a) (eqb k (a + 1)) (v % 2 ^ 8) (v / 2 ^ 8 % 2 ^ 8) (b k) (λ t. grind (arith, nat_tests))

four_swapped : (p q s t : Bool) (x0 x1 x2 x3 z : ℕ) → (p ≡ true → (s ≡ false) × (t ≡ false)) → (q ≡ true → (s ≡ false) × (t ≡ false))
    → (if p then x0 else (if q then x1 else (if s then x2 else (if t then x3 else z)))) ≡ (if s then x2 else (if t then x3 else (if p then x0 else (if q then x1 else z))))
four_swapped true q s t x0 x1 x2 x3 z hp hq = let f = hp refl in rw (f.0, f.1) refl
four_swapped false true s t x0 x1 x2 x3 z hp hq = let f = hq refl in rw (f.0, f.1) refl
four_swapped false false s t x0 x1 x2 x3 z hp hq = refl

not_both : (k x y : ℕ) → x ≢ y → eqb k x ≡ true → eqb k y ≡ false
not_both k x y ne t = grind (arith, nat_tests)

word_steps : (b : ℕ → ℕ) (a v k : ℕ) → v < 2 ^ 32 → with_word b a v k ≡ with_half (with_half b a v) (a + 2) (v / 2 ^ 16) k
word_steps b a v k small =
    let top : v / 2 ^ 16 / 2 ^ 8 % 2 ^ 8 ≡ v / 2 ^ 24 = omega (arith, small) in
    let same : a + 2 + 1 ≡ a + 3 = omega arith in
    rw (top, same)
    (four_swapped (eqb k a) (eqb k (a + 1)) (eqb k (a + 2)) (eqb k (a + 3)) (v % 2 ^ 8) (v / 2 ^ 8 % 2 ^ 8) (v / 2 ^ 16 % 2 ^ 8) (v / 2 ^ 24) (b k)
    (λ t. (not_both k a (a + 2) (λ e. omega (arith, e)) t, not_both k a (a + 3) (λ e. omega (arith, e)) t))
    (λ t. (not_both k (a + 1) (a + 2) (λ e. omega (arith, e)) t, not_both k (a + 1) (a + 3) (λ e. omega (arith, e)) t)))

module _ (bytes : Bytes) (start first past : ℕ) (b : ℕ → ℕ) (held : Holds bytes start first past b) where
  half_put_held : (o v : ℕ) → first ≤ o → o + 2 ≤ past → Holds (half_in_list bytes o v) start first past (with_half b (start + o) v)
  half_put_held o v lo hi =
      let x = v % 2 ^ 8 in
      let y = v / 2 ^ 8 % 2 ^ 8 in
      let b1 = with_byte b (start + o) x in
      let b2 = with_byte b1 (start + (o + 1)) y in
      let one : Holds (with_at bytes o x) start first past b1 = byte_held bytes start first past b held o x lo (omega (arith, hi)) in
      let two : Holds (with_at (with_at bytes o x) (o + 1) y) start first past b2 = byte_held (with_at bytes o x) start first past b1 one (o + 1) y (omega (arith, lo)) (omega (arith, hi)) in
      let there : start + o + 1 ≡ start + (o + 1) = omega arith in
      held_same (half_in_list bytes o v) start first past b2 two (with_half b (start + o) v) (λ k. half_steps b (start + o) v k ∙ ap (λ a. with_byte b1 a y k) there)

module _ (bytes : Bytes) (start first past : ℕ) (b : ℕ → ℕ) (held : Holds bytes start first past b) where
  pub put_held : (w : Width) (o v : ℕ) → v < 2 ^ 32 → first ≤ o → o + size_of w ≤ past → Holds (with_element w bytes o v) start first past (put_here w b (start + o) v)
  put_held width.Byte o v small lo hi = byte_held bytes start first past b held o (v % 2 ^ 8) lo (omega (arith, hi))
  put_held width.SignedByte o v small lo hi = byte_held bytes start first past b held o (v % 2 ^ 8) lo (omega (arith, hi))
  put_held width.Half o v small lo hi = half_put_held bytes start first past b held o v lo hi
  put_held width.SignedHalf o v small lo hi = half_put_held bytes start first past b held o v lo hi
  put_held width.Word o v small lo hi =
      let b1 = with_half b (start + o) v in
      let u = v / 2 ^ 16 in
      let one : Holds (half_in_list bytes o v) start first past b1 = half_put_held bytes start first past b held o v lo (omega (arith, hi)) in
      let two : Holds (half_in_list (half_in_list bytes o v) (o + 2) u) start first past (with_half b1 (start + (o + 2)) u) = half_put_held (half_in_list bytes o v) start first past b1 one (o + 2) u (omega (arith, lo)) (omega (arith, hi)) in
      let there : start + o + 2 ≡ start + (o + 2) = omega arith in
      held_same (half_in_list (half_in_list bytes o v) (o + 2) u) start first past (with_half b1 (start + (o + 2)) u) two (with_word b (start + o) v) (λ k. word_steps b (start + o) v k small ∙ ap (λ a. with_half b1 a u k) there)

pub put_off : (w : Width) (b : ℕ → ℕ) (a v k : ℕ) → (a + size_of w ≤ k) ⊎ (k < a) → put_here w b a v k ≡ b k
put_off width.Byte b a v k h = byte_off b a (v % 2 ^ 8) k (λ e. ⊎_elim (λ p. omega (arith, p, e)) (λ p. omega (arith, p, e)) h)
put_off width.SignedByte b a v k h = byte_off b a (v % 2 ^ 8) k (λ e. ⊎_elim (λ p. omega (arith, p, e)) (λ p. omega (arith, p, e)) h)
put_off width.Half b a v k h = half_off b a v k h
put_off width.SignedHalf b a v k h = half_off b a v k h
put_off width.Word b a v k h = word_off b a v k h

pub put_bytes : (w : Width) (b : ℕ → ℕ) (a v : ℕ) → v < 2 ^ 32 → ((k : ℕ) → b k < 2 ^ 8) → (k : ℕ) → put_here w b a v k < 2 ^ 8
put_bytes width.Byte b a v small s k = byte_bytes b a (v % 2 ^ 8) (omega arith) s k
put_bytes width.SignedByte b a v small s k = byte_bytes b a (v % 2 ^ 8) (omega arith) s k
put_bytes width.Half b a v small s k = half_bytes b a v s k
put_bytes width.SignedHalf b a v small s k = half_bytes b a v s k
put_bytes width.Word b a v small s k = word_bytes b a v small s k

-- a multiple of 4 is one of each size
pub aligned_for : (w : Width) (start o : ℕ) → start % 4 ≡ 0 → o % size_of w ≡ 0 → (start + o) % size_of w ≡ 0
aligned_for width.Byte start o e f = omega arith
aligned_for width.SignedByte start o e f = omega arith
aligned_for width.Half start o e f = omega (arith, e, f)
aligned_for width.SignedHalf start o e f = omega (arith, e, f)
aligned_for width.Word start o e f = omega (arith, e, f)

-- ---- steps of the machine

both_open : (p : ℕ → Bool) (a : ℕ) → ((k : ℕ) → a ≤ k → k < a + 2 → p k ≡ true) → both p a ≡ true
both_open p a all = rw (all a (omega arith) (omega arith), all (a + 1) (omega arith) (omega arith)) refl

four_open : (p : ℕ → Bool) (a : ℕ) → ((k : ℕ) → a ≤ k → k < a + 4 → p k ≡ true) → all_four p a ≡ true
four_open p a all = rw (all a (omega arith) (omega arith), all (a + 1) (omega arith) (omega arith), all (a + 2) (omega arith) (omega arith), all (a + 3) (omega arith) (omega arith)) refl

module _ (F : Fixed) (i : List ℕ) (h : List Event) (Q : Light → Type 0) (n : ℕ) (r b : ℕ → ℕ) (here : ℕ) where
  pub loads_element : {a0 : ℕ} → (w : Width) (rd base v a x : ℕ) → F.text here ≡ Some (instr.Load (load_of w) rd base v) → sum32 (reg r base) v ≡ a → a % size_of w ≡ 0 → ((k : ℕ) → a ≤ k → k < a + size_of w → F.can_read k ≡ true) → element_here w b a ≡ x
      → Comes F Anything a0 n (Go (with_reg r rd x) (here + 4) b i h) Q → Comes F Anything 1 (suc n) (Go r here b i h) Q
  loads_element {a0} width.Byte rd base v a x e ea al open_at ex c = on_load_byte F Anything Q n r here b i h tt {a0 = a0} rd base v a x e ea (open_at a (omega arith) (omega arith)) ex c
  loads_element {a0} width.SignedByte rd base v a x e ea al open_at ex c = on_load_signed_byte F Anything Q n r here b i h tt {a0 = a0} rd base v a x e ea (open_at a (omega arith) (omega arith)) ex c
  loads_element {a0} width.Half rd base v a x e ea al open_at ex c = on_load_half F Anything Q n r here b i h tt {a0 = a0} rd base v a x e ea al (both_open F.can_read a open_at) ex c
  loads_element {a0} width.SignedHalf rd base v a x e ea al open_at ex c = on_load_signed_half F Anything Q n r here b i h tt {a0 = a0} rd base v a x e ea al (both_open F.can_read a open_at) ex c
  loads_element {a0} width.Word rd base v a x e ea al open_at ex c = on_load F Anything Q n r here b i h tt {a0 = a0} rd base v a x e ea al (four_open F.can_read a open_at) ex c

  pub stores_element : {a0 : ℕ} → (w : Width) (q base v a x : ℕ) → F.text here ≡ Some (instr.Store (store_of w) q base v) → sum32 (reg r base) v ≡ a → a % size_of w ≡ 0 → ((k : ℕ) → a ≤ k → k < a + size_of w → F.can_write k ≡ true) → reg r q ≡ x
      → Comes F Anything a0 n (Go r (here + 4) (put_here w b a x) i h) Q → Comes F Anything 1 (suc n) (Go r here b i h) Q
  stores_element {a0} width.Byte q base v a x e ea al open_at ex c = on_store_byte F Anything Q n r here b i h tt {a0 = a0} q base v a x e ea (open_at a (omega arith) (omega arith)) ex c
  stores_element {a0} width.SignedByte q base v a x e ea al open_at ex c = on_store_byte F Anything Q n r here b i h tt {a0 = a0} q base v a x e ea (open_at a (omega arith) (omega arith)) ex c
  stores_element {a0} width.Half q base v a x e ea al open_at ex c = on_store_half F Anything Q n r here b i h tt {a0 = a0} q base v a x e ea al (both_open F.can_write a open_at) ex c
  stores_element {a0} width.SignedHalf q base v a x e ea al open_at ex c = on_store_half F Anything Q n r here b i h tt {a0 = a0} q base v a x e ea al (both_open F.can_write a open_at) ex c
  stores_element {a0} width.Word q base v a x e ea al open_at ex c = on_store F Anything Q n r here b i h tt {a0 = a0} q base v a x e ea al (four_open F.can_write a open_at) ex c
