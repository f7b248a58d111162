-- Elements of a list of bytes after a write.
use Rattle.std.proofs.Common.{◌≡◌, ◌≢◌, ◌⊎◌, inl, inr, ⊎_elim, ℕ, ◌+◌, ◌*◌, ◌/◌, ◌%◌, ◌^◌, ◌<◌, ◌≤◌, Option, Some, None, true, false, refl, sym, ap, ◌∙◌, arith, eqb}
use Rattle.std.proofs.lemmas.Bool.Decides.{nat_tests}
use Rattle.std.specs.Prelude.{pos, ℤ, nat_lt}
use Rattle.std.proofs.lemmas.Bool.{cases_lt, lt-ltb, le-ltb}
use Rattle.ctypes.specs.declared.types.IntType.{IntType}
use Rattle.ctypes.specs.declared.types.IntType.TheVariants as ty
use Rattle.ctypes.specs.Types.{bytes_of}
use Rattle.frames_code.specs.declared.code.Width.{Width}
use Rattle.frames_code.specs.declared.code.Width.TheVariants as width
use Rattle.frames_code.specs.Run.{Bytes, with_at, size_of, joined, half_in, extended, element_in, with_half, with_element}
use Rattle.tac_code.specs.Run.{word_for, number_of, held_by}
use Rattle.frames.specs.Translated.{width_of}
use Rattle.frames.specs.Laws.{ConversionsAgree}

-- ---- one place

pub set_here : {A : Type 0} (m : ℕ → Option A) (k : ℕ) (x : A) → with_at m k x k ≡ Some x
set_here m k x = let t : eqb k k ≡ true = grind (arith, nat_tests) in rw t refl

pub set_elsewhere : {A : Type 0} (m : ℕ → Option A) (k : ℕ) (x : A) (j : ℕ) → j ≢ k → with_at m k x j ≡ m j
set_elsewhere m k x j ne = let t : eqb j k ≡ false = grind (arith, nat_tests) in rw t refl

pub size_is : (t : IntType) → size_of (width_of t) ≡ bytes_of t
size_is ty.Bool = refl
size_is ty.Char = refl
size_is ty.SChar = refl
size_is ty.UChar = refl
size_is ty.Short = refl
size_is ty.UShort = refl
size_is ty.Int = refl
size_is ty.UInt = refl
size_is ty.Long = refl
size_is ty.ULong = refl

-- ---- what is unchanged

-- the same bytes over a size
abbrev pub SameOver : ℕ → Bytes → Bytes → ℕ → Type 0
SameOver n b c o = (k : ℕ) → o ≤ k → k < o + n → c k ≡ b k

half_same : (b c : Bytes) (o : ℕ) → SameOver 2 b c o → half_in c o ≡ half_in b o
half_same b c o h =
    ap (λ x. joined x (c (o + 1)) 8) (h o (omega arith) (omega arith)) ∙ ap (λ x. joined (b o) x 8) (h (o + 1) (omega arith) (omega arith))

pub element_same : (w : Width) (b c : Bytes) (o : ℕ) → SameOver (size_of w) b c o → element_in w c o ≡ element_in w b o
element_same width.Byte b c o h = h o (omega arith) (omega arith)
element_same width.SignedByte b c o h = ap (extended 7) (h o (omega arith) (omega arith))
element_same width.Half b c o h = half_same b c o h
element_same width.SignedHalf b c o h = ap (extended 15) (half_same b c o h)
element_same width.Word b c o h =
    ap (λ x. joined x (half_in c (o + 2)) 16) (half_same b c o (λ k lo hi. h k lo (omega (arith, hi))))
    ∙ ap (λ x. joined (half_in b o) x 16) (half_same b c (o + 2) (λ k lo hi. h k (omega (arith, lo)) (omega (arith, hi))))

half_off : (b : Bytes) (o v k : ℕ) → (k < o) ⊎ (o + 2 ≤ k) → with_half b o v k ≡ b k
half_off b o v k h =
    set_elsewhere (with_at b o (v % 2 ^ 8)) (o + 1) (v / 2 ^ 8 % 2 ^ 8) k (λ e. ⊎_elim (λ p. omega (arith, p, e)) (λ p. omega (arith, p, e)) h)
    ∙ set_elsewhere b o (v % 2 ^ 8) k (λ e. ⊎_elim (λ p. omega (arith, p, e)) (λ p. omega (arith, p, e)) h)

pub put_off : (w : Width) (b : Bytes) (o v k : ℕ) → (k < o) ⊎ (o + size_of w ≤ k) → with_element w b o v k ≡ b k
put_off width.Byte b o v k h = set_elsewhere b o (v % 2 ^ 8) k (λ e. ⊎_elim (λ p. omega (arith, p, e)) (λ p. omega (arith, p, e)) h)
put_off width.SignedByte b o v k h = set_elsewhere b o (v % 2 ^ 8) k (λ e. ⊎_elim (λ p. omega (arith, p, e)) (λ p. omega (arith, p, e)) h)
put_off width.Half b o v k h = half_off b o v k h
put_off width.SignedHalf b o v k h = half_off b o v k h
put_off width.Word b o v k h =
    half_off (with_half b o v) (o + 2) (v / 2 ^ 16) k (⊎_elim (λ p. inl (omega (arith, p))) (λ p. inr (omega (arith, p))) h)
    ∙ half_off b o v k (⊎_elim (λ p. inl p) (λ p. inr (omega (arith, p))) h)

-- an element that is disjoint from the written one
pub element_off : (w u : Width) (b : Bytes) (o v p : ℕ) → (p + size_of u ≤ o) ⊎ (o + size_of w ≤ p) → element_in u (with_element w b o v) p ≡ element_in u b p
element_off w u b o v p h =
    element_same u b (with_element w b o v) p (λ k lo hi. put_off w b o v k (⊎_elim (λ x. inl (omega (arith, x, hi))) (λ x. inr (omega (arith, x, lo))) h))

-- ---- the element that was written

half_back : (b : Bytes) (o v : ℕ) → half_in (with_half b o v) o ≡ Some (v % 2 ^ 16)
half_back b o v =
    let low : with_half b o v o ≡ Some (v % 2 ^ 8) = set_elsewhere (with_at b o (v % 2 ^ 8)) (o + 1) (v / 2 ^ 8 % 2 ^ 8) o (λ e. omega (arith, e)) ∙ set_here b o (v % 2 ^ 8) in
    let high : with_half b o v (o + 1) ≡ Some (v / 2 ^ 8 % 2 ^ 8) = set_here (with_at b o (v % 2 ^ 8)) (o + 1) (v / 2 ^ 8 % 2 ^ 8) in
    let sum : v % 2 ^ 8 + v / 2 ^ 8 % 2 ^ 8 * 2 ^ 8 ≡ v % 2 ^ 16 = omega arith in
    ap (λ x. joined x (with_half b o v (o + 1)) 8) low ∙ (ap (λ x. joined (Some (v % 2 ^ 8)) x 8) high ∙ ap Some sum)

word_back : (b : Bytes) (o v : ℕ) → v < 2 ^ 32 → element_in width.Word (with_element width.Word b o v) o ≡ Some v
word_back b o v small =
    let c = with_half b o v in
    let u = v / 2 ^ 16 in
    let low : half_in (with_half c (o + 2) u) o ≡ Some (v % 2 ^ 16) =
    half_same c (with_half c (o + 2) u) o (λ k lo hi. half_off c (o + 2) u k (inl (omega (arith, hi)))) ∙ half_back b o v in
    let high : half_in (with_half c (o + 2) u) (o + 2) ≡ Some (u % 2 ^ 16) = half_back c (o + 2) u in
    let sum : v % 2 ^ 16 + u % 2 ^ 16 * 2 ^ 16 ≡ v = omega (arith, small) in
    ap (λ x. joined x (half_in (with_half c (o + 2) u) (o + 2)) 16) low ∙ (ap (λ x. joined (Some (v % 2 ^ 16)) x 16) high ∙ ap Some sum)

held_truth : (w : ℕ) (v : ℤ) → held_by ty.Bool w ≡ Some v → (v ≡ pos w) × (w < 2)
held_truth w v e = by_case (nat_cases w)
  where
    nat_cases : (n : ℕ) → (n < 2) ⊎ (2 ≤ n)
    nat_cases n = cases_lt n 2

    by_case : (w < 2) ⊎ (2 ≤ w) → (v ≡ pos w) × (w < 2)
    by_case (inl lt) = let t : nat_lt w 2 ≡ true = lt-ltb w 2 lt in let same : Some (pos w) ≡ Some v = rw t at e in ((let x : pos w ≡ v = cc in sym x), lt)
    by_case (inr ge) = let t : nat_lt w 2 ≡ false = le-ltb w 2 ge in let none : None ≡ Some v = rw t at e in absurd (let x : ⊥ = cc in x)

-- a written element is read as the word of the number that it then holds
pub element_back : (agree : ConversionsAgree) (t : IntType) (b : Bytes) (o w : ℕ) (v : ℤ) → w < 2 ^ 32 → held_by t w ≡ Some v → element_in (width_of t) (with_element (width_of t) b o w) o ≡ Some (word_for v)
element_back agree ty.Bool b o w v small e =
    let h = held_truth w v e in
    let same : w % 2 ^ 8 ≡ word_for (pos w) = omega (arith, h.1) in
    set_here b o (w % 2 ^ 8) ∙ ap Some (same ∙ ap word_for (sym h.0))
element_back agree ty.Char b o w v small e = set_here b o (w % 2 ^ 8) ∙ ap Some (sym (agree.to_char w) ∙ ap word_for (let x : number_of ty.Char w ≡ v = cc in x))
element_back agree ty.SChar b o w v small e = ap (extended 7) (set_here b o (w % 2 ^ 8)) ∙ ap Some (sym (agree.to_signed_char w) ∙ ap word_for (let x : number_of ty.SChar w ≡ v = cc in x))
element_back agree ty.UChar b o w v small e = set_here b o (w % 2 ^ 8) ∙ ap Some (sym (agree.to_unsigned_char w) ∙ ap word_for (let x : number_of ty.UChar w ≡ v = cc in x))
element_back agree ty.Short b o w v small e = ap (extended 15) (half_back b o w) ∙ ap Some (sym (agree.to_short w) ∙ ap word_for (let x : number_of ty.Short w ≡ v = cc in x))
element_back agree ty.UShort b o w v small e = half_back b o w ∙ ap Some (sym (agree.to_unsigned_short w) ∙ ap word_for (let x : number_of ty.UShort w ≡ v = cc in x))
element_back agree ty.Int b o w v small e = word_back b o w small ∙ ap Some (sym (agree.to_int w small) ∙ ap word_for (let x : number_of ty.Int w ≡ v = cc in x))
element_back agree ty.UInt b o w v small e = word_back b o w small ∙ ap Some (sym (agree.to_unsigned_int w small) ∙ ap word_for (let x : number_of ty.UInt w ≡ v = cc in x))
element_back agree ty.Long b o w v small e = word_back b o w small ∙ ap Some (sym (agree.to_long w small) ∙ ap word_for (let x : number_of ty.Long w ≡ v = cc in x))
element_back agree ty.ULong b o w v small e = word_back b o w small ∙ ap Some (sym (agree.to_unsigned_long w small) ∙ ap word_for (let x : number_of ty.ULong w ≡ v = cc in x))
