-- Numbers by their digits, after a change of one.
use Rattle.std.proofs.Common.{◌≡◌, ℕ, zero, suc, ◌+◌, ◌-◌, ◌*◌, ◌^◌, ◌<◌, ◌≤◌, List, [], ◌∷◌, ◌++◌, length, drop, get_or, refl, sym, ap, ◌∙◌, arith, drop-cons}
use Rattle.std.specs.Prelude.{slice_set}
use Rattle.interp_store.specs.layer.Digits.{number_of}

-- what a digit in this place counts
abbrev pub weight : ℕ → ℕ
weight zero = 1
weight (suc k) = 2 ^ 64 * weight k

-- ---- sums and products

one_more : (base weight n m d e : ℕ) → n + d * weight ≡ m + e * weight → base * n + d * (base * weight) ≡ base * m + e * (base * weight)
one_more base weight n m d e h =
    let all : base * (n + d * weight) ≡ base * (m + e * weight) = ap (λ x. base * x) h in
    let left : base * (n + d * weight) ≡ base * n + d * (base * weight) = grind arith in
    let right : base * (m + e * weight) ≡ base * m + e * (base * weight) = grind arith in
    omega (arith, all, left, right)

carried : (base weight now next whole d e more further rest n : ℕ) → e + base * further ≡ d * n + more → next + d * weight ≡ now + e * weight →
    now + more * weight + (d + base * rest) * n * weight ≡ whole + (d + base * rest) * weight → next + further * (base * weight) + rest * n * (base * weight) ≡ whole + rest * (base * weight)
carried base weight now next whole d e more further rest n product set all =
    let times : (e + base * further) * weight ≡ (d * n + more) * weight = ap (λ x. x * weight) product in
    let a : (e + base * further) * weight ≡ e * weight + further * (base * weight) = grind arith in
    let b : (d * n + more) * weight ≡ d * n * weight + more * weight = grind arith in
    let c : (d + base * rest) * n * weight ≡ d * n * weight + rest * n * (base * weight) = grind arith in
    let f : (d + base * rest) * weight ≡ d * weight + rest * (base * weight) = grind arith in
    omega (arith, times, a, b, c, f, set, all)

-- ---- digits

pub digit_set : (ds : List ℕ) (k e : ℕ) → k < length ds → number_of (slice_set ds k e) + get_or ds k 0 * weight k ≡ number_of ds + e * weight k
digit_set [] k e h = absurd (omega (arith, h))
digit_set (d ∷ ds) zero e h = omega arith
digit_set (d ∷ ds) (suc k) e h =
    let inner : 2 ^ 64 * number_of (slice_set ds k e) + get_or ds k 0 * (2 ^ 64 * weight k) ≡ 2 ^ 64 * number_of ds + e * (2 ^ 64 * weight k) =
    one_more (2 ^ 64) (weight k) (number_of (slice_set ds k e)) (number_of ds) (get_or ds k 0) e (digit_set ds k e (omega (arith, h))) in
    omega (arith, inner)

pub digit_behind : (ds : List ℕ) (e : ℕ) → number_of (ds ++ e ∷ []) ≡ number_of ds + e * weight (length ds)
digit_behind [] e = omega arith
digit_behind (d ∷ ds) e =
    let inner : number_of (ds ++ e ∷ []) ≡ number_of ds + e * weight (length ds) = digit_behind ds e in
    let all : 2 ^ 64 * (number_of ds + e * weight (length ds)) ≡ 2 ^ 64 * number_of ds + e * (2 ^ 64 * weight (length ds)) = grind arith in
    let times : 2 ^ 64 * number_of (ds ++ e ∷ []) ≡ 2 ^ 64 * (number_of ds + e * weight (length ds)) = ap (λ x. 2 ^ 64 * x) inner in
    omega (arith, all, times)

drop_set : (ds : List ℕ) (k e : ℕ) → drop (suc k) (slice_set ds k e) ≡ drop (suc k) ds
drop_set [] k e = refl
drop_set (d ∷ ds) zero e = refl
drop_set (d ∷ ds) (suc k) e = drop_set ds k e

-- ---- one digit more, of the digits ds that were ws

module _ (ds ws : List ℕ) (k : ℕ) (rest : drop k ds ≡ drop k ws) (size : length ds ≡ length ws) (h : k < length ds) where
  both : get_or ds k 0 ∷ drop (suc k) ds ≡ get_or ws k 0 ∷ drop (suc k) ws
  both = sym (drop-cons ds k 0 h) ∙ rest ∙ drop-cons ws k 0 (omega (arith, size, h))

  number_behind : number_of (drop k ws) ≡ get_or ds k 0 + 2 ^ 64 * number_of (drop (suc k) ws)
  number_behind = let same : get_or ds k 0 ≡ get_or ws k 0 = cc both in
      ap number_of (drop-cons ws k 0 (omega (arith, size, h))) ∙ ap (λ d. d + 2 ^ 64 * number_of (drop (suc k) ws)) (sym same)

  pub rest_behind : (e : ℕ) → drop (k + 1) (slice_set ds k e) ≡ drop (k + 1) ws
  rest_behind e = let same : drop (suc k) ds ≡ drop (suc k) ws = cc both in
      let place : k + 1 ≡ suc k = omega arith in
      ap (λ k2. drop k2 (slice_set ds k e)) place ∙ drop_set ds k e ∙ same ∙ sym (ap (λ k. drop k ws) place)

  -- times n
  pub multiplied : (n e more further : ℕ) → e + 2 ^ 64 * further ≡ get_or ds k 0 * n + more →
      number_of ds + more * weight k + number_of (drop k ws) * n * weight k ≡ number_of ws * n + number_of (drop k ws) * weight k →
      number_of (slice_set ds k e) + further * weight (k + 1) + number_of (drop (k + 1) ws) * n * weight (k + 1) ≡ number_of ws * n + number_of (drop (k + 1) ws) * weight (k + 1)
  multiplied n e more further product all =
      let place : k + 1 ≡ suc k = omega arith in
      let behind = number_of (drop (suc k) ws) in
      let d = get_or ds k 0 in
      let is : number_of ds + more * weight k + (d + 2 ^ 64 * behind) * n * weight k ≡ number_of ws * n + (d + 2 ^ 64 * behind) * weight k =
      ap (λ r. number_of ds + more * weight k + r * n * weight k) (sym number_behind) ∙ all ∙ ap (λ r. number_of ws * n + r * weight k) number_behind in
      ap (λ k2. number_of (slice_set ds k e) + further * weight k2 + number_of (drop k2 ws) * n * weight k2) place
      ∙ carried (2 ^ 64) (weight k) (number_of ds) (number_of (slice_set ds k e)) (number_of ws * n) d e more further behind n product (digit_set ds k e h) is
      ∙ sym (ap (λ k2. number_of ws * n + number_of (drop k2 ws) * weight k2) place)

  -- less one: this digit is 0, as those before it were
  pub borrowed : get_or ds k 0 ≡ 0 → number_of ds + 1 ≡ number_of ws + weight k → number_of (slice_set ds k (2 ^ 64 - 1)) + 1 ≡ number_of ws + weight (k + 1)
  borrowed none all =
      let place : k + 1 ≡ suc k = omega arith in
      let set = digit_set ds k (2 ^ 64 - 1) h in
      let nothing : get_or ds k 0 * weight k ≡ 0 = ap (λ d. d * weight k) none ∙ omega arith in
      omega (arith, set, nothing, all) ∙ sym (ap (λ k. number_of ws + weight k) place)

  pub none_yet : get_or ds k 0 ≡ 0 → number_of ws ≡ weight k * number_of (drop k ws) → number_of ws ≡ weight (k + 1) * number_of (drop (k + 1) ws)
  none_yet none all =
      let place : k + 1 ≡ suc k = omega arith in
      let behind = number_of (drop (suc k) ws) in
      let around : weight k * (0 + 2 ^ 64 * behind) ≡ 2 ^ 64 * weight k * behind = grind arith in
      all ∙ ap (λ r. weight k * r) (number_behind ∙ ap (λ d. d + 2 ^ 64 * behind) none) ∙ around ∙ sym (ap (λ k. weight k * number_of (drop k ws)) place)

  -- this one is not
  pub taken : 0 < get_or ds k 0 → number_of ds + 1 ≡ number_of ws + weight k → number_of ws ≡ number_of (slice_set ds k (get_or ds k 0 - 1)) + 1
  taken some all =
      let set = digit_set ds k (get_or ds k 0 - 1) h in
      let more : get_or ds k 0 ≡ get_or ds k 0 - 1 + 1 = omega (arith, some) in
      let product : get_or ds k 0 * weight k ≡ (get_or ds k 0 - 1 + 1) * weight k = ap (λ d. d * weight k) more in
      let split : (get_or ds k 0 - 1 + 1) * weight k ≡ (get_or ds k 0 - 1) * weight k + weight k = grind arith in
      omega (arith, set, product, split, all)

-- ---- after the last

pub all_multiplied : (ds ws out : List ℕ) (k n more : ℕ) → length ds ≡ length ws → length ws ≤ k → k ≤ length ds → out ≡ ds ++ more ∷ [] →
    number_of ds + more * weight k + number_of (drop k ws) * n * weight k ≡ number_of ws * n + number_of (drop k ws) * weight k → number_of out ≡ number_of ws * n
all_multiplied ds ws out k n more size past le e all =
    let none : number_of (drop k ws) ≡ 0 = ap number_of (drop-past ws k past) in
    let a : number_of (drop k ws) * n * weight k ≡ 0 = ap (λ r. r * n * weight k) none ∙ grind arith in
    let b : number_of (drop k ws) * weight k ≡ 0 = ap (λ r. r * weight k) none ∙ grind arith in
    let place : length ds ≡ k = omega (arith, size, past, le) in
    ap number_of e ∙ digit_behind ds more ∙ ap (λ k. number_of ds + more * weight k) place ∙ omega (arith, a, b, all)
  where
    drop-past : (xs : List ℕ) (n : ℕ) → length xs ≤ n → drop n xs ≡ []
    drop-past [] zero h = refl
    drop-past [] (suc n) h = refl
    drop-past (x ∷ xs) zero h = absurd (omega (arith, h))
    drop-past (x ∷ xs) (suc n) h = drop-past xs n (omega (arith, h))
