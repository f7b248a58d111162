-- Laws of token lines that lie in one list.
use Rattle.std.proofs.Common.{◌≡◌, ℕ, zero, suc, ◌-◌, ◌<◌, ◌≤◌, List, [], ◌∷◌, ◌++◌, length, take, drop, slice_range, slice_get, ◌⊎◌, inl, inr, Option, None, Some, Bor, get_or, refl, sym, ap, ◌∙◌, arith}
use Rattle.std.specs.List.{flat_map}
use Rattle.std.specs.Option.{option_map}
use Rattle.std.specs.Slice.{IsGetRangeResult}
use Rattle.std.proofs.lemmas.Option.{slice_get_past}
use Rattle.std.proofs.lemmas.List.{take-append-le, drop-append-le, take_rest, drop_all, length-drop}
use Rattle.std.proofs.lemmas.List.Folds.{drop_split}
use Rattle.phases.specs.Token.{Token}
use Rattle.phases.specs.inside.Cut.{cut, Ascend, Begun, line_start}

pub ascend_low : (a : ℕ) (es : List ℕ) (s : ℕ) → Ascend a es s → a ≤ s
ascend_low a [] s h = omega (arith, h)
ascend_low a (e ∷ es) s h = omega (arith, h.0, ascend_low e es s h.1)

pub ascend_more : (a : ℕ) (es : List ℕ) (s n : ℕ) → Ascend a es s → s ≤ n → Ascend a (es ++ n ∷ []) n
ascend_more a [] s n h m = (omega (arith, h, m), refl)
ascend_more a (e ∷ es) s n h m = (h.0, ascend_more e es s n h.1 m)

pub cut_length : (a : ℕ) (es : List ℕ) (ts : List Token) → length (cut a es ts) ≡ length es
cut_length a [] ts = refl
cut_length a (e ∷ es) ts = ap suc (cut_length e es ts)

range_more : (ts : List Token) (x : Token) (a e : ℕ) → a ≤ e → e ≤ length ts → slice_range (ts ++ x ∷ []) a e ≡ slice_range ts a e
range_more ts x a e h m =
    ap (take (e - a)) (drop-append-le a ts (x ∷ []) (omega (arith, h, m)))
    ∙ take-append-le (e - a) (drop a ts) (x ∷ []) (omega (arith, h, m, length-drop a ts))

-- one more token after the lines changes none of them
pub cut_push : (a : ℕ) (es : List ℕ) (s : ℕ) (ts : List Token) (x : Token) → Ascend a es s → s ≤ length ts → cut a es (ts ++ x ∷ []) ≡ cut a es ts
cut_push a [] s ts x h m = refl
cut_push a (e ∷ es) s ts x h m =
    let le : e ≤ s = ascend_low e es s h.1 in
    ap (λ l. l ∷ cut e es (ts ++ x ∷ [])) (range_more ts x a e h.0 (omega (arith, le, m)))
    ∙ ap (λ ls. slice_range ts a e ∷ ls) (cut_push e es s ts x h.1 m)

-- one more end makes a line of the tokens after the last end
pub cut_end : (a : ℕ) (es : List ℕ) (s : ℕ) (ts : List Token) → Ascend a es s → cut a (es ++ length ts ∷ []) ts ≡ cut a es ts ++ drop s ts ∷ []
cut_end a [] s ts h = ap (λ l. l ∷ []) (take_rest ts a ∙ ap (λ k. drop k ts) h)
cut_end a (e ∷ es) s ts h = ap (λ ls. slice_range ts a e ∷ ls) (cut_end e es s ts h.1)

-- the lines hold all tokens
pub cut_all : (a : ℕ) (es : List ℕ) (ts : List Token) → Ascend a es (length ts) → flat_map (λ l. l) (cut a es ts) ≡ drop a ts
cut_all a [] ts h = sym (drop_all a ts (omega (arith, h)))
cut_all a (e ∷ es) ts h = ap (λ k. slice_range ts a e ++ k) (cut_all e es ts h.1) ∙ sym (drop_split ts a e h.0)

pub line_start_is : (a : ℕ) (es : List ℕ) (i d : ℕ) → i < length es → line_start a es (suc i) ≡ get_or es i d
line_start_is a [] i d h = absurd (omega (arith, h))
line_start_is a (e ∷ es) zero d h = refl
line_start_is a (e ∷ es) (suc i) d h = line_start_is e es i d (omega (arith, h))

-- the line with this number
pub cut_get : (a : ℕ) (es : List ℕ) (ts : List Token) (i d : ℕ) → i < length es → slice_get (cut a es ts) i ≡ Some (slice_range ts (line_start a es i) (get_or es i d))
cut_get a [] ts i d h = absurd (omega (arith, h))
cut_get a (e ∷ es) ts zero d h = refl
cut_get a (e ∷ es) ts (suc i) d h = cut_get e es ts i d (omega (arith, h))

pub ascend_get : (a : ℕ) (es : List ℕ) (s i d : ℕ) → Ascend a es s → i < length es → (line_start a es i ≤ get_or es i d) × (get_or es i d ≤ s)
ascend_get a [] s i d h m = absurd (omega (arith, m))
ascend_get a (e ∷ es) s zero d h m = (h.0, ascend_low e es s h.1)
ascend_get a (e ∷ es) s (suc i) d h m = ascend_get e es s i d h.1 (omega (arith, m))

pub cut_past : (a : ℕ) (es : List ℕ) (ts : List Token) (i : ℕ) → length es ≤ i → slice_get (cut a es ts) i ≡ None
cut_past a es ts i h = slice_get_past (cut a es ts) i (omega (arith, h, cut_length a es ts))

no_range : (a e n : ℕ) → (e < a) ⊎ (n < e) → (a ≤ e) × (e ≤ n) → ⊥
no_range a e n (inl p) h = omega (arith, p, h)
no_range a e n (inr p) h = omega (arith, p, h)

pub lent_range : {X : Type 0} (ts : List X) (a e : ℕ) (r : Option (Bor (List X))) → IsGetRangeResult ts a e r → (a ≤ e) × (e ≤ length ts) → option_map (λ x. x.now) r ≡ Some (slice_range ts a e)
lent_range ts a e None p h = absurd (no_range a e (length ts) p.0 h)
lent_range ts a e (Some x) p h = ap Some p.0.2

-- lines and a line as one value
abbrev begun : List (List Token) → List Token → Begun
begun lines line = record { lines = lines; line = line }

-- the lines after one more end
pub cut_ended : (es : List ℕ) (s : ℕ) (ts : List Token) → Ascend 0 es s → begun (cut 0 (es ++ length ts ∷ []) ts) (drop (length ts) ts) ≡ begun (cut 0 es ts ++ drop s ts ∷ []) []
cut_ended es s ts h = rw (cut_end 0 es s ts h, drop_all (length ts) ts (omega arith)) refl

-- the last line is ended where no token follows it
pub ascend_all : (es : List ℕ) (s : ℕ) (ts : List Token) → Ascend 0 es s → s ≤ length ts → drop s ts ≡ [] → Ascend 0 es (length ts)
ascend_all es s ts h m e =
    let n : s ≡ length ts = omega (arith, m, length-drop s ts, ap length e) in
    rw (← n) h

-- the lines after one more token
pub cut_pushed : (es : List ℕ) (s : ℕ) (ts : List Token) (x : Token) → Ascend 0 es s → s ≤ length ts → begun (cut 0 es (ts ++ x ∷ [])) (drop s (ts ++ x ∷ [])) ≡ begun (cut 0 es ts) (drop s ts ++ x ∷ [])
cut_pushed es s ts x h m = rw (cut_push 0 es s ts x h m, drop-append-le s ts (x ∷ []) m) refl
