-- Calls that are active.
use Rattle.std.proofs.Common.{◌≡◌, ◌≤◌, ◌<◌, ℕ, suc, ◌+◌, ◌-◌, ◌*◌, ◌^◌, get_or, refl, List, [], ◌∷◌, ◌++◌, length, map, sym, ap, ◌∙◌, arith}
use Rattle.std.specs.Prelude.{Option, max, min, reverse}
use Rattle.std.proofs.lemmas.List.{reverse-append, reverse-reverse}
use Rattle.typing_spec.specs.Program as typed
use Rattle.csem.specs.History.{Entered, Entry, Left, active, without_innermost, weight_in, sum_of, greatest_sum}
use Rattle.interp_transitions.specs.declared.tally.Tally.{Tally}
use Rattle.interp_transitions.specs.Tallied.{Tells}

-- the sum now is no greater than the greatest one
sum_bounded : (w : ℕ → ℕ) (h : List Entry) → sum_of w (active h) ≤ greatest_sum w h
sum_bounded w [] = omega arith
sum_bounded w (e ∷ h) = omega arith

abbrev first : List ℕ → ℕ
first [] = 0
first (k ∷ ks) = k

-- the last weight is that of the innermost call
last_is_innermost : (w : ℕ → ℕ) (fs : List ℕ) (ws : List ℕ) (x : ℕ) → map w fs ≡ x ∷ reverse ws →
    (ws ≡ reverse (map w (without_innermost fs))) × (sum_of w fs ≡ x + sum_of w (without_innermost fs))
last_is_innermost w [] ws x e = absurd (omega (arith, ap length e))
last_is_innermost w (f ∷ fs) ws x e =
    (sym (reverse-reverse ws) ∙ ap reverse (sym (ap without_innermost e)), ap (λ k. k + sum_of w fs) (ap first e))

pub innermost_ends : (p : typed.Program) (h : List Entry) (value : Option ℕ) (weight sum greatest : ℕ) (ws : List ℕ) (old : Tally) → Tells p h old → old.weights.items ≡ ws ++ weight ∷ [] →
    sum ≡ old.sum - weight → greatest ≡ old.greatest → (ws ≡ reverse (map (weight_in p) (active (Left value ∷ h)))) × (sum ≡ sum_of (weight_in p) (active (Left value ∷ h)))
    × (greatest ≡ greatest_sum (weight_in p) (Left value ∷ h))
innermost_ends p h value weight sum greatest ws old t a b c =
    let w = weight_in p in
    let all : map w (active h) ≡ weight ∷ reverse ws =
    sym (reverse-reverse (map w (active h))) ∙ ap reverse (sym t.0 ∙ a) ∙ reverse-append ws (weight ∷ []) in
    let both = last_is_innermost w (active h) ws weight all in
    let less : sum ≡ sum_of w (without_innermost (active h)) = omega (arith, b, t.1, both.1) in
    (both.0, less, c ∙ t.2 ∙ omega (arith, both.1, sum_bounded w h))

-- ---- the sum of weights of 64 bits

abbrev total : List ℕ → ℕ
total [] = 0
total (x ∷ xs) = x + total xs

total_behind : (xs : List ℕ) (x : ℕ) → total (xs ++ x ∷ []) ≡ total xs + x
total_behind [] x = omega arith
total_behind (y ∷ xs) x = let e = total_behind xs x in omega (arith, e)

total_reversed : (xs : List ℕ) → total (reverse xs) ≡ total xs
total_reversed [] = refl
total_reversed (x ∷ xs) =
    let behind = total_behind (reverse xs) x in
    let e = total_reversed xs in
    let same : total (reverse (x ∷ xs)) ≡ total (reverse xs ++ x ∷ []) = ap total (reverse-append (x ∷ []) xs) in
    omega (arith, same, behind, e)

total_mapped : (w : ℕ → ℕ) (fs : List ℕ) → total (map w fs) ≡ sum_of w fs
total_mapped w [] = refl
total_mapped w (f ∷ fs) = ap (λ k. w f + k) (total_mapped w fs)

total_small : (xs : List ℕ) → ((k : ℕ) → get_or xs k 0 < 2 ^ 64) → total xs ≤ length xs * (2 ^ 64 - 1)
total_small [] each = omega arith
total_small (x ∷ xs) each =
    let first : x < 2 ^ 64 = each 0 in
    let rest = total_small xs (λ k. each (suc k)) in
    omega (arith, first, rest)

pub one_more : (w : ℕ → ℕ) (fs ws : List ℕ) (before weight result : ℕ) → ((k : ℕ) → get_or ws k 0 < 2 ^ 64) → length ws < 2 ^ 64 → weight < 2 ^ 64 →
    result ≡ min (before + weight) (2 ^ 128 - 1) → ws ≡ reverse (map w fs) → before ≡ sum_of w fs → result ≡ weight + before
one_more w fs ws before weight result each short small is e f =
    let sum : before ≡ total ws = f ∙ sym (total_mapped w fs) ∙ sym (total_reversed (map w fs)) ∙ sym (ap total e) in
    let most = total_small ws each in
    omega (arith, sum, most, short, small, is)

pub begun : (p : typed.Program) (h : List Entry) (f : ℕ) (arguments : List (Option ℕ)) (weight sum greatest : ℕ) (ws : List ℕ) (old : Tally) → Tells p h old → weight_in p f ≡ weight →
    ws ≡ old.weights.items ++ weight ∷ [] → sum ≡ weight + old.sum → greatest ≡ max sum old.greatest → (ws ≡ reverse (map (weight_in p) (active (Entered f arguments ∷ h))))
    × (sum ≡ sum_of (weight_in p) (active (Entered f arguments ∷ h))) × (greatest ≡ greatest_sum (weight_in p) (Entered f arguments ∷ h))
begun p h f arguments weight sum greatest ws old t e a b c =
    let w = weight_in p in
    let all : sum ≡ w f + sum_of w (active h) = omega (arith, b, e, t.1) in (
      a ∙ ap (λ l. l ++ weight ∷ []) t.0 ∙ ap (λ x. reverse (map w (active h)) ++ x ∷ []) (sym e) ∙ sym (reverse-append (w f ∷ []) (map w (active h))),
      all,
      omega (arith, c, all, t.2),
    )
