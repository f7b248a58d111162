-- How single writes join.
use Rattle.std.proofs.Common.{◌≡◌, ℕ, ◌+◌, ◌<◌, ◌≤◌, List, ◌++◌, take, drop, length, length-take, length-drop, ◌-◌, Option, Some, None, sym, ap, ◌∙◌, subst, append_assoc, arith}
use Rattle.std.specs.Io.KnownBytes.{Appends, Keeps}
use Rattle.std.proofs.lemmas.List.{take-take, drop-take, take-append-drop}

appends_twice : (a b c : Option (List ℕ)) (xs ys : List ℕ) → Appends a b xs → Appends b c ys → Appends a c (xs ++ ys)
appends_twice None b c xs ys p q = tt
appends_twice (Some x) None c xs ys p q = absurd p
appends_twice (Some x) (Some y) None xs ys p q = absurd q
appends_twice (Some x) (Some y) (Some z) xs ys p q = q ∙ ap (λ l. l ++ ys) p ∙ append_assoc x xs ys

pub appends_kept : (a b c : Option (List ℕ)) (xs : List ℕ) → Appends a b xs → Keeps b c → Appends a c xs
appends_kept None b c xs p q = tt
appends_kept (Some x) None c xs p q = absurd p
appends_kept (Some x) (Some y) None xs p q = absurd q
appends_kept (Some x) (Some y) (Some z) xs p q = q ∙ p

-- a beginning and the next part of the rest
take_part : (xs : List ℕ) (a n : ℕ) → take a xs ++ take n (drop a xs) ≡ take (a + n) xs
take_part xs a n =
    let front : take a xs ≡ take a (take (a + n) xs) = sym (take-take a (a + n) xs (omega arith)) in
    let back : take n (drop a xs) ≡ drop a (take (a + n) xs) = sym (drop-take a n xs) in
    rw (front, back) (take-append-drop a (take (a + n) xs))

-- one write of the rest
pub write_step : (a b c : Option (List ℕ)) (bytes : List ℕ) (at n : ℕ) → at < length bytes → Appends a b (take at bytes)
    → n ≤ length (take (length bytes - at) (drop at bytes)) → Appends b c (take n (take (length bytes - at) (drop at bytes)))
    → (at + n ≤ length bytes) × Appends a c (take (at + n) bytes)
write_step a b c bytes at n room front bound more =
    let rest = drop at bytes in
    let size = simp (length-take, length-drop) at bound in
    let small : n ≤ length bytes - at = omega arith in
    let same : take n (take (length bytes - at) rest) ≡ take n rest = take-take n (length bytes - at) rest small in
    let joined = appends_twice a b c (take at bytes) (take n rest) front (subst (λ xs. Appends b c xs) same more) in
    (omega arith, subst (λ xs. Appends a c xs) (take_part bytes at n) joined)
