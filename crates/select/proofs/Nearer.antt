-- Items with their calls near: the labels, sizes and elements of the list.
use Rattle.std.proofs.Common.{◌≡◌, ◌⊎◌, inl, inr, ⊎_elim, ℕ, zero, suc, ◌+◌, ◌<◌, ◌≤◌, List, [], ◌∷◌, ◌++◌, length, map, take, drop, set, get_or, Bool, true, false, refl, sym, subst, ap, ◌∙◌, arith}
use Rattle.std.proofs.lemmas.List.{length-map}
use Rattle.std.proofs.lemmas.List.Sums.{sum_by-cons}
use Rattle.asm.specs.declared.item.Item.{Item}
use Rattle.asm.specs.declared.item.Item.TheVariants.{Mark, Plain, Branch, Jump, Call, NearCall, Constant, LabelAddress, DataAddress}
use Rattle.asm.specs.Layout.{item_at, size, longest, nearer, Refers, IsSound}
use Rattle.select.specs.Program.{are_near, shorten_calls, NearCallsAreShorter, CallsShortenInParts}

-- ---- one item

refers_nearer : (n : ℕ) (x : Item) → Refers n x → Refers n (nearer x)
refers_nearer n (Mark l) p = p
refers_nearer n (Plain i) p = p
refers_nearer n (Branch t l r to) p = p
refers_nearer n (Jump to) p = p
refers_nearer n (Call to) p = p
refers_nearer n (NearCall to) p = p
refers_nearer n (Constant rd v) p = p
refers_nearer n (LabelAddress rd l) p = p
refers_nearer n (DataAddress rd o) p = p

was_mark : (x : Item) (l : ℕ) → nearer x ≡ Mark l → x ≡ Mark l
was_mark (Mark k) l e = e
was_mark (Plain i) l e = cc
was_mark (Branch t a b to) l e = cc
was_mark (Jump to) l e = cc
was_mark (Call to) l e = cc
was_mark (NearCall to) l e = cc
was_mark (Constant rd v) l e = cc
was_mark (LabelAddress rd k) l e = cc
was_mark (DataAddress rd o) l e = cc

size_nearer : (x : Item) → size true (nearer x) ≤ size true x
size_nearer (Mark l) = omega arith
size_nearer (Plain i) = omega arith
size_nearer (Branch t l r to) = omega arith
size_nearer (Jump to) = omega arith
size_nearer (Call to) = omega arith
size_nearer (NearCall to) = omega arith
size_nearer (Constant rd v) = omega arith
size_nearer (LabelAddress rd l) = omega arith
size_nearer (DataAddress rd o) = omega arith

-- ---- lists

pub item_nearer : (xs : List Item) (k : ℕ) → item_at (map nearer xs) k ≡ nearer (item_at xs k)
item_nearer [] k = refl
item_nearer (x ∷ xs) zero = refl
item_nearer (x ∷ xs) (suc k) = item_nearer xs k

longest_nearer : (xs : List Item) → longest (map nearer xs) ≤ longest xs
longest_nearer [] = omega arith
longest_nearer (x ∷ xs) =
    omega (arith, sum_by-cons (size true) x xs, sum_by-cons (size true) (nearer x) (map nearer xs), size_nearer x, longest_nearer xs)

-- an item of the list with near calls behind `front` is that of the list, or is that made near
alike_at : (front rest : List Item) (k : ℕ) → (item_at (front ++ map nearer rest) k ≡ item_at (front ++ rest) k) ⊎ (item_at (front ++ map nearer rest) k ≡ nearer (item_at (front ++ rest) k))
alike_at [] rest k = inr (item_nearer rest k)
alike_at (x ∷ front) rest zero = inl refl
alike_at (x ∷ front) rest (suc k) = alike_at front rest k

as_long : (front rest : List Item) → length (front ++ map nearer rest) ≡ length (front ++ rest)
as_long [] rest = length-map rest nearer
as_long (x ∷ front) rest = ap suc (as_long front rest)

sound_nearer : (n : ℕ) (front rest : List Item) → IsSound n (front ++ rest) → IsSound n (front ++ map nearer rest)
sound_nearer n front rest s =
    let xs = front ++ rest in
    let ys = front ++ map nearer rest in
    let count : length ys ≡ length xs = as_long front rest in
    let was : (k l : ℕ) → item_at ys k ≡ Mark l → item_at xs k ≡ Mark l = λ k l p. ⊎_elim (λ e. sym e ∙ p) (λ e. was_mark (item_at xs k) l (sym e ∙ p)) (alike_at front rest k) in
    record {
      refers = λ k lt. (let old = s.refers k (omega (arith, lt, count)) in
          ⊎_elim (λ e. subst (Refers n) (sym e) old) (λ e. subst (Refers n) (sym e) (refers_nearer n (item_at xs k) old)) (alike_at front rest k));
      marked = λ l lt. (let m = s.marked l lt in (m.0, omega (arith, m.1, count), ⊎_elim (λ e. e ∙ m.2) (λ e. e ∙ ap nearer m.2) (alike_at front rest m.0)));
      once = λ j k l a b p q. s.once j k l (omega (arith, a, count)) (omega (arith, b, count)) (was j l p) (was k l q);
    }

pub shortened_sound : (near : Bool) (n : ℕ) (front rest : List Item) → IsSound n (front ++ rest) → IsSound n (front ++ shorten_calls near rest)
shortened_sound true n front rest s = sound_nearer n front rest s
shortened_sound false n front rest s = s

take_front : (front rest : List Item) → take (length front) (front ++ rest) ≡ front
take_front [] rest = refl
take_front (x ∷ front) rest = ap (λ xs. x ∷ xs) (take_front front rest)

drop_front : (front rest : List Item) → drop (length front) (front ++ rest) ≡ rest
drop_front [] rest = refl
drop_front (x ∷ front) rest = drop_front front rest

-- the list with near calls behind its first `from` items
pub made_near : (from : ℕ) (front rest list new : List Item) → list ≡ front ++ rest → from ≡ length front → new ≡ take from list ++ shorten_calls (are_near list) (drop from list)
    → new ≡ front ++ shorten_calls (are_near (front ++ rest)) rest
made_near from front rest list new e at is =
    let P : ℕ → List Item → Type 0 = λ n xs. new ≡ take n xs ++ shorten_calls (are_near xs) (drop n xs) in
    let there : P (length front) (front ++ rest) = subst (P (length front)) e (subst (λ n. P n list) at is) in
    there ∙ (ap (λ xs. xs ++ shorten_calls (are_near (front ++ rest)) (drop (length front) (front ++ rest))) (take_front front rest) ∙ ap (λ xs. front ++ shorten_calls (are_near (front ++ rest)) xs) (drop_front front rest))

pub shortened_longest : NearCallsAreShorter
shortened_longest true xs = longest_nearer xs
shortened_longest false xs = omega arith

nearer_append : (xs ys : List Item) → map nearer (xs ++ ys) ≡ map nearer xs ++ map nearer ys
nearer_append [] ys = refl
nearer_append (x ∷ xs) ys = ap (λ zs. nearer x ∷ zs) (nearer_append xs ys)

pub shortened_append : CallsShortenInParts
shortened_append true xs ys = nearer_append xs ys
shortened_append false xs ys = refl

-- ---- how calls are made near, one after the other

-- the first n of them are near
abbrev pub near_to : ℕ → List Item → List Item
near_to zero xs = xs
near_to (suc n) [] = []
near_to (suc n) (x ∷ xs) = nearer x ∷ near_to n xs

pub near_all : (n : ℕ) (xs : List Item) → length xs ≤ n → near_to n xs ≡ map nearer xs
near_all zero [] le = refl
near_all zero (x ∷ xs) le = absurd (omega (arith, le))
near_all (suc n) [] le = refl
near_all (suc n) (x ∷ xs) le = ap (λ ys. nearer x ∷ ys) (near_all n xs (omega (arith, le)))

pub near_length : (n : ℕ) (xs : List Item) → length (near_to n xs) ≡ length xs
near_length zero xs = refl
near_length (suc n) [] = refl
near_length (suc n) (x ∷ xs) = ap suc (near_length n xs)

-- item k is the list's own yet
pub next_own : (k : ℕ) (xs : List Item) (d : Item) → get_or (near_to k xs) k d ≡ get_or xs k d
next_own zero xs d = refl
next_own (suc k) [] d = refl
next_own (suc k) (x ∷ xs) d = next_own k xs d

pub near_next : (k : ℕ) (xs : List Item) (d : Item) → k < length xs → set (near_to k xs) k (nearer (get_or xs k d)) ≡ near_to (k + 1) xs
near_next k [] d lt = absurd (omega (arith, lt))
near_next zero (x ∷ xs) d lt = refl
near_next (suc k) (x ∷ xs) d lt =
    let sum : suc (k + 1) ≡ suc k + 1 = omega arith in
    ap (λ ys. nearer x ∷ ys) (near_next k xs d (omega (arith, lt))) ∙ ap (λ n. near_to n (x ∷ xs)) sum
