-- Bytes that are filled up with zeros.
use Rattle.std.proofs.Common.{◌≡◌, ℕ, zero, suc, ◌+◌, ◌-◌, ◌≤◌, List, [], ◌∷◌, ◌++◌, length, take, drop, get_or, replicate, ◌/◌, ◌%◌, ◌^◌, ◌<◌, ℤ, Result, Ok, Err, true, refl, sym, ap, subst, ◌∙◌, append_assoc, length-append, arith}
use Rattle.std.specs.Prelude.{is_ok, OnOk, if◌then◌else◌}
use Rattle.std.proofs.Math.Seq.{take-append-add, drop-cons}
use Rattle.std.proofs.lemmas.List.{take-replicate}
use Rattle.ctypes.specs.declared.types.IntType.{IntType}
use Rattle.ctypes.specs.Types.{bytes_of, modulo}
use Rattle.frames.specs.Data.{zeros, filled_up, low_bytes, if_defined, bytes_of_values, bytes_of_static}
use Rattle.typing_spec.specs.Types.{size_of_object}
use Rattle.typing_spec.specs.Program.{Static}
use Rattle.typing_spec.specs.Units.{in_words}
use Rattle.tac_code.specs.Sound.{static_bytes}

zeros_are : (n : ℕ) → zeros n ≡ replicate n 0
zeros_are zero = refl
zeros_are (suc n) = ap (λ xs. 0 ∷ xs) (zeros_are n)

take_none : (n : ℕ) → take {A = ℕ} n [] ≡ []
take_none zero = refl
take_none (suc n) = refl

filled : (n m : ℕ) (ys : List ℕ) → n ≤ length ys + m → take n (ys ++ zeros m) ≡ take n ys ++ replicate (n - length ys) 0
filled n m [] h =
    let all : n ≤ m = omega (arith, h) in
    let whole : n ≡ n - 0 = omega arith in
    ap (take n) (zeros_are m) ∙ take-replicate n m 0 all ∙ ap (λ k. replicate k 0) whole ∙ sym (ap (λ xs. xs ++ replicate (n - 0) 0) (take_none n))
filled zero m (y ∷ ys) h = let none : 0 ≡ 0 - length (y ∷ ys) = omega arith in ap (λ k. replicate k 0) none
filled (suc n) m (y ∷ ys) h =
    let same : n - length ys ≡ suc n - length (y ∷ ys) = omega arith in
    ap (λ xs. y ∷ xs) (filled n m ys (omega (arith, h)) ∙ ap (λ k. take n ys ++ replicate k 0) same)

-- the part after the first k is cut to n or filled up
pub cut_or_filled : (xs ys : List ℕ) (k n : ℕ) → k ≡ length xs → take (k + n) (xs ++ ys) ++ replicate (k + n - length (xs ++ ys)) 0 ≡ xs ++ filled_up n ys
cut_or_filled xs ys k n e =
    let cut : take (k + n) (xs ++ ys) ≡ xs ++ take n ys = ap (λ j. take (j + n) (xs ++ ys)) e ∙ take-append-add xs ys n in
    let more : k + n - length (xs ++ ys) ≡ n - length ys = omega (arith, length-append xs ys) in
    let whole : take n (ys ++ zeros n) ≡ take n ys ++ replicate (n - length ys) 0 = filled n n ys (omega arith) in
    ap (λ zs. zs ++ replicate (k + n - length (xs ++ ys)) 0) cut ∙ ap (λ j. (xs ++ take n ys) ++ replicate j 0) more
    ∙ append_assoc xs (take n ys) (replicate (n - length ys) 0) ∙ ap (λ zs. xs ++ zs) (sym whole)

-- a call that fills up the bytes that were put, or fails
pub put_filled : {E : Type 0} (r : Result (Unit {0}) E) (old text mid new : List ℕ) (k n m : ℕ) → mid ≡ old ++ text → k ≡ length old → m ≡ length mid → new ≡ (if is_ok r then take (k + n) mid ++ replicate (k + n - m) 0 else mid) → OnOk r (new ≡ old ++ filled_up n text)
put_filled (Err x) old text mid new k n m a b d e = tt
put_filled (Ok u) old text mid new k n m a b d e =
    e ∙ ap (λ j. take (k + n) mid ++ replicate (k + n - j) 0) d ∙ ap (λ xs. take (k + n) xs ++ replicate (k + n - length xs) 0) a ∙ cut_or_filled old text k n b

-- ---- steps of loops

pub one_low_byte : (bytes more start : List ℕ) (c i w : ℕ) → i < c → more ≡ bytes ++ w % 2 ^ 8 ∷ [] → bytes ++ low_bytes (c - i) w ≡ start → more ++ low_bytes (c - (i + 1)) (w / 2 ^ 8) ≡ start
one_low_byte bytes more start c i w lt e done =
    let step : c - i ≡ suc (c - (i + 1)) = omega (arith, lt) in
    ap (λ xs. xs ++ low_bytes (c - (i + 1)) (w / 2 ^ 8)) e ∙ append_assoc bytes (w % 2 ^ 8 ∷ []) (low_bytes (c - (i + 1)) (w / 2 ^ 8))
    ∙ sym (ap (λ k. bytes ++ low_bytes k w) step) ∙ done

suc_more : (k : ℕ) → suc k ≡ k + 1
suc_more k = omega arith

-- the list of an item and of those after it
pub one_more_item : {A : Type 0} (made : A → List ℕ) (all : List A → List ℕ) → ((x : A) (xs : List A) → all (x ∷ xs) ≡ made x ++ all xs) → (xs : List A) (i : ℕ) (x : A) (bytes more start : List ℕ) → i < length xs → x ≡ get_or xs i x → more ≡ bytes ++ made x → bytes ++ all (drop i xs) ≡ start → more ++ all (drop (i + 1) xs) ≡ start
one_more_item made all cons xs i x bytes more start lt e f done =
    let split : drop i xs ≡ x ∷ drop (i + 1) xs = drop-cons xs i x lt ∙ ap (λ y. y ∷ drop (suc i) xs) (sym e) ∙ ap (λ k. x ∷ drop k xs) (suc_more i) in
    ap (λ ys. ys ++ all (drop (i + 1) xs)) f ∙ append_assoc bytes (made x) (all (drop (i + 1) xs))
    ∙ sym (ap (λ ys. bytes ++ ys) (ap all split ∙ cons x (drop (i + 1) xs))) ∙ done

-- the same of numbers
pub one_more_number : (t : IntType) (xs : List ℤ) (i : ℕ) (d : ℤ) (bytes more start : List ℕ) → i < length xs → more ≡ bytes ++ low_bytes (bytes_of t) (modulo 32 (get_or xs i d)) → bytes ++ bytes_of_values t (drop i xs) ≡ start → more ++ bytes_of_values t (drop (i + 1) xs) ≡ start
one_more_number t xs i d bytes more start lt f done =
    let split : drop i xs ≡ get_or xs i d ∷ drop (i + 1) xs = drop-cons xs i d lt ∙ ap (λ k. get_or xs i d ∷ drop k xs) (suc_more i) in
    ap (λ ys. ys ++ bytes_of_values t (drop (i + 1) xs)) f ∙ append_assoc bytes (low_bytes (bytes_of t) (modulo 32 (get_or xs i d))) (bytes_of_values t (drop (i + 1) xs))
    ∙ sym (ap (λ ys. bytes ++ bytes_of_values t ys) split) ∙ done

pub put_object : {E : Type 0} (r : Result (Unit {0}) E) (o : Static) (old mid new : List ℕ) (k n m : ℕ) → o.defined ≡ true → mid ≡ old ++ bytes_of_values o.type.element o.values → k ≡ length old → n ≡ static_bytes o.defined (size_of_object o.type) → m ≡ length mid → new ≡ (if is_ok r then take (k + n) mid ++ replicate (k + n - m) 0 else mid) → OnOk r (new ≡ old ++ bytes_of_static o)
put_object r o old mid new k n m t a b c d e =
    let values = bytes_of_values o.type.element o.values in
    let size : n ≡ in_words (size_of_object o.type) = c ∙ ap (λ x. static_bytes x (size_of_object o.type)) t in
    let whole : filled_up n values ≡ bytes_of_static o =
    ap (λ x. filled_up x values) size ∙ sym (ap (λ x. if_defined x (filled_up (in_words (size_of_object o.type)) values)) t) in
    subst (λ x. OnOk r (new ≡ old ++ x)) whole (put_filled r old values mid new k n m a b d e)

-- a count of an item and of those after it
pub one_counted : {A : Type 0} (size : A → ℕ) (all : List A → ℕ) → ((x : A) (xs : List A) → all (x ∷ xs) ≡ size x + all xs) → (xs : List A) (i : ℕ) (x : A) (n more start : ℕ) → i < length xs → x ≡ get_or xs i x → more ≡ n + size x → n + all (drop i xs) ≡ start → more + all (drop (i + 1) xs) ≡ start
one_counted size all cons xs i x n more start lt e f done =
    let split : drop i xs ≡ x ∷ drop (i + 1) xs = drop-cons xs i x lt ∙ ap (λ y. y ∷ drop (suc i) xs) (sym e) ∙ ap (λ k. x ∷ drop k xs) (suc_more i) in
    let here : all (drop i xs) ≡ size x + all (drop (i + 1) xs) = ap all split ∙ cons x (drop (i + 1) xs) in
    omega (arith, f, here, done)

-- the bytes that were put are as many as their size
pub longer : (old more new : List ℕ) (n : ℕ) → new ≡ old ++ more → length more ≡ n → length new ≡ length old + n
longer old more new n e f = ap length e ∙ length-append old more ∙ ap (λ k. length old + k) f
