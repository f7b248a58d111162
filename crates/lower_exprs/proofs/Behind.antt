-- The last of some arguments that calls, and the last that may assign, as arguments in front are left out.
use Rattle.std.proofs.Common.{◌≡◌, ℕ, zero, suc, ◌-◌, List, [], ◌∷◌, ◌++◌, length, map, drop, take, Bool, true, false, ◌||◌, nat_lt, rules, refl, sym, ap, subst, ◌∙◌, length-append, append_assoc, arith}
use Rattle.typed_ast.specs.declared.expressions.Argument.{Argument}
use Rattle.typed_ast.specs.View.{Given, argument_of, arguments_of}
use Rattle.lower_correct.specs.Values.{arguments_call, arguments_write}
use Rattle.lower_exprs.specs.inside.Given.{given_calls, given_writes}
use Rattle.lower_exprs.specs.inside.Ends.{one_before, calling_in, write_nothing}
use Rattle.lower_exprs.proofs.Lists.{calls_step, writes_step}

-- ---- those that call

abbrev pub is_some : ℕ → Bool
is_some zero = false
is_some (suc n) = true

some_before : (b : Bool) (n : ℕ) (c : Bool) → c ≡ is_some n → b || c ≡ is_some (one_before n b)
some_before true zero c e = refl
some_before false zero c e = e
some_before true (suc n) c e = refl
some_before false (suc n) c e = e

pub some_call : (gs : List Given) → arguments_call (arguments_of gs) ≡ is_some (calling_in gs)
some_call [] = refl
some_call (g ∷ gs) = calls_step g (arguments_of gs) ∙ some_before (given_calls g) (calling_in gs) _ (some_call gs)

one_less : (n : ℕ) (b : Bool) (k : ℕ) → n - k ≡ one_before n b - suc k
one_less zero true k = omega arith
one_less zero false k = omega arith
one_less (suc n) b k = omega arith

pub calling_behind : (k : ℕ) (gs : List Given) → calling_in gs - k ≡ calling_in (drop k gs)
calling_behind zero gs = omega arith
calling_behind (suc k) [] = omega arith
calling_behind (suc k) (g ∷ gs) = sym (one_less (calling_in gs) (given_calls g) k) ∙ calling_behind k gs

last_calls : (gs : List Given) (g : Given) → given_calls g ≡ true → calling_in (gs ++ g ∷ []) ≡ suc (length gs)
last_calls [] g e = ap (one_before 0) e
last_calls (h ∷ gs) g e = ap (λ n. one_before n (given_calls h)) (last_calls gs g e)

last_is_quiet : (gs : List Given) (g : Given) → given_calls g ≡ false → calling_in (gs ++ g ∷ []) ≡ calling_in gs
last_is_quiet [] g e = ap (one_before 0) e
last_is_quiet (h ∷ gs) g e = ap (λ n. one_before n (given_calls h)) (last_is_quiet gs g e)

map_last : (xs : List Argument) (a : Argument) → map argument_of (xs ++ a ∷ []) ≡ map argument_of xs ++ argument_of a ∷ []
map_last [] a = refl
map_last (x ∷ xs) a = ap (λ l. argument_of x ∷ l) (map_last xs a)

map_length : (xs : List Argument) → length (map argument_of xs) ≡ length xs
map_length [] = refl
map_length (x ∷ xs) = ap suc (map_length xs)

pub calls_at_last : (left front : List Argument) (a : Argument) (n : ℕ) → left ≡ front ++ a ∷ [] → given_calls (argument_of a) ≡ true → n ≡ length left → n ≡ calling_in (map argument_of left)
calls_at_last left front a n e h l =
    let k : length left ≡ suc (length front) = (let p = ap length e in let q = length-append front (a ∷ []) in omega (arith, p, q)) in
    l ∙ k ∙ ap suc (sym (map_length front)) ∙ sym (last_calls (map argument_of front) (argument_of a) h) ∙ sym (ap calling_in (ap (map argument_of) e ∙ map_last front a))

pub calls_before_last : (left front : List Argument) (a : Argument) → left ≡ front ++ a ∷ [] → given_calls (argument_of a) ≡ false → calling_in (map argument_of left) ≡ calling_in (map argument_of front)
calls_before_last left front a e h = ap calling_in (ap (map argument_of) e ∙ map_last front a) ∙ last_is_quiet (map argument_of front) (argument_of a) h

-- ---- those that may assign

or_right : (a b : Bool) → a || b ≡ false → b ≡ false
or_right true b e = search rules
or_right false b e = e

or_none : (a b : Bool) → a ≡ false → b ≡ false → a || b ≡ false
or_none a b p q = ap (λ k. k || b) p ∙ q

pub nothing_behind : (k : ℕ) (xs : List Argument) → write_nothing xs → write_nothing (drop k xs)
nothing_behind zero xs h = h
nothing_behind (suc k) [] h = h
nothing_behind (suc k) (a ∷ xs) h = nothing_behind k xs (λ x. or_right (given_writes (argument_of a) x) _ (sym (writes_step (argument_of a) (arguments_of (map argument_of xs)) x) ∙ h x))

pub nothing_more : (a : Argument) (xs : List Argument) → ((x : ℕ) → given_writes (argument_of a) x ≡ false) → write_nothing xs → write_nothing (a ∷ xs)
nothing_more a xs p h x = writes_step (argument_of a) (arguments_of (map argument_of xs)) x ∙ or_none _ _ (p x) (h x)

nothing_in_none : (k : ℕ) → write_nothing (drop k [])
nothing_in_none zero x = refl
nothing_in_none (suc k) x = refl

pub writing_behind : (w k : ℕ) (xs : List Argument) → write_nothing (drop w xs) → write_nothing (drop (w - k) (drop k xs))
writing_behind w zero xs h = let e : w ≡ w - 0 = omega arith in subst (λ n. write_nothing (drop n xs)) e h
writing_behind w (suc k) [] h = nothing_in_none (w - suc k)
writing_behind zero (suc k) (a ∷ xs) h = nothing_behind (0 - suc k) (drop (suc k) (a ∷ xs)) (nothing_behind (suc k) (a ∷ xs) h)
writing_behind (suc w) (suc k) (a ∷ xs) h = let e : w - k ≡ suc w - suc k = omega arith in subst (λ n. write_nothing (drop n (drop k xs))) e (writing_behind w k xs h)

pub front_writes : (w : ℕ) (xs : List Argument) (x : ℕ) → write_nothing (drop w xs) → arguments_write (arguments_of (map argument_of (take w xs))) x ≡ arguments_write (arguments_of (map argument_of xs)) x
front_writes zero xs x h = sym (h x)
front_writes (suc w) [] x h = refl
front_writes (suc w) (a ∷ xs) x h =
    writes_step (argument_of a) (arguments_of (map argument_of (take w xs))) x ∙ ap (λ b. given_writes (argument_of a) x || b) (front_writes w xs x h) ∙ sym (writes_step (argument_of a) (arguments_of (map argument_of xs)) x)

dropped_front : (xs ys : List Argument) → drop (length xs) (xs ++ ys) ≡ ys
dropped_front [] ys = refl
dropped_front (x ∷ xs) ys = dropped_front xs ys

pub writes_at_last : (left behind arguments : List Argument) (n : ℕ) → n ≡ length left → left ++ behind ≡ arguments → write_nothing behind → write_nothing (drop n arguments)
writes_at_last left behind arguments n e w h =
    let same : behind ≡ drop n arguments = sym (dropped_front left behind) ∙ ap (λ k. drop k (left ++ behind)) (sym e) ∙ ap (drop n) w in subst write_nothing same h

pub writes_before_last : (left front behind arguments : List Argument) (a : Argument) → left ≡ front ++ a ∷ [] → left ++ behind ≡ arguments → front ++ (a ∷ behind) ≡ arguments
writes_before_last left front behind arguments a e w = sym (append_assoc front (a ∷ []) behind) ∙ ap (λ l. l ++ behind) (sym e) ∙ w

some_less : (n : ℕ) → nat_lt 0 n ≡ is_some n
some_less zero = refl
some_less (suc n) = search rules

pub calls_where : (n : ℕ) (xs : List Argument) → n ≡ calling_in (map argument_of xs) → nat_lt 0 n ≡ arguments_call (arguments_of (map argument_of xs))
calls_where n xs e = some_less n ∙ ap is_some e ∙ sym (some_call (map argument_of xs))
