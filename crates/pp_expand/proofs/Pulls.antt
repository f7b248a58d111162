-- The pulled token, with no bound on the recursion in sight, and the expansion of a list by pulling.
use Rattle.std.proofs.Common.{◌≡◌, ℕ, zero, suc, ◌+◌, ◌-◌, ◌<◌, ◌≤◌, List, [], ◌∷◌, false, None, Result, Ok, Err, refl, sym, ◌∙◌, subst, arith}
use Rattle.srcset.specs.declared.refusal.Pos.{Pos}
use Rattle.macros_substitution.specs.Substitution.{◌>>=◌, Hidden, strings_made, sides, substituted}
use Rattle.pp_expand.specs.Expansion.{Ending, Known, Answer, Next, Fault, Replacement, Turn, stands, refused, predefined, replaced, turn, arguments_expanded, at_place, replace, predefined_front, taken}
use Rattle.pp_expand.specs.Pulled.{expanding, made_by, Pull, one_less, pulled_at, pulled_first, pulled_by, pulled, then_expanded}
use Rattle.pp_expand.proofs.Law.{Within, agree_self, bind_same, bind_within, then_within, arguments_within, expanding_within, expanding_none, expanding_first}

pub bind_bind : {X Y Z E : Type 0} (r : Result X E) (f : X → Result Y E) (g : Y → Result Z E) → ((r >>= f) >>= g) ≡ (r >>= λ x. f x >>= g)
bind_bind (Ok x) f g = refl
bind_bind (Err e) f g = refl

bind_each : {X Y E : Type 0} (r : Result X E) (f g : X → Result Y E) → ((x : X) → f x ≡ g x) → (r >>= f) ≡ (r >>= g)
bind_each (Ok x) f g h = h x
bind_each (Err e) f g h = refl

-- a replacement is scanned again with the rest once it is made
pub made_then : (next : Next) (r : Replacement) (ending : Ending) (left : ℕ) → replace next r ending left ≡ (made_by next r left >>= λ a. next a.0 ending a.1)
unfolding replace made_by
made_then next r ending left =
    let strings = at_place r.call.at (strings_made r.call r.call.macro.body) in
    sym (bind_bind strings _ _ ∙ bind_each strings _ _ (λ made. bind_bind (arguments_expanded next (sides false made) 0 r.call.arguments left) _ _ ∙ bind_each (arguments_expanded next (sides false made) 0 r.call.arguments left) _ _ (λ full. bind_bind (at_place r.call.at (substituted r.call full.0 (sides false made))) _ _)))

made_within : (known : Known) (r : Replacement) (left : ℕ) → Within left (made_by (expanding known) r left)
unfolding made_by
made_within known r left =
    then_within left (at_place r.call.at (strings_made r.call r.call.macro.body)) _ (λ made. bind_within left left (arguments_expanded (expanding known) (sides false made) 0 r.call.arguments left) _ (arguments_within (suc left) (expanding known) (expanding known) (agree_self (suc left) (expanding known)) (λ l e m p. expanding_within known l e m) (sides false made) 0 r.call.arguments left (omega arith)) (λ full q. then_within left (at_place r.call.at (substituted r.call full.0 (sides false made))) _ (λ new. q)))

-- two continuations agree below n
abbrev Again : Type 0
Again = List Hidden → ℕ → Pull

abbrev Agrees : ℕ → Again → Again → Type 0
Agrees n f g = (xs : List Hidden) (m : ℕ) → m < n → f xs m ≡ g xs m

one_same : {A : Type 0} (at : Pos) (left : ℕ) (f g : ℕ → Result A Fault) → ((n : ℕ) → n < left → f n ≡ g n) → one_less at left f ≡ one_less at left g
one_same at zero f g h = refl
one_same at (suc left) f g h = h left (omega arith)

pulled_at_same : (known : Known) (n : ℕ) (f g : Again) → Agrees n f g → (t : Turn) (x : Hidden) (rest : List Hidden) (left : ℕ) → left ≤ n → pulled_at known f t x rest left ≡ pulled_at known g t x rest left
pulled_at_same known n f g ag stands x rest left h = refl
pulled_at_same known n f g ag (refused c) x rest left h = refl
pulled_at_same known n f g ag predefined x rest left h =
    one_same x.token.pos left _ _ (λ m p. ag (predefined_front known x ∷ rest) m (omega (arith, p, h)))
pulled_at_same known n f g ag (replaced r) x rest left h =
    one_same r.call.at left _ _ (λ m p. bind_same m (made_by (expanding known) r m) (λ a. f a.0 a.1) (λ a. g a.0 a.1) (made_within known r m) (λ a q. ag a.0 a.1 (omega (arith, p, q, h))))

pulled_first_same : (known : Known) (n : ℕ) (f g : Again) → Agrees n f g → (xs : List Hidden) (ending : Ending) (left : ℕ) → left ≤ n → pulled_first known f xs ending left ≡ pulled_first known g xs ending left
unfolding pulled_first
pulled_first_same known n f g ag [] ending left h = refl
pulled_first_same known n f g ag (x ∷ rest) ending left h = pulled_at_same known n f g ag (turn known x rest ending) x rest left h

-- one more level of the recursion changes nothing
by_more : (k : ℕ) (known : Known) (ending : Ending) (xs : List Hidden) (m : ℕ) → m ≤ k → pulled_by (suc k) known xs ending m ≡ pulled_by k known xs ending m
unfolding pulled_by
by_more zero known ending xs m h = pulled_first_same known 0 _ _ (λ l n p. absurd (omega (arith, p))) xs ending m h
by_more (suc k) known ending xs m h =
    pulled_first_same known (suc k) _ _ (λ l n p. by_more k known ending l n (omega (arith, p))) xs ending m h

by_any : (d m : ℕ) (known : Known) (ending : Ending) (xs : List Hidden) → pulled_by (d + m) known xs ending m ≡ pulled known xs ending m
by_any zero m known ending xs =
    subst (λ k. pulled_by k known xs ending m ≡ pulled known xs ending m) (sym (zero_plus m)) refl
  where
    zero_plus : (m : ℕ) → 0 + m ≡ m
    zero_plus m = omega arith
by_any (suc d) m known ending xs =
    subst (λ k. pulled_by k known xs ending m ≡ pulled known xs ending m) (plus m d) (by_more (d + m) known ending xs m (omega arith) ∙ by_any d m known ending xs)
  where
    plus : (m d : ℕ) → suc (d + m) ≡ suc d + m
    plus m d = omega arith

pub by_enough : (k m : ℕ) (known : Known) (ending : Ending) (xs : List Hidden) → m ≤ k → pulled_by k known xs ending m ≡ pulled known xs ending m
by_enough k m known ending xs h =
    let q : (k - m) + m ≡ k = omega (arith, h) in
    subst (λ n. pulled_by n known xs ending m ≡ pulled known xs ending m) q (by_any (k - m) m known ending xs)

pulled_walk : (known : Known) (xs : List Hidden) (ending : Ending) (left : ℕ) → pulled known xs ending left ≡ pulled_first known (λ ys m. pulled known ys ending m) xs ending left
unfolding pulled_by
pulled_walk known xs ending zero = pulled_first_same known 0 _ _ (λ l n p. absurd (omega (arith, p))) xs ending 0 (omega arith)
pulled_walk known xs ending (suc k) =
    pulled_first_same known (suc k) _ _ (λ l n p. by_enough k n known ending l (omega (arith, p))) xs ending (suc k) (omega arith)

-- no token, and a first one
pub pulled_none : (known : Known) (ending : Ending) (left : ℕ) → pulled known [] ending left ≡ Ok (None, [], left)
unfolding pulled_first
pulled_none known ending left = pulled_walk known [] ending left

pub pulled_turn : (known : Known) (x : Hidden) (rest : List Hidden) (ending : Ending) (left : ℕ) → pulled known (x ∷ rest) ending left ≡ pulled_at known (λ ys m. pulled known ys ending m) (turn known x rest ending) x rest left
unfolding pulled_first
pulled_turn known x rest ending left = pulled_walk known (x ∷ rest) ending left

-- ---- the expansion of a list: the pulled token precedes the expansion of the list left

abbrev Follows : Known → Ending → Again → ℕ → Type 0
Follows known ending f n = (xs : List Hidden) (m : ℕ) → m < n → expanding known xs ending m ≡ (f xs m >>= λ a. then_expanded known ending a.0 a.1 a.2)

turn_pulled : (known : Known) (ending : Ending) (f : Again) (n : ℕ) → Follows known ending f n → (t : Turn) (x : Hidden) (rest : List Hidden) (left : ℕ) → left ≤ n → taken known (expanding known) t x rest ending left (λ _. expanding known rest ending left) ≡ (pulled_at known f t x rest left >>= λ a. then_expanded known ending a.0 a.1 a.2)
turn_pulled known ending f n fo stands x rest left h = refl
turn_pulled known ending f n fo (refused c) x rest left h = refl
turn_pulled known ending f n fo predefined x rest zero h = refl
turn_pulled known ending f n fo predefined x rest (suc left) h = fo (predefined_front known x ∷ rest) left (omega (arith, h))
turn_pulled known ending f n fo (replaced r) x rest zero h = refl
turn_pulled known ending f n fo (replaced r) x rest (suc left) h =
    made_then (expanding known) r ending left ∙ bind_same left (made_by (expanding known) r left) _ _ (made_within known r left) (λ a q. fo a.0 a.1 (omega (arith, q, h))) ∙ sym (bind_bind (made_by (expanding known) r left) (λ a. f a.0 a.1) (λ a. then_expanded known ending a.0 a.1 a.2))

first_pulled : (known : Known) (ending : Ending) (f : Again) (n : ℕ) → Follows known ending f n → (xs : List Hidden) (left : ℕ) → left ≤ n → expanding known xs ending left ≡ (pulled_first known f xs ending left >>= λ a. then_expanded known ending a.0 a.1 a.2)
unfolding pulled_first
first_pulled known ending f n fo [] left h = expanding_none known ending left
first_pulled known ending f n fo (x ∷ rest) left h =
    expanding_first known x rest ending left ∙ turn_pulled known ending f n fo (turn known x rest ending) x rest left h

by_follows : (k : ℕ) (known : Known) (ending : Ending) (xs : List Hidden) (left : ℕ) → left ≤ k → expanding known xs ending left ≡ (pulled_by k known xs ending left >>= λ a. then_expanded known ending a.0 a.1 a.2)
unfolding pulled_by
by_follows zero known ending xs left h =
    first_pulled known ending (λ _ _. Ok (None, [], 0)) 0 (λ l m p. absurd (omega (arith, p))) xs left h
by_follows (suc k) known ending xs left h =
    first_pulled known ending (λ ys m. pulled_by k known ys ending m) (suc k) (λ l m p. by_follows k known ending l m (omega (arith, p))) xs left h

pub expanding_pulled : (known : Known) (xs : List Hidden) (ending : Ending) (left : ℕ) → expanding known xs ending left ≡ (pulled known xs ending left >>= λ a. then_expanded known ending a.0 a.1 a.2)
expanding_pulled known xs ending left = by_follows left known ending xs left (omega arith)

-- ---- no more replacements are left than there were

abbrev pub PullWithin : ℕ → Pull → Type 0
PullWithin m (Ok a) = a.2 ≤ m
PullWithin m (Err f) = Unit {0}

pull_more : (m n : ℕ) → m ≤ n → (p : Pull) → PullWithin m p → PullWithin n p
pull_more m n h (Ok a) w = omega (arith, h, w)
pull_more m n h (Err f) w = tt

then_pulled : (m : ℕ) (r : Answer) (f : Again) → Within m r → ((a : List Hidden × ℕ) → a.1 ≤ m → PullWithin m (f a.0 a.1)) → PullWithin m (r >>= λ a. f a.0 a.1)
then_pulled m (Ok a) f w h = h a w
then_pulled m (Err e) f w h = tt

pulled_at_within : (known : Known) (n : ℕ) (f : Again) → ((xs : List Hidden) (m : ℕ) → m < n → PullWithin m (f xs m)) → (t : Turn) (x : Hidden) (rest : List Hidden) (left : ℕ) → left ≤ n → PullWithin left (pulled_at known f t x rest left)
pulled_at_within known n f h stands x rest left le = omega arith
pulled_at_within known n f h (refused c) x rest left le = tt
pulled_at_within known n f h predefined x rest zero le = tt
pulled_at_within known n f h predefined x rest (suc left) le =
    pull_more left (suc left) (omega arith) (f (predefined_front known x ∷ rest) left) (h (predefined_front known x ∷ rest) left (omega (arith, le)))
pulled_at_within known n f h (replaced r) x rest zero le = tt
pulled_at_within known n f h (replaced r) x rest (suc left) le =
    pull_more left (suc left) (omega arith) (made_by (expanding known) r left >>= λ a. f a.0 a.1) (then_pulled left (made_by (expanding known) r left) f (made_within known r left) (λ a q. pull_more a.1 left q (f a.0 a.1) (h a.0 a.1 (omega (arith, q, le)))))

pulled_first_within : (known : Known) (n : ℕ) (f : Again) → ((xs : List Hidden) (m : ℕ) → m < n → PullWithin m (f xs m)) → (xs : List Hidden) (ending : Ending) (left : ℕ) → left ≤ n → PullWithin left (pulled_first known f xs ending left)
unfolding pulled_first
pulled_first_within known n f h [] ending left le = omega arith
pulled_first_within known n f h (x ∷ rest) ending left le = pulled_at_within known n f h (turn known x rest ending) x rest left le

by_within : (k : ℕ) (known : Known) (ending : Ending) (xs : List Hidden) (left : ℕ) → left ≤ k → PullWithin left (pulled_by k known xs ending left)
unfolding pulled_by
by_within zero known ending xs left le =
    pulled_first_within known 0 (λ _ _. Ok (None, [], 0)) (λ l m p. absurd (omega (arith, p))) xs ending left le
by_within (suc k) known ending xs left le =
    pulled_first_within known (suc k) (λ ys m. pulled_by k known ys ending m) (λ l m p. by_within k known ending l m (omega (arith, p))) xs ending left le

pub pulled_within : (known : Known) (xs : List Hidden) (ending : Ending) (left : ℕ) → PullWithin left (pulled known xs ending left)
pulled_within known xs ending left = by_within left known ending xs left (omega arith)
