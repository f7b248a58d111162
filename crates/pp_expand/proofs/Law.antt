-- The expansion of a list is a fixed point: one token at a time, with no bound on the recursion in sight.
use Rattle.std.proofs.Common.{◌≡◌, ℕ, zero, suc, ◌+◌, ◌-◌, ◌<◌, ◌≤◌, List, [], ◌∷◌, Bool, true, false, Result, Ok, Err, refl, sym, ap, ◌∙◌, subst, arith}
use Rattle.macros_substitution.specs.Substitution.{◌>>=◌, Hidden, Piece, is_expanded, strings_made, sides, substituted}
use Rattle.pp_expand.specs.Expansion.{Ending, of_argument, Known, Answer, Next, Fault, Replacement, Turn, stands, refused, predefined, replaced, turn, argument_by, arguments_expanded, at_place, front_of, replace, predefined_front, behind, taken, walk, expanded_by}
use Rattle.pp_expand.specs.Pulled.{expanding}

-- no more replacements are left than there were
abbrev pub Within : {X : Type 0} → ℕ → Result (X × ℕ) Fault → Type 0
Within m (Ok a) = a.1 ≤ m
Within m (Err e) = Unit {0}

-- two continuations agree below n
abbrev pub Agree : ℕ → Next → Next → Type 0
Agree n f g = (xs : List Hidden) (e : Ending) (m : ℕ) → m < n → f xs e m ≡ g xs e m

abbrev pub Falls : ℕ → Next → Type 0
Falls n f = (xs : List Hidden) (e : Ending) (m : ℕ) → m < n → Within m (f xs e m)

pub bind_same : {X Y : Type 0} (m : ℕ) (r : Result (X × ℕ) Fault) (f g : X × ℕ → Result Y Fault) → Within m r → ((a : X × ℕ) → a.1 ≤ m → f a ≡ g a) → (r >>= f) ≡ (r >>= g)
bind_same m (Ok a) f g w h = h a w
bind_same m (Err e) f g w h = refl

pub bind_within : {X Y : Type 0} (m n : ℕ) (r : Result (X × ℕ) Fault) (f : X × ℕ → Result (Y × ℕ) Fault) → Within m r → ((a : X × ℕ) → a.1 ≤ m → Within n (f a)) → Within n (r >>= f)
bind_within m n (Ok a) f w h = h a w
bind_within m n (Err e) f w h = tt

then_same : {X Y : Type 0} (r : Result X Fault) (f g : X → Result Y Fault) → ((a : X) → f a ≡ g a) → (r >>= f) ≡ (r >>= g)
then_same (Ok a) f g h = h a
then_same (Err e) f g h = refl

pub then_within : {X Y : Type 0} (n : ℕ) (r : Result X Fault) (f : X → Result (Y × ℕ) Fault) → ((a : X) → Within n (f a)) → Within n (r >>= f)
then_within n (Ok a) f h = h a
then_within n (Err e) f h = tt

within_more : {X : Type 0} (m n : ℕ) (r : Result (X × ℕ) Fault) → m ≤ n → Within m r → Within n r
within_more m n (Ok a) h w = omega (arith, w)
within_more m n (Err e) h w = tt

module _ (n : ℕ) (f g : Next) (ag : Agree n f g) (fall : Falls n f) where
  argument_same : (b : Bool) (a : List Hidden) (left : ℕ) → left < n → argument_by f b a left ≡ argument_by g b a left
  argument_same true a left h = ag a of_argument left h
  argument_same false a left h = refl

  argument_within : (b : Bool) (a : List Hidden) (left : ℕ) → left < n → Within left (argument_by f b a left)
  argument_within true a left h = fall a of_argument left h
  argument_within false a left h = omega arith

  arguments_same : (ps : List Piece) (i : ℕ) (args : List (List Hidden)) (left : ℕ) → left < n → arguments_expanded f ps i args left ≡ arguments_expanded g ps i args left
  unfolding arguments_expanded
  arguments_same ps i [] left h = refl
  arguments_same ps i (a ∷ args) left h =
      let w = is_expanded i ps in
      let cont : Next → List Hidden × ℕ → Result (List (List Hidden) × ℕ) Fault = λ k r. arguments_expanded k ps (suc i) args r.1 >>= λ s. Ok (r.0 ∷ s.0, s.1) in
      bind_same left (argument_by f w a left) (cont f) (cont g) (argument_within w a left h) (λ r q. ap (λ z. z >>= λ s. Ok (r.0 ∷ s.0, s.1)) (arguments_same ps (suc i) args r.1 (omega (arith, q, h)))) ∙ ap (λ z. z >>= cont g) (argument_same w a left h)

  pub arguments_within : (ps : List Piece) (i : ℕ) (args : List (List Hidden)) (left : ℕ) → left < n → Within left (arguments_expanded f ps i args left)
  unfolding arguments_expanded
  arguments_within ps i [] left h = omega arith
  arguments_within ps i (a ∷ args) left h =
      let w = is_expanded i ps in
      bind_within left left (argument_by f w a left) _ (argument_within w a left h) (λ r q. bind_within r.1 left (arguments_expanded f ps (suc i) args r.1) _ (arguments_within ps (suc i) args r.1 (omega (arith, q, h))) (λ s p. omega (arith, p, q)))

  replace_same : (r : Replacement) (end : Ending) (left : ℕ) → left < n → replace f r end left ≡ replace g r end left
  unfolding replace
  replace_same r end left h =
      then_same (at_place r.call.at (strings_made r.call r.call.macro.body)) _ _ (λ made. bind_same left (arguments_expanded f (sides false made) 0 r.call.arguments left) _ _ (arguments_within (sides false made) 0 r.call.arguments left h) (λ full q. then_same (at_place r.call.at (substituted r.call full.0 (sides false made))) _ _ (λ new. ag (front_of r new) end full.1 (omega (arith, q, h)))) ∙ ap (λ z. z >>= λ full. at_place r.call.at (substituted r.call full.0 (sides false made)) >>= λ new. g (front_of r new) end full.1) (arguments_same (sides false made) 0 r.call.arguments left h))

  replace_within : (r : Replacement) (end : Ending) (left : ℕ) → left < n → Within left (replace f r end left)
  unfolding replace
  replace_within r end left h =
      then_within left (at_place r.call.at (strings_made r.call r.call.macro.body)) _ (λ made. bind_within left left (arguments_expanded f (sides false made) 0 r.call.arguments left) _ (arguments_within (sides false made) 0 r.call.arguments left h) (λ full q. then_within left (at_place r.call.at (substituted r.call full.0 (sides false made))) _ (λ new. within_more full.1 left (f (front_of r new) end full.1) q (fall (front_of r new) end full.1 (omega (arith, q, h))))))

  module _ (known : Known) where
    taken_same : (t : Turn) (x : Hidden) (rest : List Hidden) (end : Ending) (left : ℕ) (k l : Unit {0} → Answer) → left ≤ n → k tt ≡ l tt → taken known f t x rest end left k ≡ taken known g t x rest end left l
    taken_same stands x rest end left k l h e = ap (behind x) e
    taken_same (refused c) x rest end left k l h e = refl
    taken_same predefined x rest end zero k l h e = refl
    taken_same predefined x rest end (suc left) k l h e = ag (predefined_front known x ∷ rest) end left (omega (arith, h))
    taken_same (replaced r) x rest end zero k l h e = refl
    taken_same (replaced r) x rest end (suc left) k l h e = replace_same r end left (omega (arith, h))

    taken_within : (t : Turn) (x : Hidden) (rest : List Hidden) (end : Ending) (left : ℕ) (k : Unit {0} → Answer) → left ≤ n → Within left (k tt) → Within left (taken known f t x rest end left k)
    taken_within stands x rest end left k h w = bind_within left left (k tt) _ w (λ a q. q)
    taken_within (refused c) x rest end left k h w = tt
    taken_within predefined x rest end zero k h w = tt
    taken_within predefined x rest end (suc left) k h w =
        within_more left (suc left) (f (predefined_front known x ∷ rest) end left) (omega arith) (fall (predefined_front known x ∷ rest) end left (omega (arith, h)))
    taken_within (replaced r) x rest end zero k h w = tt
    taken_within (replaced r) x rest end (suc left) k h w =
        within_more left (suc left) (replace f r end left) (omega arith) (replace_within r end left (omega (arith, h)))

    walk_same : (xs : List Hidden) (end : Ending) (left : ℕ) → left ≤ n → walk known f xs end left ≡ walk known g xs end left
    unfolding walk
    walk_same [] end left h = refl
    walk_same (x ∷ rest) end left h =
        taken_same (turn known x rest end) x rest end left (λ _. walk known f rest end left) (λ _. walk known g rest end left) h (walk_same rest end left h)

    walk_within : (xs : List Hidden) (end : Ending) (left : ℕ) → left ≤ n → Within left (walk known f xs end left)
    unfolding walk
    walk_within [] end left h = omega arith
    walk_within (x ∷ rest) end left h =
        taken_within (turn known x rest end) x rest end left (λ _. walk known f rest end left) h (walk_within rest end left h)

pub agree_self : (n : ℕ) (f : Next) → Agree n f f
agree_self n f l e m h = refl

by_falls : (k : ℕ) (known : Known) → Falls (suc k) (expanded_by k known)
unfolding expanded_by
by_falls zero known l e m h = walk_within m _ _ (agree_self m (λ _ _ _. Ok ([], 0))) (λ l e n p. omega arith) known l e m (omega arith)
by_falls (suc k) known l e m h =
    walk_within (suc k) _ _ (agree_self (suc k) (expanded_by k known)) (by_falls k known) known l e m (omega (arith, h))

-- one more level of the recursion changes nothing
by_more : (k : ℕ) (known : Known) → Agree (suc k) (expanded_by (suc k) known) (expanded_by k known)
unfolding expanded_by
by_more zero known l e m h =
    walk_same 0 _ _ (λ l e n p. absurd (omega (arith, p))) (λ l e n p. absurd (omega (arith, p))) known l e m (omega (arith, h))
by_more (suc k) known l e m h =
    walk_same (suc k) _ _ (by_more k known) (λ l e n p. by_falls (suc k) known l e n (omega (arith, p))) known l e m (omega (arith, h))

-- any number of levels that is enough
by_any : (d m : ℕ) (known : Known) (l : List Hidden) (e : Ending) → expanded_by (d + m) known l e m ≡ expanding known l e m
by_any zero m known l e = subst (λ k. expanded_by k known l e m ≡ expanded_by m known l e m) (sym (zero_plus m)) refl
  where
    zero_plus : (m : ℕ) → 0 + m ≡ m
    zero_plus m = omega arith
by_any (suc d) m known l e =
    subst (λ k. expanded_by k known l e m ≡ expanded_by m known l e m) (plus m d) (by_more (d + m) known l e m (omega arith) ∙ by_any d m known l e)
  where
    plus : (m d : ℕ) → suc (d + m) ≡ suc d + m
    plus m d = omega arith

pub by_enough : (k m : ℕ) (known : Known) (l : List Hidden) (e : Ending) → m ≤ k → expanded_by k known l e m ≡ expanding known l e m
by_enough k m known l e h =
    let q : (k - m) + m ≡ k = omega (arith, h) in subst (λ n. expanded_by n known l e m ≡ expanding known l e m) q (by_any (k - m) m known l e)

pub expanding_walk : (known : Known) (xs : List Hidden) (end : Ending) (left : ℕ) → expanding known xs end left ≡ walk known (expanding known) xs end left
unfolding expanded_by
expanding_walk known xs end zero =
    walk_same 0 _ _ (λ l e n p. absurd (omega (arith, p))) (λ l e n p. absurd (omega (arith, p))) known xs end 0 (omega arith)
expanding_walk known xs end (suc k) =
    walk_same (suc k) _ _ (λ l e n p. by_enough k n known l e (omega (arith, p))) (by_falls k known) known xs end (suc k) (omega arith)

pub expanding_within : (known : Known) (xs : List Hidden) (end : Ending) (left : ℕ) → Within left (expanding known xs end left)
expanding_within known xs end left = by_falls left known xs end left (omega arith)

-- the law at no token, and at a first one
pub expanding_none : (known : Known) (end : Ending) (left : ℕ) → expanding known [] end left ≡ Ok ([], left)
unfolding walk
expanding_none known end left = expanding_walk known [] end left

pub expanding_first : (known : Known) (x : Hidden) (rest : List Hidden) (end : Ending) (left : ℕ) → expanding known (x ∷ rest) end left ≡ taken known (expanding known) (turn known x rest end) x rest end left (λ _. expanding known rest end left)
unfolding walk
expanding_first known x rest end left =
    expanding_walk known (x ∷ rest) end left ∙ taken_same left (expanding known) (expanding known) (agree_self left (expanding known)) (λ l e m p. expanding_within known l e m) known (turn known x rest end) x rest end left (λ _. walk known (expanding known) rest end left) (λ _. expanding known rest end left) (omega arith) (sym (expanding_walk known rest end left))

-- ---- a larger budget

-- where the first goes well, the second does the same, with k replacements more left
abbrev More : {X : Type 0} → ℕ → Result (X × ℕ) Fault → Result (X × ℕ) Fault → Type 0
More k (Ok a) s = s ≡ Ok (a.0, k + a.1)
More k (Err e) s = Unit {0}

bind_more : {X Y : Type 0} (k m : ℕ) (r s : Result (X × ℕ) Fault) (f g : X × ℕ → Result (Y × ℕ) Fault) → Within m r → More k r s → ((a : X × ℕ) → a.1 ≤ m → More k (f a) (g (a.0, k + a.1))) → More k (r >>= f) (s >>= g)
bind_more k m (Ok a) s f g w e h = subst (λ s. More k (f a) (s >>= g)) (sym e) (h a w)
bind_more k m (Err e) s f g w t h = tt

then_more : {X Y : Type 0} (k : ℕ) (r : Result X Fault) (f g : X → Result (Y × ℕ) Fault) → ((a : X) → More k (f a) (g a)) → More k (r >>= f) (r >>= g)
then_more k (Ok a) f g h = h a
then_more k (Err e) f g h = tt

module _ (k n : ℕ) (f : Next) (more : (xs : List Hidden) (e : Ending) (m : ℕ) → m < n → More k (f xs e m) (f xs e (k + m))) (fall : Falls n f) where
  argument_more : (b : Bool) (a : List Hidden) (left : ℕ) → left < n → More k (argument_by f b a left) (argument_by f b a (k + left))
  argument_more true a left h = more a of_argument left h
  argument_more false a left h = refl

  arguments_more : (ps : List Piece) (i : ℕ) (args : List (List Hidden)) (left : ℕ) → left < n → More k (arguments_expanded f ps i args left) (arguments_expanded f ps i args (k + left))
  unfolding arguments_expanded
  arguments_more ps i [] left h = refl
  arguments_more ps i (a ∷ args) left h =
      let w = is_expanded i ps in
      bind_more k left (argument_by f w a left) (argument_by f w a (k + left)) _ _ (argument_within n f f (agree_self n f) fall w a left h) (argument_more w a left h) (λ r q.
      bind_more k r.1 (arguments_expanded f ps (suc i) args r.1) (arguments_expanded f ps (suc i) args (k + r.1)) _ _
      (arguments_within n f f (agree_self n f) fall ps (suc i) args r.1 (omega (arith, q, h))) (arguments_more ps (suc i) args r.1 (omega (arith, q, h))) (λ s p. refl))

  replace_more : (r : Replacement) (end : Ending) (left : ℕ) → left < n → More k (replace f r end left) (replace f r end (k + left))
  unfolding replace
  replace_more r end left h =
      then_more k (at_place r.call.at (strings_made r.call r.call.macro.body)) _ _ (λ made.
      bind_more k left (arguments_expanded f (sides false made) 0 r.call.arguments left) (arguments_expanded f (sides false made) 0 r.call.arguments (k + left)) _ _
      (arguments_within n f f (agree_self n f) fall (sides false made) 0 r.call.arguments left h) (arguments_more (sides false made) 0 r.call.arguments left h) (λ full q.
      then_more k (at_place r.call.at (substituted r.call full.0 (sides false made))) _ _ (λ new. more (front_of r new) end full.1 (omega (arith, q, h)))))

  module _ (known : Known) where
    taken_more : (t : Turn) (x : Hidden) (rest : List Hidden) (end : Ending) (left : ℕ) (a b : Unit {0} → Answer) → left ≤ n → Within left (a tt) → More k (a tt) (b tt) →
        More k (taken known f t x rest end left a) (taken known f t x rest end (k + left) b)
    taken_more stands x rest end left a b h w e = bind_more k left (a tt) (b tt) _ _ w e (λ r q. refl)
    taken_more (refused c) x rest end left a b h w e = tt
    taken_more predefined x rest end zero a b h w e = tt
    taken_more predefined x rest end (suc left) a b h w e =
        let one : suc (k + left) ≡ k + suc left = omega arith in
        subst (λ m. More k (f (predefined_front known x ∷ rest) end left) (taken known f predefined x rest end m b)) one (more (predefined_front known x ∷ rest) end left (omega (arith, h)))
    taken_more (replaced r) x rest end zero a b h w e = tt
    taken_more (replaced r) x rest end (suc left) a b h w e =
        let one : suc (k + left) ≡ k + suc left = omega arith in
        subst (λ m. More k (replace f r end left) (taken known f (replaced r) x rest end m b)) one (replace_more r end left (omega (arith, h)))

    walk_more : (xs : List Hidden) (end : Ending) (left : ℕ) → left ≤ n → More k (walk known f xs end left) (walk known f xs end (k + left))
    unfolding walk
    walk_more [] end left h = refl
    walk_more (x ∷ rest) end left h =
        taken_more (turn known x rest end) x rest end left (λ _. walk known f rest end left) (λ _. walk known f rest end (k + left)) h (walk_within n f f (agree_self n f) fall known rest end left h) (walk_more rest end left h)

by_left : (k n : ℕ) (known : Known) (xs : List Hidden) (end : Ending) (m : ℕ) → m < n → More k (expanding known xs end m) (expanding known xs end (k + m))
by_left k zero known xs end m h = absurd (omega (arith, h))
by_left k (suc n) known xs end m h =
    subst (λ r. More k r (expanding known xs end (k + m))) (sym (expanding_walk known xs end m))
    (subst (λ s. More k (walk known (expanding known) xs end m) s) (sym (expanding_walk known xs end (k + m)))
    (walk_more k n (expanding known) (by_left k n known) (λ l e j p. expanding_within known l e j) known xs end m (omega (arith, h))))

pub larger_budget : (known : Known) (xs : List Hidden) (end : Ending) (left more rest : ℕ) (list : List Hidden) → expanding known xs end left ≡ Ok (list, rest) → expanding known xs end (more + left) ≡ Ok (list, more + rest)
larger_budget known xs end left more rest list e =
    subst (λ r. More more r (expanding known xs end (more + left))) e (by_left more (suc left) known xs end left (omega arith))
