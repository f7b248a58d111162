-- Lists of parts that a loop reads: consecutive parts, and parts with a comma between any two.
--
-- Throughout, `P b x ts rest` says that the part x spells the front of ts up to rest, `W` the same of the whole
-- list from its start, `E` where a whole list can end, `PE` where a part can end, and `h` how deep a part is.
use Rattle.std.specs.Prelude.{Option, None, Some, max}
use Rattle.std.proofs.Common.{◌≡◌, ℕ, ◌+◌, ◌≤◌, inl, List, [], ◌∷◌, ◌++◌, refl, sym, ap, ◌∙◌, subst, arith, append_assoc}
use Rattle.srcset.specs.declared.refusal.Pos.{Pos}
use Rattle.lexer.specs.declared.token.Token.{Token}
use Rattle.lexer.specs.declared.token.Kind.TheVariants as kind
use Rattle.lexer.specs.declared.token.Punctuator.TheVariants as sign
use Rattle.parser_grammar.specs.declared.refusal.Refusal.{Refusal}
use Rattle.parser_grammar.specs.declared.refusal.Refusal.TheVariants.{Syntax, Depth, Memory}
use Rattle.parser_grammar.specs.Tokens.{Own, Sign, Reaches}
use Rattle.parser_grammar.specs.Declarations.{SpellsMoreOf, SpellsSeries}
use Rattle.parser_grammar.specs.layer.Answer.{Excuses, ReadsOf, FailsOf, StandsOf}
use Rattle.parser_grammar.proofs.Tokens.{same_token, mark_own, mark_begun, reaches_on, own_reaches}
use Rattle.parser_grammar.proofs.Exits.{excuses_grow}

-- consecutive parts
abbrev pub Chain : {A : Type 0} → (A → List Token → List Token → Type 0) → List A → List Token → List Token → Type 0
Chain P [] ts rest = ts ≡ rest
Chain P (x ∷ xs) ts rest = (t1 : List Token) × P x ts t1 × Chain P xs t1 rest

abbrev pub tallest : {A : Type 0} → (A → ℕ) → List A → ℕ
tallest h [] = 0
tallest h (x ∷ xs) = max (h x) (tallest h xs)

-- The loop invariant before `cur`: the parts xs are read, and every list of the tokens continues from them.
pub record Going {A : Type 0} (P : Option (List Token) → A → List Token → List Token → Type 0) (W : Option (List Token) → List A → List Token → List Token →
    Type 0) (E : List A → List Token → Type 0) (h : A → ℕ) (d : ℕ) (ts : List Token) (xs : List A) (k : ℕ) (cur : List Token) : Type 0 where
  pub spells : (m : List A) (r : List Token) → Chain (P None) m cur r → W None (xs ++ m) ts r
  pub begun : (c : List Token) (m : List A) (r : List Token) → Chain (P (Some c)) m cur r → W (Some c) (xs ++ m) ts r
  pub reaches : Reaches ts cur
  pub height : k ≡ tallest h xs
  pub fits : d + k ≤ 256
  pub only : (us : List A) (r : List Token) → W None us ts r → E us r → (m : List A) × Chain (P None) m cur r × (us ≡ xs ++ m)

append_none : {A : Type 0} (xs : List A) → xs ++ [] ≡ xs
append_none [] = refl
append_none (x ∷ xs) = ap (λ y. x ∷ y) (append_none xs)

pub tallest_push : {A : Type 0} (h : A → ℕ) (xs : List A) (x : A) → tallest h (xs ++ x ∷ []) ≡ max (tallest h xs) (h x)
tallest_push h [] x = omega arith
tallest_push h (y ∷ xs) x = let i = tallest_push h xs x in omega (arith, i)

pub tallest_has : {A : Type 0} (h : A → ℕ) (xs : List A) (x : A) (m : List A) → h x ≤ tallest h (xs ++ x ∷ m)
tallest_has h [] x m = omega arith
tallest_has h (y ∷ xs) x m = let i = tallest_has h xs x m in omega (arith, i)

module _ {A : Type 0} (P : Option (List Token) → A → List Token → List Token → Type 0) (W : Option (List Token) → List A → List Token → List Token → Type 0)
    (E : List A → List Token → Type 0) (PE : A → List Token → Type 0) (h : A → ℕ) where
  -- nothing is read yet
  pub going_starts : (d : ℕ) (ts : List Token) → ((m : List A) (r : List Token) → Chain (P None) m ts r → W None m ts r) →
      ((c : List Token) (m : List A) (r : List Token) → Chain (P (Some c)) m ts r → W (Some c) m ts r) →
      ((us : List A) (r : List Token) → W None us ts r → Chain (P None) us ts r) → d ≤ 256 → Going P W E h d ts [] 0 ts
  going_starts d ts up begin down le = record {
    spells = up;
    begun = begin;
    reaches = ([], refl);
    height = refl;
    fits = omega (arith, le);
    only = λ us r w e. (us, down us r w, refl);
  }

  -- one part more: the list cannot end here
  pub going_more : (d : ℕ) (ts : List Token) (xs : List A) (k : ℕ) (cur : List Token) (x : A) (j : ℕ) (next : List Token) (n : ℕ) →
      ((us : List A) → E us cur → ⊥) → ((us : List A) (y : A) (r : List Token) → E us r → PE y r) → ((y z : A) (t r : List Token) → P None z t r → PE y t) →
      ((c : List Token) (y : A) (t r : List Token) → P None y t r → P (Some c) y t r) → Reaches cur next → Going P W E h d ts xs k cur →
      ReadsOf (P None) PE h d cur x j next → n ≡ max k j → Going P W E h d ts (xs ++ x ∷ []) n next
  going_more d ts xs k cur x j next n stays follows precedes begin reach g read en = record {
    spells = λ m r s. subst (λ y. W None y ts r) (sym (append_assoc xs (x ∷ []) m)) (g.spells (x ∷ m) r (next, read.spelled, s));
    begun = λ c m r s. subst (λ y. W (Some c) y ts r) (sym (append_assoc xs (x ∷ []) m)) (g.begun c (x ∷ m) r (next, begin c x cur next read.spelled, s));
    reaches = reaches_on ts cur next g.reaches reach;
    height = omega (arith, en, g.height, read.tall, tallest_push h xs x);
    fits = omega (arith, en, g.fits, read.fits);
    only = λ us r w e. let i = g.only us r w e in on us r i.0 i.1 i.2 e;
  }
    where
      ends_there : (us : List A) (r : List Token) (m : List A) (z : List Token) (y : A) → Chain (P None) m z r → E us r → PE y z
      ends_there us r [] z y s e = follows us y z (subst (λ u. E us u) (sym s) e)
      ends_there us r (a ∷ m) z y s e = precedes y a z s.0 s.1

      on : (us : List A) (r : List Token) (m : List A) → Chain (P None) m cur r → us ≡ xs ++ m → E us r → (m' : List A) × Chain (P None) m' next r
          × (us ≡ (xs ++ x ∷ []) ++ m')
      on us r [] s eq e = absurd (stays us (subst (λ u. E us u) (sym s) e))
      on us r (y ∷ m) s eq e =
          let u = read.only y s.0 s.1 (ends_there us r m s.0 y s.2 e) in
          (m, subst (λ z. Chain (P None) m z r) u.1 s.2, eq ∙ ap (λ z. xs ++ z ∷ m) u.0 ∙ sym (append_assoc xs (x ∷ []) m))

  -- the next part fails
  pub going_fails : (d : ℕ) (ts : List Token) (xs : List A) (k : ℕ) (cur : List Token) (f : Refusal) → ((us : List A) → E us cur → ⊥) →
      ((us : List A) (y : A) (r : List Token) → E us r → PE y r) → ((y z : A) (t r : List Token) → P None z t r → PE y t) → Going P W E h d ts xs k cur →
      FailsOf (P None) PE h d cur f → FailsOf (W None) E (tallest h) d ts f
  going_fails d ts xs k cur f stays follows precedes g bad = record {
    each = λ us r w e. let i = g.only us r w e in on us r i.0 i.1 i.2 e;
  }
    where
      ends_there : (us : List A) (r : List Token) (m : List A) (z : List Token) (y : A) → Chain (P None) m z r → E us r → PE y z
      ends_there us r [] z y s e = follows us y z (subst (λ u. E us u) (sym s) e)
      ends_there us r (a ∷ m) z y s e = precedes y a z s.0 s.1

      on : (us : List A) (r : List Token) (m : List A) → Chain (P None) m cur r → us ≡ xs ++ m → E us r → Excuses f d (tallest h us)
      on us r [] s eq e = absurd (stays us (subst (λ u. E us u) (sym s) e))
      on us r (y ∷ m) s eq e =
          let deep : h y ≤ tallest h us = subst (λ z. h y ≤ tallest h z) (sym eq) (tallest_has h xs y m) in
          excuses_grow f d d (h y) (tallest h us) (omega (arith, deep)) (bad.each y s.0 s.1 (ends_there us r m s.0 y s.2 e))

  -- neither goes the list on nor can it end
  pub going_stuck : (d : ℕ) (ts : List Token) (xs : List A) (k : ℕ) (cur : List Token) (f : Refusal) → ((us : List A) → E us cur → ⊥) →
      ((y : A) (r : List Token) → P None y cur r → ⊥) → Going P W E h d ts xs k cur → FailsOf (W None) E (tallest h) d ts f
  going_stuck d ts xs k cur f stays no_part g = record { each = λ us r w e. let i = g.only us r w e in on us r i.0 i.1 e }
    where
      on : (us : List A) (r : List Token) (m : List A) → Chain (P None) m cur r → E us r → Excuses f d (tallest h us)
      on us r [] s e = absurd (stays us (subst (λ u. E us u) (sym s) e))
      on us r (y ∷ m) s e = absurd (no_part y s.0 s.1)

  -- no further part is there
  pub going_ends : (d : ℕ) (ts : List Token) (xs : List A) (k : ℕ) (cur : List Token) → ((y : A) (r : List Token) → P None y cur r → ⊥) →
      Going P W E h d ts xs k cur → ReadsOf (W None) E (tallest h) d ts xs k cur
  going_ends d ts xs k cur no_part g = record {
    spelled = subst (λ y. W None y ts cur) (append_none xs) (g.spells [] cur refl);
    tall = g.height;
    fits = g.fits;
    only = λ us r w e. let i = g.only us r w e in on us r i.0 i.1 i.2;
  }
    where
      on : (us : List A) (r : List Token) (m : List A) → Chain (P None) m cur r → us ≡ xs ++ m → (us ≡ xs) × (r ≡ cur)
      on us r [] s eq = (eq ∙ append_none xs, sym s)
      on us r (y ∷ m) s eq = absurd (no_part y s.0 s.1)

  -- a refusal that is correct for the next part is correct for the whole
  pub going_stands : (d : ℕ) (ts : List Token) (xs : List A) (k : ℕ) (cur : List Token) (f : Refusal) → Going P W E h d ts xs k cur → StandsOf P h d cur f →
      StandsOf W (tallest h) d ts f
  going_stands d ts xs k cur (Syntax at) g s = tt
  going_stands d ts xs k cur Memory g s = tt
  going_stands d ts xs k cur (Depth at) g s = record {
    tree = xs ++ s.tree ∷ [];
    cut = s.cut;
    last = s.last;
    spelled = g.begun s.cut (s.tree ∷ []) s.cut (s.cut, s.spelled, refl);
    reaches = reaches_on ts cur _ g.reaches s.reaches;
    deep = omega (arith, s.deep, tallest_has h xs s.tree []);
  }

-- ---- a comma between any two

-- a comma, and a part
abbrev pub CommaThen : {A : Type 0} → (Option (List Token) → A → List Token → List Token → Type 0) → Option (List Token) → A → List Token → List Token → Type 0
CommaThen S b x ts rest = (t : List Token) × Sign b sign.Comma ts t × S b x t rest

abbrev pub SeriesOf : {A : Type 0} → (Option (List Token) → A → List Token → List Token → Type 0) → Option (List Token) → List A → List Token → List Token →
    Type 0
SeriesOf S b xs ts rest = SpellsSeries (S b) b xs ts rest

pub more_chain : {A : Type 0} (S : Option (List Token) → A → List Token → List Token → Type 0) (b : Option (List Token)) (xs : List A) (ts rest : List Token) →
    SpellsMoreOf (S b) b xs ts rest → Chain (CommaThen S b) xs ts rest
more_chain S b [] ts rest s = s
more_chain S b (x ∷ xs) ts rest s = (s.1, (s.0, s.2, s.3), more_chain S b xs s.1 rest s.4)

pub chain_more : {A : Type 0} (S : Option (List Token) → A → List Token → List Token → Type 0) (b : Option (List Token)) (xs : List A) (ts rest : List Token) →
    Chain (CommaThen S b) xs ts rest → SpellsMoreOf (S b) b xs ts rest
chain_more S b [] ts rest s = s
chain_more S b (x ∷ xs) ts rest s = (s.1.0, s.0, s.1.1, s.1.2, chain_more S b xs s.0 rest s.2)

module _ {A : Type 0} (S : Option (List Token) → A → List Token → List Token → Type 0) (E : List A → List Token → Type 0) (PE : A → List Token → Type 0)
    (h : A → ℕ) where
  -- the first part fails
  pub series_fails : (d : ℕ) (ts : List Token) (f : Refusal) → ((us : List A) (y : A) (r : List Token) → E us r → PE y r) →
      ((y : A) (at : Pos) (t r : List Token) → Own (kind.Punctuator sign.Comma) at t r → PE y t) → FailsOf (S None) PE h d ts f →
      FailsOf (SeriesOf S None) E (tallest h) d ts f
  series_fails d ts f follows comma bad = record { each = on }
    where
      ends_there : (us : List A) (r : List Token) (m : List A) (z : List Token) (y : A) → SpellsMoreOf (S None) None m z r → E us r → PE y z
      ends_there us r [] z y s e = follows us y z (subst (λ u. E us u) (sym s) e)
      ends_there us r (a ∷ m) z y s e = let o = mark_own (kind.Punctuator sign.Comma) z s.0 s.2 in comma y o.0 z s.0 o.1

      on : (us : List A) (r : List Token) → SeriesOf S None us ts r → E us r → Excuses f d (tallest h us)
      on [] r s e = absurd s
      on (y ∷ m) r s e = excuses_grow f d d (h y) (tallest h (y ∷ m)) (omega arith) (bad.each y s.0 s.1 (ends_there (y ∷ m) r m s.0 y s.2 e))

  -- the first part is read
  pub series_begins : (d : ℕ) (ts : List Token) (x : A) (k : ℕ) (cur : List Token) → ((us : List A) (y : A) (r : List Token) → E us r → PE y r) →
      ((y : A) (at : Pos) (t r : List Token) → Own (kind.Punctuator sign.Comma) at t r → PE y t) → ((c : List Token) (y : A) (t r : List Token) → S None y t r →
      S (Some c) y t r) → Reaches ts cur → ReadsOf (S None) PE h d ts x k cur → Going (CommaThen S) (SeriesOf S) E h d ts (x ∷ []) k cur
  series_begins d ts x k cur follows comma begin reach read = record {
    spells = λ m r s. (cur, read.spelled, chain_more S None m cur r s);
    begun = λ c m r s. (cur, begin c x ts cur read.spelled, chain_more S (Some c) m cur r s);
    reaches = reach;
    height = omega (arith, read.tall);
    fits = read.fits;
    only = on;
  }
    where
      ends_there : (us : List A) (r : List Token) (m : List A) (z : List Token) (y : A) → SpellsMoreOf (S None) None m z r → E us r → PE y z
      ends_there us r [] z y s e = follows us y z (subst (λ u. E us u) (sym s) e)
      ends_there us r (a ∷ m) z y s e = let o = mark_own (kind.Punctuator sign.Comma) z s.0 s.2 in comma y o.0 z s.0 o.1

      on : (us : List A) (r : List Token) → SeriesOf S None us ts r → E us r → (m : List A) × Chain (CommaThen S None) m cur r × (us ≡ (x ∷ []) ++ m)
      on [] r s e = absurd s
      on (y ∷ m) r s e =
          let u = read.only y s.0 s.1 (ends_there (y ∷ m) r m s.0 y s.2 e) in
          (m, more_chain S None m cur r (subst (λ z. SpellsMoreOf (S None) None m z r) u.1 s.2), ap (λ z. z ∷ m) u.0)

  pub series_first_stands : (d : ℕ) (ts : List Token) (f : Refusal) → StandsOf S h d ts f → StandsOf (SeriesOf S) (tallest h) d ts f
  series_first_stands d ts (Syntax at) s = tt
  series_first_stands d ts Memory s = tt
  series_first_stands d ts (Depth at) s = record {
    tree = s.tree ∷ [];
    cut = s.cut;
    last = s.last;
    spelled = (s.cut, s.spelled, refl);
    reaches = s.reaches;
    deep = omega (arith, s.deep);
  }

  -- a part after a comma
  pub comma_reads : (d : ℕ) (cur us : List Token) (at : Pos) (x : A) (k : ℕ) (rest : List Token) → Own (kind.Punctuator sign.Comma) at cur us →
      ReadsOf (S None) PE h d us x k rest → ReadsOf (CommaThen S None) PE h d cur x k rest
  comma_reads d cur us at x k rest own read = record {
    spelled = (us, inl (at, own), read.spelled);
    tall = read.tall;
    fits = read.fits;
    only = λ y r s e.
        let o = mark_own (kind.Punctuator sign.Comma) cur s.0 s.1 in
        let u = same_token _ _ o.0 at cur s.0 us o.1 own in
        read.only y r (subst (λ z. S None y z r) u.2 s.2) e;
  }

  pub comma_fails : (d : ℕ) (cur us : List Token) (at : Pos) (f : Refusal) → Own (kind.Punctuator sign.Comma) at cur us → FailsOf (S None) PE h d us f →
      FailsOf (CommaThen S None) PE h d cur f
  comma_fails d cur us at f own bad = record {
    each = λ y r s e.
        let o = mark_own (kind.Punctuator sign.Comma) cur s.0 s.1 in
        let u = same_token _ _ o.0 at cur s.0 us o.1 own in
        bad.each y r (subst (λ z. S None y z r) u.2 s.2) e;
  }

  pub comma_stands : (d : ℕ) (cur us : List Token) (at : Pos) (f : Refusal) → Own (kind.Punctuator sign.Comma) at cur us → StandsOf S h d us f →
      StandsOf (CommaThen S) h d cur f
  comma_stands d cur us at (Syntax p) own s = tt
  comma_stands d cur us at Memory own s = tt
  comma_stands d cur us at (Depth p) own s = record {
    tree = s.tree;
    cut = s.cut;
    last = s.last;
    spelled = (us, inl (at, own), s.spelled);
    reaches = reaches_on cur us _ (own_reaches _ at cur us own) s.reaches;
    deep = s.deep;
  }

  pub comma_is_begun : ((c : List Token) (y : A) (t r : List Token) → S None y t r → S (Some c) y t r) → (c : List Token) (y : A) (t r : List Token) →
      CommaThen S None y t r → CommaThen S (Some c) y t r
  comma_is_begun begin c y t r s = (s.0, mark_begun c _ t s.0 s.1, begin c y s.0 r s.2)

  -- after a comma a further part is read
  pub series_more : (d : ℕ) (ts : List Token) (xs : List A) (k : ℕ) (cur us : List Token) (at : Pos) (x : A) (j : ℕ) (next : List Token) (n : ℕ) →
      ((vs : List A) → E vs cur → ⊥) → ((vs : List A) (y : A) (r : List Token) → E vs r → PE y r) →
      ((y : A) (o : Pos) (t r : List Token) → Own (kind.Punctuator sign.Comma) o t r → PE y t) → ((c : List Token) (y : A) (t r : List Token) → S None y t r →
      S (Some c) y t r) → Reaches us next → Own (kind.Punctuator sign.Comma) at cur us → Going (CommaThen S) (SeriesOf S) E h d ts xs k cur →
      ReadsOf (S None) PE h d us x j next → n ≡ max k j → Going (CommaThen S) (SeriesOf S) E h d ts (xs ++ x ∷ []) n next
  series_more d ts xs k cur us at x j next n stays follows comma begin reach own g read en =
      going_more (CommaThen S) (SeriesOf S) E PE h d ts xs k cur x j next n stays follows (λ y z t r s. let o = mark_own (kind.Punctuator sign.Comma) t s.0 s.1
      in comma y o.0 t s.0 o.1) (comma_is_begun begin) (reaches_on cur us next (own_reaches _ at cur us own) reach) g
      (comma_reads d cur us at x j next own read) en

  -- after a comma the next part fails
  pub series_more_fails : (d : ℕ) (ts : List Token) (xs : List A) (k : ℕ) (cur us : List Token) (at : Pos) (f : Refusal) → ((vs : List A) → E vs cur → ⊥) →
      ((vs : List A) (y : A) (r : List Token) → E vs r → PE y r) → ((y : A) (o : Pos) (t r : List Token) → Own (kind.Punctuator sign.Comma) o t r → PE y t) →
      Own (kind.Punctuator sign.Comma) at cur us → Going (CommaThen S) (SeriesOf S) E h d ts xs k cur → FailsOf (S None) PE h d us f →
      FailsOf (SeriesOf S None) E (tallest h) d ts f
  series_more_fails d ts xs k cur us at f stays follows comma own g bad =
      going_fails (CommaThen S) (SeriesOf S) E PE h d ts xs k cur f stays follows (λ y z t r s. let o = mark_own (kind.Punctuator sign.Comma) t s.0 s.1 in
      comma y o.0 t s.0 o.1) g (comma_fails d cur us at f own bad)

  pub series_more_stands : (d : ℕ) (ts : List Token) (xs : List A) (k : ℕ) (cur us : List Token) (at : Pos) (f : Refusal) → Own (kind.Punctuator sign.Comma) at
      cur us → Going (CommaThen S) (SeriesOf S) E h d ts xs k cur → StandsOf S h d us f → StandsOf (SeriesOf S) (tallest h) d ts f
  series_more_stands d ts xs k cur us at f own g s = going_stands (CommaThen S) (SeriesOf S) E PE h d ts xs k cur f g (comma_stands d cur us at f own s)
