-- One enumerator.
use Rattle.std.specs.Prelude.{Option, None, Some}
use Rattle.std.proofs.Common.{◌≡◌, ℕ, ◌+◌, ◌<◌, ◌≤◌, inl, List, [], ◌∷◌, refl, sym, ap, ◌∙◌, subst, arith}
use Rattle.srcset.specs.declared.refusal.Pos.{Pos}
use Rattle.lexer.specs.declared.token.Token.{Token}
use Rattle.lexer.specs.declared.token.Kind.TheVariants as kind
use Rattle.lexer.specs.declared.token.Punctuator.{Punctuator}
use Rattle.lexer.specs.declared.token.Punctuator.TheVariants as sign
use Rattle.tree.specs.Tree.{Tree, EnumeratorTree}
use Rattle.tree.specs.Counts.{depth, option_depth, enumerator_depth}
use Rattle.parser_grammar.specs.declared.refusal.Refusal.{Refusal}
use Rattle.parser_grammar.specs.declared.refusal.Refusal.TheVariants.{Syntax, Depth, Memory}
use Rattle.parser_grammar.specs.Tokens.{Own, NotFront}
use Rattle.parser_grammar.specs.Expressions.{Spells}
use Rattle.parser_grammar.specs.Declarations.{SpellsValue, SpellsEnumerator}
use Rattle.parser_grammar.specs.layer.Answer.{ReadsOf, FailsOf, PassesOf, StandsOf}
use Rattle.parser_expressions.specs.ExpressionAnswers.{power, Stops, Front, Reads, Fails, Stands}
use Rattle.parser_declarations.specs.inside.DeclarationParts.{EndsEnumerator}
use Rattle.parser_grammar.proofs.Tokens.{same_token, mark_own, reaches_on, own_reaches, own_last}
use Rattle.parser_grammar.proofs.Exits.{excuses_grow}

pub stops_two : (ts : List Token) → Stops 1 ts → Stops 2 ts
stops_two [] h = omega arith
stops_two (t ∷ ts) h = omega (arith, h)

pub stops_at_sign : (n : ℕ) (p : Punctuator) (at : Pos) (ts rest : List Token) → Own (kind.Punctuator p) at ts rest → power (kind.Punctuator p) ≤ n → Stops n ts
stops_at_sign n p at ts rest own le = subst (Stops n) (sym own) le

same_enumerator : (y : EnumeratorTree) (at : Pos) (n : ℕ) (v : Option Tree) → y.at ≡ at → y.name ≡ n → y.value ≡ v → y ≡ record { at = at; name = n; value = v }
same_enumerator y at n v p q r = ap (λ a. record { at = a; name = y.name; value = y.value }) p ∙ ap (λ a. record { at = at; name = a; value = y.value }) q
    ∙ ap (λ a. record { at = at; name = n; value = a }) r

same_name : (m n : ℕ) → kind.Identifier m ≡ kind.Identifier n → m ≡ n
same_name m n e = cc

-- the front is no name
pub enumerator_none : (d : ℕ) (ts : List Token) (f : Refusal) → ((n : ℕ) → NotFront (kind.Identifier n) ts) → FailsOf (SpellsEnumerator None) EndsEnumerator
    enumerator_depth d ts f
enumerator_none d ts f none = record { each = λ y r s e. absurd (none y.name y.at s.0 s.1) }

-- no room for any
pub enumerator_full : (d : ℕ) (ts : List Token) (at : Pos) (f : Refusal) → d ≡ 256 → f ≡ Depth at → FailsOf (SpellsEnumerator None) EndsEnumerator
    enumerator_depth d ts f
enumerator_full d ts at f e ef = rw ef (record { each = λ y r s ends. omega (arith, e) })

pub enumerator_full_stands : (d n : ℕ) (at : Pos) (ts us : List Token) (f : Refusal) → Own (kind.Identifier n) at ts us → d ≡ 256 → f ≡ Depth at →
    StandsOf SpellsEnumerator enumerator_depth d ts f
enumerator_full_stands d n at ts us f own e ef = rw ef (passes d n at ts us own e)
  where
    passes : (d n : ℕ) (at : Pos) (ts us : List Token) → Own (kind.Identifier n) at ts us → d ≡ 256 → PassesOf SpellsEnumerator enumerator_depth d ts at
    passes d n at ts us own e = record {
      tree = record { at = at; name = n; value = None };
      cut = us;
      last = kind.Identifier n;
      spelled = (us, own, refl);
      reaches = own_last _ at ts us own;
      deep = omega (arith, e);
    }

-- without a value
pub enumerator_plain : (d n : ℕ) (at : Pos) (ts us : List Token) → Own (kind.Identifier n) at ts us → NotFront (kind.Punctuator sign.Assign) us → d < 256 →
    ReadsOf (SpellsEnumerator None) EndsEnumerator enumerator_depth d ts (record { at = at; name = n; value = None }) 1 us
enumerator_plain d n at ts us own none room = record {
  spelled = (us, own, refl);
  tall = refl;
  fits = omega (arith, room);
  only = λ y r s ends.
      let u = same_token _ _ y.at at ts s.0 us s.1 own in
      let v = no_value y.value us r (subst (λ z. SpellsValue None y.value z r) u.2 s.2) in
      (same_enumerator y at n None u.1 (same_name y.name n u.0) v.0, v.1);
}
  where
    no_value : (v : Option Tree) (t r : List Token) → SpellsValue None v us r → (v ≡ None) × (r ≡ us)
    no_value None t r s = (refl, sym s)
    no_value (Some e) t r s = let m = mark_own _ us s.0 s.1 in absurd (none m.0 s.0 m.1)

-- a value, after its sign
value_there : (n : ℕ) (at o : Pos) (ts us vs : List Token) → Own (kind.Identifier n) at ts us → Own (kind.Punctuator sign.Assign) o us vs →
    (y : EnumeratorTree) (r : List Token) → SpellsEnumerator None y ts r → Stops 1 r → (x : Tree) × Front 2 x vs r
    × (y ≡ record { at = at; name = n; value = Some x }) × (y.value ≡ Some x)
value_there n at o ts us vs own own2 y r s stop =
    let u = same_token _ _ y.at at ts s.0 us s.1 own in
    let v = value y.value (subst (λ z. SpellsValue None y.value z r) u.2 s.2) in
    (v.0, v.1, same_enumerator y at n (Some v.0) u.1 (same_name y.name n u.0) v.2, v.2)
  where
    value : (v : Option Tree) → SpellsValue None v us r → (x : Tree) × Front 2 x vs r × (v ≡ Some x)
    value None q = let st : 2 ≤ 1 = subst (Stops 1) (sym q ∙ own2) stop in absurd (omega (arith, st))
    value (Some x) q =
        let m = mark_own _ us q.0 q.1 in
        let w = same_token _ _ m.0 o us q.0 vs m.1 own2 in
        (x, record { tight = q.2; spells = subst (λ z. Spells None x z r) w.2 q.3; stops = stops_two r stop }, refl)

pub enumerator_value : (d n : ℕ) (at o : Pos) (ts us vs : List Token) (e : Tree) (k : ℕ) (rest : List Token) → Own (kind.Identifier n) at ts us →
    Own (kind.Punctuator sign.Assign) o us vs → Reads 2 (d + 1) vs e k rest → ReadsOf (SpellsEnumerator None) EndsEnumerator enumerator_depth d ts
    (record { at = at; name = n; value = Some e }) (k + 1) rest
enumerator_value d n at o ts us vs e k rest own own2 h = record {
  spelled = (us, own, (vs, inl (o, own2), h.tight, h.spells));
  tall = ap (λ z. z + 1) h.height;
  fits = omega (arith, h.fits);
  only = λ y r s stop.
      let v = value_there n at o ts us vs own own2 y r s stop in
      let u = h.only v.0 r v.1 in
      (v.2 ∙ ap (λ z. record { at = at; name = n; value = Some z }) u.0, u.1);
}

pub enumerator_value_fails : (d n : ℕ) (at o : Pos) (ts us vs : List Token) (f : Refusal) → Own (kind.Identifier n) at ts us → Own (kind.Punctuator sign.Assign)
    o us vs → Fails 2 (d + 1) vs f → FailsOf (SpellsEnumerator None) EndsEnumerator enumerator_depth d ts f
enumerator_value_fails d n at o ts us vs f own own2 h = record {
  each = λ y r s stop.
      let v = value_there n at o ts us vs own own2 y r s stop in
      let deep : enumerator_depth y ≡ depth v.0 + 1 = ap (λ z. option_depth z + 1) v.3 in
      excuses_grow f (d + 1) d (depth v.0) (enumerator_depth y) (omega (arith, deep)) (h.each v.0 r v.1);
}

pub enumerator_value_stands : (d n : ℕ) (at o : Pos) (ts us vs : List Token) (f : Refusal) → Own (kind.Identifier n) at ts us →
    Own (kind.Punctuator sign.Assign) o us vs → Stands 2 (d + 1) vs f → StandsOf SpellsEnumerator enumerator_depth d ts f
enumerator_value_stands d n at o ts us vs (Syntax p) own own2 h = tt
enumerator_value_stands d n at o ts us vs Memory own own2 h = tt
enumerator_value_stands d n at o ts us vs (Depth p) own own2 h = record {
  tree = record { at = at; name = n; value = Some h.tree };
  cut = h.cut;
  last = h.last;
  spelled = (us, own, (vs, inl (o, own2), h.tight, h.spells));
  reaches = reaches_on ts us _ (own_reaches _ at ts us own) (reaches_on us vs _ (own_reaches _ o us vs own2) h.ends);
  deep = omega (arith, h.deep);
}
