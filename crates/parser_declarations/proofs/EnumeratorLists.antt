-- Lists of enumerators.
use Rattle.std.specs.Prelude.{None, max}
use Rattle.std.proofs.Common.{◌≡◌, ℕ, inl, inr, List, [], ◌∷◌, ◌++◌, refl, sym, ap, ◌∙◌, subst, arith}
use Rattle.srcset.specs.declared.refusal.Pos.{Pos}
use Rattle.lexer.specs.declared.token.Token.{Token}
use Rattle.lexer.specs.declared.token.Kind.TheVariants as kind
use Rattle.lexer.specs.declared.token.Punctuator.TheVariants as sign
use Rattle.tree.specs.Tree.{EnumeratorTree}
use Rattle.tree.specs.Counts.{enumerator_depth, enumerators_depth}
use Rattle.parser_grammar.specs.declared.refusal.Refusal.{Refusal}
use Rattle.parser_grammar.specs.declared.refusal.Refusal.TheVariants.{Syntax, Depth, Memory}
use Rattle.parser_grammar.specs.Tokens.{Own, NotFront}
use Rattle.parser_grammar.specs.Declarations.{Trailing, SpellsEnumerator}
use Rattle.parser_grammar.specs.layer.Answer.{Excuses, ReadsOf, FailsOf, StandsOf, Anywhere}
use Rattle.parser_expressions.specs.ExpressionAnswers.{Stops}
use Rattle.parser_declarations.specs.inside.DeclarationParts.{EndsEnumerator, SpellsEnumeratorList}
use Rattle.parser_grammar.proofs.Tokens.{same_token, mark_own}
use Rattle.parser_grammar.proofs.Series.{tallest, Going, going_stuck, going_ends, CommaThen, SeriesOf, series_begins, series_fails, series_first_stands, series_more, series_more_fails, series_more_stands}
use Rattle.parser_declarations.proofs.EnumeratorParts.{stops_at_sign}
use Rattle.parser_grammar.proofs.DeclarationBegun.{enumerator_is_begun, enumerator_reaches}

-- where a list of enumerators ends: before its brace, with a comma or without
pub record EndsList (es : List EnumeratorTree) (r : List Token) : Type 0 where
  pub mid : List Token
  pub after : List Token
  pub at : Pos
  pub trailing : Trailing r mid
  pub closes : Own (kind.Punctuator sign.BraceClose) at mid after

ends_follow : (es : List EnumeratorTree) (y : EnumeratorTree) (r : List Token) → EndsList es r → EndsEnumerator y r
ends_follow es y r e = on e.trailing
  where
    on : Trailing r e.mid → Stops 1 r
    on (inl q) = stops_at_sign 1 sign.BraceClose e.at r e.after (q ∙ e.closes) (omega arith)
    on (inr q) = stops_at_sign 1 sign.Comma q.0 r e.mid q.1 (omega arith)

comma_follows : (y : EnumeratorTree) (at : Pos) (t r : List Token) → Own (kind.Punctuator sign.Comma) at t r → EndsEnumerator y t
comma_follows y at t r own = stops_at_sign 1 sign.Comma at t r own (omega arith)

comma_no_brace : kind.Punctuator sign.Comma ≡ kind.Punctuator sign.BraceClose → ⊥
comma_no_brace e = cc

name_no_brace : (n : ℕ) → kind.Identifier n ≡ kind.Punctuator sign.BraceClose → ⊥
name_no_brace n e = cc

-- a comma that is not the last token
stays : (at : Pos) (cur us : List Token) → Own (kind.Punctuator sign.Comma) at cur us → NotFront (kind.Punctuator sign.BraceClose) us →
    (es : List EnumeratorTree) → EndsList es cur → ⊥
stays at cur us own none es e = on e.trailing
  where
    on : Trailing cur e.mid → ⊥
    on (inl q) = comma_no_brace (same_token _ _ at e.at cur us e.after own (q ∙ e.closes)).0
    on (inr q) = none e.at e.after (subst (λ z. Own (kind.Punctuator sign.BraceClose) e.at z e.after) (same_token _ _ q.0 at cur e.mid us q.1 own).2 e.closes)

pub enumerators_tallest : (es : List EnumeratorTree) → enumerators_depth es ≡ tallest enumerator_depth es
enumerators_tallest [] = refl
enumerators_tallest (e ∷ es) = ap (λ z. max (enumerator_depth e) z) (enumerators_tallest es)

list_fails : (d : ℕ) (ts : List Token) (f : Refusal) → FailsOf (SeriesOf SpellsEnumerator None) EndsList (tallest enumerator_depth) d ts f →
    FailsOf (SpellsEnumeratorList None) Anywhere enumerators_depth d ts f
list_fails d ts f h = record {
  each = λ es r s e.
      let m = mark_own _ s.1 r s.4 in
      subst (λ z. Excuses f d z) (sym (enumerators_tallest es)) (h.each es s.0 s.2 (record { mid = s.1; after = r; at = m.0; trailing = s.3; closes = m.1 }));
}

list_stands : (d : ℕ) (ts : List Token) (f : Refusal) → StandsOf (SeriesOf SpellsEnumerator) (tallest enumerator_depth) d ts f →
    StandsOf SpellsEnumeratorList enumerators_depth d ts f
list_stands d ts (Syntax at) h = tt
list_stands d ts Memory h = tt
list_stands d ts (Depth at) h = record {
  tree = h.tree;
  cut = h.cut;
  last = h.last;
  spelled = (h.cut, h.cut, h.spelled, inl refl, inr (refl, refl));
  reaches = h.reaches;
  deep = omega (arith, h.deep, enumerators_tallest h.tree);
}

-- the loop invariant
abbrev pub EnumeratorsLoop : ℕ → List Token → List EnumeratorTree → ℕ → List Token → Type 0
EnumeratorsLoop d ts xs k cur = Going (CommaThen SpellsEnumerator) (SeriesOf SpellsEnumerator) EndsList enumerator_depth d ts xs k cur

pub list_first_fails : (d : ℕ) (ts : List Token) (f : Refusal) → FailsOf (SpellsEnumerator None) EndsEnumerator enumerator_depth d ts f →
    FailsOf (SpellsEnumeratorList None) Anywhere enumerators_depth d ts f
list_first_fails d ts f bad = list_fails d ts f (series_fails SpellsEnumerator EndsList EndsEnumerator enumerator_depth d ts f ends_follow comma_follows bad)

pub list_first_stands : (d : ℕ) (ts : List Token) (f : Refusal) → StandsOf SpellsEnumerator enumerator_depth d ts f →
    StandsOf SpellsEnumeratorList enumerators_depth d ts f
list_first_stands d ts f h = list_stands d ts f (series_first_stands SpellsEnumerator EndsList EndsEnumerator enumerator_depth d ts f h)

pub list_begins : (d : ℕ) (ts : List Token) (x : EnumeratorTree) (k : ℕ) (cur : List Token) → ReadsOf (SpellsEnumerator None) EndsEnumerator enumerator_depth d
    ts x k cur → EnumeratorsLoop d ts (x ∷ []) k cur
list_begins d ts x k cur read = series_begins SpellsEnumerator EndsList EndsEnumerator enumerator_depth d ts x k cur ends_follow comma_follows
    enumerator_is_begun (enumerator_reaches x ts cur read.spelled) read

pub list_more : (d : ℕ) (ts : List Token) (xs : List EnumeratorTree) (k : ℕ) (cur us : List Token) (at : Pos) (x : EnumeratorTree) (j : ℕ) (next : List Token)
    (n : ℕ) → Own (kind.Punctuator sign.Comma) at cur us → NotFront (kind.Punctuator sign.BraceClose) us → EnumeratorsLoop d ts xs k cur →
    ReadsOf (SpellsEnumerator None) EndsEnumerator enumerator_depth d us x j next → n ≡ max k j → EnumeratorsLoop d ts (xs ++ x ∷ []) n next
list_more d ts xs k cur us at x j next n own none g read en = series_more SpellsEnumerator EndsList EndsEnumerator enumerator_depth d ts xs k cur us at x j next
    n (stays at cur us own none) ends_follow comma_follows enumerator_is_begun (enumerator_reaches x us next read.spelled) own g read en

pub list_more_fails : (d : ℕ) (ts : List Token) (xs : List EnumeratorTree) (k : ℕ) (cur us : List Token) (at : Pos) (f : Refusal) →
    Own (kind.Punctuator sign.Comma) at cur us → NotFront (kind.Punctuator sign.BraceClose) us → EnumeratorsLoop d ts xs k cur → FailsOf (SpellsEnumerator None)
    EndsEnumerator enumerator_depth d us f → FailsOf (SpellsEnumeratorList None) Anywhere enumerators_depth d ts f
list_more_fails d ts xs k cur us at f own none g bad = list_fails d ts f (series_more_fails SpellsEnumerator EndsList EndsEnumerator enumerator_depth d ts xs k
    cur us at f (stays at cur us own none) ends_follow comma_follows own g bad)

pub list_more_stands : (d : ℕ) (ts : List Token) (xs : List EnumeratorTree) (k : ℕ) (cur us : List Token) (at : Pos) (f : Refusal) →
    Own (kind.Punctuator sign.Comma) at cur us → EnumeratorsLoop d ts xs k cur → StandsOf SpellsEnumerator enumerator_depth d us f →
    StandsOf SpellsEnumeratorList enumerators_depth d ts f
list_more_stands d ts xs k cur us at f own g h = list_stands d ts f (series_more_stands SpellsEnumerator EndsList EndsEnumerator enumerator_depth d ts xs k cur
    us at f own g h)

-- no further enumerator: no comma, or one before the brace
abbrev pub LastComma : List Token → Type 0
LastComma cur = (at : Pos) (after : List Token) → Own (kind.Punctuator sign.Comma) at cur after → (o : Pos) × (rest : List Token)
    × Own (kind.Punctuator sign.BraceClose) o after rest

no_more : (cur : List Token) → LastComma cur → (y : EnumeratorTree) (r : List Token) → CommaThen SpellsEnumerator None y cur r → ⊥
no_more cur last y r s =
    let m = mark_own _ cur s.0 s.1 in
    let b = last m.0 s.0 m.1 in
    name_no_brace y.name (same_token _ _ y.at b.0 s.0 s.2.0 b.1 s.2.1 b.2).0

pub list_open : (d : ℕ) (ts : List Token) (xs : List EnumeratorTree) (k : ℕ) (cur : List Token) (f : Refusal) → LastComma cur →
    ((t1 : List Token) (at : Pos) (rest : List Token) → Trailing cur t1 → Own (kind.Punctuator sign.BraceClose) at t1 rest → ⊥) → EnumeratorsLoop d ts xs k cur
    → FailsOf (SpellsEnumeratorList None) Anywhere enumerators_depth d ts f
list_open d ts xs k cur f last none g = list_fails d ts f (going_stuck (CommaThen SpellsEnumerator) (SeriesOf SpellsEnumerator) EndsList EndsEnumerator
    enumerator_depth d ts xs k cur f (λ es e. none e.mid e.at e.after e.trailing e.closes) (no_more cur last) g)

trailing_once : (cur a b r rest : List Token) (p q : Pos) → Trailing cur a → Own (kind.Punctuator sign.BraceClose) p a r → Trailing cur b →
    Own (kind.Punctuator sign.BraceClose) q b rest → r ≡ rest
trailing_once cur a b r rest p q (inl s) o (inl t) w = (same_token _ _ p q cur r rest (s ∙ o) (t ∙ w)).2
trailing_once cur a b r rest p q (inl s) o (inr t) w = absurd (comma_no_brace (same_token _ _ t.0 p cur b r t.1 (s ∙ o)).0)
trailing_once cur a b r rest p q (inr s) o (inl t) w = absurd (comma_no_brace (same_token _ _ s.0 q cur a rest s.1 (t ∙ w)).0)
trailing_once cur a b r rest p q (inr s) o (inr t) w =
    let e = (same_token _ _ s.0 t.0 cur a b s.1 t.1).2 in
    (same_token _ _ p q b r rest (subst (λ z. Own (kind.Punctuator sign.BraceClose) p z r) e o) w).2

pub list_ends : (d : ℕ) (ts : List Token) (xs : List EnumeratorTree) (k : ℕ) (cur mid rest : List Token) (at : Pos) → LastComma cur → Trailing cur mid →
    Own (kind.Punctuator sign.BraceClose) at mid rest → EnumeratorsLoop d ts xs k cur → ReadsOf (SpellsEnumeratorList None) Anywhere enumerators_depth d ts xs k
    rest
list_ends d ts xs k cur mid rest at last trailing own g =
    let h = going_ends (CommaThen SpellsEnumerator) (SeriesOf SpellsEnumerator) EndsList EndsEnumerator enumerator_depth d ts xs k cur (no_more cur last) g in
    record {
      spelled = (cur, mid, h.spelled, trailing, inl (at, own));
      tall = h.tall ∙ sym (enumerators_tallest xs);
      fits = h.fits;
      only = λ es r s e.
          let m = mark_own _ s.1 r s.4 in
          let u = h.only es s.0 s.2 (record { mid = s.1; after = r; at = m.0; trailing = s.3; closes = m.1 }) in
          (u.0, trailing_once cur s.1 mid r rest m.0 at (subst (λ z. Trailing z s.1) u.1 s.3) m.1 trailing own);
    }
