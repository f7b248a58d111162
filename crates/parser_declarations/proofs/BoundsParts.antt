-- One size in its brackets.
use Rattle.std.specs.Prelude.{Option, None, Some}
use Rattle.std.proofs.Common.{◌≡◌, ℕ, ◌≤◌, inl, inr, List, [], refl, sym, ap, ◌∙◌, subst, arith}
use Rattle.srcset.specs.declared.refusal.Pos.{Pos}
use Rattle.lexer.specs.declared.token.Token.{Token}
use Rattle.lexer.specs.declared.token.Kind.TheVariants as kind
use Rattle.lexer.specs.declared.token.Punctuator.TheVariants as sign
use Rattle.tree.specs.Tree.{Tree}
use Rattle.tree.specs.Counts.{option_depth}
use Rattle.parser_grammar.specs.declared.refusal.Refusal.{Refusal}
use Rattle.parser_grammar.specs.declared.refusal.Refusal.TheVariants.{Syntax, Depth, Memory}
use Rattle.parser_grammar.specs.Tokens.{Own, NotFront, Reaches}
use Rattle.parser_grammar.specs.layer.Answer.{Excuses, ReadsOf, FailsOf, StandsOf, Anywhere}
use Rattle.parser_expressions.specs.ExpressionAnswers.{Front, Reads, Fails, Stands}
use Rattle.parser_declarations.specs.inside.DeclarationParts.{SpellsClosedBound}
use Rattle.parser_grammar.proofs.Tokens.{same_token, mark_own, mark_begun, reaches_on, mark_reaches}
use Rattle.parser_grammar.proofs.ExpressionBegun.{whole_is_begun, whole_reaches}
use Rattle.parser_expressions.proofs.Leads.{no_begin}
use Rattle.parser_declarations.proofs.EnumeratorParts.{stops_at_sign}

-- no size
pub bound_none : (d : ℕ) (at : Pos) (ts rest : List Token) → Own (kind.Punctuator sign.BracketClose) at ts rest → d ≤ 256 → ReadsOf (SpellsClosedBound None)
    Anywhere option_depth d ts None 0 rest
bound_none d at ts rest own room = record {
  spelled = (ts, refl, inl (at, own));
  tall = refl;
  fits = omega (arith, room);
  only = λ y r s e. on y r s;
}
  where
    on : (y : Option Tree) (r : List Token) → SpellsClosedBound None y ts r → (y ≡ None) × (r ≡ rest)
    on None r s = let m = mark_own _ s.0 r s.2 in (refl, (same_token _ _ m.0 at ts r rest (s.1 ∙ m.1) own).2)
    on (Some e) r s = absurd (no_begin e (kind.Punctuator sign.BracketClose) at ts rest s.0 (λ h. h) own s.1.1)

-- a size where no bracket closes at once
bound_there : (ts : List Token) → NotFront (kind.Punctuator sign.BracketClose) ts → (y : Option Tree) (r : List Token) → SpellsClosedBound None y ts r →
    (e : Tree) × (x : List Token) × (at : Pos) × Front 2 e ts x × Own (kind.Punctuator sign.BracketClose) at x r × (y ≡ Some e)
bound_there ts none None r s = let m = mark_own _ s.0 r s.2 in absurd (none m.0 r (s.1 ∙ m.1))
bound_there ts none (Some e) r s =
    let m = mark_own _ s.0 r s.2 in
    (e, s.0, m.0, record { tight = s.1.0; spells = s.1.1; stops = stops_at_sign 2 sign.BracketClose m.0 s.0 r m.1 (omega arith) }, m.1, refl)

pub bound_fails : (d : ℕ) (ts : List Token) (f : Refusal) → NotFront (kind.Punctuator sign.BracketClose) ts → Fails 2 d ts f → FailsOf (SpellsClosedBound None)
    Anywhere option_depth d ts f
bound_fails d ts f none bad = record {
  each = λ y r s e. let i = bound_there ts none y r s in
      subst (λ z. Excuses f d (option_depth z)) (sym i.5) (bad.each i.0 i.1 i.3);
}

pub bound_stands : (d : ℕ) (ts : List Token) (f : Refusal) → Stands 2 d ts f → StandsOf SpellsClosedBound option_depth d ts f
bound_stands d ts (Syntax at) h = tt
bound_stands d ts Memory h = tt
bound_stands d ts (Depth at) h = record {
  tree = Some h.tree;
  cut = h.cut;
  last = h.last;
  spelled = (h.cut, (h.tight, h.spells), inr (refl, refl));
  reaches = h.ends;
  deep = h.deep;
}

pub bound_open : (d : ℕ) (ts : List Token) (e : Tree) (k : ℕ) (cur : List Token) (f : Refusal) → NotFront (kind.Punctuator sign.BracketClose) ts →
    Reads 2 d ts e k cur → NotFront (kind.Punctuator sign.BracketClose) cur → FailsOf (SpellsClosedBound None) Anywhere option_depth d ts f
bound_open d ts e k cur f none h no_close = record {
  each = λ y r s _. let i = bound_there ts none y r s in
      let u = h.only i.0 i.1 i.3 in
      absurd (no_close i.2 r (subst (λ z. Own (kind.Punctuator sign.BracketClose) i.2 z r) u.1 i.4));
}

pub bound_reads : (d : ℕ) (ts : List Token) (e : Tree) (k : ℕ) (cur rest : List Token) (at : Pos) → NotFront (kind.Punctuator sign.BracketClose) ts →
    Reads 2 d ts e k cur → Own (kind.Punctuator sign.BracketClose) at cur rest → ReadsOf (SpellsClosedBound None) Anywhere option_depth d ts (Some e) k rest
bound_reads d ts e k cur rest at none h own = record {
  spelled = (cur, (h.tight, h.spells), inl (at, own));
  tall = h.height;
  fits = h.fits;
  only = λ y r s _. let i = bound_there ts none y r s in
      let u = h.only i.0 i.1 i.3 in
      (i.5 ∙ ap (λ z. Some z) u.0, (same_token _ _ i.2 at cur r rest (subst (λ z. Own (kind.Punctuator sign.BracketClose) i.2 z r) u.1 i.4) own).2);
}

pub bound_is_begun : (c : List Token) (y : Option Tree) (t r : List Token) → SpellsClosedBound None y t r → SpellsClosedBound (Some c) y t r
bound_is_begun c None t r s = (s.0, s.1, mark_begun c _ s.0 r s.2)
bound_is_begun c (Some e) t r s = (s.0, (s.1.0, whole_is_begun c e t s.0 s.1.1), mark_begun c _ s.0 r s.2)

pub bound_reaches : (y : Option Tree) (t r : List Token) → SpellsClosedBound None y t r → Reaches t r
bound_reaches None t r s = reaches_on t s.0 r ([], s.1) (mark_reaches _ s.0 r s.2)
bound_reaches (Some e) t r s = reaches_on t s.0 r (whole_reaches e t s.0 s.1.1) (mark_reaches _ s.0 r s.2)
