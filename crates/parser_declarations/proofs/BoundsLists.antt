-- Sizes, each in brackets.
use Rattle.std.specs.Prelude.{Option, None, Some, max}
use Rattle.std.proofs.Common.{◌≡◌, ℕ, ◌≤◌, inl, List, [], ◌∷◌, ◌++◌, refl, sym, ap, ◌∙◌, subst, arith}
use Rattle.srcset.specs.declared.refusal.Pos.{Pos}
use Rattle.lexer.specs.declared.token.Token.{Token}
use Rattle.lexer.specs.declared.token.Kind.TheVariants as kind
use Rattle.lexer.specs.declared.token.Punctuator.TheVariants as sign
use Rattle.tree.specs.Tree.{Tree}
use Rattle.tree.specs.Counts.{option_depth, sizes_depth}
use Rattle.parser_grammar.specs.declared.refusal.Refusal.{Refusal}
use Rattle.parser_grammar.specs.declared.refusal.Refusal.TheVariants.{Syntax, Depth, Memory}
use Rattle.parser_grammar.specs.Tokens.{Own, Sign, NotFront}
use Rattle.parser_grammar.specs.Declarations.{SpellsBounds}
use Rattle.parser_grammar.specs.layer.Answer.{Excuses, ReadsOf, FailsOf, StandsOf, Anywhere}
use Rattle.parser_declarations.specs.inside.SpecifierAnswers.{EndsBounds}
use Rattle.parser_declarations.specs.inside.DeclarationParts.{SpellsClosedBound}
use Rattle.parser_grammar.proofs.Tokens.{same_token, mark_own, mark_begun, reaches_on, own_reaches}
use Rattle.parser_grammar.proofs.Series.{Chain, tallest, Going, going_starts, going_more, going_fails, going_ends, going_stands}
use Rattle.parser_declarations.proofs.BoundsParts.{bound_is_begun, bound_reaches}

-- the opening bracket, and the tokens after it
abbrev pub BracketThen : Option (List Token) → Option Tree → List Token → List Token → Type 0
BracketThen b e ts rest = (t : List Token) × Sign b sign.BracketOpen ts t × SpellsClosedBound b e t rest

pub bounds_chain : (b : Option (List Token)) (es : List (Option Tree)) (ts rest : List Token) → SpellsBounds b es ts rest → Chain (BracketThen b) es ts rest
bounds_chain b [] ts rest s = s
bounds_chain b (e ∷ es) ts rest s = (s.2, (s.0, s.3, (s.1, s.4, s.5)), bounds_chain b es s.2 rest s.6)

pub chain_bounds : (b : Option (List Token)) (es : List (Option Tree)) (ts rest : List Token) → Chain (BracketThen b) es ts rest → SpellsBounds b es ts rest
chain_bounds b [] ts rest s = s
chain_bounds b (e ∷ es) ts rest s = (s.1.0, s.1.2.0, s.0, s.1.1, s.1.2.1, s.1.2.2, chain_bounds b es s.0 rest s.2)

pub sizes_tallest : (es : List (Option Tree)) → sizes_depth es ≡ tallest option_depth es
sizes_tallest [] = refl
sizes_tallest (e ∷ es) = ap (λ z. max (option_depth e) z) (sizes_tallest es)

bracket_is_begun : (c : List Token) (y : Option Tree) (t r : List Token) → BracketThen None y t r → BracketThen (Some c) y t r
bracket_is_begun c y t r s = (s.0, mark_begun c _ t s.0 s.1, bound_is_begun c y s.0 r s.2)

bracket_reads : (d : ℕ) (cur us : List Token) (at : Pos) (x : Option Tree) (k : ℕ) (rest : List Token) → Own (kind.Punctuator sign.BracketOpen) at cur us →
    ReadsOf (SpellsClosedBound None) Anywhere option_depth d us x k rest → ReadsOf (BracketThen None) Anywhere option_depth d cur x k rest
bracket_reads d cur us at x k rest own read = record {
  spelled = (us, inl (at, own), read.spelled);
  tall = read.tall;
  fits = read.fits;
  only = λ y r s e.
      let o = mark_own _ cur s.0 s.1 in
      let u = same_token _ _ o.0 at cur s.0 us o.1 own in
      read.only y r (subst (λ z. SpellsClosedBound None y z r) u.2 s.2) tt;
}

bracket_fails : (d : ℕ) (cur us : List Token) (at : Pos) (f : Refusal) → Own (kind.Punctuator sign.BracketOpen) at cur us → FailsOf (SpellsClosedBound None)
    Anywhere option_depth d us f → FailsOf (BracketThen None) Anywhere option_depth d cur f
bracket_fails d cur us at f own bad = record {
  each = λ y r s e.
      let o = mark_own _ cur s.0 s.1 in
      let u = same_token _ _ o.0 at cur s.0 us o.1 own in
      bad.each y r (subst (λ z. SpellsClosedBound None y z r) u.2 s.2) tt;
}

bracket_stands : (d : ℕ) (cur us : List Token) (at : Pos) (f : Refusal) → Own (kind.Punctuator sign.BracketOpen) at cur us →
    StandsOf SpellsClosedBound option_depth d us f → StandsOf BracketThen option_depth d cur f
bracket_stands d cur us at (Syntax p) own s = tt
bracket_stands d cur us at Memory own s = tt
bracket_stands d cur us at (Depth p) own s = record {
  tree = s.tree;
  cut = s.cut;
  last = s.last;
  spelled = (us, inl (at, own), s.spelled);
  reaches = reaches_on cur us _ (own_reaches _ at cur us own) s.reaches;
  deep = s.deep;
}

-- the loop invariant
abbrev pub BoundsLoop : ℕ → List Token → List (Option Tree) → ℕ → List Token → Type 0
BoundsLoop d ts xs k cur = Going BracketThen SpellsBounds EndsBounds option_depth d ts xs k cur

pub bounds_start : (d : ℕ) (ts : List Token) → d ≤ 256 → BoundsLoop d ts [] 0 ts
bounds_start d ts room = going_starts BracketThen SpellsBounds EndsBounds Anywhere option_depth d ts (λ m r s. chain_bounds None m ts r s)
    (λ c m r s. chain_bounds (Some c) m ts r s) (λ us r s. bounds_chain None us ts r s) room

pub bounds_more : (d : ℕ) (ts : List Token) (xs : List (Option Tree)) (k : ℕ) (cur us : List Token) (at : Pos) (x : Option Tree) (j : ℕ) (next : List Token)
    (n : ℕ) → Own (kind.Punctuator sign.BracketOpen) at cur us → BoundsLoop d ts xs k cur → ReadsOf (SpellsClosedBound None) Anywhere option_depth d us x j next
    → n ≡ max k j → BoundsLoop d ts (xs ++ x ∷ []) n next
bounds_more d ts xs k cur us at x j next n own g read en = going_more BracketThen SpellsBounds EndsBounds Anywhere option_depth d ts xs k cur x j next n
    (λ es none. none at us own) (λ es y r e. tt) (λ y z t r s. tt) bracket_is_begun
    (reaches_on cur us next (own_reaches _ at cur us own) (bound_reaches x us next read.spelled)) g (bracket_reads d cur us at x j next own read) en

pub bounds_fail : (d : ℕ) (ts : List Token) (xs : List (Option Tree)) (k : ℕ) (cur us : List Token) (at : Pos) (f : Refusal) →
    Own (kind.Punctuator sign.BracketOpen) at cur us → BoundsLoop d ts xs k cur → FailsOf (SpellsClosedBound None) Anywhere option_depth d us f →
    FailsOf (SpellsBounds None) EndsBounds sizes_depth d ts f
bounds_fail d ts xs k cur us at f own g bad =
    let h = going_fails BracketThen SpellsBounds EndsBounds Anywhere option_depth d ts xs k cur f (λ es none. none at us own) (λ es y r e. tt) (λ y z t r s. tt)
    g (bracket_fails d cur us at f own bad) in
    record { each = λ es r s e. subst (λ z. Excuses f d z) (sym (sizes_tallest es)) (h.each es r s e) }

pub bounds_stand : (d : ℕ) (ts : List Token) (xs : List (Option Tree)) (k : ℕ) (cur us : List Token) (at : Pos) (f : Refusal) →
    Own (kind.Punctuator sign.BracketOpen) at cur us → BoundsLoop d ts xs k cur → StandsOf SpellsClosedBound option_depth d us f →
    StandsOf SpellsBounds sizes_depth d ts f
bounds_stand d ts xs k cur us at f own g h = up f (going_stands BracketThen SpellsBounds EndsBounds Anywhere option_depth d ts xs k cur f g
    (bracket_stands d cur us at f own h))
  where
    up : (f : Refusal) → StandsOf SpellsBounds (tallest option_depth) d ts f → StandsOf SpellsBounds sizes_depth d ts f
    up (Syntax p) s = tt
    up Memory s = tt
    up (Depth p) s = record {
      tree = s.tree;
      cut = s.cut;
      last = s.last;
      spelled = s.spelled;
      reaches = s.reaches;
      deep = omega
          (arith, s.deep, sizes_tallest s.tree);
    }

pub bounds_end : (d : ℕ) (ts : List Token) (xs : List (Option Tree)) (k : ℕ) (cur : List Token) → NotFront (kind.Punctuator sign.BracketOpen) cur →
    BoundsLoop d ts xs k cur → ReadsOf (SpellsBounds None) EndsBounds sizes_depth d ts xs k cur
bounds_end d ts xs k cur none g =
    let h = going_ends BracketThen SpellsBounds EndsBounds Anywhere option_depth d ts xs k cur (λ y r s. let m = mark_own _ cur s.0 s.1 in none m.0 s.0 m.1) g
    in
    record { spelled = h.spelled; tall = h.tall ∙ sym (sizes_tallest xs); fits = h.fits; only = h.only }
