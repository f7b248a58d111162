-- The parts of statements as sorts, and how they follow each other.
use Rattle.std.specs.Prelude.{Option, None, Some}
use Rattle.std.proofs.Common.{◌≡◌, ℕ, ◌≤◌, true, false, max, inl, inr, List, refl, sym, ap, subst, arith}
use Rattle.srcset.specs.declared.refusal.Pos.{Pos}
use Rattle.lexer.specs.declared.token.Token.{Token}
use Rattle.lexer.specs.declared.token.Kind.{Kind}
use Rattle.lexer.specs.declared.token.Kind.TheVariants as kind
use Rattle.lexer.specs.declared.token.Keyword.TheVariants as keyword
use Rattle.lexer.specs.declared.token.Punctuator.{Punctuator}
use Rattle.lexer.specs.declared.token.Punctuator.TheVariants as sign
use Rattle.tree.specs.Tree.{Tree, hole, StartTree, expression_start, declaration_start, DeclarationTree}
use Rattle.tree.specs.Counts.{depth, option_depth, start_depth, declaration_depth}
use Rattle.parser_grammar.specs.declared.refusal.Refusal.{Refusal}
use Rattle.parser_grammar.specs.declared.refusal.Refusal.TheVariants.{Syntax, Depth, Memory}
use Rattle.parser_grammar.specs.declared.scope.Scope.TheVariants.{Block}
use Rattle.parser_grammar.specs.Expressions.{layer, Spells}
use Rattle.parser_grammar.specs.Tokens.{Own, Mark, Sign, NotFront}
use Rattle.parser_grammar.specs.Declarations.{SpellsDeclaration}
use Rattle.parser_grammar.specs.Statements.{SpellsTest, SpellsStart}
use Rattle.parser_grammar.specs.layer.Answer.{Excuses, ReadsOf, FailsOf, StandsOf, Anywhere}
use Rattle.parser_expressions.specs.ExpressionAnswers.{sign_power, power, Stops, Reads, Fails, Stands}
use Rattle.parser_declarations.specs.DeclarationAnswers.{BeginsDeclaration}
use Rattle.parser.specs.inside.StmtParts.{EndsExpression, SpellsClosed, SpellsEnded, SpellsDoEnd, ForHeadTree, SpellsForHeadParts, SpellsForHead, for_head_depth}
use Rattle.parser_grammar.proofs.Tokens.{own_once, mark_own, mark_begun, mark_reaches, reaches_on}
use Rattle.parser_grammar.proofs.ExpressionBegun.{whole_is_begun, whole_reaches}
use Rattle.parser.proofs.StmtSequence.{Sort, Whole, Pairs, pair_reads, pair_first_fails, pair_second_fails, pair_first_stands, pair_second_stands}
use Rattle.parser_declarations.proofs.DeclarationFacts.{declaration_begins}
use Rattle.parser.proofs.StmtLeading.{own_tag, whole_tagged, declaration_tagged, no_expression_declares}
use Rattle.parser_grammar.proofs.UnitBegun.{option_is_begun, option_reaches, start_is_begun, start_reaches}

-- ---- expressions of a layer

pub record Layered (n : ℕ) (o : Option (List Token)) (e : Tree) (ts rest : List Token) : Type 0 where
  pub tight : n ≤ layer e
  pub spelled : Spells o e ts rest

abbrev pub expr_sort : ℕ → Sort Tree
expr_sort n = record { spells = Layered n; ends = λ e r. Stops n r; height = depth }

pub expr_reads : (n d : ℕ) (ts : List Token) (e : Tree) (k : ℕ) (rest : List Token) → Reads n d ts e k rest → ReadsOf (Layered n None) (λ x r. Stops n r) depth
    d ts e k rest
expr_reads n d ts e k rest h = record {
  spelled = record { tight = h.tight; spelled = h.spells };
  tall = h.height;
  fits = h.fits;
  only = λ t r sp en. h.only t r (record { tight = sp.tight; spells = sp.spelled; stops = en });
}

pub expr_fails : (n d : ℕ) (ts : List Token) (f : Refusal) → Fails n d ts f → FailsOf (Layered n None) (λ x r. Stops n r) depth d ts f
expr_fails n d ts f h = record { each = λ t r sp en. h.each t r (record { tight = sp.tight; spells = sp.spelled; stops = en }) }

pub expr_stands : (n d : ℕ) (ts : List Token) (f : Refusal) → Stands n d ts f → StandsOf (Layered n) depth d ts f
expr_stands n d ts (Syntax at) h = tt
expr_stands n d ts Memory h = tt
expr_stands n d ts (Depth at) h = record {
  tree = h.tree;
  cut = h.cut;
  last = h.last;
  spelled = record { tight = h.tight; spelled = h.spells };
  reaches = h.ends;
  deep = h.deep;
}

pub expr_whole : (n : ℕ) → Whole (expr_sort n)
expr_whole n = record {
  begun = λ c e ts r h. record { tight = h.tight; spelled = whole_is_begun c e ts r h.spelled };
  reaches = λ e ts r h. whole_reaches e ts r h.spelled;
}

stops_own : (n : ℕ) (k : Kind) (at : Pos) (ts rest : List Token) → Own k at ts rest → power k ≤ n → Stops n ts
stops_own n k at ts rest own le = subst (Stops n) (sym own) le

-- ---- marks

abbrev pub mark_sort : Kind → Sort (Unit {0})
mark_sort k = record { spells = λ o x ts r. Mark o k ts r; ends = λ x r. Unit {0}; height = λ x. 0 }

pub mark_reads : (k : Kind) (d : ℕ) (at : Pos) (ts rest : List Token) → Own k at ts rest → d ≤ 256 → ReadsOf {A = Unit {0}} (λ x us r. Mark None k us r)
    (λ x r. Unit {0}) (λ x. 0) d ts (tt {0}) 0 rest
mark_reads k d at ts rest own le = record {
  spelled = inl (at, own);
  tall = refl;
  fits = omega (arith, le);
  only = λ y r sp en. (refl, let m = mark_own k ts r sp in (own_once k m.0 at ts r rest m.1 own).1);
}

pub mark_fails : (k : Kind) (d : ℕ) (ts : List Token) (f : Refusal) → NotFront k ts → FailsOf {A = Unit {0}} (λ x us r. Mark None k us r) (λ x r. Unit {0})
    (λ x. 0) d ts f
mark_fails k d ts f none = record { each = λ y r sp en. let m = mark_own k ts r sp in absurd (none m.0 r m.1) }

pub mark_whole : (k : Kind) → Whole (mark_sort k)
mark_whole k = record { begun = λ c x ts r h. mark_begun c k ts r h; reaches = λ x ts r h. mark_reaches k ts r h }

-- ---- an expression and a sign

abbrev pub closed_sort : Punctuator → Sort Tree
closed_sort s = record { spells = SpellsClosed s; ends = λ e r. Unit {0}; height = depth }

closes_power : (s : Punctuator) → EndsExpression s → sign_power s ≤ 0
closes_power sign.Semicolon h = omega arith
closes_power sign.ParenClose h = omega arith
closes_power s h = absurd h

pub closed_pairs : (s : Punctuator) → EndsExpression s → Pairs (expr_sort 0) (mark_sort (kind.Punctuator s)) (closed_sort s) (λ e x. e)
closed_pairs s closes = record {
  builds = λ o e x ts mid r h i. (mid, h.spelled, i);
  splits = λ e ts r sp en. record {
    left = e;
    right = tt;
    mid = sp.0;
    spells_left = record { tight = omega arith; spelled = sp.1 };
    ends_left = let m = mark_own
        (kind.Punctuator s) sp.0 r sp.2 in stops_own 0 (kind.Punctuator s) m.0 sp.0 r m.1 (closes_power s closes);
    spells_right = sp.2;
    ends_right = tt;
    same = refl;
  };
  tall = λ e x. omega arith;
}

pub closed_whole : (s : Punctuator) → Whole (closed_sort s)
closed_whole s = record {
  begun = λ c e ts r h. (h.0, whole_is_begun c e ts h.0 h.1, mark_begun c _ _ _ h.2);
  reaches = λ e ts r h. reaches_on ts h.0 r (whole_reaches e ts h.0 h.1) (mark_reaches _ _ _ h.2);
}

-- ---- an expression in parentheses

abbrev pub test_sort : Sort Tree
test_sort = record { spells = SpellsTest; ends = λ e r. Unit {0}; height = depth }

pub test_pairs : Pairs (mark_sort (kind.Punctuator sign.ParenOpen)) (closed_sort sign.ParenClose) test_sort (λ x e. e)
test_pairs = record {
  builds = λ o x e ts mid r h i. (mid, i.0, h, i.1, i.2);
  splits = λ e ts r sp en. record {
    left = tt;
    right = e;
    mid = sp.0;
    spells_left = sp.2;
    ends_left = tt;
    spells_right = (sp.1, sp.3, sp.4);
    ends_right = tt;
    same = refl;
  };
  tall = λ x e. omega arith;
}

pub test_whole : Whole test_sort
test_whole = record {
  begun = λ c e ts r h. (h.0, h.1, mark_begun c _ _ _ h.2, whole_is_begun c e h.0 h.1 h.3, mark_begun c _ _ _ h.4);
  reaches = λ e ts r h. reaches_on ts h.0 r (mark_reaches _ _ _ h.2) (reaches_on h.0 h.1 r (whole_reaches e h.0 h.1 h.3) (mark_reaches _ _ _ h.4));
}

pub hole_test : (cut : List Token) → SpellsTest (Some cut) hole cut cut
hole_test cut = (cut, cut, inr (refl, refl), (refl, refl), inr (refl, refl))

-- ---- the end of a do statement

pub record TestEnd (o : Option (List Token)) (e : Tree) (ts rest : List Token) : Type 0 where
  pub mid : List Token
  pub test : SpellsTest o e ts mid
  pub end : Sign o sign.Semicolon mid rest

abbrev pub test_end_sort : Sort Tree
test_end_sort = record { spells = TestEnd; ends = λ e r. Unit {0}; height = depth }

pub test_end_pairs : Pairs test_sort (mark_sort (kind.Punctuator sign.Semicolon)) test_end_sort (λ e x. e)
test_end_pairs = record {
  builds = λ o e x ts mid r h i. record { mid = mid; test = h; end = i };
  splits = λ e ts r sp en. record {
    left = e;
    right = tt;
    mid = sp.mid;
    spells_left = sp.test;
    ends_left = tt;
    spells_right = sp.end;
    ends_right = tt;
    same = refl;
  };
  tall = λ e x. omega arith;
}

abbrev pub do_end_sort : Sort Tree
do_end_sort = record { spells = SpellsDoEnd; ends = λ e r. Unit {0}; height = depth }

pub do_end_pairs : Pairs (mark_sort (kind.Keyword keyword.While)) test_end_sort do_end_sort (λ x e. e)
do_end_pairs = record {
  builds = λ o x e ts mid r h i. (mid, i.mid, h, i.test, i.end);
  splits = λ e ts r sp en. record {
    left = tt;
    right = e;
    mid = sp.0;
    spells_left = sp.2;
    ends_left = tt;
    spells_right = record
        { mid = sp.1; test = sp.3; end = sp.4 };
    ends_right = tt;
    same = refl;
  };
  tall = λ x e. omega arith;
}

pub hole_do_end : (cut : List Token) → SpellsDoEnd (Some cut) hole cut cut
hole_do_end cut = (cut, cut, inr (refl, refl), hole_test cut, inr (refl, refl))

-- ---- an expression or nothing, and a sign

abbrev pub ended_sort : Punctuator → Sort (Option Tree)
ended_sort s = record { spells = SpellsEnded s; ends = λ e r. Unit {0}; height = option_depth }

closes_begin : (s : Punctuator) (e : Tree) (at : Pos) (ts us r : List Token) → EndsExpression s → Own (kind.Punctuator s) at ts us → Spells None e ts r → ⊥
closes_begin sign.Semicolon e at ts us r h own sp = let x : 2 ≡ 15 = own_tag 15 (kind.Punctuator sign.Semicolon) at ts us own (whole_tagged e ts r sp) in
    omega (arith, x)
closes_begin sign.ParenClose e at ts us r h own sp = let x : 0 ≡ 15 = own_tag 15 (kind.Punctuator sign.ParenClose) at ts us own (whole_tagged e ts r sp) in
    omega (arith, x)
closes_begin s e at ts us r h own sp = absurd h

pub ended_none : (s : Punctuator) (d : ℕ) (at : Pos) (ts rest : List Token) → EndsExpression s → Own (kind.Punctuator s) at ts rest → d ≤ 256 →
    ReadsOf (SpellsEnded s None) (λ e r. Unit {0}) option_depth d ts None 0 rest
ended_none s d at ts rest closes own le = record {
  spelled = (ts, refl, inl (at, own));
  tall = refl;
  fits = omega (arith, le);
  only = λ e r sp en. each e r sp;
}
  where
    each : (e : Option Tree) (r : List Token) → SpellsEnded s None e ts r → (e ≡ None) × (r ≡ rest)
    each None r sp = (
      refl,
      let m = mark_own (kind.Punctuator s) sp.0 r sp.2 in
          (own_once (kind.Punctuator s) m.0 at ts r rest (subst (λ x. Own (kind.Punctuator s) m.0 x r) (sym sp.1) m.1) own).1,
    )
    each (Some e) r sp = absurd (closes_begin s e at ts rest sp.0 closes own sp.1)

pub ended_some : (s : Punctuator) (d : ℕ) (ts : List Token) (e : Tree) (k : ℕ) (rest : List Token) → NotFront (kind.Punctuator s) ts →
    ReadsOf (SpellsClosed s None) (λ x r. Unit {0}) depth d ts e k rest → ReadsOf (SpellsEnded s None) (λ x r. Unit {0}) option_depth d ts (Some e) k rest
ended_some s d ts e k rest none h = record {
  spelled = h.spelled;
  tall = h.tall;
  fits = h.fits;
  only = λ x r sp en. each x r sp;
}
  where
    each : (x : Option Tree) (r : List Token) → SpellsEnded s None x ts r → (x ≡ Some e) × (r ≡ rest)
    each None r sp = let m = mark_own (kind.Punctuator s) sp.0 r sp.2 in absurd (none m.0 r (subst (λ x. Own (kind.Punctuator s) m.0 x r) (sym sp.1) m.1))
    each (Some x) r sp = let u = h.only x r sp tt in (ap Some u.0, u.1)

pub ended_fails : (s : Punctuator) (d : ℕ) (ts : List Token) (f : Refusal) → NotFront (kind.Punctuator s) ts → FailsOf (SpellsClosed s None) (λ x r. Unit {0})
    depth d ts f → FailsOf (SpellsEnded s None) (λ x r. Unit {0}) option_depth d ts f
ended_fails s d ts f none h = record { each = λ x r sp en. each x r sp }
  where
    each : (x : Option Tree) (r : List Token) → SpellsEnded s None x ts r → Excuses f d (option_depth x)
    each None r sp = let m = mark_own (kind.Punctuator s) sp.0 r sp.2 in absurd (none m.0 r (subst (λ x. Own (kind.Punctuator s) m.0 x r) (sym sp.1) m.1))
    each (Some x) r sp = h.each x r sp tt

pub ended_stands : (s : Punctuator) (d : ℕ) (ts : List Token) (f : Refusal) → StandsOf (SpellsClosed s) depth d ts f → StandsOf (SpellsEnded s) option_depth d
    ts f
ended_stands s d ts (Syntax at) h = tt
ended_stands s d ts Memory h = tt
ended_stands s d ts (Depth at) h = record { tree = Some h.tree; cut = h.cut; last = h.last; spelled = h.spelled; reaches = h.reaches; deep = h.deep }

pub ended_whole : (s : Punctuator) → Whole (ended_sort s)
ended_whole s = record {
  begun = λ c e ts r h. (h.0, option_is_begun c e ts h.0 h.1, mark_begun c _ _ _ h.2);
  reaches = λ e ts r h. reaches_on ts h.0 r (option_reaches e ts h.0 h.1) (mark_reaches _ _ _ h.2);
}

pub none_ended : (s : Punctuator) (cut : List Token) → SpellsEnded s (Some cut) None cut cut
none_ended s cut = (cut, refl, inr (refl, refl))

-- ---- the first part of a for statement

abbrev pub start_sort : Sort StartTree
start_sort = record { spells = SpellsStart; ends = λ e r. Unit {0}; height = start_depth }

-- it is a declaration
pub start_local_reads : (d : ℕ) (ts : List Token) (x : DeclarationTree) (k : ℕ) (rest : List Token) → BeginsDeclaration ts →
    ReadsOf (SpellsDeclaration None Block) Anywhere declaration_depth d ts x k rest → ReadsOf (SpellsStart None) (λ e r. Unit {0}) start_depth d ts
    (declaration_start x) k rest
start_local_reads d ts x k rest b h = record { spelled = h.spelled; tall = h.tall; fits = h.fits; only = λ u r sp en. each u r sp }
  where
    each : (u : StartTree) (r : List Token) → SpellsStart None u ts r → (u ≡ declaration_start x) × (r ≡ rest)
    each (expression_start None) r sp = let m = mark_own (kind.Punctuator sign.Semicolon) sp.0 r sp.2 in
        let e : 2 ≡ 14 = own_tag 14 (kind.Punctuator sign.Semicolon) m.0 ts r (subst (λ y. Own (kind.Punctuator sign.Semicolon) m.0 y r) (sym sp.1) m.1)
        (declaration_tagged ts b) in absurd (omega (arith, e))
    each (expression_start (Some e)) r sp = absurd (no_expression_declares e ts sp.0 b sp.1)
    each (declaration_start y) r sp = let u = h.only y r sp tt in (ap declaration_start u.0, u.1)

pub start_local_fails : (d : ℕ) (ts : List Token) (f : Refusal) → BeginsDeclaration ts → FailsOf (SpellsDeclaration None Block) Anywhere declaration_depth d ts
    f → FailsOf (SpellsStart None) (λ e r. Unit {0}) start_depth d ts f
start_local_fails d ts f b h = record { each = λ u r sp en. each u r sp }
  where
    each : (u : StartTree) (r : List Token) → SpellsStart None u ts r → Excuses f d (start_depth u)
    each (expression_start None) r sp = let m = mark_own (kind.Punctuator sign.Semicolon) sp.0 r sp.2 in
        let e : 2 ≡ 14 = own_tag 14 (kind.Punctuator sign.Semicolon) m.0 ts r (subst (λ y. Own (kind.Punctuator sign.Semicolon) m.0 y r) (sym sp.1) m.1)
        (declaration_tagged ts b) in absurd (omega (arith, e))
    each (expression_start (Some e)) r sp = absurd (no_expression_declares e ts sp.0 b sp.1)
    each (declaration_start y) r sp = h.each y r sp tt

pub start_local_stands : (d : ℕ) (ts : List Token) (f : Refusal) → StandsOf (λ b. SpellsDeclaration b Block) declaration_depth d ts f →
    StandsOf SpellsStart start_depth d ts f
start_local_stands d ts (Syntax at) h = tt
start_local_stands d ts Memory h = tt
start_local_stands d ts (Depth at) h = record {
  tree = declaration_start h.tree;
  cut = h.cut;
  last = h.last;
  spelled = h.spelled;
  reaches = h.reaches;
  deep = h.deep;
}

-- it is an expression or nothing
pub start_with_reads : (d : ℕ) (ts : List Token) (x : Option Tree) (k : ℕ) (rest : List Token) → (BeginsDeclaration ts → ⊥) →
    ReadsOf (SpellsEnded sign.Semicolon None) Anywhere option_depth d ts x k rest → ReadsOf (SpellsStart None) (λ e r. Unit {0}) start_depth d ts
    (expression_start x) k rest
start_with_reads d ts x k rest b h = record { spelled = h.spelled; tall = h.tall; fits = h.fits; only = λ u r sp en. each u r sp }
  where
    each : (u : StartTree) (r : List Token) → SpellsStart None u ts r → (u ≡ expression_start x) × (r ≡ rest)
    each (expression_start e) r sp = let u = h.only e r sp tt in (ap expression_start u.0, u.1)
    each (declaration_start y) r sp = absurd (b (declaration_begins Block y ts r sp))

pub start_with_fails : (d : ℕ) (ts : List Token) (f : Refusal) → (BeginsDeclaration ts → ⊥) → FailsOf (SpellsEnded sign.Semicolon None) Anywhere option_depth d
    ts f → FailsOf (SpellsStart None) (λ e r. Unit {0}) start_depth d ts f
start_with_fails d ts f b h = record { each = λ u r sp en. each u r sp }
  where
    each : (u : StartTree) (r : List Token) → SpellsStart None u ts r → Excuses f d (start_depth u)
    each (expression_start e) r sp = h.each e r sp tt
    each (declaration_start y) r sp = absurd (b (declaration_begins Block y ts r sp))

pub start_with_stands : (d : ℕ) (ts : List Token) (f : Refusal) → StandsOf (SpellsEnded sign.Semicolon) option_depth d ts f → StandsOf SpellsStart start_depth d
    ts f
start_with_stands d ts (Syntax at) h = tt
start_with_stands d ts Memory h = tt
start_with_stands d ts (Depth at) h = record {
  tree = expression_start h.tree;
  cut = h.cut;
  last = h.last;
  spelled = h.spelled;
  reaches = h.reaches;
  deep = h.deep;
}

pub start_whole : Whole start_sort
start_whole = record { begun = start_is_begun; reaches = start_reaches }

-- ---- the parentheses of a for statement

pub record Turning : Type 0 where
  pub test : Option Tree
  pub step : Option Tree

pub record SpellsTurning (o : Option (List Token)) (x : Turning) (ts rest : List Token) : Type 0 where
  pub mid : List Token
  pub one : SpellsEnded sign.Semicolon o x.test ts mid
  pub other : SpellsEnded sign.ParenClose o x.step mid rest

abbrev pub turning_sort : Sort Turning
turning_sort = record { spells = SpellsTurning; ends = λ e r. Unit {0}; height = λ x. max (option_depth x.test) (option_depth x.step) }

abbrev pub turning : Option Tree → Option Tree → Turning
turning a b = record { test = a; step = b }

pub turning_pairs : Pairs (ended_sort sign.Semicolon) (ended_sort sign.ParenClose) turning_sort turning
turning_pairs = record {
  builds = λ o a b ts mid r h i. record { mid = mid; one = h; other = i };
  splits = λ x ts r sp en. record {
    left = x.test;
    right = x.step;
    mid = sp.mid;
    spells_left = sp.one;
    ends_left = tt;
    spells_right = sp.other;
    ends_right = tt;
    same = refl;
  };
  tall = λ a b. refl;
}

abbrev pub head_parts_sort : Sort ForHeadTree
head_parts_sort = record { spells = SpellsForHeadParts; ends = λ e r. Unit {0}; height = for_head_depth }

abbrev pub head_with : StartTree → Turning → ForHeadTree
head_with s x = record { start = s; test = x.test; step = x.step }

pub head_parts_pairs : Pairs start_sort turning_sort head_parts_sort head_with
head_parts_pairs = record {
  builds = λ o s x ts mid r h i. (mid, i.mid, h, i.one, i.other);
  splits = λ x ts r sp en. record {
    left = x.start;
    right = turning x.test x.step;
    mid = sp.0;
    spells_left = sp.2;
    ends_left = tt;
    spells_right = record
        { mid = sp.1; one = sp.3; other = sp.4 };
    ends_right = tt;
    same = refl;
  };
  tall = λ s x. refl;
}

abbrev pub for_head_sort : Sort ForHeadTree
for_head_sort = record { spells = SpellsForHead; ends = λ e r. Unit {0}; height = for_head_depth }

pub for_head_pairs : Pairs (mark_sort (kind.Punctuator sign.ParenOpen)) head_parts_sort for_head_sort (λ u h. h)
for_head_pairs = record {
  builds = λ o u x ts mid r h i. (mid, h, i);
  splits = λ x ts r sp en. record { left = tt; right = x; mid = sp.0; spells_left = sp.1; ends_left = tt; spells_right = sp.2; ends_right = tt; same = refl };
  tall = λ u x. omega arith;
}

pub for_head_whole : Whole for_head_sort
for_head_whole = record {
  begun = λ c x ts r h. (
    h.0,
    mark_begun c _ _ _ h.1,
    (
      h.2.0,
      h.2.1,
      start_is_begun c x.start h.0 h.2.0 h.2.2,
      (ended_whole sign.Semicolon).begun c x.test h.2.0
          h.2.1 h.2.3,
      (ended_whole sign.ParenClose).begun c x.step h.2.1 r h.2.4,
    ),
  );
  reaches = λ x ts r h. reaches_on ts h.0 r (mark_reaches _ _ _ h.1) (reaches_on h.0 h.2.0 r (start_reaches x.start h.0 h.2.0 h.2.2)
      (reaches_on h.2.0 h.2.1 r ((ended_whole sign.Semicolon).reaches x.test h.2.0 h.2.1 h.2.3) ((ended_whole sign.ParenClose).reaches x.step h.2.1 r h.2.4)));
}

pub gap_turning : (cut : List Token) → SpellsTurning (Some cut) (turning None None) cut cut
gap_turning cut = record { mid = cut; one = none_ended sign.Semicolon cut; other = none_ended sign.ParenClose cut }

pub gap_head_parts : (cut : List Token) → SpellsForHeadParts (Some cut) (head_with (expression_start None) (turning None None)) cut cut
gap_head_parts cut = (cut, cut, none_ended sign.Semicolon cut, none_ended sign.Semicolon cut, none_ended sign.ParenClose cut)

pub gap_head : (cut : List Token) → SpellsForHead (Some cut) (head_with (expression_start None) (turning None None)) cut cut
gap_head cut = (cut, inr (refl, refl), gap_head_parts cut)

-- ---- the exits of the functions that read these parts

pub not_true : false ≡ true → ⊥
not_true e = cc

pub test_fails : (d : ℕ) (at : Pos) (ts us : List Token) (f : Refusal) → d ≤ 256 → Own (kind.Punctuator sign.ParenOpen) at ts us →
    FailsOf (SpellsClosed sign.ParenClose None) Anywhere depth d us f → FailsOf (SpellsTest None) Anywhere depth d ts f
test_fails d at ts us f le own h = pair_second_fails _ _ _ _ test_pairs d ts tt 0 us f (mark_reads (kind.Punctuator sign.ParenOpen) d at ts us own le) h

pub test_stands : (d : ℕ) (at : Pos) (ts us : List Token) (f : Refusal) → d ≤ 256 → Own (kind.Punctuator sign.ParenOpen) at ts us →
    StandsOf (SpellsClosed sign.ParenClose) depth d us f → StandsOf SpellsTest depth d ts f
test_stands d at ts us f le own h = pair_second_stands _ _ _ _ test_pairs (mark_whole (kind.Punctuator sign.ParenOpen)) d ts tt 0 us f
    (mark_reads (kind.Punctuator sign.ParenOpen) d at ts us own le) h

pub test_reads : (d : ℕ) (at : Pos) (ts us : List Token) (e : Tree) (k : ℕ) (rest : List Token) → d ≤ 256 → Own (kind.Punctuator sign.ParenOpen) at ts us →
    ReadsOf (SpellsClosed sign.ParenClose None) Anywhere depth d us e k rest → ReadsOf (SpellsTest None) Anywhere depth d ts e k rest
test_reads d at ts us e k rest le own h = pair_reads _ _ _ _ test_pairs d ts tt 0 us e k rest k (mark_reads (kind.Punctuator sign.ParenOpen) d at ts us own le)
    h (omega arith)

pub do_end_test_fails : (d : ℕ) (at : Pos) (ts us : List Token) (f : Refusal) → d ≤ 256 → Own (kind.Keyword keyword.While) at ts us →
    FailsOf (SpellsTest None) Anywhere depth d us f → FailsOf (SpellsDoEnd None) Anywhere depth d ts f
do_end_test_fails d at ts us f le own h = pair_second_fails _ _ _ _ do_end_pairs d ts tt 0 us f (mark_reads (kind.Keyword keyword.While) d at ts us own le)
    (pair_first_fails _ _ _ _ test_end_pairs d us f h)

pub do_end_test_stands : (d : ℕ) (at : Pos) (ts us : List Token) (f : Refusal) → d ≤ 256 → Own (kind.Keyword keyword.While) at ts us →
    StandsOf SpellsTest depth d us f → StandsOf SpellsDoEnd depth d ts f
do_end_test_stands d at ts us f le own h = pair_second_stands _ _ _ _ do_end_pairs (mark_whole (kind.Keyword keyword.While)) d ts tt 0 us f
    (mark_reads (kind.Keyword keyword.While) d at ts us own le) (pair_first_stands _ _ _ _ test_end_pairs tt (λ cut. inr (refl, refl)) d us f h)

pub do_end_no_sign : (d : ℕ) (at : Pos) (ts us : List Token) (e : Tree) (k : ℕ) (mid : List Token) (f : Refusal) → d ≤ 256 → Own (kind.Keyword keyword.While) at
    ts us → ReadsOf (SpellsTest None) Anywhere depth d us e k mid → NotFront (kind.Punctuator sign.Semicolon) mid → FailsOf (SpellsDoEnd None) Anywhere depth d
    ts f
do_end_no_sign d at ts us e k mid f le own h none = pair_second_fails _ _ _ _ do_end_pairs d ts tt 0 us f
    (mark_reads (kind.Keyword keyword.While) d at ts us own le) (pair_second_fails _ _ _ _ test_end_pairs d us e k mid f h
    (mark_fails (kind.Punctuator sign.Semicolon) d mid f none))

pub do_end_reads : (d : ℕ) (at q : Pos) (ts us : List Token) (e : Tree) (k : ℕ) (mid rest : List Token) → d ≤ 256 → Own (kind.Keyword keyword.While) at ts us →
    ReadsOf (SpellsTest None) Anywhere depth d us e k mid → Own (kind.Punctuator sign.Semicolon) q mid rest → ReadsOf (SpellsDoEnd None) Anywhere depth d ts e k
    rest
do_end_reads d at q ts us e k mid rest le own h end = pair_reads _ _ _ _ do_end_pairs d ts tt 0 us e k rest k
    (mark_reads (kind.Keyword keyword.While) d at ts us own le) (pair_reads _ _ _ _ test_end_pairs d us e k mid tt 0 rest k h
    (mark_reads (kind.Punctuator sign.Semicolon) d q mid rest end le) (omega arith)) (omega arith)

pub head_start_stands : (d : ℕ) (at : Pos) (ts us : List Token) (f : Refusal) → d ≤ 256 → Own (kind.Punctuator sign.ParenOpen) at ts us →
    StandsOf SpellsStart start_depth d us f → StandsOf SpellsForHead for_head_depth d ts f
head_start_stands d at ts us f le own h = pair_second_stands _ _ _ _ for_head_pairs (mark_whole (kind.Punctuator sign.ParenOpen)) d ts tt 0 us f
    (mark_reads (kind.Punctuator sign.ParenOpen) d at ts us own le) (pair_first_stands _ _ _ _ head_parts_pairs (turning None None) gap_turning d us f h)

abbrev ReadsStart : ℕ → List Token → StartTree → ℕ → List Token → Type 0
ReadsStart d ts s k rest = ReadsOf (SpellsStart None) Anywhere start_depth d ts s k rest

abbrev ReadsEnded : Punctuator → ℕ → List Token → Option Tree → ℕ → List Token → Type 0
ReadsEnded s d ts e k rest = ReadsOf (SpellsEnded s None) Anywhere option_depth d ts e k rest

pub head_test_fails : (d : ℕ) (at : Pos) (ts us : List Token) (s : StartTree) (k : ℕ) (mid : List Token) (f : Refusal) → d ≤ 256 →
    Own (kind.Punctuator sign.ParenOpen) at ts us → ReadsStart d us s k mid → FailsOf (SpellsEnded sign.Semicolon None) Anywhere option_depth d mid f →
    FailsOf (SpellsForHead None) Anywhere for_head_depth d ts f
head_test_fails d at ts us s k mid f le own h bad = pair_second_fails _ _ _ _ for_head_pairs d ts tt 0 us f
    (mark_reads (kind.Punctuator sign.ParenOpen) d at ts us own le) (pair_second_fails _ _ _ _ head_parts_pairs d us s k mid f h
    (pair_first_fails _ _ _ _ turning_pairs d mid f bad))

pub head_test_stands : (d : ℕ) (at : Pos) (ts us : List Token) (s : StartTree) (k : ℕ) (mid : List Token) (f : Refusal) → d ≤ 256 →
    Own (kind.Punctuator sign.ParenOpen) at ts us → ReadsStart d us s k mid → StandsOf (SpellsEnded sign.Semicolon) option_depth d mid f →
    StandsOf SpellsForHead for_head_depth d ts f
head_test_stands d at ts us s k mid f le own h bad = pair_second_stands _ _ _ _ for_head_pairs (mark_whole (kind.Punctuator sign.ParenOpen)) d ts tt 0 us f
    (mark_reads (kind.Punctuator sign.ParenOpen) d at ts us own le) (pair_second_stands _ _ _ _ head_parts_pairs start_whole d us s k mid f h
    (pair_first_stands _ _ _ _ turning_pairs None (none_ended sign.ParenClose) d mid f bad))

pub head_step_fails : (d : ℕ) (at : Pos) (ts us : List Token) (s : StartTree) (k : ℕ) (mid : List Token) (e : Option Tree) (j : ℕ) (next : List Token)
    (f : Refusal) → d ≤ 256 → Own (kind.Punctuator sign.ParenOpen) at ts us → ReadsStart d us s k mid → ReadsEnded sign.Semicolon d mid e j next →
    FailsOf (SpellsEnded sign.ParenClose None) Anywhere option_depth d next f → FailsOf (SpellsForHead None) Anywhere for_head_depth d ts f
head_step_fails d at ts us s k mid e j next f le own h i bad = pair_second_fails _ _ _ _ for_head_pairs d ts tt 0 us f
    (mark_reads (kind.Punctuator sign.ParenOpen) d at ts us own le) (pair_second_fails _ _ _ _ head_parts_pairs d us s k mid f h
    (pair_second_fails _ _ _ _ turning_pairs d mid e j next f i bad))

pub head_step_stands : (d : ℕ) (at : Pos) (ts us : List Token) (s : StartTree) (k : ℕ) (mid : List Token) (e : Option Tree) (j : ℕ) (next : List Token)
    (f : Refusal) → d ≤ 256 → Own (kind.Punctuator sign.ParenOpen) at ts us → ReadsStart d us s k mid → ReadsEnded sign.Semicolon d mid e j next →
    StandsOf (SpellsEnded sign.ParenClose) option_depth d next f → StandsOf SpellsForHead for_head_depth d ts f
head_step_stands d at ts us s k mid e j next f le own h i bad = pair_second_stands _ _ _ _ for_head_pairs (mark_whole (kind.Punctuator sign.ParenOpen)) d ts tt
    0 us f (mark_reads (kind.Punctuator sign.ParenOpen) d at ts us own le) (pair_second_stands _ _ _ _ head_parts_pairs start_whole d us s k mid f h
    (pair_second_stands _ _ _ _ turning_pairs (ended_whole sign.Semicolon) d mid e j next f i bad))

pub head_reads_all : (d : ℕ) (at : Pos) (ts us : List Token) (s : StartTree) (k : ℕ) (mid : List Token) (e : Option Tree) (j : ℕ) (next : List Token)
    (x : Option Tree) (l : ℕ) (rest : List Token) (m : ℕ) → d ≤ 256 → Own (kind.Punctuator sign.ParenOpen) at ts us → ReadsStart d us s k mid →
    ReadsEnded sign.Semicolon d mid e j next → ReadsEnded sign.ParenClose d next x l rest → m ≡ max k (max j l) → ReadsOf (SpellsForHead None) Anywhere
    for_head_depth d ts (record { start = s; test = e; step = x }) m rest
head_reads_all d at ts us s k mid e j next x l rest m le own h i n em =
    pair_reads _ _ _ _ for_head_pairs d ts tt 0 us (record { start = s; test = e; step = x }) m rest m (mark_reads (kind.Punctuator sign.ParenOpen) d at ts us
    own le)
    (pair_reads _ _ _ _ head_parts_pairs d us s k mid (turning e x) (max j l) rest m h (pair_reads _ _ _ _ turning_pairs d mid e j next x l rest (max j l) i n
    refl) em) (omega arith)
