-- Parts in sequence: the result for two of them, and for a statement whose own token precedes them.
use Rattle.std.specs.Prelude.{Option, None, Some}
use Rattle.std.proofs.Common.{◌≡◌, ℕ, ◌+◌, ◌<◌, ◌≤◌, max, List, refl, sym, ap, ◌∙◌, subst, arith}
use Rattle.srcset.specs.declared.refusal.Pos.{Pos}
use Rattle.lexer.specs.declared.token.Token.{Token}
use Rattle.lexer.specs.declared.token.Kind.{Kind}
use Rattle.tree.specs.Tree.{StmtTree, stmt_hole}
use Rattle.tree.specs.Counts.{stmt_depth}
use Rattle.parser_grammar.specs.declared.refusal.Refusal.{Refusal}
use Rattle.parser_grammar.specs.declared.refusal.Refusal.TheVariants.{Syntax, Depth, Memory}
use Rattle.parser_grammar.specs.Tokens.{Own, Reaches}
use Rattle.parser_grammar.specs.Statements.{SpellsStmt}
use Rattle.parser_grammar.specs.layer.Answer.{ReadsOf, FailsOf, StandsOf}
use Rattle.parser.specs.inside.StatementAnswers.{EndsStmt}
use Rattle.parser_grammar.proofs.Tokens.{reaches_on, own_reaches, own_last}
use Rattle.parser_grammar.proofs.Exits.{excuses_grow}

-- trees of one sort: the tokens that they spell, where they end, how deep they are
pub record Sort (A : Type 0) : Type 1 where
  pub spells : Option (List Token) → A → List Token → List Token → Type 0
  pub ends : A → List Token → Type 0
  pub height : A → ℕ

-- further properties of a whole tree
pub record Whole {A : Type 0} (s : Sort A) : Type 0 where
  pub begun : (c : List Token) (x : A) (ts r : List Token) → s.spells None x ts r → s.spells (Some c) x ts r
  pub reaches : (x : A) (ts r : List Token) → s.spells None x ts r → Reaches ts r

pub record Split {A B C : Type 0} (a : Sort A) (b : Sort B) (w : A → B → C) (z : C) (ts r : List Token) : Type 0 where
  pub left : A
  pub right : B
  pub mid : List Token
  pub spells_left : a.spells None left ts mid
  pub ends_left : a.ends left mid
  pub spells_right : b.spells None right mid r
  pub ends_right : b.ends right r
  pub same : z ≡ w left right

-- a tree of the one sort and then one of the other make one of the third, and each of the third is so made
pub record Pairs {A B C : Type 0} (a : Sort A) (b : Sort B) (c : Sort C) (w : A → B → C) : Type 0 where
  pub builds : (o : Option (List Token)) (x : A) (y : B) (ts mid r : List Token) → a.spells o x ts mid → b.spells o y mid r → c.spells o (w x y) ts r
  pub splits : (z : C) (ts r : List Token) → c.spells None z ts r → c.ends z r → Split a b w z ts r
  pub tall : (x : A) (y : B) → c.height (w x y) ≡ max (a.height x) (b.height y)

pub pair_reads : {A B C : Type 0} (a : Sort A) (b : Sort B) (c : Sort C) (w : A → B → C) → Pairs a b c w → (d : ℕ) (ts : List Token) (x : A) (k : ℕ)
    (mid : List Token) (y : B) (j : ℕ) (rest : List Token) (m : ℕ) → ReadsOf (a.spells None) a.ends a.height d ts x k mid →
    ReadsOf (b.spells None) b.ends b.height d mid y j rest → m ≡ max k j → ReadsOf (c.spells None) c.ends c.height d ts (w x y) m rest
pair_reads a b c w p d ts x k mid y j rest m h i em = record {
  spelled = p.builds None x y ts mid rest h.spelled i.spelled;
  tall = omega (arith, em, h.tall, i.tall, p.tall x y);
  fits = omega (arith, em, h.fits, i.fits);
  only = λ z q sp en. let s = p.splits z ts q sp en in
      let u = h.only s.left s.mid s.spells_left s.ends_left in
      let v = i.only s.right q (subst (λ t. b.spells None s.right t q) u.1 s.spells_right) s.ends_right in
      (s.same ∙ ap (λ t. w t s.right) u.0 ∙ ap (λ t. w x t) v.0, v.1);
}

pub pair_first_fails : {A B C : Type 0} (a : Sort A) (b : Sort B) (c : Sort C) (w : A → B → C) → Pairs a b c w → (d : ℕ) (ts : List Token) (f : Refusal) →
    FailsOf (a.spells None) a.ends a.height d ts f → FailsOf (c.spells None) c.ends c.height d ts f
pair_first_fails a b c w p d ts f h = record {
  each = λ z q sp en. let s = p.splits z ts q sp en in
      let deep : a.height s.left ≤ c.height z = subst (λ t. a.height s.left ≤ c.height t) (sym s.same) (omega (arith, p.tall s.left s.right)) in
      excuses_grow f d d (a.height s.left) (c.height z) (omega (arith, deep)) (h.each s.left s.mid s.spells_left s.ends_left);
}

pub pair_second_fails : {A B C : Type 0} (a : Sort A) (b : Sort B) (c : Sort C) (w : A → B → C) → Pairs a b c w → (d : ℕ) (ts : List Token) (x : A) (k : ℕ)
    (mid : List Token) (f : Refusal) → ReadsOf (a.spells None) a.ends a.height d ts x k mid → FailsOf (b.spells None) b.ends b.height d mid f →
    FailsOf (c.spells None) c.ends c.height d ts f
pair_second_fails a b c w p d ts x k mid f h bad = record {
  each = λ z q sp en. let s = p.splits z ts q sp en in
      let u = h.only s.left s.mid s.spells_left s.ends_left in
      let deep : b.height s.right ≤ c.height z = subst (λ t. b.height s.right ≤ c.height t) (sym s.same) (omega (arith, p.tall s.left s.right)) in
      excuses_grow f d d (b.height s.right) (c.height z) (omega (arith, deep)) (bad.each s.right q (subst (λ t. b.spells None s.right t q) u.1 s.spells_right)
      s.ends_right);
}

pub pair_first_stands : {A B C : Type 0} (a : Sort A) (b : Sort B) (c : Sort C) (w : A → B → C) → Pairs a b c w → (gap : B) →
    ((cut : List Token) → b.spells (Some cut) gap cut cut) → (d : ℕ) (ts : List Token) (f : Refusal) → StandsOf a.spells a.height d ts f →
    StandsOf c.spells c.height d ts f
pair_first_stands a b c w p gap hole d ts (Syntax at) h = tt
pair_first_stands a b c w p gap hole d ts Memory h = tt
pair_first_stands a b c w p gap hole d ts (Depth at) h = record {
  tree = w h.tree gap;
  cut = h.cut;
  last = h.last;
  spelled = p.builds (Some h.cut) h.tree gap ts h.cut h.cut h.spelled (hole h.cut);
  reaches = h.reaches;
  deep = omega (arith, h.deep, p.tall h.tree gap);
}

pub pair_second_stands : {A B C : Type 0} (a : Sort A) (b : Sort B) (c : Sort C) (w : A → B → C) → Pairs a b c w → Whole a → (d : ℕ) (ts : List Token) (x : A)
    (k : ℕ) (mid : List Token) (f : Refusal) → ReadsOf (a.spells None) a.ends a.height d ts x k mid → StandsOf b.spells b.height d mid f →
    StandsOf c.spells c.height d ts f
pair_second_stands a b c w p all d ts x k mid (Syntax at) r h = tt
pair_second_stands a b c w p all d ts x k mid Memory r h = tt
pair_second_stands a b c w p all d ts x k mid (Depth at) r h = record {
  tree = w x h.tree;
  cut = h.cut;
  last = h.last;
  spelled = p.builds (Some h.cut) x h.tree ts mid h.cut (all.begun h.cut x ts mid r.spelled) h.spelled;
  reaches = reaches_on ts mid _ (all.reaches x ts mid r.spelled) h.reaches;
  deep = omega (arith, h.deep, p.tall x h.tree);
}

-- ---- two parts kept as a pair

pub record Two (A B : Type 0) : Type 0 where
  pub first : A
  pub second : B

pub record Both {A B : Type 0} (a : Sort A) (b : Sort B) (o : Option (List Token)) (x : Two A B) (ts rest : List Token) : Type 0 where
  pub mid : List Token
  pub one : a.spells o x.first ts mid
  pub other : b.spells o x.second mid rest

abbrev pub both_sort : {A B : Type 0} → Sort A → Sort B → Sort (Two A B)
both_sort a b = record {
  spells = λ o x ts r. Both a b o x ts r;
  ends = λ x r. b.ends x.second r;
  height = λ x. max (a.height x.first) (b.height x.second);
}

abbrev pub two : {A B : Type 0} → A → B → Two A B
two x y = record { first = x; second = y }

-- where the one part ends before the other
pub both_pairs : {A B : Type 0} (a : Sort A) (b : Sort B) → ((x : A) (y : B) (ts mid r : List Token) → a.spells None x ts mid → b.spells None y mid r →
    a.ends x mid) → Pairs a b (both_sort a b) (λ x y. record { first = x; second = y })
both_pairs a b join = record {
  builds = λ o x y ts mid r h i. record { mid = mid; one = h; other = i };
  splits = λ z ts r h en. record {
    left = z.first;
    right = z.second;
    mid = h.mid;
    spells_left = h.one;
    ends_left = join z.first z.second ts h.mid r h.one
        h.other;
    spells_right = h.other;
    ends_right = en;
    same = refl;
  };
  tall = λ x y. refl;
}

-- ---- a statement whose own token precedes its other parts

pub record Splits {A : Type 0} (a : Sort A) (w : Pos → A → StmtTree) (z : StmtTree) (at : Pos) (us r : List Token) : Type 0 where
  pub part : A
  pub spelled : a.spells None part us r
  pub ends : a.ends part r
  pub same : z ≡ w at part

pub record Heads {A : Type 0} (k : Kind) (a : Sort A) (w : Pos → A → StmtTree) : Type 0 where
  pub builds : (o : Option (List Token)) (x : A) (at : Pos) (ts us r : List Token) → Own k at ts us → a.spells o x us r → SpellsStmt o (w at x) ts r
  pub splits : (z : StmtTree) (at : Pos) (ts us r : List Token) → Own k at ts us → SpellsStmt None z ts r → EndsStmt z r → Splits a w z at us r
  pub tall : (at : Pos) (x : A) → stmt_depth (w at x) ≡ a.height x + 1

pub head_reads : {A : Type 0} (n : Kind) (a : Sort A) (w : Pos → A → StmtTree) → Heads n a w → (d e : ℕ) (at : Pos) (ts us : List Token) (x : A) (k : ℕ)
    (rest : List Token) (m : ℕ) → Own n at ts us → e ≡ d + 1 → ReadsOf (a.spells None) a.ends a.height e us x k rest → m ≡ k + 1 →
    ReadsOf (SpellsStmt None) EndsStmt stmt_depth d ts (w at x) m rest
head_reads n a w p d e at ts us x k rest m own ed h em = record {
  spelled = p.builds None x at ts us rest own h.spelled;
  tall = omega (arith, em, h.tall, p.tall at x);
  fits = omega (arith, em, ed, h.fits);
  only = λ z r sp en. let s = p.splits z at ts us r own sp en in
      let u = h.only s.part r s.spelled s.ends in
      (s.same ∙ ap (w at) u.0, u.1);
}

pub head_fails : {A : Type 0} (n : Kind) (a : Sort A) (w : Pos → A → StmtTree) → Heads n a w → (d e : ℕ) (at : Pos) (ts us : List Token) (f : Refusal) →
    Own n at ts us → e ≡ d + 1 → FailsOf (a.spells None) a.ends a.height e us f → FailsOf (SpellsStmt None) EndsStmt stmt_depth d ts f
head_fails n a w p d e at ts us f own ed h = record {
  each = λ z r sp en. let s = p.splits z at ts us r own sp en in
      let deep : a.height s.part + 1 ≤ stmt_depth z = subst (λ t. a.height s.part + 1 ≤ stmt_depth t) (sym s.same) (omega (arith, p.tall at s.part)) in
      excuses_grow f e d (a.height s.part) (stmt_depth z) (omega (arith, deep, ed)) (h.each s.part r s.spelled s.ends);
}

pub head_stands : {A : Type 0} (n : Kind) (a : Sort A) (w : Pos → A → StmtTree) → Heads n a w → (d e : ℕ) (at : Pos) (ts us : List Token) (f : Refusal) →
    Own n at ts us → e ≡ d + 1 → StandsOf a.spells a.height e us f → StandsOf SpellsStmt stmt_depth d ts f
head_stands n a w p d e at ts us (Syntax o) own ed h = tt
head_stands n a w p d e at ts us Memory own ed h = tt
head_stands n a w p d e at ts us (Depth o) own ed h = record {
  tree = w at h.tree;
  cut = h.cut;
  last = h.last;
  spelled = p.builds (Some h.cut) h.tree at ts us h.cut own h.spelled;
  reaches = reaches_on ts us _ (own_reaches n at ts us own) h.reaches;
  deep = omega (arith, h.deep, ed, p.tall at h.tree);
}

-- no room for the statement itself
pub head_full : {A : Type 0} (n : Kind) (a : Sort A) (w : Pos → A → StmtTree) → Heads n a w → (gap : A) → ((cut : List Token) → a.spells (Some cut) gap cut cut)
    → (d : ℕ) (at : Pos) (ts us : List Token) (f : Refusal) → Own n at ts us → d ≡ 256 → f ≡ Depth at → StandsOf SpellsStmt stmt_depth d ts f
head_full n a w p gap hole d at ts us f own ed ef = rw ef (record {
  tree = w at gap;
  cut = us;
  last = n;
  spelled = p.builds (Some us) gap at ts us us own (hole us);
  reaches = own_last n at ts us own;
  deep = omega (arith, ed, p.tall at gap);
})

pub full_stmt : (d : ℕ) (ts : List Token) (at : Pos) (f : Refusal) → d ≡ 256 → f ≡ Depth at → FailsOf (SpellsStmt None) EndsStmt stmt_depth d ts f
full_stmt d ts at f ed ef = rw ef (record { each = λ z r sp en. tall z r sp })
  where
    tall : (z : StmtTree) (r : List Token) → SpellsStmt None z ts r → 256 < d + stmt_depth z
    tall stmt_hole r h = absurd h
    tall z r h = omega (arith, ed)
