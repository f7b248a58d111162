-- if, with and without else: an else belongs to the nearest if.
use Rattle.std.specs.Prelude.{None}
use Rattle.std.proofs.Common.{◌≡◌, ℕ, ◌+◌, ◌≤◌, Bool, true, false, max, List, refl, sym, ap, ◌∙◌, subst, arith}
use Rattle.srcset.specs.declared.refusal.Pos.{Pos}
use Rattle.lexer.specs.declared.token.Token.{Token}
use Rattle.lexer.specs.declared.token.Kind.TheVariants as kind
use Rattle.lexer.specs.declared.token.Keyword.TheVariants as keyword
use Rattle.tree.specs.Tree.{hole, StmtTree, stmt_hole, if_stmt, if_else_stmt}
use Rattle.tree.specs.Counts.{stmt_depth}
use Rattle.parser_grammar.specs.declared.refusal.Refusal.{Refusal}
use Rattle.parser_grammar.specs.declared.refusal.Refusal.TheVariants.{Syntax, Depth, Memory}
use Rattle.parser_grammar.specs.Tokens.{Own, NotFront}
use Rattle.parser_grammar.specs.Statements.{is_open, SpellsTest, SpellsStmt}
use Rattle.parser_grammar.specs.layer.Answer.{Excuses, ReadsOf, FailsOf, StandsOf}
use Rattle.parser.specs.inside.StatementAnswers.{EndsStmt}
use Rattle.parser.specs.inside.StmtParts.{TestedTree, SpellsTested, EndsTested, tested_depth}
use Rattle.parser_grammar.proofs.Exits.{excuses_grow}
use Rattle.parser_grammar.proofs.Tokens.{own_last, own_reaches, reaches_on, own_once}
use Rattle.parser.proofs.StmtLeading.{same_form}
use Rattle.parser.proofs.StmtSorts.{hole_test, test_whole}
use Rattle.parser.proofs.StmtForms.{tested}
use Rattle.parser_grammar.proofs.UnitBegun.{stmt_is_begun, stmt_reaches}

differ : false ≡ true → ⊥
differ e = cc

shut : (c : Bool) → (c ≡ true → ⊥) → c ≡ false
shut true h = absurd (h refl)
shut false h = refl

-- a statement that begins with if
pub data Ifs (at : Pos) (us r : List Token) (z : StmtTree) : Type 0 where
  plain : (x : TestedTree) → SpellsTested None x us r → EndsTested x r → NotFront (kind.Keyword keyword.Else) r → z ≡ if_stmt at x.test x.body → Ifs at us r z
  forked : (x : TestedTree) (c : StmtTree) (mid next : List Token) (o : Pos) → SpellsTested None x us mid → EndsTested x mid → Own (kind.Keyword keyword.Else) o
      mid next → SpellsStmt None c next r → EndsStmt c r → z ≡ if_else_stmt at x.test x.body c → Ifs at us r z

if_splits : (z : StmtTree) (at : Pos) (ts us r : List Token) → Own (kind.Keyword keyword.If) at ts us → SpellsStmt None z ts r → EndsStmt z r → Ifs at us r z
if_splits (if_stmt p e a) at ts us r own sp en = let q = own_once (kind.Keyword keyword.If) p at ts sp.0 us sp.2 own in
    plain (tested e a) (sp.1, subst (λ y. SpellsTest None e y sp.1) q.1 sp.3, sp.4) (λ op. en refl) (en refl) (ap (λ y. if_stmt y e a) q.0)
if_splits (if_else_stmt p e a c) at ts us r own sp en = let q = own_once (kind.Keyword keyword.If) p at ts sp.0 us sp.5 own in
    forked (tested e a) c sp.2 sp.3 sp.4 (sp.1, subst (λ y. SpellsTest None e y sp.1) q.1 sp.6, sp.7) (λ op. absurd (differ (sym sp.8 ∙ op))) sp.9 sp.10 en
    (ap (λ y. if_else_stmt y e a c) q.0)
if_splits u at ts us r own sp en = let e = same_form (kind.Keyword keyword.If) at ts us r u own sp in absurd (omega (arith, e))

abbrev ReadsStmt : ℕ → List Token → StmtTree → ℕ → List Token → Type 0
ReadsStmt d ts a k rest = ReadsOf (SpellsStmt None) EndsStmt stmt_depth d ts a k rest

abbrev ReadsTested : ℕ → List Token → TestedTree → ℕ → List Token → Type 0
ReadsTested d ts x k rest = ReadsOf (SpellsTested None) EndsTested tested_depth d ts x k rest

abbrev FailsStmt : ℕ → List Token → Refusal → Type 0
FailsStmt d ts f = FailsOf (SpellsStmt None) EndsStmt stmt_depth d ts f

-- no else follows, so the branch is all
pub if_reads : (d e : ℕ) (at : Pos) (ts us : List Token) (x : TestedTree) (k : ℕ) (rest : List Token) (m : ℕ) → Own (kind.Keyword keyword.If) at ts us →
    e ≡ d + 1 → ReadsTested e us x k rest → NotFront (kind.Keyword keyword.Else) rest → m ≡ k + 1 → ReadsStmt d ts (if_stmt at x.test x.body) m rest
if_reads d e at ts us x k rest m own ed h none em = record {
  spelled = (us, h.spelled.0, own, h.spelled.1, h.spelled.2);
  tall = omega (arith, em, h.tall);
  fits = omega (arith, em, ed, h.fits);
  only = λ z r sp en. cases z r (if_splits z at ts us r own sp en);
}
  where
    cases : (z : StmtTree) (r : List Token) → Ifs at us r z → (z ≡ if_stmt at x.test x.body) × (r ≡ rest)
    cases z r (plain y sp en stop same) = let u = h.only y r sp en in (same ∙ ap (λ t. if_stmt at t.test t.body) u.0, u.1)
    cases z r (forked y c mid next o sp en el cs ce same) = let u = h.only y mid sp en in
        absurd (none o next (subst (λ t. Own (kind.Keyword keyword.Else) o t next) u.1 el))

-- an else follows, and belongs to this if
pub fork_reads : (d e : ℕ) (at o : Pos) (ts us : List Token) (x : TestedTree) (k : ℕ) (mid next : List Token) (c : StmtTree) (j : ℕ) (rest : List Token) (m : ℕ)
    → Own (kind.Keyword keyword.If) at ts us → e ≡ d + 1 → ReadsTested e us x k mid → EndsStmt x.body mid → Own (kind.Keyword keyword.Else) o mid next →
    ReadsStmt e next c j rest → m ≡ max k j + 1 → ReadsStmt d ts (if_else_stmt at x.test x.body c) m rest
fork_reads d e at o ts us x k mid next c j rest m own ed h en el i em = record {
  spelled = (us, h.spelled.0, mid, next, o, own, h.spelled.1, h.spelled.2, shut (is_open x.body) (λ op. en op o next el), el, i.spelled);
  tall = omega (arith, em, h.tall, i.tall);
  fits = omega (arith, em, ed, h.fits, i.fits);
  only = λ z r sp en. cases z r (if_splits z at ts us r own sp en);
}
  where
    cases : (z : StmtTree) (r : List Token) → Ifs at us r z → (z ≡ if_else_stmt at x.test x.body c) × (r ≡ rest)
    cases z r (plain y sp en stop same) = let u = h.only y r sp en in absurd (stop o next (subst (λ t. Own (kind.Keyword keyword.Else) o t next) (sym u.1) el))
    cases z r (forked y b n w p sp en es bs be same) =
        let u = h.only y n sp en in
        let q = own_once (kind.Keyword keyword.Else) p o mid w next (subst (λ t. Own (kind.Keyword keyword.Else) p t w) u.1 es) el in
        let v = i.only b r (subst (λ t. SpellsStmt None b t r) q.1 bs) be in
        (same ∙ ap (λ t. if_else_stmt at t.test t.body b) u.0 ∙ ap (λ t. if_else_stmt at x.test x.body t) v.0, v.1)

pub if_first_fails : (d e : ℕ) (at : Pos) (ts us : List Token) (f : Refusal) → Own (kind.Keyword keyword.If) at ts us → e ≡ d + 1 →
    FailsOf (SpellsTested None) EndsTested tested_depth e us f → FailsStmt d ts f
if_first_fails d e at ts us f own ed h = record { each = λ z r sp en. cases z r (if_splits z at ts us r own sp en) }
  where
    cases : (z : StmtTree) (r : List Token) → Ifs at us r z → Excuses f d (stmt_depth z)
    cases z r (plain y sp en stop same) =
        let deep : tested_depth y + 1 ≤ stmt_depth z = subst (λ t. tested_depth y + 1 ≤ stmt_depth t) (sym same) (omega arith) in
        excuses_grow f e d (tested_depth y) (stmt_depth z) (omega (arith, deep, ed)) (h.each y r sp en)
    cases z r (forked y c mid next o sp en el cs ce same) =
        let deep : tested_depth y + 1 ≤ stmt_depth z = subst (λ t. tested_depth y + 1 ≤ stmt_depth t) (sym same) (omega arith) in
        excuses_grow f e d (tested_depth y) (stmt_depth z) (omega (arith, deep, ed)) (h.each y mid sp en)

pub if_second_fails : (d e : ℕ) (at o : Pos) (ts us : List Token) (x : TestedTree) (k : ℕ) (mid next : List Token) (f : Refusal) →
    Own (kind.Keyword keyword.If) at ts us → e ≡ d + 1 → ReadsTested e us x k mid → Own (kind.Keyword keyword.Else) o mid next → FailsStmt e next f →
    FailsStmt d ts f
if_second_fails d e at o ts us x k mid next f own ed h el bad = record { each = λ z r sp en. cases z r (if_splits z at ts us r own sp en) }
  where
    cases : (z : StmtTree) (r : List Token) → Ifs at us r z → Excuses f d (stmt_depth z)
    cases z r (plain y sp en stop same) = let u = h.only y r sp en in absurd (stop o next (subst (λ t. Own (kind.Keyword keyword.Else) o t next) (sym u.1) el))
    cases z r (forked y b n w p sp en es bs be same) =
        let u = h.only y n sp en in
        let q = own_once (kind.Keyword keyword.Else) p o mid w next (subst (λ t. Own (kind.Keyword keyword.Else) p t w) u.1 es) el in
        let deep : stmt_depth b + 1 ≤ stmt_depth z = subst (λ t. stmt_depth b + 1 ≤ stmt_depth t) (sym same) (omega arith) in
        excuses_grow f e d (stmt_depth b) (stmt_depth z) (omega (arith, deep, ed)) (bad.each b r (subst (λ t. SpellsStmt None b t r) q.1 bs) be)

pub if_full : (d : ℕ) (at : Pos) (ts us : List Token) (f : Refusal) → Own (kind.Keyword keyword.If) at ts us → d ≡ 256 → f ≡ Depth at →
    StandsOf SpellsStmt stmt_depth d ts f
if_full d at ts us f own ed ef = rw ef (record {
  tree = if_stmt at hole stmt_hole;
  cut = us;
  last = kind.Keyword keyword.If;
  spelled = (us, us, own, hole_test us, (refl, refl));
  reaches = own_last (kind.Keyword keyword.If) at ts us own;
  deep = omega (arith, ed);
})

pub if_first_stands : (d e : ℕ) (at : Pos) (ts us : List Token) (f : Refusal) → Own (kind.Keyword keyword.If) at ts us → e ≡ d + 1 →
    StandsOf SpellsTested tested_depth e us f → StandsOf SpellsStmt stmt_depth d ts f
if_first_stands d e at ts us (Syntax p) own ed h = tt
if_first_stands d e at ts us Memory own ed h = tt
if_first_stands d e at ts us (Depth p) own ed h = record {
  tree = if_stmt at h.tree.test h.tree.body;
  cut = h.cut;
  last = h.last;
  spelled = (us, h.spelled.0, own, h.spelled.1, h.spelled.2);
  reaches = reaches_on ts us _ (own_reaches (kind.Keyword keyword.If) at ts us own) h.reaches;
  deep = omega (arith, h.deep, ed);
}

pub if_second_stands : (d e : ℕ) (at o : Pos) (ts us : List Token) (x : TestedTree) (k : ℕ) (mid next : List Token) (f : Refusal) →
    Own (kind.Keyword keyword.If) at ts us → e ≡ d + 1 → ReadsTested e us x k mid → EndsStmt x.body mid → Own (kind.Keyword keyword.Else) o mid next →
    StandsOf SpellsStmt stmt_depth e next f → StandsOf SpellsStmt stmt_depth d ts f
if_second_stands d e at o ts us x k mid next (Syntax p) own ed h en el s = tt
if_second_stands d e at o ts us x k mid next Memory own ed h en el s = tt
if_second_stands d e at o ts us x k mid next (Depth p) own ed h en el s = record {
  tree = if_else_stmt at x.test x.body s.tree;
  cut = s.cut;
  last = s.last;
  spelled = (
    us,
    h.spelled.0,
    mid,
    next,
    o,
    own,
    test_whole.begun s.cut x.test us h.spelled.0 h.spelled.1,
    stmt_is_begun s.cut x.body h.spelled.0 mid h.spelled.2,
    shut (is_open x.body) (λ op. en op o next el),
    el,
    s.spelled,
  );
  reaches = reaches_on ts us _ (own_reaches (kind.Keyword keyword.If) at ts us own)
      (reaches_on us h.spelled.0 _ (test_whole.reaches x.test us h.spelled.0 h.spelled.1)
      (reaches_on h.spelled.0 mid _ (stmt_reaches x.body h.spelled.0 mid h.spelled.2)
      (reaches_on mid next _ (own_reaches (kind.Keyword keyword.Else) o mid next el) s.reaches)));
  deep = omega (arith, s.deep, ed);
}
