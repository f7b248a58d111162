-- The forms of statements.
use Rattle.std.specs.Prelude.{None, Some}
use Rattle.std.proofs.Common.{◌≡◌, ℕ, ◌≤◌, inr, List, refl, sym, ap, subst, arith}
use Rattle.srcset.specs.declared.refusal.Pos.{Pos}
use Rattle.lexer.specs.declared.token.Token.{Token}
use Rattle.lexer.specs.declared.token.Kind.TheVariants as kind
use Rattle.lexer.specs.declared.token.Keyword.TheVariants as keyword
use Rattle.lexer.specs.declared.token.Punctuator.TheVariants as sign
use Rattle.tree.specs.Tree.{Tree, hole, StmtTree, stmt_hole, block_stmt, empty_stmt, switch_stmt, case_stmt, default_stmt, while_stmt, do_while_stmt, for_stmt, break_stmt, continue_stmt, return_stmt, Pieces, no_pieces}
use Rattle.tree.specs.Counts.{stmt_depth, pieces_depth}
use Rattle.parser_grammar.specs.Tokens.{Own, Mark, Sign, NotFront}
use Rattle.parser_grammar.specs.Expressions.{Spells}
use Rattle.parser_grammar.specs.Statements.{SpellsTest, SpellsOption, SpellsStmt, SpellsPieces}
use Rattle.parser_grammar.specs.layer.Answer.{ReadsOf}
use Rattle.parser_expressions.specs.ExpressionAnswers.{Stops}
use Rattle.parser.specs.inside.StatementAnswers.{EndsStmt, SpellsBody}
use Rattle.parser.specs.inside.StmtParts.{ForHeadTree, SpellsLabelled, TestedTree, SpellsTested, EndsTested, tested_depth}
use Rattle.parser_grammar.proofs.Tokens.{own_once, own_kinds, mark_own}
use Rattle.parser.proofs.StmtSequence.{Sort, Whole, Pairs, Two, Both, both_sort, both_pairs, Splits, Heads}
use Rattle.parser.proofs.StmtLeading.{tag, same_form}
use Rattle.parser.proofs.StmtSorts.{expr_sort, mark_sort, test_sort, do_end_sort, ended_sort, for_head_sort, hole_test}
use Rattle.parser_grammar.proofs.UnitBegun.{stmt_is_begun, stmt_reaches}

-- ---- whole statements as begun ones, and as fronts

abbrev pub stmt_sort : Sort StmtTree
stmt_sort = record { spells = SpellsStmt; ends = EndsStmt; height = stmt_depth }

pub stmt_whole : Whole stmt_sort
stmt_whole = record { begun = stmt_is_begun; reaches = stmt_reaches }

-- ---- a colon and a statement; a test and a statement

abbrev pub labelled_sort : Sort StmtTree
labelled_sort = record { spells = SpellsLabelled; ends = EndsStmt; height = stmt_depth }

pub labelled_pairs : Pairs (mark_sort (kind.Punctuator sign.Colon)) stmt_sort labelled_sort (λ x a. a)
labelled_pairs = record {
  builds = λ o x a ts mid r h i. (mid, h, i);
  splits = λ a ts r sp en. record { left = tt; right = a; mid = sp.0; spells_left = sp.1; ends_left = tt; spells_right = sp.2; ends_right = en; same = refl };
  tall = λ x a. omega arith;
}

pub blank_labelled : (cut : List Token) → SpellsLabelled (Some cut) stmt_hole cut cut
blank_labelled cut = (cut, inr (refl, refl), (refl, refl))

abbrev pub tested_sort : Sort TestedTree
tested_sort = record { spells = SpellsTested; ends = EndsTested; height = tested_depth }

abbrev pub tested : Tree → StmtTree → TestedTree
tested e a = record { test = e; body = a }

pub tested_pairs : Pairs test_sort stmt_sort tested_sort tested
tested_pairs = record {
  builds = λ o e a ts mid r h i. (mid, h, i);
  splits = λ x ts r sp en. record {
    left = x.test;
    right = x.body;
    mid = sp.0;
    spells_left = sp.1;
    ends_left = tt;
    spells_right = sp.2;
    ends_right = en;
    same = refl;
  };
  tall = λ e a. refl;
}

pub gap_tested : (cut : List Token) → SpellsTested (Some cut) (tested hole stmt_hole) cut cut
gap_tested cut = (cut, hole_test cut, (refl, refl))

-- ---- blocks

abbrev pub body_sort : Sort Pieces
body_sort = record { spells = SpellsBody; ends = λ ps r. Unit {0}; height = pieces_depth }

block_splits : (u : StmtTree) (at : Pos) (ts us r : List Token) → Own (kind.Punctuator sign.BraceOpen) at ts us → SpellsStmt None u ts r → EndsStmt u r →
    Splits body_sort (λ x ps. block_stmt x ps) u at us r
block_splits (block_stmt p ps) at ts us r own sp en = let e = own_once (kind.Punctuator sign.BraceOpen) p at ts sp.0 us sp.2 own in
    record { part = ps; spelled = (sp.1, subst (λ x. SpellsPieces None ps x sp.1) e.1 sp.3, sp.4); ends = tt; same = ap (λ x. block_stmt x ps) e.0 }
block_splits u at ts us r own sp en = let e = same_form (kind.Punctuator sign.BraceOpen) at ts us r u own sp in absurd (omega (arith, e))

pub block_heads : Heads (kind.Punctuator sign.BraceOpen) body_sort (λ x ps. block_stmt x ps)
block_heads = record { builds = λ o ps at ts us r own h. (us, h.0, own, h.1, h.2); splits = block_splits; tall = λ at ps. refl }

pub gap_body : (cut : List Token) → SpellsBody (Some cut) no_pieces cut cut
gap_body cut = (cut, refl, inr (refl, refl))

-- ---- switch and while

switch_splits : (u : StmtTree) (at : Pos) (ts us r : List Token) → Own (kind.Keyword keyword.Switch) at ts us → SpellsStmt None u ts r → EndsStmt u r →
    Splits tested_sort (λ p x. switch_stmt p x.test x.body) u at us r
switch_splits (switch_stmt p e a) at ts us r own sp en = let q = own_once (kind.Keyword keyword.Switch) p at ts sp.0 us sp.2 own in
    record { part = tested e a; spelled = (sp.1, subst (λ y. SpellsTest None e y sp.1) q.1 sp.3, sp.4); ends = en; same = ap (λ y. switch_stmt y e a) q.0 }
switch_splits u at ts us r own sp en = let e = same_form (kind.Keyword keyword.Switch) at ts us r u own sp in absurd (omega (arith, e))

pub switch_heads : Heads (kind.Keyword keyword.Switch) tested_sort (λ p x. switch_stmt p x.test x.body)
switch_heads = record { builds = λ o x at ts us r own h. (us, h.0, own, h.1, h.2); splits = switch_splits; tall = λ at x. refl }

while_splits : (u : StmtTree) (at : Pos) (ts us r : List Token) → Own (kind.Keyword keyword.While) at ts us → SpellsStmt None u ts r → EndsStmt u r →
    Splits tested_sort (λ p x. while_stmt p x.test x.body) u at us r
while_splits (while_stmt p e a) at ts us r own sp en = let q = own_once (kind.Keyword keyword.While) p at ts sp.0 us sp.2 own in
    record { part = tested e a; spelled = (sp.1, subst (λ y. SpellsTest None e y sp.1) q.1 sp.3, sp.4); ends = en; same = ap (λ y. while_stmt y e a) q.0 }
while_splits u at ts us r own sp en = let e = same_form (kind.Keyword keyword.While) at ts us r u own sp in absurd (omega (arith, e))

pub while_heads : Heads (kind.Keyword keyword.While) tested_sort (λ p x. while_stmt p x.test x.body)
while_heads = record { builds = λ o x at ts us r own h. (us, h.0, own, h.1, h.2); splits = while_splits; tall = λ at x. refl }

-- ---- case and default

abbrev pub case_sort : Sort (Two Tree StmtTree)
case_sort = both_sort (expr_sort 2) labelled_sort

pub case_pairs : Pairs (expr_sort 2) labelled_sort case_sort (λ e a. record { first = e; second = a })
case_pairs = both_pairs (expr_sort 2) labelled_sort (λ e a ts mid r h i. let m = mark_own (kind.Punctuator sign.Colon) mid i.0 i.1 in
    subst (Stops 2) (sym m.1) (omega arith))

case_splits : (u : StmtTree) (at : Pos) (ts us r : List Token) → Own (kind.Keyword keyword.Case) at ts us → SpellsStmt None u ts r → EndsStmt u r →
    Splits case_sort (λ p x. case_stmt p x.first x.second) u at us r
case_splits (case_stmt p e a) at ts us r own sp en = let q = own_once (kind.Keyword keyword.Case) p at ts sp.0 us sp.3 own in
    record {
      part = record { first = e; second = a };
      spelled = record
          { mid = sp.1; one = record { tight = sp.4; spelled = subst (λ y. Spells None e y sp.1) q.1 sp.5 }; other = (sp.2, sp.6, sp.7) };
      ends = en;
      same = ap
          (λ y. case_stmt y e a) q.0;
    }
case_splits u at ts us r own sp en = let e = same_form (kind.Keyword keyword.Case) at ts us r u own sp in absurd (omega (arith, e))

pub case_heads : Heads (kind.Keyword keyword.Case) case_sort (λ p x. case_stmt p x.first x.second)
case_heads = record {
  builds = λ o x at ts us r own h. (us, h.mid, h.other.0, own, h.one.tight, h.one.spelled, h.other.1, h.other.2);
  splits = case_splits;
  tall = λ at x. refl;
}

pub gap_case : (cut : List Token) → Both (expr_sort 2) labelled_sort (Some cut) (record { first = hole; second = stmt_hole }) cut cut
gap_case cut = record { mid = cut; one = record { tight = omega arith; spelled = (refl, refl) }; other = blank_labelled cut }

default_splits : (u : StmtTree) (at : Pos) (ts us r : List Token) → Own (kind.Keyword keyword.Default) at ts us → SpellsStmt None u ts r → EndsStmt u r →
    Splits labelled_sort (λ p a. default_stmt p a) u at us r
default_splits (default_stmt p a) at ts us r own sp en = let q = own_once (kind.Keyword keyword.Default) p at ts sp.0 us sp.2 own in
    record { part = a; spelled = (sp.1, subst (λ y. Sign None sign.Colon y sp.1) q.1 sp.3, sp.4); ends = en; same = ap (λ y. default_stmt y a) q.0 }
default_splits u at ts us r own sp en = let e = same_form (kind.Keyword keyword.Default) at ts us r u own sp in absurd (omega (arith, e))

pub default_heads : Heads (kind.Keyword keyword.Default) labelled_sort (λ p a. default_stmt p a)
default_heads = record { builds = λ o a at ts us r own h. (us, h.0, own, h.1, h.2); splits = default_splits; tall = λ at a. refl }

-- ---- do

abbrev pub do_sort : Sort (Two StmtTree Tree)
do_sort = both_sort stmt_sort do_end_sort

while_no_else : (ts us : List Token) → Mark None (kind.Keyword keyword.While) ts us → NotFront (kind.Keyword keyword.Else) ts
while_no_else ts us h at vs own = let m = mark_own (kind.Keyword keyword.While) ts us h in
    let e : 13 ≡ 7 = ap tag (own_kinds (kind.Keyword keyword.Else) (kind.Keyword keyword.While) at m.0 ts vs us own m.1) in omega (arith, e)

pub do_pairs : Pairs stmt_sort do_end_sort do_sort (λ a e. record { first = a; second = e })
do_pairs = both_pairs stmt_sort do_end_sort (λ a e ts mid r h i op. while_no_else mid i.0 i.2)

do_splits : (u : StmtTree) (at : Pos) (ts us r : List Token) → Own (kind.Keyword keyword.Do) at ts us → SpellsStmt None u ts r → EndsStmt u r →
    Splits do_sort (λ p x. do_while_stmt p x.first x.second) u at us r
do_splits (do_while_stmt p a e) at ts us r own sp en = let q = own_once (kind.Keyword keyword.Do) p at ts sp.0 us sp.4 own in
    record {
      part = record { first = a; second = e };
      spelled = record {
        mid = sp.1;
        one = subst (λ y. SpellsStmt None a y sp.1) q.1 sp.5;
        other = (sp.2, sp.3, sp.6, sp.7, sp.8);
      };
      ends = tt;
      same = ap (λ y. do_while_stmt y a e) q.0;
    }
do_splits u at ts us r own sp en = let e = same_form (kind.Keyword keyword.Do) at ts us r u own sp in absurd (omega (arith, e))

pub do_heads : Heads (kind.Keyword keyword.Do) do_sort (λ p x. do_while_stmt p x.first x.second)
do_heads = record {
  builds = λ o x at ts us r own h. (us, h.mid, h.other.0, h.other.1, own, h.one, h.other.2, h.other.3, h.other.4);
  splits = do_splits;
  tall = λ at x. refl;
}

-- ---- for

abbrev pub for_sort : Sort (Two ForHeadTree StmtTree)
for_sort = both_sort for_head_sort stmt_sort

pub for_pairs : Pairs for_head_sort stmt_sort for_sort (λ x a. record { first = x; second = a })
for_pairs = both_pairs for_head_sort stmt_sort (λ x a ts mid r h i. tt)

for_splits : (u : StmtTree) (at : Pos) (ts us r : List Token) → Own (kind.Keyword keyword.For) at ts us → SpellsStmt None u ts r → EndsStmt u r →
    Splits for_sort (λ p x. for_stmt p x.first.start x.first.test x.first.step x.second) u at us r
for_splits (for_stmt p s t n a) at ts us r own sp en = let q = own_once (kind.Keyword keyword.For) p at ts sp.0 us sp.7 own in
    record {
      part = record { first = record { start = s; test = t; step = n }; second = a };
      spelled = record {
        mid = sp.6;
        one = (sp.1, subst (λ y. Sign None sign.ParenOpen y sp.1) q.1 sp.8, (sp.2, sp.4, sp.9, (sp.3, sp.10, sp.11), (sp.5, sp.12, sp.13)));
        other = sp.14;
      };
      ends = en;
      same = ap (λ y. for_stmt y s t n a) q.0;
    }
for_splits u at ts us r own sp en = let e = same_form (kind.Keyword keyword.For) at ts us r u own sp in absurd (omega (arith, e))

pub for_heads : Heads (kind.Keyword keyword.For) for_sort (λ p x. for_stmt p x.first.start x.first.test x.first.step x.second)
for_heads = record {
  builds = λ o x at ts us r own h. (
    us,
    h.one.0,
    h.one.2.0,
    h.one.2.3.0,
    h.one.2.1,
    h.one.2.4.0,
    h.mid,
    own,
    h.one.1,
    h.one.2.2,
    h.one.2.3.1,
    h.one.2.3.2,
    h.one.2.4.1,
    h.one.2.4.2,
    h.other,
  );
  splits = for_splits;
  tall = λ at x. omega arith;
}

-- ---- break, continue, return

break_splits : (u : StmtTree) (at : Pos) (ts us r : List Token) → Own (kind.Keyword keyword.Break) at ts us → SpellsStmt None u ts r → EndsStmt u r →
    Splits (mark_sort (kind.Punctuator sign.Semicolon)) (λ p x. break_stmt p) u at us r
break_splits (break_stmt p) at ts us r own sp en = let q = own_once (kind.Keyword keyword.Break) p at ts sp.0 us sp.1 own in
    record { part = tt; spelled = subst (λ y. Sign None sign.Semicolon y r) q.1 sp.2; ends = tt; same = ap break_stmt q.0 }
break_splits u at ts us r own sp en = let e = same_form (kind.Keyword keyword.Break) at ts us r u own sp in absurd (omega (arith, e))

pub break_heads : Heads (kind.Keyword keyword.Break) (mark_sort (kind.Punctuator sign.Semicolon)) (λ p x. break_stmt p)
break_heads = record { builds = λ o x at ts us r own h. (us, own, h); splits = break_splits; tall = λ at x. refl }

continue_splits : (u : StmtTree) (at : Pos) (ts us r : List Token) → Own (kind.Keyword keyword.Continue) at ts us → SpellsStmt None u ts r → EndsStmt u r →
    Splits (mark_sort (kind.Punctuator sign.Semicolon)) (λ p x. continue_stmt p) u at us r
continue_splits (continue_stmt p) at ts us r own sp en = let q = own_once (kind.Keyword keyword.Continue) p at ts sp.0 us sp.1 own in
    record { part = tt; spelled = subst (λ y. Sign None sign.Semicolon y r) q.1 sp.2; ends = tt; same = ap continue_stmt q.0 }
continue_splits u at ts us r own sp en = let e = same_form (kind.Keyword keyword.Continue) at ts us r u own sp in absurd (omega (arith, e))

pub continue_heads : Heads (kind.Keyword keyword.Continue) (mark_sort (kind.Punctuator sign.Semicolon)) (λ p x. continue_stmt p)
continue_heads = record { builds = λ o x at ts us r own h. (us, own, h); splits = continue_splits; tall = λ at x. refl }

return_splits : (u : StmtTree) (at : Pos) (ts us r : List Token) → Own (kind.Keyword keyword.Return) at ts us → SpellsStmt None u ts r → EndsStmt u r →
    Splits (ended_sort sign.Semicolon) (λ p x. return_stmt p x) u at us r
return_splits (return_stmt p x) at ts us r own sp en = let q = own_once (kind.Keyword keyword.Return) p at ts sp.0 us sp.2 own in
    record { part = x; spelled = (sp.1, subst (λ y. SpellsOption None x y sp.1) q.1 sp.3, sp.4); ends = tt; same = ap (λ y. return_stmt y x) q.0 }
return_splits u at ts us r own sp en = let e = same_form (kind.Keyword keyword.Return) at ts us r u own sp in absurd (omega (arith, e))

pub return_heads : Heads (kind.Keyword keyword.Return) (ended_sort sign.Semicolon) (λ p x. return_stmt p x)
return_heads = record { builds = λ o x at ts us r own h. (us, h.0, own, h.1, h.2); splits = return_splits; tall = λ at x. refl }

-- ---- the empty statement

abbrev pub nothing_sort : Sort (Unit {0})
nothing_sort = record { spells = λ o x ts r. ts ≡ r; ends = λ x r. Unit {0}; height = λ x. 0 }

pub nothing_reads : (d : ℕ) (ts : List Token) → d ≤ 256 → ReadsOf {A = Unit {0}} (λ x us r. us ≡ r) (λ x r. Unit {0}) (λ x. 0) d ts (tt {0}) 0 ts
nothing_reads d ts le = record { spelled = refl; tall = refl; fits = omega (arith, le); only = λ y r sp en. (refl, sym sp) }

empty_splits : (u : StmtTree) (at : Pos) (ts us r : List Token) → Own (kind.Punctuator sign.Semicolon) at ts us → SpellsStmt None u ts r → EndsStmt u r →
    Splits nothing_sort (λ p x. empty_stmt p) u at us r
empty_splits (empty_stmt p) at ts us r own sp en = let q = own_once (kind.Punctuator sign.Semicolon) p at ts r us sp own in
    record { part = tt; spelled = sym q.1; ends = tt; same = ap empty_stmt q.0 }
empty_splits u at ts us r own sp en = let e = same_form (kind.Punctuator sign.Semicolon) at ts us r u own sp in absurd (omega (arith, e))

pub empty_heads : Heads (kind.Punctuator sign.Semicolon) nothing_sort (λ p x. empty_stmt p)
empty_heads = record {
  builds = λ o x at ts us r own h. subst (λ y. Own (kind.Punctuator sign.Semicolon) at ts y) h own;
  splits = empty_splits;
  tall = λ at x.
      refl;
}
