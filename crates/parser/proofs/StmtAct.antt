-- Expression statements.
use Rattle.std.specs.Prelude.{None, Some}
use Rattle.std.proofs.Common.{◌≡◌, ℕ, ◌+◌, ◌<◌, ◌≤◌, inr, List, [], ◌∷◌, refl, sym, ap, ◌∙◌, subst, arith, slice_index_or}
use Rattle.srcset.specs.declared.refusal.Pos.{Pos}
use Rattle.lexer.specs.declared.token.Token.{Token}
use Rattle.lexer.specs.declared.token.Kind.{Kind}
use Rattle.lexer.specs.declared.token.Kind.TheVariants as kind
use Rattle.lexer.specs.declared.token.Keyword.{Keyword}
use Rattle.lexer.specs.declared.token.Keyword.TheVariants as keyword
use Rattle.lexer.specs.declared.token.Punctuator.{Punctuator}
use Rattle.lexer.specs.declared.token.Punctuator.TheVariants as sign
use Rattle.tree.specs.declared.expression.PrefixOp.TheVariants as prefix_op
use Rattle.tree.specs.declared.expression.StepOp.TheVariants as step_op
use Rattle.tree.specs.Tree.{Tree, hole, identifier, constant, string, paren, before, prefix, size_of, StmtTree, stmt_hole, block_stmt, empty_stmt, expression_stmt, if_stmt, if_else_stmt, switch_stmt, case_stmt, default_stmt, while_stmt, do_while_stmt, for_stmt, break_stmt, continue_stmt, return_stmt}
use Rattle.tree.specs.Counts.{depth, stmt_depth}
use Rattle.parser_grammar.specs.declared.refusal.Refusal.{Refusal}
use Rattle.parser_grammar.specs.declared.refusal.Refusal.TheVariants.{Syntax, Depth, Memory}
use Rattle.parser.specs.declared.statement_parts.Form.{Form}
use Rattle.parser.specs.declared.statement_parts.Form.TheVariants as form
use Rattle.parser_grammar.specs.Tokens.{Own, StartsAt, NotFront}
use Rattle.parser_grammar.specs.Expressions.{Spells}
use Rattle.parser_grammar.specs.Statements.{SpellsStmt}
use Rattle.parser_grammar.specs.layer.Answer.{ReadsOf, FailsOf, StandsOf}
use Rattle.parser_expressions.specs.ExpressionLeads.{KeywordBeginsExpression, SignBeginsExpression, KindBeginsExpression, BeginsExpression}
use Rattle.parser.specs.inside.StatementAnswers.{EndsStmt}
use Rattle.parser.specs.inside.StmtParts.{form_kind, SpellsClosed}
use Rattle.parser_grammar.proofs.Exits.{excuses_grow}
use Rattle.parser_grammar.proofs.Tokens.{own_last, same_token}
use Rattle.parser_expressions.proofs.Leads.{whole_begins}

-- where no other form begins
pub record Acts (ts r : List Token) (z : StmtTree) : Type 0 where
  pub at : Pos
  pub part : Tree
  pub starts : StartsAt at ts
  pub spelled : SpellsClosed sign.Semicolon None part ts r
  pub same : z ≡ expression_stmt at part

abbrev NoForm : List Token → Type 0
NoForm ts = (f : Form) → NotFront (form_kind f) ts

act_splits : (z : StmtTree) (ts r : List Token) → NoForm ts → SpellsStmt None z ts r → Acts ts r z
act_splits stmt_hole ts r none h = absurd h
act_splits (block_stmt p ps) ts r none h = absurd (none form.Block p h.0 h.2)
act_splits (empty_stmt p) ts r none h = absurd (none form.Empty p r h)
act_splits (expression_stmt p e) ts r none h = record { at = p; part = e; starts = h.1; spelled = (h.0, h.3, h.4); same = refl }
act_splits (if_stmt p e a) ts r none h = absurd (none form.If p h.0 h.2)
act_splits (if_else_stmt p e a c) ts r none h = absurd (none form.If p h.0 h.5)
act_splits (switch_stmt p e a) ts r none h = absurd (none form.Switch p h.0 h.2)
act_splits (case_stmt p e a) ts r none h = absurd (none form.Case p h.0 h.3)
act_splits (default_stmt p a) ts r none h = absurd (none form.Default p h.0 h.2)
act_splits (while_stmt p e a) ts r none h = absurd (none form.While p h.0 h.2)
act_splits (do_while_stmt p a e) ts r none h = absurd (none form.Do p h.0 h.4)
act_splits (for_stmt p s t n a) ts r none h = absurd (none form.For p h.0 h.7)
act_splits (break_stmt p) ts r none h = absurd (none form.Break p h.0 h.1)
act_splits (continue_stmt p) ts r none h = absurd (none form.Continue p h.0 h.1)
act_splits (return_stmt p e) ts r none h = absurd (none form.Return p h.0 h.2)

starts_once : (a b : Pos) (ts : List Token) → StartsAt a ts → StartsAt b ts → a ≡ b
starts_once a b ts h i = (same_token h.0 i.0 a b ts h.1 i.1 h.2 i.2).1

no_hole_whole : (e : Tree) (ts r : List Token) → Spells None e ts r → e ≡ hole → ⊥
no_hole_whole e ts r h q = subst (λ x. Spells None x ts r) q h

pub act_reads : (d e : ℕ) (at : Pos) (ts : List Token) (x : Tree) (k : ℕ) (rest : List Token) (m : ℕ) → NoForm ts → StartsAt at ts → e ≡ d + 1 →
    ReadsOf (SpellsClosed sign.Semicolon None) (λ y r. Unit {0}) depth e ts x k rest → m ≡ k + 1 → ReadsOf (SpellsStmt None) EndsStmt stmt_depth d ts
    (expression_stmt at x) m rest
act_reads d e at ts x k rest m none starts ed h em = record {
  spelled = (h.spelled.0, starts, no_hole_whole x ts h.spelled.0 h.spelled.1, h.spelled.1, h.spelled.2);
  tall = omega (arith, em, h.tall);
  fits = omega (arith, em, ed, h.fits);
  only = λ z r sp en. let s = act_splits z ts r none sp in
      let u = h.only s.part r s.spelled tt in
      (s.same ∙ ap (λ p. expression_stmt p s.part) (starts_once s.at at ts s.starts starts) ∙ ap (λ y. expression_stmt at y) u.0, u.1);
}

pub act_fails : (d e : ℕ) (ts : List Token) (f : Refusal) → NoForm ts → e ≡ d + 1 → FailsOf (SpellsClosed sign.Semicolon None) (λ y r. Unit {0}) depth e ts f →
    FailsOf (SpellsStmt None) EndsStmt stmt_depth d ts f
act_fails d e ts f none ed h = record {
  each = λ z r sp en. let s = act_splits z ts r none sp in
      let deep : depth s.part + 1 ≤ stmt_depth z = subst (λ t. depth s.part + 1 ≤ stmt_depth t) (sym s.same) (omega arith) in
      excuses_grow f e d (depth s.part) (stmt_depth z) (omega (arith, deep, ed)) (h.each s.part r s.spelled tt);
}

pub act_never : (d : ℕ) (ts : List Token) (f : Refusal) → NoForm ts → (BeginsExpression ts → ⊥) → FailsOf (SpellsStmt None) EndsStmt stmt_depth d ts f
act_never d ts f none not = record { each = λ z r sp en. let s = act_splits z ts r none sp in absurd (not (whole_begins s.part ts s.spelled.0 s.spelled.1)) }

not_hole : (e : Tree) → 1 ≤ depth e → e ≡ hole → ⊥
not_hole e le q = let z : depth e ≡ 0 = ap depth q in omega (arith, le, z)

pub act_stands : (d e : ℕ) (at : Pos) (ts : List Token) (f : Refusal) → StartsAt at ts → d < 256 → e ≡ d + 1 → StandsOf (SpellsClosed sign.Semicolon) depth e ts
    f → StandsOf SpellsStmt stmt_depth d ts f
act_stands d e at ts (Syntax p) starts lt ed h = tt
act_stands d e at ts Memory starts lt ed h = tt
act_stands d e at ts (Depth p) starts lt ed h = record {
  tree = expression_stmt at h.tree;
  cut = h.cut;
  last = h.last;
  spelled = (h.spelled.0, starts, not_hole h.tree (omega (arith, h.deep, lt, ed)), h.spelled.1, h.spelled.2);
  reaches = h.reaches;
  deep = omega (arith, h.deep, ed);
}

-- a begun expression of one token
pub record Opens (ts cut : List Token) : Type 0 where
  pub tree : Tree
  pub spelled : Spells (Some cut) tree ts cut
  pub some : 1 ≤ depth tree

opens_sign : (p : Punctuator) (at : Pos) (ts cut : List Token) → SignBeginsExpression p → Own (kind.Punctuator p) at ts cut → Opens ts cut
opens_sign sign.ParenOpen at ts cut h own = record { tree = paren hole; spelled = (cut, cut, at, own, (refl, refl), inr (refl, refl)); some = omega arith }
opens_sign sign.PlusPlus at ts cut h own = record {
  tree = before at step_op.Increment hole;
  spelled = (cut, own, omega arith, (refl, refl));
  some = omega arith;
}
opens_sign sign.MinusMinus at ts cut h own = record {
  tree = before at step_op.Decrement hole;
  spelled = (cut, own, omega arith, (refl, refl));
  some = omega
      arith;
}
opens_sign sign.Plus at ts cut h own = record { tree = prefix at prefix_op.Plus hole; spelled = (cut, own, omega arith, (refl, refl)); some = omega arith }
opens_sign sign.Minus at ts cut h own = record { tree = prefix at prefix_op.Minus hole; spelled = (cut, own, omega arith, (refl, refl)); some = omega arith }
opens_sign sign.Tilde at ts cut h own = record {
  tree = prefix at prefix_op.Complement hole;
  spelled = (cut, own, omega arith, (refl, refl));
  some = omega arith;
}
opens_sign sign.Bang at ts cut h own = record { tree = prefix at prefix_op.Not hole; spelled = (cut, own, omega arith, (refl, refl)); some = omega arith }
opens_sign p at ts cut h own = absurd h

opens_keyword : (k : Keyword) (at : Pos) (ts cut : List Token) → KeywordBeginsExpression k → Own (kind.Keyword k) at ts cut → Opens ts cut
opens_keyword keyword.Sizeof at ts cut h own = record { tree = size_of at hole; spelled = (cut, own, omega arith, (refl, refl)); some = omega arith }
opens_keyword k at ts cut h own = absurd h

opens : (k : Kind) (at : Pos) (ts cut : List Token) → KindBeginsExpression k → Own k at ts cut → Opens ts cut
opens (kind.Keyword k) at ts cut h own = opens_keyword k at ts cut h own
opens (kind.Punctuator p) at ts cut h own = opens_sign p at ts cut h own
opens (kind.Identifier n) at ts cut h own = record { tree = identifier at n; spelled = own; some = omega arith }
opens (kind.Constant ty n) at ts cut h own = record { tree = constant at ty n; spelled = own; some = omega arith }
opens (kind.StringLiteral n) at ts cut h own = record { tree = string at n; spelled = own; some = omega arith }

pub act_full : (d : ℕ) (at : Pos) (ts : List Token) (f : Refusal) → BeginsExpression ts → StartsAt at ts → d ≡ 256 → f ≡ Depth at →
    StandsOf SpellsStmt stmt_depth d ts f
act_full d at ts f begins starts ed ef =
    let o = opens starts.0 at ts starts.1 (subst BeginsExpression starts.2 begins) starts.2 in
    rw ef (record {
      tree = expression_stmt at o.tree;
      cut = starts.1;
      last = starts.0;
      spelled = (starts.1, starts, not_hole o.tree o.some, o.spelled, inr (refl, refl));
      reaches = own_last starts.0 at ts starts.1 starts.2;
      deep = omega (arith, ed);
    })

pub starts_front : (ts : List Token) (other : Token) → BeginsExpression ts → (k : Kind) × (rest : List Token) × Own k (slice_index_or ts 0 other).pos ts rest
starts_front [] other h = absurd h
starts_front (t ∷ ts) other h = (t.kind, ts, refl)
