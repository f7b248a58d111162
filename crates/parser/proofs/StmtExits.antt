-- The results of the functions that read statements at each exit, from the results of their parts.
use Rattle.std.specs.Prelude.{Option, None, Vec}
use Rattle.std.proofs.Common.{◌≡◌, ℕ, ◌+◌, ◌<◌, ◌≤◌, max, inr, List, ◌∷◌, map, refl, arith, Global}
use Rattle.srcset.specs.declared.refusal.Pos.{Pos}
use Rattle.lexer.specs.declared.token.Token.{Token}
use Rattle.lexer.specs.declared.token.Kind.{Kind}
use Rattle.lexer.specs.declared.token.Kind.TheVariants as kind
use Rattle.lexer.specs.declared.token.Keyword.TheVariants as keyword
use Rattle.lexer.specs.declared.token.Punctuator.TheVariants as sign
use Rattle.tree.specs.declared.expression.Expr.{Expr}
use Rattle.tree.specs.declared.statement.ForStart.{ForStart}
use Rattle.tree.specs.declared.statement.BlockItem.{BlockItem}
use Rattle.tree.specs.declared.statement.Stmt.{Stmt}
use Rattle.tree.specs.Tree.{Tree, hole, expression_start, StmtTree, stmt_hole, no_pieces, block_stmt, empty_stmt, expression_stmt, if_stmt, if_else_stmt, switch_stmt, case_stmt, default_stmt, while_stmt, do_while_stmt, for_stmt, break_stmt, continue_stmt, return_stmt}
use Rattle.tree.specs.Counts.{depth, option_depth, stmt_depth, pieces_depth}
use Rattle.tree.specs.View.{tree_of, option_tree, start_of, pieces_of, stmt_of, piece_of}
use Rattle.parser_grammar.specs.declared.refusal.Refusal.{Refusal}
use Rattle.parser_grammar.specs.declared.refusal.Refusal.TheVariants.{Depth}
use Rattle.parser.specs.declared.statement_parts.Form.{Form}
use Rattle.parser_grammar.specs.Tokens.{Own, StartsAt, NotFront}
use Rattle.parser_grammar.specs.Statements.{SpellsTest, SpellsStmt}
use Rattle.parser_grammar.specs.layer.Answer.{ReadsOf, FailsOf, StandsOf, Anywhere}
use Rattle.parser_expressions.specs.ExpressionAnswers.{Reads, Fails, Stands}
use Rattle.parser.specs.inside.StatementAnswers.{EndsStmt, SpellsBody}
use Rattle.parser.specs.inside.StmtParts.{form_kind, SpellsClosed, SpellsEnded, SpellsDoEnd, ForHeadTree, SpellsForHead, for_head_depth, SpellsLabelled, TestedTree, SpellsTested, EndsTested, tested_depth}
use Rattle.parser.proofs.StmtSequence.{pair_reads, pair_first_fails, pair_second_fails, pair_first_stands, pair_second_stands, head_reads, head_fails, head_stands, head_full}
use Rattle.parser.proofs.StmtSorts.{not_true, expr_reads, expr_fails, expr_stands, expr_whole, mark_reads, mark_fails, mark_whole, test_whole, hole_do_end, none_ended, for_head_whole, head_with, turning, gap_head}
use Rattle.parser.proofs.StmtForms.{stmt_whole, labelled_pairs, blank_labelled, tested, tested_pairs, gap_tested, block_heads, gap_body, switch_heads, while_heads, case_pairs, case_heads, gap_case, default_heads, do_pairs, do_heads, for_pairs, for_heads, break_heads, continue_heads, return_heads, nothing_reads, empty_heads}
use Rattle.parser.proofs.StmtIf.{if_reads, fork_reads}
use Rattle.parser.proofs.StmtAct.{act_reads}

abbrev FailsStmt : ℕ → List Token → Refusal → Type 0
FailsStmt d ts f = FailsOf (SpellsStmt None) EndsStmt stmt_depth d ts f

abbrev StandsStmtAt : ℕ → List Token → Refusal → Type 0
StandsStmtAt d ts f = StandsOf SpellsStmt stmt_depth d ts f

abbrev ReadsStmt : ℕ → List Token → StmtTree → ℕ → List Token → Type 0
ReadsStmt d ts a k rest = ReadsOf (SpellsStmt None) EndsStmt stmt_depth d ts a k rest

-- a statement, and that it can end there
abbrev Answered : ℕ → List Token → StmtTree → ℕ → List Token → Type 0
Answered d ts a k rest = ReadsStmt d ts a k rest × EndsStmt a rest

abbrev after : Kind → Pos → List Token → List Token
after k p ts = record { kind = k; pos = p } ∷ ts

-- ---- break, continue, the empty statement

pub break_full : (d : ℕ) (p : Pos) (us : List Token) (f : Refusal) → d ≡ 256 → f ≡ Depth p → StandsStmtAt d (after (kind.Keyword keyword.Break) p us) f
break_full d p us f ed ef = head_full _ _ _ break_heads tt (λ cut. inr (refl, refl)) d p _ us f refl ed ef

pub break_fails : (d : ℕ) (p : Pos) (us : List Token) (f : Refusal) → NotFront (kind.Punctuator sign.Semicolon) us →
    FailsStmt d (after (kind.Keyword keyword.Break) p us) f
break_fails d p us f none = head_fails _ _ _ break_heads d (d + 1) p _ us f refl refl (mark_fails (kind.Punctuator sign.Semicolon) (d + 1) us f none)

pub break_reads : (d : ℕ) (p q : Pos) (us rest : List Token) → d < 256 → Own (kind.Punctuator sign.Semicolon) q us rest →
    Answered d (after (kind.Keyword keyword.Break) p us) (break_stmt p) 1 rest
break_reads d p q us rest lt own = (
  head_reads _ _ _ break_heads d (d + 1) p _ us tt 0 rest 1 refl refl
      (mark_reads (kind.Punctuator sign.Semicolon) (d + 1) q us rest own (omega (arith, lt))) refl,
  λ op. absurd (not_true op),
)

pub continue_full : (d : ℕ) (p : Pos) (us : List Token) (f : Refusal) → d ≡ 256 → f ≡ Depth p → StandsStmtAt d (after (kind.Keyword keyword.Continue) p us) f
continue_full d p us f ed ef = head_full _ _ _ continue_heads tt (λ cut. inr (refl, refl)) d p _ us f refl ed ef

pub continue_fails : (d : ℕ) (p : Pos) (us : List Token) (f : Refusal) → NotFront (kind.Punctuator sign.Semicolon) us →
    FailsStmt d (after (kind.Keyword keyword.Continue) p us) f
continue_fails d p us f none = head_fails _ _ _ continue_heads d (d + 1) p _ us f refl refl (mark_fails (kind.Punctuator sign.Semicolon) (d + 1) us f none)

pub continue_reads : (d : ℕ) (p q : Pos) (us rest : List Token) → d < 256 → Own (kind.Punctuator sign.Semicolon) q us rest →
    Answered d (after (kind.Keyword keyword.Continue) p us) (continue_stmt p) 1 rest
continue_reads d p q us rest lt own = (
  head_reads _ _ _ continue_heads d (d + 1) p _ us tt 0 rest 1 refl refl
      (mark_reads (kind.Punctuator sign.Semicolon) (d + 1) q us rest own (omega (arith, lt))) refl,
  λ op. absurd (not_true op),
)

pub empty_full : (d : ℕ) (p : Pos) (us : List Token) (f : Refusal) → d ≡ 256 → f ≡ Depth p → StandsStmtAt d (after (kind.Punctuator sign.Semicolon) p us) f
empty_full d p us f ed ef = head_full _ _ _ empty_heads tt (λ cut. refl) d p _ us f refl ed ef

pub empty_reads : (d : ℕ) (p : Pos) (us : List Token) → d < 256 → Answered d (after (kind.Punctuator sign.Semicolon) p us) (empty_stmt p) 1 us
empty_reads d p us lt = (
  head_reads _ _ _ empty_heads d (d + 1) p _ us tt 0 us 1 refl refl (nothing_reads (d + 1) us (omega (arith, lt)))
      refl,
  λ op. absurd (not_true op),
)

-- ---- return, and expressions

pub return_full : (d : ℕ) (p : Pos) (us : List Token) (f : Refusal) → d ≡ 256 → f ≡ Depth p → StandsStmtAt d (after (kind.Keyword keyword.Return) p us) f
return_full d p us f ed ef = head_full _ _ _ return_heads None (none_ended sign.Semicolon) d p _ us f refl ed ef

pub return_fails : (d e : ℕ) (p : Pos) (us : List Token) (f : Refusal) → e ≡ d + 1 → FailsOf (SpellsEnded sign.Semicolon None) Anywhere option_depth e us f →
    FailsStmt d (after (kind.Keyword keyword.Return) p us) f
return_fails d e p us f ed h = head_fails _ _ _ return_heads d e p _ us f refl ed h

pub return_stands : (d e : ℕ) (p : Pos) (us : List Token) (f : Refusal) → e ≡ d + 1 → StandsOf (SpellsEnded sign.Semicolon) option_depth e us f →
    StandsStmtAt d (after (kind.Keyword keyword.Return) p us) f
return_stands d e p us f ed h = head_stands _ _ _ return_heads d e p _ us f refl ed h

pub return_reads : (d e : ℕ) (p : Pos) (us : List Token) (x : Option Expr) (k : ℕ) (rest : List Token) → e ≡ d + 1 → ReadsOf (SpellsEnded sign.Semicolon None)
    Anywhere option_depth e us (option_tree x) k rest → Answered d (after (kind.Keyword keyword.Return) p us) (return_stmt p (option_tree x)) (k + 1) rest
return_reads d e p us x k rest ed h = (
  head_reads _ _ _ return_heads d e p _ us (option_tree x) k rest (k + 1) refl ed h refl,
  λ op. absurd
      (not_true op),
)

pub expression_reads : (d e : ℕ) (p : Pos) (ts : List Token) (x : Expr) (k : ℕ) (rest : List Token) → ((f : Form) → NotFront (form_kind f) ts) → StartsAt p ts →
    e ≡ d + 1 → ReadsOf (SpellsClosed sign.Semicolon None) Anywhere depth e ts (tree_of x) k rest → Answered d ts (expression_stmt p (tree_of x)) (k + 1) rest
expression_reads d e p ts x k rest none starts ed h = (
  act_reads d e p ts (tree_of x) k rest (k + 1) none starts ed h refl,
  λ op.
      absurd (not_true op),
)

-- ---- a block

pub block_full : (d : ℕ) (p : Pos) (us : List Token) (f : Refusal) → d ≡ 256 → f ≡ Depth p → StandsStmtAt d (after (kind.Punctuator sign.BraceOpen) p us) f
block_full d p us f ed ef = head_full _ _ _ block_heads no_pieces gap_body d p _ us f refl ed ef

pub block_fail : (d e : ℕ) (p : Pos) (us : List Token) (f : Refusal) → e ≡ d + 1 → FailsOf (SpellsBody None) Anywhere pieces_depth e us f →
    FailsStmt d (after (kind.Punctuator sign.BraceOpen) p us) f
block_fail d e p us f ed h = head_fails _ _ _ block_heads d e p _ us f refl ed h

pub block_stand : (d e : ℕ) (p : Pos) (us : List Token) (f : Refusal) → e ≡ d + 1 → StandsOf SpellsBody pieces_depth e us f →
    StandsStmtAt d (after (kind.Punctuator sign.BraceOpen) p us) f
block_stand d e p us f ed h = head_stands _ _ _ block_heads d e p _ us f refl ed h

pub block_reads : (d e : ℕ) (p : Pos) (us : List Token) (v : Vec BlockItem Global) (k : ℕ) (rest : List Token) → e ≡ d + 1 → ReadsOf (SpellsBody None) Anywhere
    pieces_depth e us (pieces_of (map piece_of v.items)) k rest → Answered d (after (kind.Punctuator sign.BraceOpen) p us) (block_stmt p (pieces_of (map piece_of v.items))) (k + 1) rest
block_reads d e p us v k rest ed h = (
  head_reads _ _ _ block_heads d e p _ us (pieces_of (map piece_of v.items)) k rest (k + 1) refl ed h
      refl,
  λ op. absurd (not_true op),
)

-- ---- a test and a statement

abbrev ReadsTested : ℕ → List Token → TestedTree → ℕ → List Token → Type 0
ReadsTested d ts x k rest = ReadsOf (SpellsTested None) EndsTested tested_depth d ts x k rest

pub tested_test_fails : (d : ℕ) (ts : List Token) (f : Refusal) → FailsOf (SpellsTest None) Anywhere depth d ts f → FailsOf (SpellsTested None) EndsTested
    tested_depth d ts f
tested_test_fails d ts f h = pair_first_fails _ _ _ _ tested_pairs d ts f h

pub tested_test_stands : (d : ℕ) (ts : List Token) (f : Refusal) → StandsOf SpellsTest depth d ts f → StandsOf SpellsTested tested_depth d ts f
tested_test_stands d ts f h = pair_first_stands _ _ _ _ tested_pairs stmt_hole (λ cut. (refl, refl)) d ts f h

pub tested_body_fails : (d : ℕ) (ts : List Token) (x : Tree) (k : ℕ) (mid : List Token) (f : Refusal) → ReadsOf (SpellsTest None) Anywhere depth d ts x k mid →
    FailsStmt d mid f → FailsOf (SpellsTested None) EndsTested tested_depth d ts f
tested_body_fails d ts x k mid f h bad = pair_second_fails _ _ _ _ tested_pairs d ts x k mid f h bad

pub tested_body_stands : (d : ℕ) (ts : List Token) (x : Tree) (k : ℕ) (mid : List Token) (f : Refusal) → ReadsOf (SpellsTest None) Anywhere depth d ts x k mid →
    StandsStmtAt d mid f → StandsOf SpellsTested tested_depth d ts f
tested_body_stands d ts x k mid f h bad = pair_second_stands _ _ _ _ tested_pairs test_whole d ts x k mid f h bad

pub tested_reads : (d : ℕ) (ts : List Token) (x : Tree) (k : ℕ) (mid : List Token) (a : StmtTree) (j : ℕ) (rest : List Token) (m : ℕ) →
    ReadsOf (SpellsTest None) Anywhere depth d ts x k mid → Answered d mid a j rest → m ≡ max k j → ReadsTested d ts (record { test = x; body = a }) m rest
    × EndsStmt a rest
tested_reads d ts x k mid a j rest m h i em = (pair_reads _ _ _ _ tested_pairs d ts x k mid a j rest m h i.0 em, i.1)

pub switch_full : (d : ℕ) (p : Pos) (us : List Token) (f : Refusal) → d ≡ 256 → f ≡ Depth p → StandsStmtAt d (after (kind.Keyword keyword.Switch) p us) f
switch_full d p us f ed ef = head_full _ _ _ switch_heads (tested hole stmt_hole) gap_tested d p _ us f refl ed ef

pub switch_fails : (d e : ℕ) (p : Pos) (us : List Token) (f : Refusal) → e ≡ d + 1 → FailsOf (SpellsTested None) EndsTested tested_depth e us f →
    FailsStmt d (after (kind.Keyword keyword.Switch) p us) f
switch_fails d e p us f ed h = head_fails _ _ _ switch_heads d e p _ us f refl ed h

pub switch_stands : (d e : ℕ) (p : Pos) (us : List Token) (f : Refusal) → e ≡ d + 1 → StandsOf SpellsTested tested_depth e us f →
    StandsStmtAt d (after (kind.Keyword keyword.Switch) p us) f
switch_stands d e p us f ed h = head_stands _ _ _ switch_heads d e p _ us f refl ed h

pub switch_reads : (d e : ℕ) (p : Pos) (us : List Token) (x : Expr) (s : Stmt) (k : ℕ) (rest : List Token) → e ≡ d + 1 →
    ReadsTested e us (record { test = tree_of x; body = stmt_of s }) k rest × EndsStmt (stmt_of s) rest → Answered d (after (kind.Keyword keyword.Switch) p us)
    (switch_stmt p (tree_of x) (stmt_of s)) (k + 1) rest
switch_reads d e p us x s k rest ed h = (head_reads _ _ _ switch_heads d e p _ us (record { test = tree_of x; body = stmt_of s }) k rest (k + 1) refl ed h.0 refl, h.1)

pub while_full : (d : ℕ) (p : Pos) (us : List Token) (f : Refusal) → d ≡ 256 → f ≡ Depth p → StandsStmtAt d (after (kind.Keyword keyword.While) p us) f
while_full d p us f ed ef = head_full _ _ _ while_heads (tested hole stmt_hole) gap_tested d p _ us f refl ed ef

pub while_fails : (d e : ℕ) (p : Pos) (us : List Token) (f : Refusal) → e ≡ d + 1 → FailsOf (SpellsTested None) EndsTested tested_depth e us f →
    FailsStmt d (after (kind.Keyword keyword.While) p us) f
while_fails d e p us f ed h = head_fails _ _ _ while_heads d e p _ us f refl ed h

pub while_stands : (d e : ℕ) (p : Pos) (us : List Token) (f : Refusal) → e ≡ d + 1 → StandsOf SpellsTested tested_depth e us f →
    StandsStmtAt d (after (kind.Keyword keyword.While) p us) f
while_stands d e p us f ed h = head_stands _ _ _ while_heads d e p _ us f refl ed h

pub while_reads : (d e : ℕ) (p : Pos) (us : List Token) (x : Expr) (s : Stmt) (k : ℕ) (rest : List Token) → e ≡ d + 1 →
    ReadsTested e us (record { test = tree_of x; body = stmt_of s }) k rest × EndsStmt (stmt_of s) rest → Answered d (after (kind.Keyword keyword.While) p us)
    (while_stmt p (tree_of x) (stmt_of s)) (k + 1) rest
while_reads d e p us x s k rest ed h = (
  head_reads _ _ _ while_heads d e p _ us (record { test = tree_of x; body = stmt_of s })
      k rest (k + 1) refl ed h.0 refl,
  h.1,
)

-- ---- if

pub branch_reads : (d e : ℕ) (p : Pos) (us : List Token) (x : Expr) (s : Stmt) (k : ℕ) (rest : List Token) → e ≡ d + 1 →
    ReadsTested e us (record { test = tree_of x; body = stmt_of s }) k rest × EndsStmt (stmt_of s) rest → NotFront (kind.Keyword keyword.Else) rest →
    Answered d (after (kind.Keyword keyword.If) p us) (if_stmt p (tree_of x) (stmt_of s)) (k + 1) rest
branch_reads d e p us x s k rest ed h none = (
  if_reads d e p _ us (record { test = tree_of x; body = stmt_of s }) k rest (k + 1)
      refl ed h.0 none refl,
  λ op. none,
)

pub branches_read : (d e : ℕ) (p q : Pos) (us : List Token) (x : Expr) (s u : Stmt) (k : ℕ) (mid next : List Token) (j : ℕ)
    (rest : List Token) (m : ℕ) → e ≡ d + 1 → ReadsTested e us (record { test = tree_of x; body = stmt_of s }) k mid
    × EndsStmt (stmt_of s) mid → Own (kind.Keyword keyword.Else) q mid next → Answered e next (stmt_of u) j rest → m ≡ max k j + 1 →
    Answered d (after (kind.Keyword keyword.If) p us) (if_else_stmt p (tree_of x) (stmt_of s) (stmt_of u)) m rest
branches_read d e p q us x s u k mid next j rest m ed h el i em =
    (fork_reads d e p q _ us (record { test = tree_of x; body = stmt_of s }) k mid next (stmt_of u) j rest m refl ed h.0 h.1 el i.0 em, i.1)

-- ---- a colon and a statement

pub labelled_fails : (d : ℕ) (at : Pos) (ts us : List Token) (f : Refusal) → d ≤ 256 → Own (kind.Punctuator sign.Colon) at ts us → FailsStmt d us f →
    FailsOf (SpellsLabelled None) EndsStmt stmt_depth d ts f
labelled_fails d at ts us f le own h = pair_second_fails _ _ _ _ labelled_pairs d ts tt 0 us f (mark_reads (kind.Punctuator sign.Colon) d at ts us own le) h

pub labelled_stands : (d : ℕ) (at : Pos) (ts us : List Token) (f : Refusal) → d ≤ 256 → Own (kind.Punctuator sign.Colon) at ts us → StandsStmtAt d us f →
    StandsOf SpellsLabelled stmt_depth d ts f
labelled_stands d at ts us f le own h = pair_second_stands _ _ _ _ labelled_pairs (mark_whole (kind.Punctuator sign.Colon)) d ts tt 0 us f
    (mark_reads (kind.Punctuator sign.Colon) d at ts us own le) h

pub labelled_reads : (d : ℕ) (at : Pos) (ts us : List Token) (a : StmtTree) (k : ℕ) (rest : List Token) → d ≤ 256 → Own (kind.Punctuator sign.Colon) at ts us →
    Answered d us a k rest → ReadsOf (SpellsLabelled None) EndsStmt stmt_depth d ts a k rest × EndsStmt a rest
labelled_reads d at ts us a k rest le own h = (
  pair_reads _ _ _ _ labelled_pairs d ts tt 0 us a k rest k (mark_reads (kind.Punctuator sign.Colon) d at ts us own
      le) h.0 (omega arith),
  h.1,
)

abbrev AnsweredLabel : ℕ → List Token → StmtTree → ℕ → List Token → Type 0
AnsweredLabel d ts a k rest = ReadsOf (SpellsLabelled None) EndsStmt stmt_depth d ts a k rest × EndsStmt a rest

pub default_full : (d : ℕ) (p : Pos) (us : List Token) (f : Refusal) → d ≡ 256 → f ≡ Depth p → StandsStmtAt d (after (kind.Keyword keyword.Default) p us) f
default_full d p us f ed ef = head_full _ _ _ default_heads stmt_hole blank_labelled d p _ us f refl ed ef

pub default_fails : (d e : ℕ) (p : Pos) (us : List Token) (f : Refusal) → e ≡ d + 1 → FailsOf (SpellsLabelled None) EndsStmt stmt_depth e us f →
    FailsStmt d (after (kind.Keyword keyword.Default) p us) f
default_fails d e p us f ed h = head_fails _ _ _ default_heads d e p _ us f refl ed h

pub default_stands : (d e : ℕ) (p : Pos) (us : List Token) (f : Refusal) → e ≡ d + 1 → StandsOf SpellsLabelled stmt_depth e us f →
    StandsStmtAt d (after (kind.Keyword keyword.Default) p us) f
default_stands d e p us f ed h = head_stands _ _ _ default_heads d e p _ us f refl ed h

pub default_reads : (d e : ℕ) (p : Pos) (us : List Token) (s : Stmt) (k : ℕ) (rest : List Token) → e ≡ d + 1 →
    AnsweredLabel e us (stmt_of s) k rest → Answered d (after (kind.Keyword keyword.Default) p us) (default_stmt p (stmt_of s)) (k + 1) rest
default_reads d e p us s k rest ed h = (
  head_reads _ _ _ default_heads d e p _ us (stmt_of s) k rest (k + 1) refl ed h.0 refl,
  h.1,
)

pub case_full : (d : ℕ) (p : Pos) (us : List Token) (f : Refusal) → d ≡ 256 → f ≡ Depth p → StandsStmtAt d (after (kind.Keyword keyword.Case) p us) f
case_full d p us f ed ef = head_full _ _ _ case_heads (record { first = hole; second = stmt_hole }) gap_case d p _ us f refl ed ef

pub case_value_fails : (d e : ℕ) (p : Pos) (us : List Token) (f : Refusal) → e ≡ d + 1 → Fails 2 e us f → FailsStmt d (after (kind.Keyword keyword.Case) p us) f
case_value_fails d e p us f ed h = head_fails _ _ _ case_heads d e p _ us f refl ed (pair_first_fails _ _ _ _ case_pairs e us f (expr_fails 2 e us f h))

pub case_value_stands : (d e : ℕ) (p : Pos) (us : List Token) (f : Refusal) → e ≡ d + 1 → Stands 2 e us f →
    StandsStmtAt d (after (kind.Keyword keyword.Case) p us) f
case_value_stands d e p us f ed h = head_stands _ _ _ case_heads d e p _ us f refl ed (pair_first_stands _ _ _ _ case_pairs stmt_hole blank_labelled e us f
    (expr_stands 2 e us f h))

pub case_body_fails : (d e : ℕ) (p : Pos) (us : List Token) (x : Tree) (k : ℕ) (mid : List Token) (f : Refusal) → e ≡ d + 1 → Reads 2 e us x k mid →
    FailsOf (SpellsLabelled None) EndsStmt stmt_depth e mid f → FailsStmt d (after (kind.Keyword keyword.Case) p us) f
case_body_fails d e p us x k mid f ed h bad = head_fails _ _ _ case_heads d e p _ us f refl ed
    (pair_second_fails _ _ _ _ case_pairs e us x k mid f (expr_reads 2 e us x k mid h) bad)

pub case_body_stands : (d e : ℕ) (p : Pos) (us : List Token) (x : Tree) (k : ℕ) (mid : List Token) (f : Refusal) → e ≡ d + 1 → Reads 2 e us x k mid →
    StandsOf SpellsLabelled stmt_depth e mid f → StandsStmtAt d (after (kind.Keyword keyword.Case) p us) f
case_body_stands d e p us x k mid f ed h bad = head_stands _ _ _ case_heads d e p _ us f refl ed (pair_second_stands _ _ _ _ case_pairs (expr_whole 2) e us x k
    mid f (expr_reads 2 e us x k mid h) bad)

pub case_reads : (d e : ℕ) (p : Pos) (us : List Token) (x : Expr) (k : ℕ) (mid : List Token) (s : Stmt) (j : ℕ) (rest : List Token)
    (m : ℕ) → e ≡ d + 1 → Reads 2 e us (tree_of x) k mid → AnsweredLabel e mid (stmt_of s) j rest → m ≡ max k j + 1 →
    Answered d (after (kind.Keyword keyword.Case) p us) (case_stmt p (tree_of x) (stmt_of s)) m rest
case_reads d e p us x k mid s j rest m ed h i em = (
  head_reads _ _ _ case_heads d e p _ us (record { first = tree_of x; second = stmt_of s }) (max k j) rest m refl ed
      (pair_reads _ _ _ _ case_pairs e us (tree_of x) k mid (stmt_of s) j rest (max k j) (expr_reads 2 e us (tree_of x) k mid h) i.0 refl) em,
  i.1,
)

-- ---- do

pub do_full : (d : ℕ) (p : Pos) (us : List Token) (f : Refusal) → d ≡ 256 → f ≡ Depth p → StandsStmtAt d (after (kind.Keyword keyword.Do) p us) f
do_full d p us f ed ef = head_full _ _ _ do_heads (record { first = stmt_hole; second = hole })
    (λ cut. record { mid = cut; one = (refl, refl); other = hole_do_end cut }) d p _ us f refl ed ef

pub do_body_fails : (d e : ℕ) (p : Pos) (us : List Token) (f : Refusal) → e ≡ d + 1 → FailsStmt e us f → FailsStmt d (after (kind.Keyword keyword.Do) p us) f
do_body_fails d e p us f ed h = head_fails _ _ _ do_heads d e p _ us f refl ed (pair_first_fails _ _ _ _ do_pairs e us f h)

pub do_body_stands : (d e : ℕ) (p : Pos) (us : List Token) (f : Refusal) → e ≡ d + 1 → StandsStmtAt e us f →
    StandsStmtAt d (after (kind.Keyword keyword.Do) p us) f
do_body_stands d e p us f ed h = head_stands _ _ _ do_heads d e p _ us f refl ed (pair_first_stands _ _ _ _ do_pairs hole hole_do_end e us f h)

pub do_test_fails : (d e : ℕ) (p : Pos) (us : List Token) (a : StmtTree) (k : ℕ) (mid : List Token) (f : Refusal) → e ≡ d + 1 → Answered e us a k mid →
    FailsOf (SpellsDoEnd None) Anywhere depth e mid f → FailsStmt d (after (kind.Keyword keyword.Do) p us) f
do_test_fails d e p us a k mid f ed h bad = head_fails _ _ _ do_heads d e p _ us f refl ed (pair_second_fails _ _ _ _ do_pairs e us a k mid f h.0 bad)

pub do_test_stands : (d e : ℕ) (p : Pos) (us : List Token) (a : StmtTree) (k : ℕ) (mid : List Token) (f : Refusal) → e ≡ d + 1 → Answered e us a k mid →
    StandsOf SpellsDoEnd depth e mid f → StandsStmtAt d (after (kind.Keyword keyword.Do) p us) f
do_test_stands d e p us a k mid f ed h bad = head_stands _ _ _ do_heads d e p _ us f refl ed (pair_second_stands _ _ _ _ do_pairs stmt_whole e us a k mid f h.0
    bad)

pub do_reads : (d e : ℕ) (p : Pos) (us : List Token) (s : Stmt) (k : ℕ) (mid : List Token) (x : Expr) (j : ℕ) (rest : List Token) (m : ℕ)
    → e ≡ d + 1 → Answered e us (stmt_of s) k mid → ReadsOf (SpellsDoEnd None) Anywhere depth e mid (tree_of x) j rest → m ≡ max k j + 1 →
    Answered d (after (kind.Keyword keyword.Do) p us) (do_while_stmt p (stmt_of s) (tree_of x)) m rest
do_reads d e p us s k mid x j rest m ed h i em = (
  head_reads _ _ _ do_heads d e p _ us (record { first = stmt_of s; second = tree_of x }) (max k j) rest m refl ed
      (pair_reads _ _ _ _ do_pairs e us (stmt_of s) k mid (tree_of x) j rest (max k j) h.0 i refl) em,
  λ op. absurd (not_true op),
)

-- ---- for

pub for_full : (d : ℕ) (p : Pos) (us : List Token) (f : Refusal) → d ≡ 256 → f ≡ Depth p → StandsStmtAt d (after (kind.Keyword keyword.For) p us) f
for_full d p us f ed ef = head_full _ _ _ for_heads (record { first = head_with (expression_start None) (turning None None); second = stmt_hole })
    (λ cut. record { mid = cut; one = gap_head cut; other = (refl, refl) }) d p _ us f refl ed ef

pub for_head_fails : (d e : ℕ) (p : Pos) (us : List Token) (f : Refusal) → e ≡ d + 1 → FailsOf (SpellsForHead None) Anywhere for_head_depth e us f →
    FailsStmt d (after (kind.Keyword keyword.For) p us) f
for_head_fails d e p us f ed h = head_fails _ _ _ for_heads d e p _ us f refl ed (pair_first_fails _ _ _ _ for_pairs e us f h)

pub for_head_stands : (d e : ℕ) (p : Pos) (us : List Token) (f : Refusal) → e ≡ d + 1 → StandsOf SpellsForHead for_head_depth e us f →
    StandsStmtAt d (after (kind.Keyword keyword.For) p us) f
for_head_stands d e p us f ed h = head_stands _ _ _ for_heads d e p _ us f refl ed (pair_first_stands _ _ _ _ for_pairs stmt_hole (λ cut. (refl, refl)) e us f
    h)

pub for_body_fails : (d e : ℕ) (p : Pos) (us : List Token) (x : ForHeadTree) (k : ℕ) (mid : List Token) (f : Refusal) → e ≡ d + 1 →
    ReadsOf (SpellsForHead None) Anywhere for_head_depth e us x k mid → FailsStmt e mid f → FailsStmt d (after (kind.Keyword keyword.For) p us) f
for_body_fails d e p us x k mid f ed h bad = head_fails _ _ _ for_heads d e p _ us f refl ed (pair_second_fails _ _ _ _ for_pairs e us x k mid f h bad)

pub for_body_stands : (d e : ℕ) (p : Pos) (us : List Token) (x : ForHeadTree) (k : ℕ) (mid : List Token) (f : Refusal) → e ≡ d + 1 →
    ReadsOf (SpellsForHead None) Anywhere for_head_depth e us x k mid → StandsStmtAt e mid f → StandsStmtAt d (after (kind.Keyword keyword.For) p us) f
for_body_stands d e p us x k mid f ed h bad = head_stands _ _ _ for_heads d e p _ us f refl ed (pair_second_stands _ _ _ _ for_pairs for_head_whole e us x k mid
    f h bad)

pub for_reads : (d e : ℕ) (p : Pos) (us : List Token) (i : ForStart) (t n : Option Expr) (k : ℕ) (mid : List Token) (s : Stmt) (j : ℕ)
    (rest : List Token) (m : ℕ) → e ≡ d + 1 → ReadsOf (SpellsForHead None) Anywhere for_head_depth e us
    (record { start = start_of i; test = option_tree t; step = option_tree n }) k mid → Answered e mid (stmt_of s) j rest → m ≡ max k j + 1 →
    Answered d (after (kind.Keyword keyword.For) p us) (for_stmt p (start_of i) (option_tree t) (option_tree n) (stmt_of s)) m rest
for_reads d e p us i t n k mid s j rest m ed h g em = (
  head_reads _ _ _ for_heads d e p _ us (record { first = record { start = start_of i; test = option_tree t; step = option_tree n }; second = stmt_of s })
      (max k j) rest m refl ed (pair_reads _ _ _ _ for_pairs e us (record { start = start_of i; test = option_tree t; step = option_tree n }) k mid (stmt_of s) j
      rest (max k j) h g.0 refl) em,
  g.1,
)
