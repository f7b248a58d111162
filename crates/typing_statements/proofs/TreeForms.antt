-- The trees of the code's statements, and the verdicts of their rules.
use Rattle.std.proofs.Common.{◌≡◌, ℕ, List, [], ◌∷◌, ◌++◌, map, Option, Some, None, refl, sym, ap, ◌∙◌, subst, append-nil, rules, Global, Ok, Err, IfOk, IfErr}
use Rattle.std.specs.Prelude.{Box, Vec, Result}
use Rattle.srcset.specs.declared.refusal.Pos.{Pos}
use Rattle.srcset.specs.declared.refusal.Refusal.{Refusal}
use Rattle.tree.specs.declared.expression.Expr.{Expr}
use Rattle.tree.specs.declared.statement.ForHead.{ForHead}
use Rattle.tree.specs.declared.statement.BlockItem.{BlockItem}
use Rattle.tree.specs.declared.statement.Stmt.{Stmt, the_lemmas}
use Rattle.tree.specs.declared.statement.Stmt as T
use Rattle.tree.specs.Tree.{block_stmt, empty_stmt, expression_stmt, if_stmt, if_else_stmt, switch_stmt, case_stmt, default_stmt, while_stmt, do_while_stmt, for_stmt, break_stmt, continue_stmt, return_stmt}
use Rattle.tree.specs.View.{tree_of, option_tree, start_of, stmt_of, piece_of, pieces_of}
use Rattle.ctypes.specs.declared.types.IntType.{IntType}
use Rattle.typed_ast.specs.declared.statements.Statement.{Statement}
use Rattle.typed_ast.specs.declared.statements.Statement.{the_lemmas as program_lemmas}
use Rattle.typed_ast.specs.declared.statements.Statement as P
use Rattle.typed_ast.specs.View.{statement_of}
use Rattle.typing_spec.specs.Program as program
use Rattle.typing_spec.specs.Verdict.{Verdict, fine}
use Rattle.typing_spec.specs.Scope.{Scope}
use Rattle.typing_spec.specs.Statements.{Around, Done, statement}
use Rattle.typing_expressions.specs.Refused.{Tells}
use Rattle.typing_statements.specs.declared.labels.Label.{Label}
use Rattle.typing_units.specs.declared.first_values.Initial.{Initial}
use Rattle.typing_statements.specs.Views.{done_of, Unlabelled, Labelled}

-- ---- results

pub told_as : (r : Result Statement Refusal) (v w : Verdict Done) → v ≡ w → IfErr r (λ k. Tells k w) → IfErr r (λ k. Tells k v)
told_as r v w e h = subst (λ x. IfErr r (λ k. Tells k x)) (sym e) h

pub labelled_as : (r : Result Statement Refusal) (v w : Verdict Done) (labels new : List Label) (before after : List Initial) (s : Scope) → v ≡ w →
    IfOk r (λ x. Labelled w labels new before after s x) → IfOk r (λ x. Labelled v labels new before after s x)
labelled_as r v w labels new before after s e h = subst (λ k. IfOk r (λ x. Labelled k labels new before after s x)) (sym e) h

pub unlabelled_as : (r : Result Statement Refusal) (v w : Verdict Done) (labels : List Label) (before after : List Initial) (s : Scope) → v ≡ w →
    IfOk r (λ x. Unlabelled w before after s x) → IfOk r (λ x. Labelled v labels labels before after s x)
unlabelled_as (Ok x) v w labels before after s e h = ([], h.0, sym (append-nil labels), h.1, e ∙ h.2)
unlabelled_as (Err k) v w labels before after s e h = tt

pub alone_as : (r : Result Statement Refusal) (v w : Verdict Done) (labels : List Label) (before : List Initial) (s : Scope) → v ≡ w →
    IfOk r (λ x. w ≡ fine (done_of s [] [] x)) → IfOk r (λ x. Labelled v labels labels before before s x)
alone_as (Ok x) v w labels before s e h = ([], [], sym (append-nil labels), sym (append-nil before), e ∙ h)
alone_as (Err k) v w labels before s e h = tt

-- ---- trees

sees_block : (at : Pos) (items : Vec BlockItem Global) → stmt_of (T.Block at items) ≡ block_stmt at (pieces_of (map piece_of items.items))
sees_block at items = search (rules, the_lemmas)

pub block_tree : (s : Stmt) (at : Pos) (items : Vec BlockItem Global) (is : List BlockItem) → s ≡ T.Block at items → is ≡ items.items → stmt_of s ≡ block_stmt at (pieces_of (map piece_of is))
block_tree s at items is e f = ap stmt_of e ∙ sees_block at items ∙ ap (λ k. block_stmt at (pieces_of (map piece_of k))) (sym f)

sees_empty : (at : Pos) → stmt_of (T.Empty at) ≡ empty_stmt at
sees_empty at = search (rules, the_lemmas)

pub empty_tree : (s : Stmt) (at : Pos) → s ≡ T.Empty at → stmt_of s ≡ empty_stmt at
empty_tree s at e = ap stmt_of e ∙ sees_empty at

sees_expression : (at : Pos) (e : Expr) → stmt_of (T.Expression at e) ≡ expression_stmt at (tree_of e)
sees_expression at e = search (rules, the_lemmas)

pub expression_tree : (s : Stmt) (at : Pos) (e : Expr) → s ≡ T.Expression at e → stmt_of s ≡ expression_stmt at (tree_of e)
expression_tree s at e is = ap stmt_of is ∙ sees_expression at e

sees_if : (at : Pos) (e : Expr) (a : Box Stmt Global) → stmt_of (T.If at e a) ≡ if_stmt at (tree_of e) (stmt_of a.value)
sees_if at e a = search (rules, the_lemmas)

pub if_tree : (s : Stmt) (at : Pos) (e : Expr) (a : Box Stmt Global) (x : Stmt) → s ≡ T.If at e a → x ≡ a.value → stmt_of s ≡ if_stmt at (tree_of e) (stmt_of x)
if_tree s at e a x is f = ap stmt_of is ∙ sees_if at e a ∙ ap (λ k. if_stmt at (tree_of e) (stmt_of k)) (sym f)

sees_if_else : (at : Pos) (e : Expr) (a b : Box Stmt Global) → stmt_of (T.IfElse at e a b) ≡ if_else_stmt at (tree_of e) (stmt_of a.value) (stmt_of b.value)
sees_if_else at e a b = search (rules, the_lemmas)

pub if_else_tree : (s : Stmt) (at : Pos) (e : Expr) (a b : Box Stmt Global) (x y : Stmt) → s ≡ T.IfElse at e a b → x ≡ a.value → y ≡ b.value → stmt_of s ≡ if_else_stmt at (tree_of e) (stmt_of x) (stmt_of y)
if_else_tree s at e a b x y is f g =
    ap stmt_of is ∙ sees_if_else at e a b ∙ ap (λ k. if_else_stmt at (tree_of e) (stmt_of k) (stmt_of b.value)) (sym f) ∙ ap (λ k. if_else_stmt at (tree_of e) (stmt_of x) (stmt_of k)) (sym g)

sees_switch : (at : Pos) (e : Expr) (a : Box Stmt Global) → stmt_of (T.Switch at e a) ≡ switch_stmt at (tree_of e) (stmt_of a.value)
sees_switch at e a = search (rules, the_lemmas)

pub switch_tree : (s : Stmt) (at : Pos) (e : Expr) (a : Box Stmt Global) (x : Stmt) → s ≡ T.Switch at e a → x ≡ a.value → stmt_of s ≡ switch_stmt at (tree_of e) (stmt_of x)
switch_tree s at e a x is f = ap stmt_of is ∙ sees_switch at e a ∙ ap (λ k. switch_stmt at (tree_of e) (stmt_of k)) (sym f)

sees_case : (at : Pos) (e : Expr) (a : Box Stmt Global) → stmt_of (T.Case at e a) ≡ case_stmt at (tree_of e) (stmt_of a.value)
sees_case at e a = search (rules, the_lemmas)

pub case_tree : (s : Stmt) (at : Pos) (e : Expr) (a : Box Stmt Global) (x : Stmt) → s ≡ T.Case at e a → x ≡ a.value → stmt_of s ≡ case_stmt at (tree_of e) (stmt_of x)
case_tree s at e a x is f = ap stmt_of is ∙ sees_case at e a ∙ ap (λ k. case_stmt at (tree_of e) (stmt_of k)) (sym f)

sees_default : (at : Pos) (a : Box Stmt Global) → stmt_of (T.Default at a) ≡ default_stmt at (stmt_of a.value)
sees_default at a = search (rules, the_lemmas)

pub default_tree : (s : Stmt) (at : Pos) (a : Box Stmt Global) (x : Stmt) → s ≡ T.Default at a → x ≡ a.value → stmt_of s ≡ default_stmt at (stmt_of x)
default_tree s at a x is f = ap stmt_of is ∙ sees_default at a ∙ ap (λ k. default_stmt at (stmt_of k)) (sym f)

sees_while : (at : Pos) (e : Expr) (a : Box Stmt Global) → stmt_of (T.While at e a) ≡ while_stmt at (tree_of e) (stmt_of a.value)
sees_while at e a = search (rules, the_lemmas)

pub while_tree : (s : Stmt) (at : Pos) (e : Expr) (a : Box Stmt Global) (x : Stmt) → s ≡ T.While at e a → x ≡ a.value → stmt_of s ≡ while_stmt at (tree_of e) (stmt_of x)
while_tree s at e a x is f = ap stmt_of is ∙ sees_while at e a ∙ ap (λ k. while_stmt at (tree_of e) (stmt_of k)) (sym f)

sees_do : (at : Pos) (a : Box Stmt Global) (e : Expr) → stmt_of (T.DoWhile at a e) ≡ do_while_stmt at (stmt_of a.value) (tree_of e)
sees_do at a e = search (rules, the_lemmas)

pub do_tree : (s : Stmt) (at : Pos) (a : Box Stmt Global) (e : Expr) (x : Stmt) → s ≡ T.DoWhile at a e → x ≡ a.value → stmt_of s ≡ do_while_stmt at (stmt_of x) (tree_of e)
do_tree s at a e x is f = ap stmt_of is ∙ sees_do at a e ∙ ap (λ k. do_while_stmt at (stmt_of k) (tree_of e)) (sym f)

sees_for : (at : Pos) (h : Box ForHead Global) (a : Box Stmt Global) → stmt_of (T.For at h a) ≡ for_stmt at (start_of h.value.start) (option_tree h.value.test) (option_tree h.value.step) (stmt_of a.value)
sees_for at h a = search (rules, the_lemmas)

pub for_tree : (s : Stmt) (at : Pos) (h : Box ForHead Global) (a : Box Stmt Global) (g i j : ForHead) (x : Stmt) → s ≡ T.For at h a → g ≡ h.value → i ≡ h.value → j ≡ h.value → x ≡ a.value →
    stmt_of s ≡ for_stmt at (start_of g.start) (option_tree i.test) (option_tree j.step) (stmt_of x)
for_tree s at h a g i j x is e p q f =
    ap stmt_of is ∙ sees_for at h a ∙ ap (λ (k : ForHead). for_stmt at (start_of k.start) (option_tree h.value.test) (option_tree h.value.step) (stmt_of a.value)) (sym e)
    ∙ ap (λ (k : ForHead). for_stmt at (start_of g.start) (option_tree k.test) (option_tree h.value.step) (stmt_of a.value)) (sym p)
    ∙ ap (λ (k : ForHead). for_stmt at (start_of g.start) (option_tree i.test) (option_tree k.step) (stmt_of a.value)) (sym q)
    ∙ ap (λ k. for_stmt at (start_of g.start) (option_tree i.test) (option_tree j.step) (stmt_of k)) (sym f)

sees_break : (at : Pos) → stmt_of (T.Break at) ≡ break_stmt at
sees_break at = search (rules, the_lemmas)

pub break_tree : (s : Stmt) (at : Pos) → s ≡ T.Break at → stmt_of s ≡ break_stmt at
break_tree s at e = ap stmt_of e ∙ sees_break at

sees_continue : (at : Pos) → stmt_of (T.Continue at) ≡ continue_stmt at
sees_continue at = search (rules, the_lemmas)

pub continue_tree : (s : Stmt) (at : Pos) → s ≡ T.Continue at → stmt_of s ≡ continue_stmt at
continue_tree s at e = ap stmt_of e ∙ sees_continue at

sees_return : (at : Pos) (e : Option Expr) → stmt_of (T.Return at e) ≡ return_stmt at (option_tree e)
sees_return at e = search (rules, the_lemmas)

pub return_tree : (s : Stmt) (at : Pos) (e : Option Expr) → s ≡ T.Return at e → stmt_of s ≡ return_stmt at (option_tree e)
return_tree s at e is = ap stmt_of is ∙ sees_return at e

sees_nothing : (at : Pos) → statement_of (P.Empty at) ≡ program.empty
sees_nothing at = search (rules, program_lemmas)

pub empty_done : (A : Around) (d : Option IntType) (s : Scope) (at : Pos) → statement A d s (empty_stmt at) ≡ fine (done_of s [] [] (P.Empty at))
empty_done A d s at = ap (λ k. fine (record { labels = []; statement = k; scope = s; initial = [] })) (sym (sees_nothing at))
