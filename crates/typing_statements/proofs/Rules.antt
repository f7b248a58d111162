-- The verdict on a statement, from those on its parts.
use Rattle.std.proofs.Common.{◌≡◌, ℕ, ◌-◌, ℤ, List, [], ◌∷◌, ◌++◌, length, map, Option, Some, None, refl, sym, ap, ◌∙◌, subst, append_assoc, append-nil, rules, Global, IfOk, IfErr}
use Rattle.std.specs.Prelude.{Box, Result}
use Rattle.srcset.specs.declared.code.Code.TheVariants as code
use Rattle.std.proofs.lemmas.List.{map-append}
use Rattle.srcset.specs.declared.refusal.Pos.{Pos}
use Rattle.srcset.specs.declared.refusal.Refusal.{Refusal}
use Rattle.ctypes.specs.declared.types.IntType.{IntType}
use Rattle.ctypes.specs.Types.{promoted}
use Rattle.tree.specs.Tree.{Tree, StartTree, StmtTree, Pieces, stmt_hole, block_stmt, empty_stmt, expression_stmt, if_stmt, if_else_stmt, switch_stmt, case_stmt, default_stmt, while_stmt, do_while_stmt, for_stmt, break_stmt, continue_stmt, return_stmt}
use Rattle.typed_ast.specs.declared.statements.Statement.{Statement, the_lemmas}
use Rattle.typed_ast.specs.declared.statements.Statement as S
use Rattle.typed_ast.specs.declared.expressions.Value.{Value}
use Rattle.typed_ast.specs.View.{value_of, option_value, statement_of, statements_of}
use Rattle.typing_spec.specs.Verdict.{Verdict, fine, broken, breaks, then_check, both, provided}
use Rattle.typing_spec.specs.Program as program
use Rattle.typing_spec.specs.Scope.{Scope, past, inside, outside}
use Rattle.typing_spec.specs.Expressions as expressions
use Rattle.typing_spec.specs.Expressions.{typing, valued}
use Rattle.typing_spec.specs.Statements as typed
use Rattle.typing_spec.specs.Statements.{statement, pieces}
use Rattle.typing_expressions.specs.declared.forms.Worth.{Worth}
use Rattle.typing_expressions.specs.Forms.{worth_of}
use Rattle.typing_expressions.specs.Refused.{IsOf, Tells, refused}
use Rattle.typing_expressions.proofs.Verdicts.{tells_left, tells_right, tells_then}
use Rattle.decls_declarators.proofs.Verdicts.{then_fine, then_tells, both_fine, both_tells, provided_fine, provided_left}
use Rattle.typing_scopes.specs.Scopes.{with_texts}
use Rattle.typing_statements.specs.declared.labels.Label.{Label}
use Rattle.typing_units.specs.declared.first_values.Initial.{Initial}
use Rattle.typing_statements.specs.declared.surroundings.Around as held
use Rattle.typing_statements.specs.declared.loop_controls.Control.{Control}
use Rattle.typing_statements.specs.Views.{around_of, label_of, initial_of, done_of, all_done_of, start_of, Unlabelled, Labelled}
use Rattle.typing_statements.specs.inside.Pieces.{Inner}
use Rattle.typing_statements.specs.inside.Controls.{control_of}

-- ---- the code's statements

sees_if : (at : Pos) (e : Value) (a : Box Statement Global) → statement_of (S.If at e a) ≡ program.branch (value_of e) (statement_of a.value)
sees_if at e a = search (rules, the_lemmas)

sees_if_else : (at : Pos) (e : Value) (a b : Box Statement Global) → statement_of (S.IfElse at e a b) ≡ program.branches (value_of e) (statement_of a.value) (statement_of b.value)
sees_if_else at e a b = search (rules, the_lemmas)

sees_while : (at : Pos) (e : Value) (a : Box Statement Global) → statement_of (S.While at e a) ≡ program.while (value_of e) (statement_of a.value)
sees_while at e a = search (rules, the_lemmas)

sees_do_while : (at : Pos) (a : Box Statement Global) (e : Value) → statement_of (S.DoWhile at a e) ≡ program.do_while (statement_of a.value) (value_of e)
sees_do_while at a e = search (rules, the_lemmas)

-- ---- first values, one part after another

joined : (before mid after js ks : List Initial) → mid ≡ before ++ js → after ≡ mid ++ ks → after ≡ before ++ (js ++ ks)
joined before mid after js ks e f = f ∙ ap (λ l. l ++ ks) e ∙ append_assoc before js ks

-- ---- if (6.8.4.1)

pub if_fine : (A : typed.Around) (d : Option IntType) (t : List (List ℕ)) (s s1 s2 : Scope) (at : Pos) (e : Tree) (a : StmtTree) (w : Worth) (before after : List Initial) (b : Box Statement Global) →
    valued code.VoidControl at (typing (with_texts t s) e) ≡ fine (worth_of w) → s1 ≡ past s e → Inner (statement A None (with_texts t s1) a) before after (with_texts t s2) b.value →
    Unlabelled (statement A d (with_texts t s) (if_stmt at e a)) before after (with_texts t s2) (S.If at w.value b)
if_fine A d t s s1 s2 at e a w before after b v h p = (
  p.1,
  p.2,
  both_fine (valued code.VoidControl at (typing (with_texts t s) e)) (statement A None (past (with_texts t s) e) a) (worth_of w) (done_of (with_texts t s2) p.0 p.1 b.value)
      (λ c x. typed.done_with x.scope x.initial (program.branch c.e x.statement)) v (ap (λ k. statement A None (with_texts t k) a) (sym h) ∙ p.3)
      ∙ ap (λ k. fine (record { labels = []; statement = k; scope = with_texts t s2; initial = map initial_of p.1 })) (sym (sees_if at w.value b)),
)

pub if_left : (A : typed.Around) (d : Option IntType) (t : List (List ℕ)) (s : Scope) (at : Pos) (e : Tree) (a : StmtTree) (r : Refusal) →
    Tells r (valued code.VoidControl at (typing (with_texts t s) e)) → Tells r (statement A d (with_texts t s) (if_stmt at e a))
if_left A d t s at e a r h =
    tells_left r (valued code.VoidControl at (typing (with_texts t s) e)) (statement A None (past (with_texts t s) e) a) (λ c x. typed.done_with x.scope x.initial (program.branch c.e x.statement)) h

pub if_right : (A : typed.Around) (d : Option IntType) (t : List (List ℕ)) (s s1 : Scope) (at : Pos) (e : Tree) (a : StmtTree) (r : Refusal) → s1 ≡ past s e →
    Tells r (statement A None (with_texts t s1) a) → Tells r (statement A d (with_texts t s) (if_stmt at e a))
if_right A d t s s1 at e a r f h =
    tells_right r (valued code.VoidControl at (typing (with_texts t s) e)) (statement A None (past (with_texts t s) e) a) (λ c x. typed.done_with x.scope x.initial (program.branch c.e x.statement))
    (subst (λ k. Tells r (statement A None (with_texts t k) a)) f h)

abbrev else_of : typed.Around → StmtTree → expressions.Worth → typed.Done → Verdict typed.Done
else_of A b c x = then_check (statement A None x.scope b) (λ y. typed.done_with y.scope (x.initial ++ y.initial) (program.branches c.e x.statement y.statement))

pub if_else_fine : (A : typed.Around) (d : Option IntType) (t : List (List ℕ)) (s s1 s2 s3 : Scope) (at : Pos) (e : Tree) (a b : StmtTree) (w : Worth) (before mid after : List Initial) (x y : Box Statement Global) →
    valued code.VoidControl at (typing (with_texts t s) e) ≡ fine (worth_of w) → s1 ≡ past s e → Inner (statement A None (with_texts t s1) a) before mid (with_texts t s2) x.value →
    Inner (statement A None (with_texts t s2) b) mid after (with_texts t s3) y.value →
    Unlabelled (statement A d (with_texts t s) (if_else_stmt at e a b)) before after (with_texts t s3) (S.IfElse at w.value x y)
if_else_fine A d t s s1 s2 s3 at e a b w before mid after x y v h p q = (
  p.1 ++ q.1,
  joined before mid after p.1 q.1 p.2 q.2,
  both_fine (valued code.VoidControl at (typing (with_texts t s) e)) (statement A None (past (with_texts t s) e) a) (worth_of w) (done_of (with_texts t s2) p.0 p.1 x.value)
      (else_of A b) v (ap (λ k. statement A None (with_texts t k) a) (sym h) ∙ p.3)
      ∙ then_fine (statement A None (with_texts t s2) b) (done_of (with_texts t s3) q.0 q.1 y.value)
      (λ z. typed.done_with z.scope (map initial_of p.1 ++ z.initial) (program.branches (value_of w.value) (statement_of x.value) z.statement)) q.3
      ∙ ap (λ k. fine (record { labels = []; statement = program.branches (value_of w.value) (statement_of x.value) (statement_of y.value); scope = with_texts t s3; initial = k })) (sym (map-append initial_of p.1 q.1))
      ∙ ap (λ k. fine (record { labels = []; statement = k; scope = with_texts t s3; initial = map initial_of (p.1 ++ q.1) })) (sym (sees_if_else at w.value x y)),
)

pub if_else_left : (A : typed.Around) (d : Option IntType) (t : List (List ℕ)) (s : Scope) (at : Pos) (e : Tree) (a b : StmtTree) (r : Refusal) →
    Tells r (valued code.VoidControl at (typing (with_texts t s) e)) → Tells r (statement A d (with_texts t s) (if_else_stmt at e a b))
if_else_left A d t s at e a b r h =
    tells_left r (valued code.VoidControl at (typing (with_texts t s) e)) (statement A None (past (with_texts t s) e) a) (else_of A b) h

pub if_else_first : (A : typed.Around) (d : Option IntType) (t : List (List ℕ)) (s s1 : Scope) (at : Pos) (e : Tree) (a b : StmtTree) (r : Refusal) → s1 ≡ past s e →
    Tells r (statement A None (with_texts t s1) a) → Tells r (statement A d (with_texts t s) (if_else_stmt at e a b))
if_else_first A d t s s1 at e a b r f h =
    tells_right r (valued code.VoidControl at (typing (with_texts t s) e)) (statement A None (past (with_texts t s) e) a) (else_of A b)
    (subst (λ k. Tells r (statement A None (with_texts t k) a)) f h)

pub if_else_second : (A : typed.Around) (d : Option IntType) (t : List (List ℕ)) (s s1 s2 : Scope) (at : Pos) (e : Tree) (a b : StmtTree) (w : Worth) (before mid : List Initial) (x : Box Statement Global) (r : Refusal) →
    valued code.VoidControl at (typing (with_texts t s) e) ≡ fine (worth_of w) → s1 ≡ past s e → Inner (statement A None (with_texts t s1) a) before mid (with_texts t s2) x.value →
    Tells r (statement A None (with_texts t s2) b) → Tells r (statement A d (with_texts t s) (if_else_stmt at e a b))
if_else_second A d t s s1 s2 at e a b w before mid x r v h p q =
    both_tells r (valued code.VoidControl at (typing (with_texts t s) e)) (statement A None (past (with_texts t s) e) a) (worth_of w) (done_of (with_texts t s2) p.0 p.1 x.value)
    (else_of A b) v (ap (λ k. statement A None (with_texts t k) a) (sym h) ∙ p.3)
    (tells_then r (statement A None (with_texts t s2) b) (λ z. typed.done_with z.scope (map initial_of p.1 ++ z.initial) (program.branches (value_of w.value) (statement_of x.value) z.statement)) q)

-- ---- while, do (6.8.5.1, 6.8.5.2)

pub while_fine : (A B : typed.Around) (d : Option IntType) (t : List (List ℕ)) (s s1 s2 : Scope) (at : Pos) (e : Tree) (a : StmtTree) (w : Worth) (before after : List Initial) (b : Box Statement Global) → B ≡ typed.in_a_loop A →
    valued code.VoidControl at (typing (with_texts t s) e) ≡ fine (worth_of w) → s1 ≡ past s e → Inner (statement B None (with_texts t s1) a) before after (with_texts t s2) b.value →
    Unlabelled (statement A d (with_texts t s) (while_stmt at e a)) before after (with_texts t s2) (S.While at w.value b)
while_fine A B d t s s1 s2 at e a w before after b l v h p = (
  p.1,
  p.2,
  both_fine (valued code.VoidControl at (typing (with_texts t s) e)) (statement (typed.in_a_loop A) None (past (with_texts t s) e) a) (worth_of w) (done_of (with_texts t s2) p.0 p.1 b.value)
      (λ c x. typed.done_with x.scope x.initial (program.while c.e x.statement)) v (ap (λ k. statement (typed.in_a_loop A) None (with_texts t k) a) (sym h) ∙ ap (λ k. statement k None (with_texts t s1) a) (sym l) ∙ p.3)
      ∙ ap (λ k. fine (record { labels = []; statement = k; scope = with_texts t s2; initial = map initial_of p.1 })) (sym (sees_while at w.value b)),
)

pub while_left : (A : typed.Around) (d : Option IntType) (t : List (List ℕ)) (s : Scope) (at : Pos) (e : Tree) (a : StmtTree) (r : Refusal) →
    Tells r (valued code.VoidControl at (typing (with_texts t s) e)) → Tells r (statement A d (with_texts t s) (while_stmt at e a))
while_left A d t s at e a r h =
    tells_left r (valued code.VoidControl at (typing (with_texts t s) e)) (statement (typed.in_a_loop A) None (past (with_texts t s) e) a) (λ c x. typed.done_with x.scope x.initial (program.while c.e x.statement)) h

pub while_right : (A B : typed.Around) (d : Option IntType) (t : List (List ℕ)) (s s1 : Scope) (at : Pos) (e : Tree) (a : StmtTree) (r : Refusal) → B ≡ typed.in_a_loop A → s1 ≡ past s e →
    Tells r (statement B None (with_texts t s1) a) → Tells r (statement A d (with_texts t s) (while_stmt at e a))
while_right A B d t s s1 at e a r l f h =
    tells_right r (valued code.VoidControl at (typing (with_texts t s) e)) (statement (typed.in_a_loop A) None (past (with_texts t s) e) a) (λ c x. typed.done_with x.scope x.initial (program.while c.e x.statement))
    (subst (λ k. Tells r (statement k None (past (with_texts t s) e) a)) l (subst (λ k. Tells r (statement B None (with_texts t k) a)) f h))

abbrev test_of : Pos → Tree → typed.Done → Verdict typed.Done
test_of at e x = then_check (valued code.VoidControl at (typing x.scope e)) (λ c. typed.done_with (past x.scope e) x.initial (program.do_while x.statement c.e))

pub do_fine : (A B : typed.Around) (d : Option IntType) (t : List (List ℕ)) (s s1 s2 : Scope) (at : Pos) (a : StmtTree) (e : Tree) (w : Worth) (before after : List Initial) (b : Box Statement Global) → B ≡ typed.in_a_loop A →
    Inner (statement B None (with_texts t s) a) before after (with_texts t s1) b.value → valued code.VoidControl at (typing (with_texts t s1) e) ≡ fine (worth_of w) → s2 ≡ past s1 e →
    Unlabelled (statement A d (with_texts t s) (do_while_stmt at a e)) before after (with_texts t s2) (S.DoWhile at b w.value)
do_fine A B d t s s1 s2 at a e w before after b l p v h = (
  p.1,
  p.2,
  then_fine (statement (typed.in_a_loop A) None (with_texts t s) a) (done_of (with_texts t s1) p.0 p.1 b.value) (test_of at e) (ap (λ k. statement k None (with_texts t s) a) (sym l) ∙ p.3)
      ∙ then_fine (valued code.VoidControl at (typing (with_texts t s1) e)) (worth_of w) (λ c. typed.done_with (past (with_texts t s1) e) (map initial_of p.1) (program.do_while (statement_of b.value) c.e)) v
      ∙ ap (λ k. fine (record { labels = []; statement = program.do_while (statement_of b.value) (value_of w.value); scope = with_texts t k; initial = map initial_of p.1 })) (sym h)
      ∙ ap (λ k. fine (record { labels = []; statement = k; scope = with_texts t s2; initial = map initial_of p.1 })) (sym (sees_do_while at b w.value)),
)

pub do_left : (A B : typed.Around) (d : Option IntType) (t : List (List ℕ)) (s : Scope) (at : Pos) (a : StmtTree) (e : Tree) (r : Refusal) → B ≡ typed.in_a_loop A →
    Tells r (statement B None (with_texts t s) a) → Tells r (statement A d (with_texts t s) (do_while_stmt at a e))
do_left A B d t s at a e r l h = tells_then r (statement (typed.in_a_loop A) None (with_texts t s) a) (test_of at e) (subst (λ k. Tells r (statement k None (with_texts t s) a)) l h)

pub do_right : (A B : typed.Around) (d : Option IntType) (t : List (List ℕ)) (s s1 : Scope) (at : Pos) (a : StmtTree) (e : Tree) (before after : List Initial) (b : Box Statement Global) (r : Refusal) → B ≡ typed.in_a_loop A →
    Inner (statement B None (with_texts t s) a) before after (with_texts t s1) b.value → Tells r (valued code.VoidControl at (typing (with_texts t s1) e)) → Tells r (statement A d (with_texts t s) (do_while_stmt at a e))
do_right A B d t s s1 at a e before after b r l p h =
    then_tells r (statement (typed.in_a_loop A) None (with_texts t s) a) (done_of (with_texts t s1) p.0 p.1 b.value) (test_of at e) (ap (λ k. statement k None (with_texts t s) a) (sym l) ∙ p.3)
    (tells_then r (valued code.VoidControl at (typing (with_texts t s1) e)) (λ c. typed.done_with (past (with_texts t s1) e) (map initial_of p.1) (program.do_while (statement_of b.value) c.e)) h)

-- ---- as far as an else

pub head_inner : (A : typed.Around) (t : List (List ℕ)) (s s1 s2 : Scope) (e : Tree) (a : StmtTree) (before after : List Initial) (b : Statement) → s1 ≡ past s e → Inner (statement A None (with_texts t s1) a) before after (with_texts t s2) b →
    Inner (statement A None (past (with_texts t s) e) a) before after (with_texts t s2) b
head_inner A t s s1 s2 e a before after b h p = (p.0, p.1, p.2, ap (λ k. statement A None (with_texts t k) a) (sym h) ∙ p.3)

pub else_labelled : (A : typed.Around) (d : Option IntType) (t : List (List ℕ)) (s s2 s3 : Scope) (at : Pos) (e : Tree) (a b : StmtTree) (w : Worth) (labels : List Label) (before mid after : List Initial) (x y : Box Statement Global) →
    valued code.VoidControl at (typing (with_texts t s) e) ≡ fine (worth_of w) → Inner (statement A None (past (with_texts t s) e) a) before mid (with_texts t s2) x.value →
    Inner (statement A None (with_texts t s2) b) mid after (with_texts t s3) y.value →
    Labelled (statement A d (with_texts t s) (if_else_stmt at e a b)) labels labels before after (with_texts t s3) (S.IfElse at w.value x y)
else_labelled A d t s s2 s3 at e a b w labels before mid after x y v p q =
    let k = if_else_fine A d t s (past s e) s2 s3 at e a b w before mid after x y v refl p q in
    ([], k.0, sym (append-nil labels), k.1, k.2)
