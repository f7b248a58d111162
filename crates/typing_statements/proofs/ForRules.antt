-- The verdict on a `for`, from those on its parts.
use Rattle.std.proofs.Common.{◌≡◌, ℕ, List, [], ◌∷◌, ◌++◌, map, Option, Some, None, refl, sym, ap, ◌∙◌, subst, append_assoc, append-nil, rules, Global}
use Rattle.std.specs.Prelude.{Box, Vec}
use Rattle.std.proofs.lemmas.List.{map-append}
use Rattle.srcset.specs.declared.refusal.Pos.{Pos}
use Rattle.srcset.specs.declared.refusal.Refusal.{Refusal}
use Rattle.ctypes.specs.declared.types.IntType.{IntType}
use Rattle.tree.specs.declared.expression.Expr.{Expr}
use Rattle.tree.specs.declared.statement.ForStart.{ForStart}
use Rattle.tree.specs.declared.statement.ForStart.TheVariants as for_start
use Rattle.tree.specs.Tree.{Tree, StartTree, expression_start, StmtTree, for_stmt}
use Rattle.tree.specs.View as tree_view
use Rattle.tree.specs.View.{option_tree}
use Rattle.typed_ast.specs.declared.statements.Statement.{Statement, the_lemmas}
use Rattle.typed_ast.specs.declared.statements.Statement as S
use Rattle.typed_ast.specs.declared.expressions.Value.{Value}
use Rattle.typed_ast.specs.View.{value_of, option_value, statement_of, statements_of}
use Rattle.typing_spec.specs.Verdict.{Verdict, fine, then_check, both}
use Rattle.typing_spec.specs.Program as program
use Rattle.typing_spec.specs.Scope.{Scope, past, inside, outside}
use Rattle.typing_spec.specs.Statements as typed
use Rattle.typing_spec.specs.Statements.{statement}
use Rattle.typing_expressions.specs.Refused.{Tells}
use Rattle.typing_expressions.proofs.Verdicts.{tells_left, tells_right, tells_then}
use Rattle.decls_declarators.proofs.Verdicts.{then_fine, then_tells, both_fine}
use Rattle.typing_scopes.specs.Scopes.{with_texts}
use Rattle.typing_units.specs.declared.first_values.Initial.{Initial}
use Rattle.typing_statements.specs.declared.loop_controls.Control.{Control}
use Rattle.typing_statements.specs.Views.{initial_of, done_of, start_of, Unlabelled}
use Rattle.typing_statements.specs.inside.Pieces.{Inner}
use Rattle.typing_statements.specs.inside.Controls.{control_of}

pub past_option_texts : (t : List (List ℕ)) (s : Scope) (o : Option Tree) → typed.past_option (with_texts t s) o ≡ with_texts t (typed.past_option s o)
past_option_texts t s None = refl
past_option_texts t s (Some e) = refl

pub start_expression : (t : List (List ℕ)) (s s1 : Scope) (st : ForStart) (e : Option Expr) (v : Option Value) → st ≡ for_start.Expression e → typed.effect_in (with_texts t s) (option_tree e) ≡ fine (option_value v) →
    s1 ≡ typed.past_option s (option_tree e) → typed.started (with_texts t s) (tree_view.start_of st) ≡ fine (start_of (with_texts t s1) [] [] v)
start_expression t s s1 st e v is h f =
    ap (λ k. typed.started (with_texts t s) (tree_view.start_of k)) is
    ∙ then_fine (typed.effect_in (with_texts t s) (option_tree e)) (option_value v) (λ x. fine (record { effects = record { statements = []; initial = [] }; first = x; scope = typed.past_option (with_texts t s) (option_tree e) })) h
    ∙ ap (λ k. fine (record { effects = record { statements = []; initial = [] }; first = option_value v; scope = k })) (past_option_texts t s (option_tree e) ∙ ap (λ k. with_texts t k) (sym f))

-- ---- for (6.8.5.3)

pub followed : (xs : List (program.Statement)) → typed.followed_by xs program.no_statements ≡ statements_of xs
followed [] = refl
followed (x ∷ xs) = ap (λ k. program.and_statement x k) (followed xs)

abbrev controls : Scope → Pos → Option Tree → Option Tree → Verdict typed.Control
controls s at test step = both (typed.test_in s at test) (typed.effect_in (typed.past_option s test) step) typed.control

abbrev rest : typed.Around → Scope → Pos → Option Tree → Option Tree → StmtTree → typed.Start → Verdict typed.Done
rest A s at test step a x = both (controls x.scope at test step) (statement (typed.in_a_loop A) None (inside (typed.past_option (typed.past_option x.scope test) step)) a) (typed.loop_of s x)

body_scope : (t : List (List ℕ)) (s2 s3 s4 : Scope) (test step : Option Tree) → s3 ≡ typed.past_option (typed.past_option s2 test) step → s4 ≡ inside s3 →
    with_texts t s4 ≡ inside (typed.past_option (typed.past_option (with_texts t s2) test) step)
body_scope t s2 s3 s4 test step e f =
    ap (λ k. with_texts t k) f ∙ ap (λ k. inside (with_texts t k)) e ∙ ap inside (sym (past_option_texts t (typed.past_option s2 test) step)) ∙ ap (λ k. inside (typed.past_option k step)) (sym (past_option_texts t s2 test))

body_is : (A B : typed.Around) (t : List (List ℕ)) (s2 s3 s4 : Scope) (test step : Option Tree) (a : StmtTree) → B ≡ typed.in_a_loop A → s3 ≡ typed.past_option (typed.past_option s2 test) step → s4 ≡ inside s3 →
    statement (typed.in_a_loop A) None (inside (typed.past_option (typed.past_option (with_texts t s2) test) step)) a ≡ statement B None (with_texts t s4) a
body_is A B t s2 s3 s4 test step a l e f = ap (λ k. statement k None (inside (typed.past_option (typed.past_option (with_texts t s2) test) step)) a) (sym l) ∙ ap (λ k. statement B None k a) (sym (body_scope t s2 s3 s4 test step e f))

abbrev pub Begins : Verdict typed.Start → (empty declared : List Statement) → (before after : List Initial) → Scope → Option Value → Type 0
Begins w empty declared before after s v = (xs : List Statement) × (js : List Initial) × (declared ≡ empty ++ xs) × (after ≡ before ++ js) × (w ≡ fine (start_of s xs js v))

pub for_fine : (A B : typed.Around) (d : Option IntType) (t : List (List ℕ)) (s s1 s2 s3 s4 s5 s6 : Scope) (at : Pos) (start : StartTree) (test step : Option Tree) (a : StmtTree) (empty : List Statement) (all : Vec Statement Global)
    (before mid after : List Initial) (v : Option Value) (c : Control) (b : Box Statement Global) (x : Statement) → statement_of x ≡ program.for (statements_of (map statement_of all.items)) (option_value v) (option_value c.test) (option_value c.step) (statement_of b.value) → B ≡ typed.in_a_loop A → s1 ≡ inside s → empty ≡ [] →
    Begins (typed.started (with_texts t s1) start) empty all.items before mid (with_texts t s2) v → controls (with_texts t s2) at test step ≡ fine (control_of c) →
    s3 ≡ typed.past_option (typed.past_option s2 test) step → s4 ≡ inside s3 → Inner (statement B None (with_texts t s4) a) mid after (with_texts t s5) b.value → s6 ≡ outside s s5 →
    Unlabelled (statement A d (with_texts t s) (for_stmt at start test step a)) before after (with_texts t s6) x
for_fine A B d t s s1 s2 s3 s4 s5 s6 at start test step a empty all before mid after v c b x made l i z p h f g q o =
    let xs = p.0 in
    let js = p.1 in
    let ks = q.1 in
    let shown : program.for (typed.followed_by (map statement_of xs) program.no_statements) (option_value v) (option_value c.test) (option_value c.step) (statement_of b.value) ≡ statement_of x =
    ap (λ k. program.for k (option_value v) (option_value c.test) (option_value c.step) (statement_of b.value)) (followed (map statement_of xs) ∙ ap (λ k. statements_of (map statement_of k)) (sym (p.2 ∙ ap (λ k. k ++ xs) z))) ∙ sym made in (
      js ++ ks,
      q.2 ∙ ap (λ k. k ++ ks) p.3 ∙ append_assoc before js ks,
      ap (λ k. then_check (typed.started (with_texts t k) start) (rest A (with_texts t s) at test step a)) (sym i)
          ∙ then_fine (typed.started (with_texts t s1) start) (start_of (with_texts t s2) xs js v) (rest A (with_texts t s) at test step a) p.4
          ∙ both_fine (controls (with_texts t s2) at test step) (statement (typed.in_a_loop A) None (inside (typed.past_option (typed.past_option (with_texts t s2) test) step)) a) (control_of c) (done_of (with_texts t s5) q.0 ks b.value)
          (typed.loop_of (with_texts t s) (start_of (with_texts t s2) xs js v)) h (body_is A B t s2 s3 s4 test step a l f g ∙ q.3)
          ∙ ap (λ k. fine (record { labels = []; statement = k; scope = with_texts t (outside s s5); initial = map initial_of js ++ map initial_of ks })) shown
          ∙ ap (λ k. fine (record { labels = []; statement = statement_of x; scope = with_texts t k; initial = map initial_of js ++ map initial_of ks })) (sym o)
          ∙ ap (λ k. fine (record { labels = []; statement = statement_of x; scope = with_texts t s6; initial = k })) (sym (map-append initial_of js ks)),
    )

pub for_left : (A : typed.Around) (d : Option IntType) (t : List (List ℕ)) (s s1 : Scope) (at : Pos) (start : StartTree) (test step : Option Tree) (a : StmtTree) (r : Refusal) → s1 ≡ inside s →
    Tells r (typed.started (with_texts t s1) start) → Tells r (statement A d (with_texts t s) (for_stmt at start test step a))
for_left A d t s s1 at start test step a r i h =
    tells_then r (typed.started (with_texts t (inside s)) start) (rest A (with_texts t s) at test step a) (subst (λ k. Tells r (typed.started (with_texts t k) start)) i h)

pub for_control : (A : typed.Around) (d : Option IntType) (t : List (List ℕ)) (s s1 s2 : Scope) (at : Pos) (start : StartTree) (test step : Option Tree) (a : StmtTree) (empty all : List Statement) (before mid : List Initial) (v : Option Value) (r : Refusal) →
    s1 ≡ inside s → Begins (typed.started (with_texts t s1) start) empty all before mid (with_texts t s2) v → Tells r (controls (with_texts t s2) at test step) → Tells r (statement A d (with_texts t s) (for_stmt at start test step a))
for_control A d t s s1 s2 at start test step a empty all before mid v r i p h =
    then_tells r (typed.started (with_texts t (inside s)) start) (start_of (with_texts t s2) p.0 p.1 v) (rest A (with_texts t s) at test step a) (ap (λ k. typed.started (with_texts t k) start) (sym i) ∙ p.4)
    (tells_left r (controls (with_texts t s2) at test step) (statement (typed.in_a_loop A) None (inside (typed.past_option (typed.past_option (with_texts t s2) test) step)) a) (typed.loop_of (with_texts t s) (start_of (with_texts t s2) p.0 p.1 v)) h)

pub for_right : (A B : typed.Around) (d : Option IntType) (t : List (List ℕ)) (s s1 s2 s3 s4 : Scope) (at : Pos) (start : StartTree) (test step : Option Tree) (a : StmtTree) (empty all : List Statement) (before mid : List Initial) (v : Option Value) (r : Refusal) →
    B ≡ typed.in_a_loop A → s1 ≡ inside s → Begins (typed.started (with_texts t s1) start) empty all before mid (with_texts t s2) v →
    s3 ≡ typed.past_option (typed.past_option s2 test) step → s4 ≡ inside s3 → Tells r (statement B None (with_texts t s4) a) → Tells r (statement A d (with_texts t s) (for_stmt at start test step a))
for_right A B d t s s1 s2 s3 s4 at start test step a empty all before mid v r l i p f g h =
    then_tells r (typed.started (with_texts t (inside s)) start) (start_of (with_texts t s2) p.0 p.1 v) (rest A (with_texts t s) at test step a) (ap (λ k. typed.started (with_texts t k) start) (sym i) ∙ p.4)
    (tells_right r (controls (with_texts t s2) at test step) (statement (typed.in_a_loop A) None (inside (typed.past_option (typed.past_option (with_texts t s2) test) step)) a) (typed.loop_of (with_texts t s) (start_of (with_texts t s2) p.0 p.1 v))
    (subst (λ w. Tells r w) (sym (body_is A B t s2 s3 s4 test step a l f g)) h))
