-- The rest of a scope where a block ends; the code's items of blocks.
use Rattle.std.proofs.Common.{◌≡◌, ℕ, List, [], ◌++◌, map, Option, Some, None, refl, sym, ap, ◌∙◌, subst, append-nil, rules, Global, Ok, Err, IfErr, OnOk}
use Rattle.std.specs.Prelude.{Box, Result}
use Rattle.srcset.specs.declared.refusal.Refusal.{Refusal}
use Rattle.ctypes.specs.declared.types.IntType.{IntType}
use Rattle.tree.specs.declared.declaration.Declaration.{Declaration}
use Rattle.tree.specs.declared.statement.Stmt.{Stmt}
use Rattle.tree.specs.declared.statement.BlockItem.{BlockItem, the_lemmas}
use Rattle.tree.specs.declared.statement.BlockItem as B
use Rattle.tree.specs.Tree.{Tree, StartTree, StmtTree, Pieces, and_piece, declaration_item, statement_item}
use Rattle.tree.specs.View.{declaration_of, stmt_of, piece_of}
use Rattle.typed_ast.specs.declared.statements.Statement.{Statement}
use Rattle.typed_ast.specs.declared.expressions.Value.{Value}
use Rattle.typing_spec.specs.Verdict.{Verdict, fine, then_check}
use Rattle.typing_spec.specs.Scope.{Scope, Binding, Tag, inside, outside}
use Rattle.typing_spec.specs.Statements as typed
use Rattle.typing_spec.specs.Statements.{statement, pieces}
use Rattle.typing_expressions.specs.Refused.{Tells}
use Rattle.typing_scopes.specs.declared.scopes.Block.{Block}
use Rattle.typing_scopes.specs.Scopes.{with_texts, block_of}
use Rattle.typing_statements.specs.declared.labels.Label.{Label}
use Rattle.typing_units.specs.declared.first_values.Initial.{Initial}
use Rattle.typing_statements.specs.Views.{done_of, all_done_of, start_of, Labelled}
use Rattle.typing_statements.specs.inside.Pieces.{put_before, Inner, Scoped, Puts}
use Rattle.typing_statements.proofs.Growth.{Grows, stays, same_names, onwards}
use Rattle.typing_statements.proofs.StatementGrowth.{pieces_grow, statement_grows, start_grows}
use Rattle.typing_statements.proofs.ForRules.{Begins}

-- ---- where a block ends

abbrev Leaves : Block → Scope → Scope → Type 0
Leaves b old new = (outer : Scope) (names : List Binding) (tags : List Tag) → b ≡ block_of outer → old.bindings ≡ names ++ outer.bindings → old.tags ≡ tags ++ outer.tags → new ≡ outside outer old

leaves : (b : Block) (s old new : Scope) → Leaves b old new → b ≡ block_of s → Grows s old → new ≡ outside s old
leaves b s old new h e g = h s g.names g.tags e g.names_are g.tags_are

without_texts : (t : List (List ℕ)) (a b : Scope) → Grows (with_texts t a) (with_texts t b) → Grows a b
without_texts t a b g = record { names = g.names; tags = g.tags; names_are = g.names_are; tags_are = g.tags_are }

from_inside : (s s1 b : Scope) → s1 ≡ inside s → Grows s1 b → Grows s b
from_inside s s1 b e g = onwards s s1 b (subst (Grows s) (sym e) (same_names s (inside s) refl refl)) g

pub scoped_fine : (A : typed.Around) (d : Option IntType) (t : List (List ℕ)) (s s1 s2 s3 : Scope) (ps : Pieces) (b : Block) (labels new_labels : List Label) (before after : List Initial) (empty all : List Statement) → b ≡ block_of s → s1 ≡ inside s → empty ≡ [] →
    ((ms : List Label) × (js : List Initial) × (xs : List Statement) × (new_labels ≡ labels ++ ms) × (after ≡ before ++ js) × (all ≡ empty ++ xs) × (pieces A d (with_texts t s1) ps ≡ fine (all_done_of (with_texts t s2) ms js xs))) →
    Leaves b s2 s3 → Scoped (pieces A d (with_texts t (inside s)) ps) labels new_labels before after t s s3 all
scoped_fine A d t s s1 s2 s3 ps b labels new_labels before after empty all e i z p h = (
  p.0,
  p.1,
  s2,
  p.3,
  p.4,
  ap (λ k. pieces A d (with_texts t k) ps) (sym i) ∙ p.6 ∙ ap (λ k. fine (all_done_of (with_texts t s2) p.0 p.1 k)) (sym (p.5 ∙ ap (λ k. k ++ p.2) z)),
  leaves b s s2 s3 h e (from_inside s s1 s2 i (without_texts t s1 s2 (pieces_grow A d (with_texts t s1) ps (all_done_of (with_texts t s2) p.0 p.1 p.2) p.6))),
)

pub scoped_tells : (A : typed.Around) (d : Option IntType) (t : List (List ℕ)) (s s1 : Scope) (ps : Pieces) (r : Refusal) → s1 ≡ inside s → Tells r (pieces A d (with_texts t s1) ps) → Tells r (pieces A d (with_texts t (inside s)) ps)
scoped_tells A d t s s1 ps r i h = subst (λ k. Tells r (pieces A d (with_texts t k) ps)) i h

past_grows : (s : Scope) (e : Option Tree) → Grows s (typed.past_option s e)
past_grows s None = stays s
past_grows s (Some e) = same_names s (typed.past_option s (Some e)) refl refl

pub for_outside : (B : typed.Around) (t : List (List ℕ)) (s s1 s2 s3 s4 s5 s6 : Scope) (start : StartTree) (test step : Option Tree) (a : StmtTree) (b : Block) (empty all : List Statement) (before mid after : List Initial) (v : Option Value) (x : Statement) →
    b ≡ block_of s → s1 ≡ inside s → Begins (typed.started (with_texts t s1) start) empty all before mid (with_texts t s2) v → s3 ≡ typed.past_option (typed.past_option s2 test) step → s4 ≡ inside s3 →
    Inner (statement B None (with_texts t s4) a) mid after (with_texts t s5) x → Leaves b s5 s6 → s6 ≡ outside s s5
for_outside B t s s1 s2 s3 s4 s5 s6 start test step a b empty all before mid after v x e i p f g q h =
    let first : Grows s s2 = from_inside s s1 s2 i (without_texts t s1 s2 (start_grows (with_texts t s1) start (start_of (with_texts t s2) p.0 p.1 v) p.4)) in
    let more : Grows s2 s3 = subst (Grows s2) (sym f) (onwards s2 (typed.past_option s2 test) (typed.past_option (typed.past_option s2 test) step) (past_grows s2 test) (past_grows (typed.past_option s2 test) step)) in
    let last : Grows s3 s5 = from_inside s3 s4 s5 g (without_texts t s4 s5 (statement_grows B None (with_texts t s4) a (done_of (with_texts t s5) q.0 q.1 x) q.3)) in
    leaves b s s5 s6 h e (onwards s s2 s5 first (onwards s2 s3 s5 more last))

-- ---- a box

pub inner_fine : (b : Box Statement Global) (x : Statement) (v : Verdict typed.Done) (labels new : List Label) (before after : List Initial) (s : Scope) → b.value ≡ x → Labelled v labels new before after s x → Inner v before after s b.value
inner_fine b x v labels new before after s e p = (p.0, p.1, p.3, p.4 ∙ ap (λ k. fine (done_of s p.0 p.1 k)) (sym e))

-- ---- the code's items

sees_declaration : (x : Declaration) → piece_of (B.Declaration x) ≡ declaration_item (declaration_of x)
sees_declaration x = search (rules, the_lemmas)

sees_statement : (x : Stmt) → piece_of (B.Statement x) ≡ statement_item (stmt_of x)
sees_statement x = search (rules, the_lemmas)

declaration_piece : (i : BlockItem) (x : Declaration) → i ≡ B.Declaration x → piece_of i ≡ declaration_item (declaration_of x)
declaration_piece i x e = ap piece_of e ∙ sees_declaration x

statement_piece : (i : BlockItem) (x : Stmt) → i ≡ B.Statement x → piece_of i ≡ statement_item (stmt_of x)
statement_piece i x e = ap piece_of e ∙ sees_statement x

pub declaration_puts : (r : Result (Unit {0}) Refusal) (A : typed.Around) (d : Option IntType) (s s1 : Scope) (i : BlockItem) (x : Declaration) (labels : List Label) (before after : List Initial) (all new_all : List Statement) → i ≡ B.Declaration x →
    OnOk r ((js : List Initial) × (xs : List Statement) × (after ≡ before ++ js) × (new_all ≡ all ++ xs) × ((ps : Pieces) → pieces A d s (and_piece (declaration_item (declaration_of x)) ps) ≡ then_check (pieces A d s1 ps) (put_before [] js xs))) →
    OnOk r (Puts (λ ps. pieces A d s (and_piece (piece_of i) ps)) (λ ps. pieces A d s1 ps) labels labels before after all new_all)
declaration_puts (Ok u) A d s s1 i x labels before after all new_all e h =
    ([], h.0, h.1, sym (append-nil labels), h.2, h.3, λ ps. ap (λ k. pieces A d s (and_piece k ps)) (declaration_piece i x e) ∙ h.4 ps)
declaration_puts (Err k) A d s s1 i x labels before after all new_all e h = tt

pub declaration_puts_not : (r : Result (Unit {0}) Refusal) (A : typed.Around) (d : Option IntType) (s : Scope) (i : BlockItem) (x : Declaration) → i ≡ B.Declaration x →
    IfErr r (λ k. (ps : Pieces) → Tells k (pieces A d s (and_piece (declaration_item (declaration_of x)) ps))) → IfErr r (λ k. (ps : Pieces) → Tells k (pieces A d s (and_piece (piece_of i) ps)))
declaration_puts_not (Ok u) A d s i x e h = tt
declaration_puts_not (Err k) A d s i x e h = λ ps. subst (λ y. Tells k (pieces A d s (and_piece y ps))) (sym (declaration_piece i x e)) (h ps)

pub statement_puts : (r : Result (Unit {0}) Refusal) (A : typed.Around) (d : Option IntType) (s s1 : Scope) (i : BlockItem) (x : Stmt) (labels new_labels : List Label) (before after : List Initial) (all new_all : List Statement) → i ≡ B.Statement x →
    OnOk r (Puts (λ ps. pieces A d s (and_piece (statement_item (stmt_of x)) ps)) (λ ps. pieces A d s1 ps) labels new_labels before after all new_all) →
    OnOk r (Puts (λ ps. pieces A d s (and_piece (piece_of i) ps)) (λ ps. pieces A d s1 ps) labels new_labels before after all new_all)
statement_puts (Ok u) A d s s1 i x labels new_labels before after all new_all e h =
    (h.0, h.1, h.2, h.3, h.4, h.5, λ ps. ap (λ k. pieces A d s (and_piece k ps)) (statement_piece i x e) ∙ h.6 ps)
statement_puts (Err k) A d s s1 i x labels new_labels before after all new_all e h = tt

pub statement_puts_not : (r : Result (Unit {0}) Refusal) (A : typed.Around) (d : Option IntType) (s : Scope) (i : BlockItem) (x : Stmt) → i ≡ B.Statement x →
    IfErr r (λ k. (ps : Pieces) → Tells k (pieces A d s (and_piece (statement_item (stmt_of x)) ps))) → IfErr r (λ k. (ps : Pieces) → Tells k (pieces A d s (and_piece (piece_of i) ps)))
statement_puts_not (Ok u) A d s i x e h = tt
statement_puts_not (Err k) A d s i x e h = λ ps. subst (λ y. Tells k (pieces A d s (and_piece y ps))) (sym (statement_piece i x e)) (h ps)
