-- The verdict on a block, from those on its items.
use Rattle.std.proofs.Common.{◌≡◌, ℕ, ◌+◌, ◌-◌, ◌<◌, ◌≤◌, ℤ, List, [], ◌∷◌, ◌++◌, length, drop, get_or, map, Option, Some, None, refl, sym, ap, ◌∙◌, subst, append_assoc, append-nil, rules, Global, Ok, Err, IfOk, IfErr, OnOk}
use Rattle.std.specs.Prelude.{Box, Vec, Result}
use Rattle.std.proofs.lemmas.List.{map-append, drop_all}
use Rattle.srcset.specs.declared.code.Code.TheVariants as code
use Rattle.srcset.specs.declared.refusal.Pos.{Pos}
use Rattle.srcset.specs.declared.refusal.Refusal.{Refusal}
use Rattle.ctypes.specs.declared.types.IntType.{IntType}
use Rattle.ctypes.specs.Types.{promoted}
use Rattle.tree.specs.declared.statement.BlockItem.{BlockItem}
use Rattle.tree.specs.Tree.{Tree, StmtTree, Pieces, PieceTree, no_pieces, and_piece, statement_item, declaration_item, DeclarationTree, stmt_hole, block_stmt, empty_stmt, expression_stmt, if_stmt, if_else_stmt, switch_stmt, case_stmt, default_stmt, while_stmt, do_while_stmt, for_stmt, break_stmt, continue_stmt, return_stmt}
use Rattle.tree.specs.View.{piece_of, pieces_of}
use Rattle.typed_ast.specs.declared.statements.Statement.{Statement, the_lemmas}
use Rattle.typed_ast.specs.declared.statements.Statement as S
use Rattle.typed_ast.specs.declared.expressions.Value.{Value}
use Rattle.typed_ast.specs.View.{value_of, statement_of, statements_of}
use Rattle.typing_spec.specs.Verdict.{Verdict, fine, broken, breaks, then_check, both, provided}
use Rattle.typing_spec.specs.Program as program
use Rattle.typing_spec.specs.Scope.{Scope, past, inside, outside}
use Rattle.typing_spec.specs.Expressions.{typing, valued}
use Rattle.typing_spec.specs.Declarations.{declaration_typed}
use Rattle.typing_spec.specs.Statements as typed
use Rattle.typing_spec.specs.Statements.{statement, pieces}
use Rattle.typing_expressions.specs.declared.forms.Worth.{Worth}
use Rattle.typing_expressions.specs.Forms.{worth_of}
use Rattle.typing_expressions.specs.Refused.{IsOf, Tells}
use Rattle.typing_expressions.proofs.Verdicts.{tells_left, tells_right, tells_then, tells_of}
use Rattle.const_expr.proofs.Numbered.{then_same}
use Rattle.decls_declarators.proofs.Verdicts.{then_fine, then_tells, both_fine, both_tells, provided_fine, provided_left, next_of}
use Rattle.typing_scopes.specs.Scopes.{with_texts}
use Rattle.typing_statements.specs.declared.labels.Label.{Label}
use Rattle.typing_units.specs.declared.first_values.Initial.{Initial}
use Rattle.typing_statements.specs.Views.{label_of, initial_of, done_of, all_done_of, declared_of, Unlabelled, Labelled}
use Rattle.typing_statements.specs.inside.Pieces.{put_before, label_with, label_statement, block_items, switch_on, Scoped, Puts}
use Rattle.typing_statements.proofs.ForRules.{followed}

-- ---- the code's statements

sees_block : (at : Pos) (n k : ℕ) (xs : Vec Statement Global) → statement_of (S.Block at n k xs) ≡ program.block n k (statements_of (map statement_of xs.items))
sees_block at n k xs = search (rules, the_lemmas)

sees_switch : (at : Pos) (t : IntType) (e : Value) (n k : ℕ) (xs : Vec Statement Global) → statement_of (S.Switch at t e n k xs) ≡ program.switch t (value_of e) n k (statements_of (map statement_of xs.items))
sees_switch at t e n k xs = search (rules, the_lemmas)

sees_label : (at : Pos) (v : Option ℤ) → statement_of (label_with at v) ≡ typed.label_statement v
sees_label at None = search (rules, the_lemmas)
sees_label at (Some v) = search (rules, the_lemmas)

-- ---- blocks (6.8.2)

block_count : (s s1 s2 : Scope) (first n2 count : ℕ) → first ≡ length s.objects → s2 ≡ outside s s1 → n2 ≡ length s2.objects → count ≡ n2 - first → count ≡ length s1.objects - length s.objects
block_count s s1 s2 first n2 count f o g h = h ∙ ap (λ k. k - first) (g ∙ ap (λ (k : Scope). length k.objects) o) ∙ ap (λ k. length s1.objects - k) f

pub block_fine : (A : typed.Around) (d : Option IntType) (t : List (List ℕ)) (s s2 : Scope) (at : Pos) (ps : Pieces) (first count : ℕ) (labels new_labels : List Label) (before after : List Initial) (xs : Vec Statement Global) →
    first ≡ length s.objects → count ≡ length s2.objects - first → Scoped (pieces A None (with_texts t (inside s)) ps) labels new_labels before after t s s2 xs.items →
    Unlabelled (statement A d (with_texts t s) (block_stmt at ps)) before after (with_texts t s2) (S.Block at first count xs)
block_fine A d t s s2 at ps first count labels new_labels before after xs f h p = (
  p.1,
  p.4,
  then_fine (pieces A None (inside (with_texts t s)) ps) (all_done_of (with_texts t p.2) p.0 p.1 xs.items) (typed.block_of (with_texts t s)) p.5
      ∙ ap (λ k. fine (record { labels = []; statement = k; scope = with_texts t (outside s p.2); initial = map initial_of p.1 }))
      (ap (λ k. program.block k (length p.2.objects - length s.objects) (statements_of (map statement_of xs.items))) (sym f)
      ∙ ap (λ k. program.block first k (statements_of (map statement_of xs.items))) (sym (block_count s p.2 s2 first (length s2.objects) count f p.6 refl h)) ∙ sym (sees_block at first count xs))
      ∙ ap (λ k. fine (record { labels = []; statement = statement_of (S.Block at first count xs); scope = with_texts t k; initial = map initial_of p.1 })) (sym p.6),
)

pub block_tells : (A : typed.Around) (d : Option IntType) (t : List (List ℕ)) (s : Scope) (at : Pos) (ps : Pieces) (r : Refusal) → Tells r (pieces A None (with_texts t (inside s)) ps) → Tells r (statement A d (with_texts t s) (block_stmt at ps))
block_tells A d t s at ps r h = tells_then r (pieces A None (inside (with_texts t s)) ps) (typed.block_of (with_texts t s)) h

-- ---- switch (6.8.4.2)

pub switch_fine : (A B : typed.Around) (t : List (List ℕ)) (s s2 : Scope) (at : Pos) (w : Worth) (ty : IntType) (ps : Pieces) (first count : ℕ) (empty labels read : List Label) (before after : List Initial) (xs : Vec Statement Global) → read ≡ labels →
    B ≡ typed.in_a_switch A → ty ≡ promoted w.ty → empty ≡ [] → first ≡ length s.objects → count ≡ length s2.objects - first →
    Scoped (pieces B (Some ty) (with_texts t (inside s)) ps) empty labels before after t s s2 xs.items → typed.no_label_twice [] (map label_of read) ≡ fine tt →
    Unlabelled (switch_on A (worth_of w) (with_texts t s) ps) before after (with_texts t s2) (S.Switch at ty w.value first count xs)
switch_fine A B t s s2 at w ty ps first count empty labels read before after xs o l y z f h p n =
    let all = all_done_of (with_texts t p.2) p.0 p.1 xs.items in
    let same : read ≡ p.0 = o ∙ p.3 ∙ ap (λ k. k ++ p.0) z in (
      p.1,
      p.4,
      ap (λ k. then_check (pieces k (Some (promoted w.ty)) (inside (with_texts t s)) ps) (typed.switch_of (with_texts t s) (promoted w.ty) (worth_of w))) (sym l)
          ∙ ap (λ k. then_check (pieces B (Some k) (inside (with_texts t s)) ps) (typed.switch_of (with_texts t s) k (worth_of w))) (sym y)
          ∙ then_fine (pieces B (Some ty) (inside (with_texts t s)) ps) all (typed.switch_of (with_texts t s) ty (worth_of w)) p.5
          ∙ provided_fine (typed.no_label_twice [] (map label_of p.0))
          (typed.done_with (outside (with_texts t s) (with_texts t p.2)) (map initial_of p.1) (program.switch ty (value_of w.value) (length s.objects) (length p.2.objects - length s.objects) (statements_of (map statement_of xs.items))))
          (record { labels = []; statement = program.switch ty (value_of w.value) (length s.objects) (length p.2.objects - length s.objects) (statements_of (map statement_of xs.items)); scope = with_texts t (outside s p.2); initial = map initial_of p.1 })
          (ap (λ k. typed.no_label_twice [] (map label_of k)) (sym same) ∙ n) refl
          ∙ ap (λ k. fine (record { labels = []; statement = k; scope = with_texts t (outside s p.2); initial = map initial_of p.1 }))
          (ap (λ k. program.switch ty (value_of w.value) k (length p.2.objects - length s.objects) (statements_of (map statement_of xs.items))) (sym f)
          ∙ ap (λ k. program.switch ty (value_of w.value) first k (statements_of (map statement_of xs.items))) (sym (block_count s p.2 s2 first (length s2.objects) count f p.6 refl h)) ∙ sym (sees_switch at ty w.value first count xs))
          ∙ ap (λ k. fine (record { labels = []; statement = statement_of (S.Switch at ty w.value first count xs); scope = with_texts t k; initial = map initial_of p.1 })) (sym p.6),
    )

pub switch_pieces : (A B : typed.Around) (t : List (List ℕ)) (s : Scope) (w : Worth) (ty : IntType) (ps : Pieces) (r : Refusal) → B ≡ typed.in_a_switch A → ty ≡ promoted w.ty →
    Tells r (pieces B (Some ty) (with_texts t (inside s)) ps) → Tells r (switch_on A (worth_of w) (with_texts t s) ps)
switch_pieces A B t s w ty ps r l y h =
    tells_then r (pieces (typed.in_a_switch A) (Some (promoted w.ty)) (inside (with_texts t s)) ps) (typed.switch_of (with_texts t s) (promoted w.ty) (worth_of w))
    (subst (λ k. Tells r (pieces k (Some (promoted w.ty)) (inside (with_texts t s)) ps)) l (subst (λ k. Tells r (pieces B (Some k) (inside (with_texts t s)) ps)) y h))

pub switch_twice : (A B : typed.Around) (t : List (List ℕ)) (s s2 : Scope) (w : Worth) (ty : IntType) (ps : Pieces) (empty labels read : List Label) (before after : List Initial) (xs : List Statement) (r : Refusal) → read ≡ labels →
    B ≡ typed.in_a_switch A → ty ≡ promoted w.ty → empty ≡ [] → Scoped (pieces B (Some ty) (with_texts t (inside s)) ps) empty labels before after t s s2 xs →
    Tells r (typed.no_label_twice [] (map label_of read)) → Tells r (switch_on A (worth_of w) (with_texts t s) ps)
switch_twice A B t s s2 w ty ps empty labels read before after xs r o l y z p h =
    let same : read ≡ p.0 = o ∙ p.3 ∙ ap (λ k. k ++ p.0) z in
    then_tells r (pieces (typed.in_a_switch A) (Some (promoted w.ty)) (inside (with_texts t s)) ps) (all_done_of (with_texts t p.2) p.0 p.1 xs) (typed.switch_of (with_texts t s) (promoted w.ty) (worth_of w))
    (ap (λ k. pieces k (Some (promoted w.ty)) (inside (with_texts t s)) ps) (sym l) ∙ ap (λ k. pieces B (Some k) (inside (with_texts t s)) ps) (sym y) ∙ p.5)
    (provided_left r (typed.no_label_twice [] (map label_of p.0))
    (typed.done_with (outside (with_texts t s) (with_texts t p.2)) (map initial_of p.1) (program.switch (promoted w.ty) (value_of w.value) (length s.objects) (length p.2.objects - length s.objects) (statements_of (map statement_of xs))))
    (subst (λ k. Tells r (typed.no_label_twice [] (map label_of k))) same h))

abbrev whole_switch : typed.Around → Scope → Pos → Tree → Pieces → Verdict typed.Done
whole_switch A s at e ps = then_check (valued code.VoidControl at (typing s e)) (λ w. switch_on A w (past s e) ps)

abbrev no_switch : Scope → Pos → Tree → Verdict typed.Done
no_switch s at e = both (valued code.VoidControl at (typing s e)) (breaks code.LeftOutLabel at) (λ c d. fine d)

same_pieces : (ps qs : Pieces) → Some ps ≡ Some qs → ps ≡ qs
same_pieces ps qs e = cc

switch_is : (A : typed.Around) (d : Option IntType) (s : Scope) (at : Pos) (e : Tree) (b : StmtTree) (ps : Pieces) → block_items b ≡ Some ps → statement A d s (switch_stmt at e b) ≡ whole_switch A s at e ps
switch_is A d s at e (block_stmt p qs) ps h = ap (whole_switch A s at e) (same_pieces qs ps h)
switch_is A d s at e stmt_hole ps h = absurd (cc)
switch_is A d s at e (empty_stmt p) ps h = absurd (cc)
switch_is A d s at e (expression_stmt p a) ps h = absurd (cc)
switch_is A d s at e (if_stmt p a b) ps h = absurd (cc)
switch_is A d s at e (if_else_stmt p a b c) ps h = absurd (cc)
switch_is A d s at e (switch_stmt p a b) ps h = absurd (cc)
switch_is A d s at e (case_stmt p a b) ps h = absurd (cc)
switch_is A d s at e (default_stmt p a) ps h = absurd (cc)
switch_is A d s at e (while_stmt p a b) ps h = absurd (cc)
switch_is A d s at e (do_while_stmt p a b) ps h = absurd (cc)
switch_is A d s at e (for_stmt p a b c f) ps h = absurd (cc)
switch_is A d s at e (break_stmt p) ps h = absurd (cc)
switch_is A d s at e (continue_stmt p) ps h = absurd (cc)
switch_is A d s at e (return_stmt p a) ps h = absurd (cc)

switch_not : (A : typed.Around) (d : Option IntType) (s : Scope) (at : Pos) (e : Tree) (b : StmtTree) → block_items b ≡ None → statement A d s (switch_stmt at e b) ≡ no_switch s at e
switch_not A d s at e (block_stmt p qs) h = absurd (cc)
switch_not A d s at e stmt_hole h = refl
switch_not A d s at e (empty_stmt p) h = refl
switch_not A d s at e (expression_stmt p a) h = refl
switch_not A d s at e (if_stmt p a b) h = refl
switch_not A d s at e (if_else_stmt p a b c) h = refl
switch_not A d s at e (switch_stmt p a b) h = refl
switch_not A d s at e (case_stmt p a b) h = refl
switch_not A d s at e (default_stmt p a) h = refl
switch_not A d s at e (while_stmt p a b) h = refl
switch_not A d s at e (do_while_stmt p a b) h = refl
switch_not A d s at e (for_stmt p a b c f) h = refl
switch_not A d s at e (break_stmt p) h = refl
switch_not A d s at e (continue_stmt p) h = refl
switch_not A d s at e (return_stmt p a) h = refl

pub switch_ok : (x : Result Statement Refusal) (A : typed.Around) (d : Option IntType) (t : List (List ℕ)) (s s1 s2 : Scope) (at : Pos) (e : Tree) (b : StmtTree) (ps : Pieces) (w : Worth) (before after : List Initial) → block_items b ≡ Some ps →
    valued code.VoidControl at (typing (with_texts t s) e) ≡ fine (worth_of w) → s1 ≡ past s e →
    IfOk x (λ k. Unlabelled (switch_on A (worth_of w) (with_texts t s1) ps) before after (with_texts t s2) k) → IfOk x (λ k. Unlabelled (statement A d (with_texts t s) (switch_stmt at e b)) before after (with_texts t s2) k)
switch_ok (Ok x) A d t s s1 s2 at e b ps w before after i v f p = (
  p.0,
  p.1,
  switch_is A d (with_texts t s) at e b ps i ∙ then_fine (valued code.VoidControl at (typing (with_texts t s) e)) (worth_of w) (λ k. switch_on A k (past (with_texts t s) e) ps) v
      ∙ ap (λ k. switch_on A (worth_of w) (with_texts t k) ps) (sym f) ∙ p.2,
)
switch_ok (Err x) A d t s s1 s2 at e b ps w before after i v f p = tt

pub switch_err : (x : Result Statement Refusal) (A : typed.Around) (d : Option IntType) (t : List (List ℕ)) (s s1 : Scope) (at : Pos) (e : Tree) (b : StmtTree) (ps : Pieces) (w : Worth) → block_items b ≡ Some ps →
    valued code.VoidControl at (typing (with_texts t s) e) ≡ fine (worth_of w) → s1 ≡ past s e →
    IfErr x (λ r. Tells r (switch_on A (worth_of w) (with_texts t s1) ps)) → IfErr x (λ r. Tells r (statement A d (with_texts t s) (switch_stmt at e b)))
switch_err (Ok x) A d t s s1 at e b ps w i v f p = tt
switch_err (Err r) A d t s s1 at e b ps w i v f p =
    subst (λ k. Tells r k) (sym (switch_is A d (with_texts t s) at e b ps i))
    (then_tells r (valued code.VoidControl at (typing (with_texts t s) e)) (worth_of w) (λ k. switch_on A k (past (with_texts t s) e) ps) v
    (subst (λ k. Tells r (switch_on A (worth_of w) (with_texts t k) ps)) f p))

pub switch_no_block : (A : typed.Around) (d : Option IntType) (s : Scope) (at : Pos) (e : Tree) (b : StmtTree) (r : Refusal) → block_items b ≡ None → IsOf r (breaks {A = typed.Done} code.LeftOutLabel at) → Tells r (statement A d s (switch_stmt at e b))
switch_no_block A d s at e b r i h =
    subst (λ k. Tells r k) (sym (switch_not A d s at e b i)) (tells_right r (valued code.VoidControl at (typing s e)) (breaks code.LeftOutLabel at) (λ c k. fine k) (tells_of r (breaks code.LeftOutLabel at) h))

by_block : (A : typed.Around) (d : Option IntType) (s : Scope) (at : Pos) (e : Tree) (b : StmtTree) (o : Option Pieces) (r : Refusal) → block_items b ≡ o → Tells r (valued code.VoidControl at (typing s e)) → Tells r (statement A d s (switch_stmt at e b))
by_block A d s at e b None r i h =
    subst (λ k. Tells r k) (sym (switch_not A d s at e b i)) (tells_left r (valued code.VoidControl at (typing s e)) (breaks code.LeftOutLabel at) (λ c k. fine k) h)
by_block A d s at e b (Some ps) r i h =
    subst (λ k. Tells r k) (sym (switch_is A d s at e b ps i)) (tells_then r (valued code.VoidControl at (typing s e)) (λ w. switch_on A w (past s e) ps) h)

pub switch_left : (A : typed.Around) (d : Option IntType) (s : Scope) (at : Pos) (e : Tree) (b : StmtTree) (r : Refusal) → Tells r (valued code.VoidControl at (typing s e)) → Tells r (statement A d s (switch_stmt at e b))
switch_left A d s at e b r h = by_block A d s at e b (block_items b) r refl h

-- ---- labels (6.8.1)

pub case_ok : (x : Result Statement Refusal) (A : typed.Around) (d : Option IntType) (ty : IntType) (t : List (List ℕ)) (s s1 s2 : Scope) (at : Pos) (e : Tree) (a : StmtTree) (v : ℤ) (labels mid new : List Label) (before after : List Initial) →
    d ≡ Some ty → typed.case_value (with_texts t s) ty e ≡ fine v → s1 ≡ past s e → mid ≡ labels ++ record { pos = at; value = Some v } ∷ [] →
    IfOk x (λ k. Labelled (statement A (Some ty) (with_texts t s1) a) mid new before after (with_texts t s2) k) → IfOk x (λ k. Labelled (statement A d (with_texts t s) (case_stmt at e a)) labels new before after (with_texts t s2) k)
case_ok (Err x) A d ty t s s1 s2 at e a v labels mid new before after i f g m p = tt
case_ok (Ok x) A d ty t s s1 s2 at e a v labels mid new before after i f g m p =
    let l : Label = record { pos = at; value = Some v } in (
      l ∷ p.0,
      p.1,
      p.2 ∙ ap (λ k. k ++ p.0) m ∙ append_assoc labels (l ∷ []) p.0,
      p.3,
      ap (λ k. statement A k (with_texts t s) (case_stmt at e a)) i
          ∙ both_fine (typed.case_value (with_texts t s) ty e) (statement A (Some ty) (past (with_texts t s) e) a) v (done_of (with_texts t s2) p.0 p.1 x) (typed.case_label at) f
          (ap (λ k. statement A (Some ty) (with_texts t k) a) (sym g) ∙ p.4),
    )

pub case_err : (x : Result Statement Refusal) (A : typed.Around) (d : Option IntType) (ty : IntType) (t : List (List ℕ)) (s s1 : Scope) (at : Pos) (e : Tree) (a : StmtTree) → d ≡ Some ty → s1 ≡ past s e →
    IfErr x (λ r. Tells r (statement A (Some ty) (with_texts t s1) a)) → IfErr x (λ r. Tells r (statement A d (with_texts t s) (case_stmt at e a)))
case_err (Ok x) A d ty t s s1 at e a i g p = tt
case_err (Err r) A d ty t s s1 at e a i g p =
    subst (λ k. Tells r (statement A k (with_texts t s) (case_stmt at e a))) (sym i)
    (tells_right r (typed.case_value (with_texts t s) ty e) (statement A (Some ty) (past (with_texts t s) e) a) (typed.case_label at)
    (subst (λ k. Tells r (statement A (Some ty) (with_texts t k) a)) g p))

pub case_left : (A : typed.Around) (d : Option IntType) (ty : IntType) (s : Scope) (at : Pos) (e : Tree) (a : StmtTree) (r : Refusal) → d ≡ Some ty → Tells r (typed.case_value s ty e) → Tells r (statement A d s (case_stmt at e a))
case_left A d ty s at e a r i h =
    subst (λ k. Tells r (statement A k s (case_stmt at e a))) (sym i) (tells_left r (typed.case_value s ty e) (statement A (Some ty) (past s e) a) (typed.case_label at) h)

pub case_misplaced : (A : typed.Around) (d : Option IntType) (s : Scope) (at : Pos) (e : Tree) (a : StmtTree) (r : Refusal) → d ≡ None → IsOf r (typed.misplaced A at) → Tells r (statement A d s (case_stmt at e a))
case_misplaced A d s at e a r i h = subst (λ k. Tells r (statement A k s (case_stmt at e a))) (sym i) (tells_of r (typed.misplaced A at) h)

pub default_ok : (x : Result Statement Refusal) (A : typed.Around) (d : Option IntType) (t : List (List ℕ)) (s s2 : Scope) (at : Pos) (a : StmtTree) (ty : IntType) (labels mid new : List Label) (before after : List Initial) →
    d ≡ Some ty → mid ≡ labels ++ record { pos = at; value = None } ∷ [] →
    IfOk x (λ k. Labelled (statement A (Some ty) (with_texts t s) a) mid new before after (with_texts t s2) k) → IfOk x (λ k. Labelled (statement A d (with_texts t s) (default_stmt at a)) labels new before after (with_texts t s2) k)
default_ok (Err x) A d t s s2 at a ty labels mid new before after i m p = tt
default_ok (Ok x) A d t s s2 at a ty labels mid new before after i m p =
    let l : Label = record { pos = at; value = None } in (
      l ∷ p.0,
      p.1,
      p.2 ∙ ap (λ k. k ++ p.0) m ∙ append_assoc labels (l ∷ []) p.0,
      p.3,
      ap (λ k. statement A k (with_texts t s) (default_stmt at a)) i
          ∙ then_fine (statement A (Some ty) (with_texts t s) a) (done_of (with_texts t s2) p.0 p.1 x) (typed.with_label (record { at = at; value = None })) p.4,
    )

pub default_err : (x : Result Statement Refusal) (A : typed.Around) (d : Option IntType) (s : Scope) (at : Pos) (a : StmtTree) (ty : IntType) → d ≡ Some ty →
    IfErr x (λ r. Tells r (statement A (Some ty) s a)) → IfErr x (λ r. Tells r (statement A d s (default_stmt at a)))
default_err (Ok x) A d s at a ty i p = tt
default_err (Err r) A d s at a ty i p =
    subst (λ k. Tells r (statement A k s (default_stmt at a))) (sym i)
    (tells_then r (statement A (Some ty) s a) (typed.with_label (record { at = at; value = None })) p)

pub default_misplaced : (A : typed.Around) (d : Option IntType) (s : Scope) (at : Pos) (a : StmtTree) (r : Refusal) → d ≡ None → IsOf r (typed.misplaced A at) → Tells r (statement A d s (default_stmt at a))
default_misplaced A d s at a r i h = subst (λ k. Tells r (statement A k s (default_stmt at a))) (sym i) (tells_of r (typed.misplaced A at) h)

-- ---- items of blocks

labelled_is : (ms : List Label) (y : Statement) (more : program.Statements) → typed.followed_by (map statement_of (map label_statement ms ++ y ∷ [])) more ≡ typed.labelled (map label_of ms) (program.and_statement (statement_of y) more)
labelled_is [] y more = refl
labelled_is (l ∷ ls) y more =
    ap (λ k. program.and_statement k (typed.followed_by (map statement_of (map label_statement ls ++ y ∷ [])) more)) (sees_label l.pos l.value) ∙ ap (λ k. program.and_statement (typed.label_statement l.value) k) (labelled_is ls y more)

statements_put : (s : Scope) (ms : List Label) (js : List Initial) (y : Statement) (more : typed.AllDone) → typed.and_statements (done_of s ms js y) more ≡ put_before ms js (map label_statement ms ++ y ∷ []) more
statements_put s ms js y more =
    ap (λ k. fine (record { labels = map label_of ms ++ more.labels; statements = k; scope = more.scope; initial = map initial_of js ++ more.initial })) (sym (labelled_is ms y more.statements))

pub item_fine : (A : typed.Around) (d : Option IntType) (s s1 : Scope) (x : StmtTree) (empty own read labels new_labels : List Label) (before after : List Initial) (all new_all : List Statement) (y : Statement) → empty ≡ [] → read ≡ own →
    Labelled (statement A d s x) empty own before after s1 y → new_labels ≡ labels ++ read → new_all ≡ all ++ (map label_statement read ++ y ∷ []) →
    Puts (λ ps. pieces A d s (and_piece (statement_item x) ps)) (λ ps. pieces A d s1 ps) labels new_labels before after all new_all
item_fine A d s s1 x empty own read labels new_labels before after all new_all y z o p f g =
    let same : read ≡ p.0 = o ∙ p.2 ∙ ap (λ k. k ++ p.0) z in (
      p.0,
      p.1,
      map label_statement p.0 ++ y ∷ [],
      f ∙ ap (λ k. labels ++ k) same,
      p.3,
      g ∙ ap (λ k. all ++ (map label_statement k ++ y ∷ [])) same,
      λ ps.
          then_fine (statement A d s x) (done_of s1 p.0 p.1 y) (λ z. then_check (pieces A d z.scope ps) (typed.and_statements z)) p.4
          ∙ then_same (pieces A d s1 ps) (pieces A d s1 ps) (typed.and_statements (done_of s1 p.0 p.1 y)) (put_before p.0 p.1 (map label_statement p.0 ++ y ∷ [])) refl (statements_put s1 p.0 p.1 y),
    )

pub item_tells : (A : typed.Around) (d : Option IntType) (s : Scope) (x : StmtTree) (r : Refusal) → Tells r (statement A d s x) → (ps : Pieces) → Tells r (pieces A d s (and_piece (statement_item x) ps))
item_tells A d s x r h ps = tells_then r (statement A d s x) (λ z. then_check (pieces A d z.scope ps) (typed.and_statements z)) h

pub declared_fine : (A : typed.Around) (d : Option IntType) (s s1 : Scope) (x : DeclarationTree) (js : List Initial) (xs : List Statement) → declaration_typed s x ≡ fine (declared_of s1 xs js) → (ps : Pieces) →
    pieces A d s (and_piece (declaration_item x) ps) ≡ then_check (pieces A d s1 ps) (put_before [] js xs)
declared_fine A d s s1 x js xs h ps = then_fine (declaration_typed s x) (declared_of s1 xs js) (λ z. then_check (pieces A d z.scope ps) (typed.and_declaration z.effects)) h

pub declared_tells : (A : typed.Around) (d : Option IntType) (s : Scope) (x : DeclarationTree) (r : Refusal) → Tells r (declaration_typed s x) → (ps : Pieces) → Tells r (pieces A d s (and_piece (declaration_item x) ps))
declared_tells A d s x r h ps = tells_then r (declaration_typed s x) (λ z. then_check (pieces A d z.scope ps) (typed.and_declaration z.effects)) h

-- ---- the items of a block in order

-- the invariant: the items up to an index have been typed
pub record Reading (A : typed.Around) (d : Option IntType) (t : List (List ℕ)) (s0 s : Scope) (whole rest : Pieces) (labels new_labels : List Label) (before after : List Initial) (all new_all : List Statement) : Type 0 where
  pub ms : List Label
  pub js : List Initial
  pub xs : List Statement
  pub labels_are : new_labels ≡ labels ++ ms
  pub initial_are : after ≡ before ++ js
  pub all_are : new_all ≡ all ++ xs
  pub so : pieces A d (with_texts t s0) whole ≡ then_check (pieces A d (with_texts t s) rest) (put_before ms js xs)

none_put : (v : Verdict typed.AllDone) → v ≡ then_check v (put_before [] [] [])
none_put (fine x) = refl
none_put (broken vs) = refl

pub begun : (A : typed.Around) (d : Option IntType) (t : List (List ℕ)) (s : Scope) (whole : Pieces) (labels : List Label) (before : List Initial) (all : List Statement) → Reading A d t s s whole whole labels labels before before all all
begun A d t s whole labels before all = record {
  ms = [];
  js = [];
  xs = [];
  labels_are = sym (append-nil labels);
  initial_are = sym (append-nil before);
  all_are = sym (append-nil all);
  so = none_put (pieces A d (with_texts t s) whole);
}

followed_both : (xs ys : List (program.Statement)) (more : program.Statements) → typed.followed_by xs (typed.followed_by ys more) ≡ typed.followed_by (xs ++ ys) more
followed_both [] ys more = refl
followed_both (x ∷ xs) ys more = ap (λ k. program.and_statement x k) (followed_both xs ys more)

both_lists : {X Y : Type 0} (f : X → Y) (a b : List X) (c : List Y) → map f a ++ (map f b ++ c) ≡ map f (a ++ b) ++ c
both_lists f a b c = sym (append_assoc (map f a) (map f b) c) ∙ ap (λ k. k ++ c) (sym (map-append f a b))

put_both : (v : Verdict typed.AllDone) (ms ns : List Label) (js ks : List Initial) (xs ys : List Statement) → then_check (then_check v (put_before ns ks ys)) (put_before ms js xs) ≡ then_check v (put_before (ms ++ ns) (js ++ ks) (xs ++ ys))
put_both (broken vs) ms ns js ks xs ys = refl
put_both (fine m) ms ns js ks xs ys =
    ap (λ k. fine (record { labels = k; statements = typed.followed_by (map statement_of xs) (typed.followed_by (map statement_of ys) m.statements); scope = m.scope; initial = map initial_of js ++ (map initial_of ks ++ m.initial) })) (both_lists label_of ms ns m.labels)
    ∙ ap (λ k. fine (record { labels = map label_of (ms ++ ns) ++ m.labels; statements = typed.followed_by (map statement_of xs) (typed.followed_by (map statement_of ys) m.statements); scope = m.scope; initial = k })) (both_lists initial_of js ks m.initial)
    ∙ ap (λ k. fine (record { labels = map label_of (ms ++ ns) ++ m.labels; statements = k; scope = m.scope; initial = map initial_of (js ++ ks) ++ m.initial }))
    (followed_both (map statement_of xs) (map statement_of ys) m.statements ∙ ap (λ k. typed.followed_by k m.statements) (sym (map-append statement_of xs ys)))

behind : {X : Type 0} (old mid new xs ys : List X) → mid ≡ old ++ xs → new ≡ mid ++ ys → new ≡ old ++ (xs ++ ys)
behind old mid new xs ys e f = f ∙ ap (λ k. k ++ ys) e ∙ append_assoc old xs ys

rest_of : (items : List BlockItem) (i : ℕ) (x : BlockItem) → i < length items → x ≡ get_or items i x → pieces_of (map piece_of (drop i items)) ≡ and_piece (piece_of x) (pieces_of (map piece_of (drop (i + 1) items)))
rest_of items i x h e = ap (λ k. pieces_of (map piece_of k)) (next_of items i x h e)

pub next : (A : typed.Around) (d : Option IntType) (t : List (List ℕ)) (s0 s s1 : Scope) (items : List BlockItem) (i : ℕ) (x : BlockItem) (labels mid_labels new_labels : List Label) (before mid after : List Initial) (all mid_all new_all : List Statement) →
    i < length items → x ≡ get_or items i x →
    Puts (λ ps. pieces A d (with_texts t s) (and_piece (piece_of x) ps)) (λ ps. pieces A d (with_texts t s1) ps) mid_labels new_labels mid after mid_all new_all →
    Reading A d t s0 s (pieces_of (map piece_of items)) (pieces_of (map piece_of (drop i items))) labels mid_labels before mid all mid_all →
    Reading A d t s0 s1 (pieces_of (map piece_of items)) (pieces_of (map piece_of (drop (i + 1) items))) labels new_labels before after all new_all
next A d t s0 s s1 items i x labels mid_labels new_labels before mid after all mid_all new_all h e p q = record {
  ms = q.ms ++ p.0;
  js = q.js ++ p.1;
  xs = q.xs ++ p.2;
  labels_are = behind labels mid_labels new_labels q.ms p.0 q.labels_are p.3;
  initial_are = behind before mid after q.js p.1 q.initial_are p.4;
  all_are = behind all mid_all new_all q.xs p.2 q.all_are p.5;
  so = q.so ∙ ap (λ k. then_check (pieces A d (with_texts t s) k) (put_before q.ms q.js q.xs)) (rest_of items i x h e)
      ∙ ap (λ k. then_check k (put_before q.ms q.js q.xs)) (p.6 (pieces_of (map piece_of (drop (i + 1) items))))
      ∙ put_both (pieces A d (with_texts t s1) (pieces_of (map piece_of (drop (i + 1) items)))) q.ms p.0 q.js p.1 q.xs p.2;
}

pub stops : (A : typed.Around) (d : Option IntType) (t : List (List ℕ)) (s0 s : Scope) (items : List BlockItem) (i : ℕ) (x : BlockItem) (labels new_labels : List Label) (before after : List Initial) (all new_all : List Statement) (r : Refusal) →
    i < length items → x ≡ get_or items i x → ((ps : Pieces) → Tells r (pieces A d (with_texts t s) (and_piece (piece_of x) ps))) →
    Reading A d t s0 s (pieces_of (map piece_of items)) (pieces_of (map piece_of (drop i items))) labels new_labels before after all new_all → Tells r (pieces A d (with_texts t s0) (pieces_of (map piece_of items)))
stops A d t s0 s items i x labels new_labels before after all new_all r h e p q =
    subst (λ k. Tells r k) (sym (q.so ∙ ap (λ k. then_check (pieces A d (with_texts t s) k) (put_before q.ms q.js q.xs)) (rest_of items i x h e)))
    (tells_then r (pieces A d (with_texts t s) (and_piece (piece_of x) (pieces_of (map piece_of (drop (i + 1) items))))) (put_before q.ms q.js q.xs) (p (pieces_of (map piece_of (drop (i + 1) items)))))

pub ended : (A : typed.Around) (d : Option IntType) (t : List (List ℕ)) (s0 s : Scope) (items : List BlockItem) (i : ℕ) (labels new_labels : List Label) (before after : List Initial) (all new_all : List Statement) → length items ≤ i →
    Reading A d t s0 s (pieces_of (map piece_of items)) (pieces_of (map piece_of (drop i items))) labels new_labels before after all new_all →
    (ms : List Label) × (js : List Initial) × (xs : List Statement) × (new_labels ≡ labels ++ ms) × (after ≡ before ++ js) × (new_all ≡ all ++ xs) × (pieces A d (with_texts t s0) (pieces_of (map piece_of items)) ≡ fine (all_done_of (with_texts t s) ms js xs))
ended A d t s0 s items i labels new_labels before after all new_all h q = (
  q.ms,
  q.js,
  q.xs,
  q.labels_are,
  q.initial_are,
  q.all_are,
  q.so ∙ ap (λ k. then_check (pieces A d (with_texts t s) (pieces_of (map piece_of k))) (put_before q.ms q.js q.xs)) (drop_all i items h)
      ∙ ap (λ k. fine (record { labels = k; statements = typed.followed_by (map statement_of q.xs) program.no_statements; scope = with_texts t s; initial = map initial_of q.js ++ [] })) (append-nil (map label_of q.ms))
      ∙ ap (λ k. fine (record { labels = map label_of q.ms; statements = k; scope = with_texts t s; initial = map initial_of q.js ++ [] })) (followed (map statement_of q.xs))
      ∙ ap (λ k. fine (record { labels = map label_of q.ms; statements = statements_of (map statement_of q.xs); scope = with_texts t s; initial = k })) (append-nil (map initial_of q.js)),
)
