-- Statements keep names and tags, after newer ones.
use Rattle.std.proofs.Common.{◌≡◌, Bool, true, false, ◌||◌, [], ◌∷◌, Option, Some, None, refl, sym, subst}
use Rattle.ctypes.specs.declared.types.IntType.{IntType}
use Rattle.std.specs.Prelude.{if◌then◌else◌}
use Rattle.srcset.specs.declared.refusal.Pos.{Pos}
use Rattle.ctypes.specs.Types.{promoted}
use Rattle.typing_spec.specs.Program.{Statement}
use Rattle.srcset.specs.declared.code.Code.TheVariants as code
use Rattle.tree.specs.Tree.{Tree, DeclarationTree, StartTree, expression_start, declaration_start, StmtTree, stmt_hole, block_stmt, empty_stmt, expression_stmt, if_stmt, if_else_stmt, switch_stmt, case_stmt, default_stmt, while_stmt, do_while_stmt, for_stmt, break_stmt, continue_stmt, return_stmt, PieceTree, declaration_item, statement_item, Pieces, no_pieces, and_piece}
use Rattle.typing_spec.specs.Verdict.{Verdict, fine, broken, breaks, then_check, both, IfFine}
use Rattle.typing_spec.specs.Scope.{Scope, past, inside, outside}
use Rattle.typing_spec.specs.Expressions.{typing, valued, effect}
use Rattle.typing_spec.specs.Declarations.{Declared, declaration_typed}
use Rattle.typing_spec.specs.Statements as typed
use Rattle.typing_spec.specs.Statements.{Around, Done, AllDone, Start, statement, pieces}
use Rattle.typing_statements.proofs.Growth.{Grows, stays, onwards, same_names, then_any, then_some, both_any, part, more_of, declaration_more}

abbrev pub done_in : Scope → Done → Type 0
done_in s d = Grows s d.scope

abbrev pub all_in : Scope → AllDone → Type 0
all_in s d = Grows s d.scope

literal_more : (s : Scope) (e : Tree) → Grows s (past s e)
literal_more s e = same_names s (past s e) refl refl

anything : {A : Type 0} (v : Verdict A) → IfFine (λ a. Unit {0}) v
anything (fine a) = tt
anything (broken vs) = tt

never : {A B C : Type 0} (R : C → Type 0) (v : Verdict A) (w : Verdict B) (go : A → B → Verdict C) → ((b : B) → w ≡ fine b → ⊥) → IfFine R (both v w go)
never R (fine a) (fine b) go h = absurd (h b refl)
never R (fine a) (broken vs) go h = tt
never R (broken us) w go h = tt

outside_more : (s inner : Scope) → Grows s (outside s inner)
outside_more s inner = same_names s (outside s inner) refl refl

misplaced_more : (s : Scope) (b : Bool) (A : Around) (at : Pos) → A.in_switch ≡ b → IfFine (done_in s) (typed.misplaced A at)
misplaced_more s true A at e = subst (λ k. IfFine (done_in s) (if k then breaks code.LeftOutLabel at else breaks code.LabelOutsideSwitch at)) (sym e) tt
misplaced_more s false A at e = subst (λ k. IfFine (done_in s) (if k then breaks code.LeftOutLabel at else breaks code.LabelOutsideSwitch at)) (sym e) tt

jump_more : (b : Bool) (at : Pos) (s : Scope) (x : Statement) → IfFine (done_in s) (typed.jump b at s x)
jump_more true at s x = stays s
jump_more false at s x = tt

returned_more : (r : Option IntType) (at : Pos) (s : Scope) (e : Option Tree) → IfFine (done_in s) (typed.returned r at s e)
returned_more None at s None = stays s
returned_more (Some t) at s None = tt
returned_more None at s (Some e) = never (done_in s) (typing s e) (breaks code.ReturnMismatch at) (λ x d. fine d) (λ b h. absurd (cc))
returned_more (Some t) at s (Some e) = then_any (done_in s) (valued code.VoidAssigned at (typing s e)) _ (λ w. literal_more s e)

switch_more : (s : Scope) (at : Pos) (e : Tree) → IfFine (done_in s) (both (valued code.VoidControl at (typing s e)) (breaks code.LeftOutLabel at) (λ c d. fine d))
switch_more s at e = never (done_in s) (valued code.VoidControl at (typing s e)) (breaks code.LeftOutLabel at) (λ c d. fine d) (λ b h. absurd (cc))

mutual
  pub statement_more : (A : Around) (d : Option IntType) (s : Scope) (t : StmtTree) → IfFine (done_in s) (statement A d s t)
  statement_more A d s stmt_hole = tt
  statement_more A (Some t) s (case_stmt at e a) =
      both_any (done_in (past s e)) (done_in s) (typed.case_value s t e) (statement A (Some t) (past s e) a) (typed.case_label at) (statement_more A (Some t) (past s e) a) (λ v x g.
      onwards s (past s e) x.scope (literal_more s e) g)
  statement_more A None s (case_stmt at e a) = misplaced_more s A.in_switch A at refl
  statement_more A (Some t) s (default_stmt at a) =
      then_some (done_in s) (done_in s) (statement A (Some t) s a) (typed.with_label (record { at = at; value = None })) (statement_more A (Some t) s a) (λ x g. g)
  statement_more A None s (default_stmt at a) = misplaced_more s A.in_switch A at refl
  statement_more A d s (block_stmt at ps) = then_any (done_in s) (pieces A None (inside s) ps) (typed.block_of s) (λ all. outside_more s all.scope)
  statement_more A d s (empty_stmt at) = stays s
  statement_more A d s (expression_stmt at e) = then_any (done_in s) (typing s e) _ (λ x. then_any (done_in s) (effect x) _ (λ v. literal_more s e))
  statement_more A d s (if_stmt at e a) =
      both_any (done_in (past s e)) (done_in s) (valued code.VoidControl at (typing s e)) (statement A None (past s e) a) _ (statement_more A None (past s e) a) (λ c x g.
      onwards s (past s e) x.scope (literal_more s e) g)
  statement_more A d s (if_else_stmt at e a b) =
      both_any (done_in (past s e)) (done_in s) (valued code.VoidControl at (typing s e)) (statement A None (past s e) a) _ (statement_more A None (past s e) a) (λ c x g.
      then_some (done_in x.scope) (done_in s) (statement A None x.scope b) _ (statement_more A None x.scope b) (λ y k.
      onwards s x.scope y.scope (onwards s (past s e) x.scope (literal_more s e) g) k))
  statement_more A d s (switch_stmt at e (block_stmt p ps)) =
      then_any (done_in s) (valued code.VoidControl at (typing s e)) _ (λ c.
      then_any (done_in s) (pieces (typed.in_a_switch A) (Some (promoted c.type)) (inside (past s e)) ps) (typed.switch_of s (promoted c.type) c) (λ all.
      part (done_in s) (typed.no_label_twice [] all.labels) _ (outside_more s all.scope)))
  statement_more A d s (switch_stmt at e stmt_hole) = switch_more s at e
  statement_more A d s (switch_stmt at e (empty_stmt p)) = switch_more s at e
  statement_more A d s (switch_stmt at e (expression_stmt p a)) = switch_more s at e
  statement_more A d s (switch_stmt at e (if_stmt p a b)) = switch_more s at e
  statement_more A d s (switch_stmt at e (if_else_stmt p a b c)) = switch_more s at e
  statement_more A d s (switch_stmt at e (switch_stmt p a b)) = switch_more s at e
  statement_more A d s (switch_stmt at e (case_stmt p a b)) = switch_more s at e
  statement_more A d s (switch_stmt at e (default_stmt p a)) = switch_more s at e
  statement_more A d s (switch_stmt at e (while_stmt p a b)) = switch_more s at e
  statement_more A d s (switch_stmt at e (do_while_stmt p a b)) = switch_more s at e
  statement_more A d s (switch_stmt at e (for_stmt p a b c f)) = switch_more s at e
  statement_more A d s (switch_stmt at e (break_stmt p)) = switch_more s at e
  statement_more A d s (switch_stmt at e (continue_stmt p)) = switch_more s at e
  statement_more A d s (switch_stmt at e (return_stmt p a)) = switch_more s at e
  statement_more A d s (while_stmt at e a) =
      both_any (done_in (past s e)) (done_in s) (valued code.VoidControl at (typing s e)) (statement (typed.in_a_loop A) None (past s e) a) _ (statement_more (typed.in_a_loop A) None (past s e) a) (λ c x g.
      onwards s (past s e) x.scope (literal_more s e) g)
  statement_more A d s (do_while_stmt at a e) =
      then_some (done_in s) (done_in s) (statement (typed.in_a_loop A) None s a) _ (statement_more (typed.in_a_loop A) None s a) (λ x g.
      then_any (done_in s) (valued code.VoidControl at (typing x.scope e)) _ (λ c. onwards s x.scope (past x.scope e) g (literal_more x.scope e)))
  statement_more A d s (for_stmt at start test step a) =
      then_any (done_in s) (typed.started (inside s) start) _ (λ (x : Start).
      both_any (λ y. Unit {0}) (done_in s) (both (typed.test_in x.scope at test) (typed.effect_in (typed.past_option x.scope test) step) typed.control)
      (statement (typed.in_a_loop A) None (inside (typed.past_option (typed.past_option x.scope test) step)) a) (typed.loop_of s x)
      (anything (statement (typed.in_a_loop A) None (inside (typed.past_option (typed.past_option x.scope test) step)) a)) (λ c y u. outside_more s y.scope))
  statement_more A d s (break_stmt at) = jump_more (A.in_loop || A.in_switch) at s _
  statement_more A d s (continue_stmt at) = jump_more A.in_loop at s _
  statement_more A d s (return_stmt at e) = returned_more A.result at s e

  pub pieces_more : (A : Around) (d : Option IntType) (s : Scope) (ps : Pieces) → IfFine (all_in s) (pieces A d s ps)
  pieces_more A d s no_pieces = stays s
  pieces_more A d s (and_piece (declaration_item x) ps) =
      then_some (λ (y : Declared). Grows s y.scope) (all_in s) (declaration_typed s x) _ (declaration_more s x) (λ y g.
      then_some (all_in y.scope) (all_in s) (pieces A d y.scope ps) (typed.and_declaration y.effects) (pieces_more A d y.scope ps) (λ more k. onwards s y.scope more.scope g k))
  pieces_more A d s (and_piece (statement_item x) ps) =
      then_some (done_in s) (all_in s) (statement A d s x) _ (statement_more A d s x) (λ y g.
      then_some (all_in y.scope) (all_in s) (pieces A d y.scope ps) (typed.and_statements y) (pieces_more A d y.scope ps) (λ more k. onwards s y.scope more.scope g k))

-- the first part of a for
past_option_more : (s : Scope) (e : Option Tree) → Grows s (typed.past_option s e)
past_option_more s None = stays s
past_option_more s (Some e) = literal_more s e

abbrev pub started_in : Scope → Start → Type 0
started_in s d = Grows s d.scope

started_more : (s : Scope) (start : StartTree) → IfFine (started_in s) (typed.started s start)
started_more s (expression_start e) = then_any (started_in s) (typed.effect_in s e) _ (λ v. past_option_more s e)
started_more s (declaration_start x) =
    part (started_in s) (typed.fit_for_loop x) (then_check (declaration_typed s x) _)
    (then_some (λ (y : Declared). Grows s y.scope) (started_in s) (declaration_typed s x) _ (declaration_more s x) (λ y g. g))

-- ---- parts that are fine

of_fine : {A : Type 0} (P : A → Type 0) (v : Verdict A) (a : A) → v ≡ fine a → IfFine P v → P a
of_fine P v a e h = subst (IfFine P) e h

pub pieces_grow : (A : Around) (d : Option IntType) (s : Scope) (ps : Pieces) (all : AllDone) → pieces A d s ps ≡ fine all → Grows s all.scope
pieces_grow A d s ps all e = of_fine (all_in s) (pieces A d s ps) all e (pieces_more A d s ps)

pub statement_grows : (A : Around) (d : Option IntType) (s : Scope) (t : StmtTree) (x : Done) → statement A d s t ≡ fine x → Grows s x.scope
statement_grows A d s t x e = of_fine (done_in s) (statement A d s t) x e (statement_more A d s t)

pub start_grows : (s : Scope) (start : StartTree) (x : Start) → typed.started s start ≡ fine x → Grows s x.scope
start_grows s start x e = of_fine (started_in s) (typed.started s start) x e (started_more s start)
