-- Statements keep the definitions of their unit that a scope has.
use Rattle.std.proofs.Common.{◌≡◌, Bool, true, false, ◌||◌, [], ◌∷◌, Option, Some, None, refl, sym, subst, ◌∙◌}
use Rattle.ctypes.specs.declared.types.IntType.{IntType}
use Rattle.std.specs.Prelude.{if◌then◌else◌}
use Rattle.srcset.specs.declared.refusal.Pos.{Pos}
use Rattle.ctypes.specs.Types.{promoted}
use Rattle.typing_spec.specs.Program.{Statement}
use Rattle.srcset.specs.declared.code.Code.TheVariants as code
use Rattle.tree.specs.Tree.{Tree, DeclarationTree, StartTree, expression_start, declaration_start, StmtTree, stmt_hole, block_stmt, empty_stmt, expression_stmt, if_stmt, if_else_stmt, switch_stmt, case_stmt, default_stmt, while_stmt, do_while_stmt, for_stmt, break_stmt, continue_stmt, return_stmt, PieceTree, declaration_item, statement_item, Pieces, no_pieces, and_piece}
use Rattle.typing_spec.specs.Verdict.{Verdict, fine, broken, breaks, then_check, both, IfFine}
use Rattle.typing_spec.specs.Scope.{Scope, past, inside, outside}
use Rattle.typing_spec.specs.Expressions.{typing, valued, effect}
use Rattle.typing_spec.specs.Declarations.{Declared, declaration_typed}
use Rattle.typing_spec.specs.Statements as typed
use Rattle.typing_spec.specs.Statements.{Around, Done, AllDone, Start, statement, pieces}
use Rattle.typing_statements.proofs.Growth.{then_any, then_some, both_any, part}
use Rattle.typing.proofs.Declarations.{Keeps, stays, onwards, same, declaration_keeps}

abbrev pub done_in : Scope → Done → Type 0
done_in s d = Keeps s d.scope

abbrev pub all_in : Scope → AllDone → Type 0
all_in s d = Keeps s d.scope

literal_keeps : (s : Scope) (e : Tree) → Keeps s (past s e)
literal_keeps s e = same s (past s e) refl

never : {A B C : Type 0} (R : C → Type 0) (v : Verdict A) (w : Verdict B) (go : A → B → Verdict C) → ((b : B) → w ≡ fine b → ⊥) → IfFine R (both v w go)
never R (fine a) (fine b) go h = absurd (h b refl)
never R (fine a) (broken vs) go h = tt
never R (broken us) w go h = tt

outside_keeps : (s inner : Scope) → Keeps s inner → Keeps s (outside s inner)
outside_keeps s inner g = g

misplaced_keeps : (s : Scope) (b : Bool) (A : Around) (at : Pos) → A.in_switch ≡ b → IfFine (done_in s) (typed.misplaced A at)
misplaced_keeps s true A at e = subst (λ k. IfFine (done_in s) (if k then breaks code.LeftOutLabel at else breaks code.LabelOutsideSwitch at)) (sym e) tt
misplaced_keeps s false A at e = subst (λ k. IfFine (done_in s) (if k then breaks code.LeftOutLabel at else breaks code.LabelOutsideSwitch at)) (sym e) tt

jump_keeps : (b : Bool) (at : Pos) (s : Scope) (x : Statement) → IfFine (done_in s) (typed.jump b at s x)
jump_keeps true at s x = stays s
jump_keeps false at s x = tt

returned_keeps : (r : Option IntType) (at : Pos) (s : Scope) (e : Option Tree) → IfFine (done_in s) (typed.returned r at s e)
returned_keeps None at s None = stays s
returned_keeps (Some t) at s None = tt
returned_keeps None at s (Some e) = never (done_in s) (typing s e) (breaks code.ReturnMismatch at) (λ x d. fine d) (λ b h. absurd (cc))
returned_keeps (Some t) at s (Some e) = then_any (done_in s) (valued code.VoidAssigned at (typing s e)) _ (λ w. literal_keeps s e)

switch_keeps : (s : Scope) (at : Pos) (e : Tree) → IfFine (done_in s) (both (valued code.VoidControl at (typing s e)) (breaks code.LeftOutLabel at) (λ c d. fine d))
switch_keeps s at e = never (done_in s) (valued code.VoidControl at (typing s e)) (breaks code.LeftOutLabel at) (λ c d. fine d) (λ b h. absurd (cc))

-- the first part of a for
past_option_keeps : (s : Scope) (e : Option Tree) → Keeps s (typed.past_option s e)
past_option_keeps s None = stays s
past_option_keeps s (Some e) = literal_keeps s e

abbrev pub started_in : Scope → Start → Type 0
started_in s d = Keeps s d.scope

started_keeps : (s : Scope) (start : StartTree) → IfFine (started_in s) (typed.started s start)
started_keeps s (expression_start e) = then_any (started_in s) (typed.effect_in s e) _ (λ v. past_option_keeps s e)
started_keeps s (declaration_start x) =
    part (started_in s) (typed.fit_for_loop x) (then_check (declaration_typed s x) _)
    (then_some (λ (y : Declared). Keeps s y.scope) (started_in s) (declaration_typed s x) _ (declaration_keeps s x) (λ y g. g))

mutual
  pub statement_keeps : (A : Around) (d : Option IntType) (s : Scope) (t : StmtTree) → IfFine (done_in s) (statement A d s t)
  statement_keeps A d s stmt_hole = tt
  statement_keeps A (Some t) s (case_stmt at e a) =
      both_any (done_in (past s e)) (done_in s) (typed.case_value s t e) (statement A (Some t) (past s e) a) (typed.case_label at) (statement_keeps A (Some t) (past s e) a) (λ v x g.
      onwards s (past s e) x.scope (literal_keeps s e) g)
  statement_keeps A None s (case_stmt at e a) = misplaced_keeps s A.in_switch A at refl
  statement_keeps A (Some t) s (default_stmt at a) =
      then_some (done_in s) (done_in s) (statement A (Some t) s a) (typed.with_label (record { at = at; value = None })) (statement_keeps A (Some t) s a) (λ x g. g)
  statement_keeps A None s (default_stmt at a) = misplaced_keeps s A.in_switch A at refl
  statement_keeps A d s (block_stmt at ps) = then_some (all_in (inside s)) (done_in s) (pieces A None (inside s) ps) (typed.block_of s) (pieces_keeps A None (inside s) ps) (λ all g. outside_keeps s all.scope g)
  statement_keeps A d s (empty_stmt at) = stays s
  statement_keeps A d s (expression_stmt at e) = then_any (done_in s) (typing s e) _ (λ x. then_any (done_in s) (effect x) _ (λ v. literal_keeps s e))
  statement_keeps A d s (if_stmt at e a) =
      both_any (done_in (past s e)) (done_in s) (valued code.VoidControl at (typing s e)) (statement A None (past s e) a) _ (statement_keeps A None (past s e) a) (λ c x g.
      onwards s (past s e) x.scope (literal_keeps s e) g)
  statement_keeps A d s (if_else_stmt at e a b) =
      both_any (done_in (past s e)) (done_in s) (valued code.VoidControl at (typing s e)) (statement A None (past s e) a) _ (statement_keeps A None (past s e) a) (λ c x g.
      then_some (done_in x.scope) (done_in s) (statement A None x.scope b) _ (statement_keeps A None x.scope b) (λ y k.
      onwards s x.scope y.scope (onwards s (past s e) x.scope (literal_keeps s e) g) k))
  statement_keeps A d s (switch_stmt at e (block_stmt p ps)) =
      then_any (done_in s) (valued code.VoidControl at (typing s e)) _ (λ c.
      then_some (all_in (inside (past s e))) (done_in s) (pieces (typed.in_a_switch A) (Some (promoted c.type)) (inside (past s e)) ps) (typed.switch_of s (promoted c.type) c) (pieces_keeps (typed.in_a_switch A) (Some (promoted c.type)) (inside (past s e)) ps) (λ all g.
      part (done_in s) (typed.no_label_twice [] all.labels) _ (outside_keeps s all.scope g)))
  statement_keeps A d s (switch_stmt at e stmt_hole) = switch_keeps s at e
  statement_keeps A d s (switch_stmt at e (empty_stmt p)) = switch_keeps s at e
  statement_keeps A d s (switch_stmt at e (expression_stmt p a)) = switch_keeps s at e
  statement_keeps A d s (switch_stmt at e (if_stmt p a b)) = switch_keeps s at e
  statement_keeps A d s (switch_stmt at e (if_else_stmt p a b c)) = switch_keeps s at e
  statement_keeps A d s (switch_stmt at e (switch_stmt p a b)) = switch_keeps s at e
  statement_keeps A d s (switch_stmt at e (case_stmt p a b)) = switch_keeps s at e
  statement_keeps A d s (switch_stmt at e (default_stmt p a)) = switch_keeps s at e
  statement_keeps A d s (switch_stmt at e (while_stmt p a b)) = switch_keeps s at e
  statement_keeps A d s (switch_stmt at e (do_while_stmt p a b)) = switch_keeps s at e
  statement_keeps A d s (switch_stmt at e (for_stmt p a b c f)) = switch_keeps s at e
  statement_keeps A d s (switch_stmt at e (break_stmt p)) = switch_keeps s at e
  statement_keeps A d s (switch_stmt at e (continue_stmt p)) = switch_keeps s at e
  statement_keeps A d s (switch_stmt at e (return_stmt p a)) = switch_keeps s at e
  statement_keeps A d s (while_stmt at e a) =
      both_any (done_in (past s e)) (done_in s) (valued code.VoidControl at (typing s e)) (statement (typed.in_a_loop A) None (past s e) a) _ (statement_keeps (typed.in_a_loop A) None (past s e) a) (λ c x g.
      onwards s (past s e) x.scope (literal_keeps s e) g)
  statement_keeps A d s (do_while_stmt at a e) =
      then_some (done_in s) (done_in s) (statement (typed.in_a_loop A) None s a) _ (statement_keeps (typed.in_a_loop A) None s a) (λ x g.
      then_any (done_in s) (valued code.VoidControl at (typing x.scope e)) _ (λ c. onwards s x.scope (past x.scope e) g (literal_keeps x.scope e)))
  statement_keeps A d s (for_stmt at start test step a) =
      then_some (started_in (inside s)) (done_in s) (typed.started (inside s) start) _ (started_keeps (inside s) start) (λ (x : Start) k.
      let more = typed.past_option (typed.past_option x.scope test) step in
      both_any (done_in (inside more)) (done_in s) (both (typed.test_in x.scope at test) (typed.effect_in (typed.past_option x.scope test) step) typed.control)
      (statement (typed.in_a_loop A) None (inside more) a) (typed.loop_of s x) (statement_keeps (typed.in_a_loop A) None (inside more) a) (λ c y g.
      g ∙ past_option_keeps (typed.past_option x.scope test) step ∙ past_option_keeps x.scope test ∙ k))
  statement_keeps A d s (break_stmt at) = jump_keeps (A.in_loop || A.in_switch) at s _
  statement_keeps A d s (continue_stmt at) = jump_keeps A.in_loop at s _
  statement_keeps A d s (return_stmt at e) = returned_keeps A.result at s e

  pub pieces_keeps : (A : Around) (d : Option IntType) (s : Scope) (ps : Pieces) → IfFine (all_in s) (pieces A d s ps)
  pieces_keeps A d s no_pieces = stays s
  pieces_keeps A d s (and_piece (declaration_item x) ps) =
      then_some (λ (y : Declared). Keeps s y.scope) (all_in s) (declaration_typed s x) _ (declaration_keeps s x) (λ y g.
      then_some (all_in y.scope) (all_in s) (pieces A d y.scope ps) (typed.and_declaration y.effects) (pieces_keeps A d y.scope ps) (λ more k. onwards s y.scope more.scope g k))
  pieces_keeps A d s (and_piece (statement_item x) ps) =
      then_some (done_in s) (all_in s) (statement A d s x) _ (statement_keeps A d s x) (λ y g.
      then_some (all_in y.scope) (all_in s) (pieces A d y.scope ps) (typed.and_statements y) (pieces_keeps A d y.scope ps) (λ more k. onwards s y.scope more.scope g k))

-- ---- parts that are fine

of_fine : {A : Type 0} (P : A → Type 0) (v : Verdict A) (a : A) → v ≡ fine a → IfFine P v → P a
of_fine P v a e h = subst (IfFine P) e h

pub pieces_kept : (A : Around) (d : Option IntType) (s : Scope) (ps : Pieces) (all : AllDone) → pieces A d s ps ≡ fine all → all.scope.definitions ≡ s.definitions
pieces_kept A d s ps all e = of_fine (all_in s) (pieces A d s ps) all e (pieces_keeps A d s ps)
