-- The items of a block: the results of those already typed, put before those of the others.
use Rattle.std.specs.Prelude.{◌≡◌, ℕ, ℤ, List, map, ◌++◌, Option, Some, None}
use Rattle.srcset.specs.declared.refusal.Pos.{Pos}
use Rattle.typed_ast.specs.declared.statements.Statement.{Statement}
use Rattle.typed_ast.specs.declared.statements.Statement.TheVariants.{Case, Default}
use Rattle.typed_ast.specs.View.{statement_of}
use Rattle.tree.specs.Tree.{StmtTree, Pieces, stmt_hole, block_stmt, empty_stmt, expression_stmt, if_stmt, if_else_stmt, switch_stmt, case_stmt, default_stmt, while_stmt, do_while_stmt, for_stmt, break_stmt, continue_stmt, return_stmt}
use Rattle.ctypes.specs.Types.{promoted}
use Rattle.typing_spec.specs.Verdict.{Verdict, fine, then_check}
use Rattle.typing_spec.specs.Scope.{Scope, inside, outside}
use Rattle.typing_spec.specs.Expressions.{Worth}
use Rattle.typing_spec.specs.Statements as typed
use Rattle.typing_scopes.specs.Scopes.{with_texts}
use Rattle.typing_statements.specs.declared.labels.Label.{Label}
use Rattle.typing_units.specs.declared.first_values.Initial.{Initial}
use Rattle.typing_statements.specs.Views.{label_of, initial_of, done_of, all_done_of}

-- the results of some items, before those of the items after them
abbrev pub put_before : List Label → List Initial → List Statement → typed.AllDone → Verdict typed.AllDone
put_before ms js xs more = fine (record {
  labels = map label_of ms ++ more.labels;
  statements = typed.followed_by (map statement_of xs) more.statements;
  scope = more.scope;
  initial = map initial_of js ++ more.initial;
})

abbrev pub label_with : Pos → Option ℤ → Statement
label_with at None = Default at
label_with at (Some v) = Case at v

-- a label as a statement
abbrev pub label_statement : Label → Statement
label_statement l = label_with l.pos l.value

-- the items of a block, none of another statement
abbrev pub block_items : StmtTree → Option Pieces
block_items stmt_hole = None
block_items (block_stmt at ps) = Some ps
block_items (empty_stmt at) = None
block_items (expression_stmt at e) = None
block_items (if_stmt at e a) = None
block_items (if_else_stmt at e a b) = None
block_items (switch_stmt at e a) = None
block_items (case_stmt at e a) = None
block_items (default_stmt at a) = None
block_items (while_stmt at e a) = None
block_items (do_while_stmt at a e) = None
block_items (for_stmt at start test step a) = None
block_items (break_stmt at) = None
block_items (continue_stmt at) = None
block_items (return_stmt at e) = None

-- a switch whose controlling expression has been typed, after which its block begins
abbrev pub switch_on : typed.Around → Worth → Scope → Pieces → Verdict typed.Done
switch_on A w s ps = then_check (typed.pieces (typed.in_a_switch A) (Some (promoted w.type)) (inside s) ps) (typed.switch_of s (promoted w.type) w)

-- a statement with any labels, its first values appended to those before
abbrev pub Inner : Verdict typed.Done → (before after : List Initial) → Scope → Statement → Type 0
Inner v before after s x = (ms : List Label) × (js : List Initial) × (after ≡ before ++ js) × (v ≡ fine (done_of s ms js x))

-- the items of a block that begins in the scope s
abbrev pub Scoped : Verdict typed.AllDone → (labels new_labels : List Label) → (before after : List Initial) → List (List ℕ) → (old new : Scope) → List Statement → Type 0
Scoped v labels new_labels before after t old new xs =
    (ms : List Label) × (js : List Initial) × (s : Scope) × (new_labels ≡ labels ++ ms) × (after ≡ before ++ js) × (v ≡ fine (all_done_of (with_texts t s) ms js xs)) × (new ≡ outside old s)

-- the results appended to the lists so far, before those of the items after this
abbrev pub Puts : (Pieces → Verdict typed.AllDone) → (Pieces → Verdict typed.AllDone) → (labels new_labels : List Label) → (before after : List Initial) → (all new_all : List Statement) → Type 0
Puts v w labels new_labels before after all new_all =
    (ms : List Label) × (js : List Initial) × (xs : List Statement) × (new_labels ≡ labels ++ ms) × (after ≡ before ++ js) × (new_all ≡ all ++ xs) × ((ps : Pieces) → v ps ≡ then_check (w ps) (put_before ms js xs))
