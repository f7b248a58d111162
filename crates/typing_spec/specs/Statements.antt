-- The typing rules of statements (ISO/IEC 9899:2011 6.8).
use Rattle.std.specs.Prelude.{◌-◌, Bool, true, false, not, ◌&&◌, ◌||◌, ℤ, int_le, List, [], ◌∷◌, ◌++◌, length, Option, Some, None, nat_eq, if◌then◌else◌}
use Rattle.srcset.specs.declared.refusal.Pos.{Pos}
use Rattle.srcset.specs.declared.code.Code.TheVariants as code
use Rattle.ctypes.specs.declared.types.IntType.{IntType}
use Rattle.ctypes.specs.Types.{promoted, converted}
use Rattle.tree.specs.Tree.{Tree, ItemTree, object, function, DeclarationTree, declared, assertion, StartTree, expression_start, declaration_start, StmtTree, stmt_hole, block_stmt, empty_stmt, expression_stmt, if_stmt, if_else_stmt, switch_stmt, case_stmt, default_stmt, while_stmt, do_while_stmt, for_stmt, break_stmt, continue_stmt, return_stmt, declaration_item, statement_item, Pieces, no_pieces, and_piece}
use Rattle.typing_spec.specs.Verdict.{Verdict, fine, breaks, then_check, both, refuse_if, each, provided}
use Rattle.typing_spec.specs.Program as typed
use Rattle.typing_spec.specs.Program.{Value, Statement, Statements}
use Rattle.typing_spec.specs.Scope.{Scope, inside, outside, past}
use Rattle.typing_spec.specs.Expressions.{Worth, typing, valued, effect, constant_value, nowhere}
use Rattle.typing_spec.specs.Linkage.{StorageClass}
use Rattle.typing_spec.specs.Declarations.{Initial, Effects, no_effects, declaration_typed, classes_of, lists_in}

-- the context of a statement: the result of its function, none for void; whether it is in a loop, and in a switch
pub record Around : Type 0 where
  pub result : Option IntType
  pub in_loop : Bool
  pub in_switch : Bool

-- a label, none for default, and its place
pub record Label : Type 0 where
  pub at : Pos
  pub value : Option ℤ

-- a statement: the labels before it, its typed form, the scope after it, and the values of the static objects in it
pub record Done : Type 0 where
  pub labels : List Label
  pub statement : Statement
  pub scope : Scope
  pub initial : List Initial

pub record AllDone : Type 0 where
  pub labels : List Label
  pub statements : Statements
  pub scope : Scope
  pub initial : List Initial

abbrev pub done : Scope → Statement → Verdict Done
done s x = fine (record { labels = []; statement = x; scope = s; initial = [] })

abbrev pub done_with : Scope → List Initial → Statement → Verdict Done
done_with s initial x = fine (record { labels = []; statement = x; scope = s; initial = initial })

abbrev pub with_label : Label → Done → Verdict Done
with_label l d = fine (record d { labels = l ∷ d.labels })

-- ---- lists of statements

abbrev pub followed_by : List Statement → Statements → Statements
followed_by [] more = more
followed_by (x ∷ xs) more = typed.and_statement x (followed_by xs more)

abbrev pub label_statement : Option ℤ → Statement
label_statement None = typed.default
label_statement (Some v) = typed.case v

-- labels precede their statement
abbrev pub labelled : List Label → Statements → Statements
labelled [] more = more
labelled (l ∷ ls) more = typed.and_statement (label_statement l.value) (labelled ls more)

abbrev pub and_statements : Done → AllDone → Verdict AllDone
and_statements d more =
    fine (record {
      labels = d.labels ++ more.labels;
      statements = labelled d.labels (typed.and_statement d.statement more.statements);
      scope = more.scope;
      initial = d.initial ++ more.initial;
    })

abbrev pub and_declaration : Effects → AllDone → Verdict AllDone
and_declaration e more = fine (record more { statements = followed_by e.statements more.statements; initial = e.initial ++ more.initial })

-- the block of the scope s, whose items have been typed: its names leave scope
abbrev pub block_of : Scope → AllDone → Verdict Done
block_of s all =
    done_with (outside s all.scope) all.initial (typed.block (length s.objects) (length all.scope.objects - length s.objects) all.statements)

-- ---- 6.8.4.2: switch

-- p3: no two cases of one value, no two defaults
abbrev pub same_label : Option ℤ → Option ℤ → Bool
same_label None None = true
same_label (Some v) (Some w) = int_le v w && int_le w v
same_label None (Some w) = false
same_label (Some v) None = false

abbrev pub is_among : Option ℤ → List Label → Bool
is_among v [] = false
is_among v (l ∷ ls) = same_label v l.value || is_among v ls

abbrev pub no_label_twice : List Label → List Label → Verdict (Unit {0})
no_label_twice before [] = fine tt
no_label_twice before (l ∷ ls) = each (refuse_if (is_among l.value before) code.LabelTwice l.at) (no_label_twice (l ∷ before) ls)

abbrev pub switch_of : Scope → IntType → Worth → AllDone → Verdict Done
switch_of s t c all =
    provided (no_label_twice [] all.labels)
    (done_with (outside s all.scope) all.initial (typed.switch t c.e (length s.objects) (length all.scope.objects - length s.objects) all.statements))

-- 6.8.1p2: a label is in a switch; in this profile directly in its block
abbrev pub misplaced : Around → Pos → Verdict Done
misplaced around at = if around.in_switch then breaks code.LeftOutLabel at else breaks code.LabelOutsideSwitch at

abbrev pub case_value : Scope → IntType → Tree → Verdict ℤ
case_value s t e = then_check (constant_value s e) (λ c. fine (converted t c.v))

abbrev pub case_label : Pos → ℤ → Done → Verdict Done
case_label at v d = with_label (record { at = at; value = Some v }) d

-- ---- 6.8.5: for

-- p3: only objects that are not static may be declared; an assertion declares nothing
abbrev pub declares_function : List ItemTree → Bool
declares_function [] = false
declares_function (object at n sizes init ∷ is) = declares_function is
declares_function (function at n ps ∷ is) = true

abbrev pub has_class : List StorageClass → Bool
has_class [] = false
has_class (c ∷ cs) = true

abbrev pub fit_for_loop : DeclarationTree → Verdict (Unit {0})
fit_for_loop (declared at ss is) = refuse_if (has_class (classes_of ss) || (not (nat_eq (lists_in ss) 0) || declares_function is)) code.BadForDeclaration at
fit_for_loop (assertion at e text) = fine tt

abbrev pub effect_in : Scope → Option Tree → Verdict (Option Value)
effect_in s None = fine None
effect_in s (Some e) = then_check (typing s e) (λ x. then_check (effect x) (λ v. fine (Some v)))

abbrev pub test_in : Scope → Pos → Option Tree → Verdict (Option Value)
test_in s at None = fine None
test_in s at (Some e) = then_check (valued code.VoidControl at (typing s e)) (λ w. fine (Some w.e))

abbrev pub past_option : Scope → Option Tree → Scope
past_option s None = s
past_option s (Some e) = past s e

-- the first part: its declarations, the expression that it evaluates, and the scope after it
pub record Start : Type 0 where
  pub effects : Effects
  pub first : Option Value
  pub scope : Scope

abbrev pub started : Scope → StartTree → Verdict Start
started s (expression_start e) = then_check (effect_in s e) (λ v. fine (record { effects = no_effects; first = v; scope = past_option s e }))
started s (declaration_start d) =
    provided (fit_for_loop d) (then_check (declaration_typed s d) (λ x. fine (record { effects = x.effects; first = None; scope = x.scope })))

pub record Control : Type 0 where
  pub test : Option Value
  pub step : Option Value

abbrev pub control : Option Value → Option Value → Verdict Control
control t u = fine (record { test = t; step = u })

abbrev pub loop_of : Scope → Start → Control → Done → Verdict Done
loop_of s d c x =
    done_with (outside s x.scope) (d.effects.initial ++ x.initial)
    (typed.for (followed_by d.effects.statements typed.no_statements) d.first c.test c.step x.statement)

abbrev pub in_a_loop : Around → Around
in_a_loop around = record around { in_loop = true }

abbrev pub in_a_switch : Around → Around
in_a_switch around = record around { in_switch = true }

-- ---- 6.8.6

abbrev pub jump : Bool → Pos → Scope → Statement → Verdict Done
jump true at s x = done s x
jump false at s x = breaks code.JumpOutside at

-- 6.8.6.4p1: a value where the function has one, and there alone
abbrev pub returned : Option IntType → Pos → Scope → Option Tree → Verdict Done
returned None at s None = done s typed.return_nothing
returned (Some t) at s None = breaks code.ReturnMismatch at
returned None at s (Some e) = both (typing s e) (breaks code.ReturnMismatch at) (λ x d. fine d)
returned (Some t) at s (Some e) = then_check (valued code.VoidAssigned at (typing s e)) (λ w. done (past s e) (typed.return_value t w.e))

abbrev mutual
  -- `direct` is the promoted type of the switch in whose block the statement itself is
  pub statement : Around → (direct : Option IntType) → Scope → StmtTree → Verdict Done
  statement around direct s stmt_hole = breaks code.SyntaxError nowhere
  -- 6.8.1
  statement around (Some t) s (case_stmt at e a) = both (case_value s t e) (statement around (Some t) (past s e) a) (case_label at)
  statement around None s (case_stmt at e a) = misplaced around at
  statement around (Some t) s (default_stmt at a) = then_check (statement around (Some t) s a) (with_label (record { at = at; value = None }))
  statement around None s (default_stmt at a) = misplaced around at
  -- 6.8.2
  statement around direct s (block_stmt at ps) = then_check (pieces around None (inside s) ps) (block_of s)
  -- 6.8.3
  statement around direct s (empty_stmt at) = done s typed.empty
  statement around direct s (expression_stmt at e) = then_check (typing s e) (λ x. then_check (effect x) (λ v. done (past s e) (typed.evaluate v)))
  -- 6.8.4
  statement around direct s (if_stmt at e a) =
      both (valued code.VoidControl at (typing s e)) (statement around None (past s e) a) (λ c x. done_with x.scope x.initial (typed.branch c.e x.statement))
  statement around direct s (if_else_stmt at e a b) =
      both (valued code.VoidControl at (typing s e)) (statement around None (past s e) a) (λ c x.
      then_check (statement around None x.scope b) (λ y. done_with y.scope (x.initial ++ y.initial) (typed.branches c.e x.statement y.statement)))
  statement around direct s (switch_stmt at e (block_stmt p ps)) =
      then_check (valued code.VoidControl at (typing s e)) (λ c.
      then_check (pieces (in_a_switch around) (Some (promoted c.type)) (inside (past s e)) ps) (switch_of s (promoted c.type) c))
  statement around direct s (switch_stmt at e a) = both (valued code.VoidControl at (typing s e)) (breaks code.LeftOutLabel at) (λ c d. fine d)
  -- 6.8.5
  statement around direct s (while_stmt at e a) =
      both (valued code.VoidControl at (typing s e)) (statement (in_a_loop around) None (past s e) a)
      (λ c x. done_with x.scope x.initial (typed.while c.e x.statement))
  statement around direct s (do_while_stmt at a e) =
      then_check (statement (in_a_loop around) None s a) (λ x.
      then_check (valued code.VoidControl at (typing x.scope e)) (λ c. done_with (past x.scope e) x.initial (typed.do_while x.statement c.e)))
  statement around direct s (for_stmt at start test step a) =
      then_check (started (inside s) start) (λ d.
      both (both (test_in d.scope at test) (effect_in (past_option d.scope test) step) control)
      (statement (in_a_loop around) None (inside (past_option (past_option d.scope test) step)) a) (loop_of s d))
  -- 6.8.6
  statement around direct s (break_stmt at) = jump (around.in_loop || around.in_switch) at s typed.break
  statement around direct s (continue_stmt at) = jump around.in_loop at s typed.continue
  statement around direct s (return_stmt at e) = returned around.result at s e

  -- the items of a block, each in the scope after those before it
  pub pieces : Around → (direct : Option IntType) → Scope → Pieces → Verdict AllDone
  pieces around direct s no_pieces = fine (record { labels = []; statements = typed.no_statements; scope = s; initial = [] })
  pieces around direct s (and_piece (declaration_item d) ps) =
      then_check (declaration_typed s d) (λ x. then_check (pieces around direct x.scope ps) (and_declaration x.effects))
  pieces around direct s (and_piece (statement_item x) ps) =
      then_check (statement around direct s x) (λ d. then_check (pieces around direct d.scope ps) (and_statements d))
