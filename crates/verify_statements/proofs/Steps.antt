-- Rules as the functions have them.
use Rattle.std.proofs.Common.{◌≡◌, ◌≤◌, ◌<◌, ◌+◌, ℕ, zero, suc, List, [], ◌∷◌, map, length, refl, sym, subst, ◌∙◌, arith}
use Rattle.std.specs.Prelude.{Option, Some, None, true, false, IfOk, IfSome, slice_get, Result, Ok, Err}
use Rattle.ctypes.specs.declared.types.IntType.{IntType}
use Rattle.typing_spec.specs.Types.{ObjectType}
use Rattle.typing_spec.specs.Program as typed
use Rattle.typing_spec.specs.Program.{Value, Statement, Statements}
use Rattle.typed_ast.specs.declared.types.ObjectType as held_type
use Rattle.typed_ast.specs.declared.statements.Statement as held
use Rattle.typed_ast.specs.declared.expressions.Value as held_value
use Rattle.typed_ast.specs.View.{object_type_of, option_value, statement_of, statements_of, value_of}
use Rattle.verify_logic.specs.declared.abstract_values.Interval.{Interval}
use Rattle.verify_logic.specs.declared.abstract_values.AbsValue.{AbsValue}
use Rattle.verify_logic.specs.States.{Known, Frame, Reaches, Implies, Entails, shape_of, Writes, Replaces}
use Rattle.verify_logic.specs.Judgements.{Evaluates, Tests, Converts}
use Rattle.verify_logic.specs.Statements.{Ways, Executes, ExecutesAll, Continues, Follows, WaysImply, Renews, RenewsOne, Initialises, EvaluatesOr, TestsOr, only_normal}
use Rattle.verify_logic.proofs.StatementRules.{begins, ended, followed, follows_rule, block_rule, branches_rule, with_normal, only_returned, return_value_rule, evaluates_some, evaluates_none, tests_none}
use Rattle.verify_logic.proofs.Runs.{weaker}
use Rattle.verify_logic.proofs.Objects.{implies_same}
use Rattle.csem.specs.Expressions.{evaluate_or}
use Rattle.csem.specs.Meaning.{calling}
use Rattle.verify_logic.proofs.Begun.{define_rule, one_value_rule, shape_at, renew_rule}
use Rattle.verify_expressions.specs.declared.stop.Stop.{Stop}
use Rattle.verify_expressions.specs.declared.state.AbsState.{AbsState}
use Rattle.verify_expressions.specs.declared.conditions.Tested.{Tested}
use Rattle.verify_expressions.specs.Views.{state_of}
use Rattle.verify_statements.specs.declared.ways.Left.{Left}
use Rattle.verify_statements.specs.Loops.{Loops}
use Rattle.verify_statements.specs.Ways.{ways_of}
use Rattle.verify_statements.proofs.Work.{work, work_all}

pub object_there : (xs : List held_type.ObjectType) (n : ℕ) → n < length xs → (t : ObjectType) × (slice_get (map object_type_of xs) n ≡ Some t)
object_there [] n h = absurd (omega (arith, h))
object_there (y ∷ xs) zero h = (object_type_of y, refl)
object_there (y ∷ xs) (suc n) h = object_there xs n (let q : suc n < suc (length xs) = h in omega (arith, q))

pub left_as : (fr : Frame) (a : Statement) (o : Option Known) (w w2 : Ways) → w2 ≡ w → Executes fr a o w → Executes fr a o w2
left_as fr a o w w2 e h = let P : Ways → Type 0 = λ w. Executes fr a o w in subst P (sym e) h

pub ways_join : (w r : Ways) → Implies w.normal r.normal → Implies w.broken r.broken → Implies w.continued r.continued → Implies w.returned r.returned → Entails w.value r.value → WaysImply w r
ways_join w r n b c t v = record { normal = n; broken = b; continued = c; returned = λ fr u s h k. (v.is u h, t.is fr s k) }

pub defined_as : (fr : Frame) (n x : ℕ) (u : IntType) (e : Value) (o o2 : Option Known) (i : Interval) (o3 : Option Known) (r : Interval) (o4 : Option Known) (k : AbsValue) (w : Ways) → w ≡ only_normal k o4 → x ≡ length fr.outer + n →
    (t : ObjectType) × (slice_get fr.objects n ≡ Some t) → shape_of fr x ≡ [] → RenewsOne fr n o o2 → Evaluates fr e o2 i o3 → Converts u i r → Writes fr o3 x None r o4 → Executes fr (typed.define n (typed.one_value u e)) o w
defined_as fr n x u e o o2 i o3 r o4 k w ew ex t es one h cv wr =
    let P : Ways → Type 0 = λ w. Executes fr (typed.define n (typed.one_value u e)) o w in
    let z : [] ≡ (t.0).lengths = sym es ∙ shape_at fr n x t.0 ex t.1 in
    let Q : List ℕ → Type 0 = λ l. Initialises fr (typed.one_value u e) (t.0).element x l o2 o4 in
    subst P (sym ew) (define_rule fr n x t.0 (typed.one_value u e) o o2 o4 k ex t.1 one (subst Q z (one_value_rule fr u e (t.0).element x o2 i o3 r o4 h cv wr)))

-- ---- one statement after others

pub begun_some : (fr : Frame) (first count : ℕ) (all : Statements) (o o2 : Option Known) (r : Result Left Stop) → Renews fr first count o o2 → IfOk r (λ l. ExecutesAll fr all o2 (ways_of l)) →
    IfOk r (λ l. Executes fr (typed.block first count all) o (ways_of l))
begun_some fr first count all o o2 (Err e) f h = tt
begun_some fr first count all o o2 (Ok l) f h = block_rule fr first count all o o2 (ways_of l) f h

pub follows_some : (fr : Frame) (w before : Ways) (a : Statement) (w2 : Ways) (r : Result Left Stop) → before ≡ with_normal None w → Executes fr a w.normal w2 → IfOk r (λ l. WaysImply before (ways_of l)) → IfOk r (λ l. WaysImply w2 (ways_of l)) →
    IfOk r (λ l. Follows fr w a (ways_of l))
follows_some fr w before a w2 (Err e) b h f g = tt
follows_some fr w before a w2 (Ok l) b h f g = let P : Ways → Type 0 = λ v. WaysImply v (ways_of l) in follows_rule fr w a w2 (ways_of l) h (subst P b f) g

pub branches_some : (fr : Frame) (e : Value) (a b : Statement) (o on off : Option Known) (w w2 : Ways) (r : Result Left Stop) → Tests fr e o on off → Executes fr a on w → Executes fr b off w2 → IfOk r (λ l. WaysImply w (ways_of l)) →
    IfOk r (λ l. WaysImply w2 (ways_of l)) → IfOk r (λ l. Executes fr (typed.branches e a b) o (ways_of l))
branches_some fr e a b o on off w w2 (Err x) he ha hb f g = tt
branches_some fr e a b o on off w w2 (Ok l) he ha hb f g = branches_rule fr e a b o on off w w2 (ways_of l) he ha hb f g

pub fewer : (xs : List held.Statement) (x : held.Statement) (more : List held.Statement) (n : ℕ) → xs ≡ x ∷ more → work_all (statements_of (map statement_of xs)) ≤ n → work_all (statements_of (map statement_of more)) ≤ n
fewer xs x more n e h =
    let P : List held.Statement → Type 0 = λ xs. work_all (statements_of (map statement_of xs)) ≤ n in
    let all : work (statement_of x) + work_all (statements_of (map statement_of more)) + 3 ≤ n = subst P e h in
    omega (arith, all)

pub one_less : (fr : Frame) (xs : List held.Statement) (x : held.Statement) (more : List held.Statement) (w w2 out : Ways) → xs ≡ x ∷ more → Follows fr w (statement_of x) w2 → Continues fr w2 (statements_of (map statement_of more)) out →
    Continues fr w (statements_of (map statement_of xs)) out
one_less fr xs x more w w2 out e h k =
    let P : List held.Statement → Type 0 = λ xs. Continues fr w (statements_of (map statement_of xs)) out in
    subst P (sym e) (followed fr w (statement_of x) w2 (statements_of (map statement_of more)) out h k)

pub none_left : (fr : Frame) (xs : List held.Statement) (w : Ways) → length xs ≡ 0 → Continues fr w (statements_of (map statement_of xs)) w
none_left fr [] w e = ended fr w
none_left fr (x ∷ xs) w e = absurd (cc e)

pub begins_as : (fr : Frame) (all : Statements) (o : Option Known) (so_far out : Ways) → so_far.normal ≡ o → Continues fr so_far all out → ExecutesAll fr all o out
begins_as fr all o so_far out e h = begins fr all o so_far out e h

pub renewed_as : (fr : Frame) (n x : ℕ) (base : ℕ) (k : AbsValue) (o o2 : Option Known) → base ≡ length fr.outer → x ≡ base + n → (t : ObjectType) × (slice_get fr.objects n ≡ Some t) → k.initialised ≡ false → Replaces o x k o2 → RenewsOne fr n o o2
renewed_as fr n x base k o o2 eb ex t i r = renew_rule fr n x t.0 k o o2 (omega (arith, eb, ex)) t.1 i r

pub defined_at : (fr : Frame) (n x base : ℕ) (u : IntType) (e : Value) (o o2 : Option Known) (i : Interval) (o3 : Option Known) (r : Interval) (o4 : Option Known) (k : AbsValue) (w : Ways) → w ≡ only_normal k o4 → base ≡ length fr.outer → x ≡ base + n →
    (t : ObjectType) × (slice_get fr.objects n ≡ Some t) → shape_of fr x ≡ [] → RenewsOne fr n o o2 → Evaluates fr e o2 i o3 → Converts u i r → Writes fr o3 x None r o4 → Executes fr (typed.define n (typed.one_value u e)) o w
defined_at fr n x base u e o o2 i o3 r o4 k w ew eb ex t es one h cv wr = defined_as fr n x u e o o2 i o3 r o4 k w ew (omega (arith, eb, ex)) t es one h cv wr

pub returned_as : (fr : Frame) (t : IntType) (e : Value) (o : Option Known) (i : Interval) (o2 : Option Known) (r : Interval) (k : AbsValue) → Evaluates fr e o i o2 → Converts t i r → k ≡ record { initialised = true; interval = r } →
    Executes fr (typed.return_value t e) o (only_returned k o2)
returned_as fr t e o i o2 r k h g ek = let P : AbsValue → Type 0 = λ k. Executes fr (typed.return_value t e) o (only_returned k o2) in
    subst P (sym ek) (return_value_rule fr t e o i o2 (record { initialised = true; interval = r }) h g)

pub evaluated_some : (fr : Frame) (e : Value) (o : Option Known) (i : Interval) (o2 : Option Known) → Evaluates fr e o i o2 → EvaluatesOr fr (Some e) o o2
evaluated_some fr e o i o2 h = evaluates_some fr e o i o2 o2 h (implies_same o2)

pub evaluated_none : (fr : Frame) (o : Option Known) → EvaluatesOr fr None o o
evaluated_none fr o = evaluates_none fr o o (implies_same o)

pub evaluates_more : (fr : Frame) (e : Option Value) (o o2 o3 : Option Known) → EvaluatesOr fr e o o2 → Implies o2 o3 → EvaluatesOr fr e o o3
evaluates_more fr e o o2 o3 h f = record { runs = λ d s c. weaker fr.listed (evaluate_or fr.program (calling fr.program d) e s) (λ v s2. Reaches fr o2 s2) (λ v s2. Reaches fr o3 s2) (h.runs d s c) (λ v s2 m. f.is fr s2 m) }

pub evaluated_or_none : (fr : Frame) (e : Option held_value.Value) (o : Option Known) → e ≡ None → EvaluatesOr fr (option_value e) o o
evaluated_or_none fr e o q = let P : Option held_value.Value → Type 0 = λ e. EvaluatesOr fr (option_value e) o o in subst P (sym q) (evaluated_none fr o)

pub evaluated_or_some : (fr : Frame) (e : Option held_value.Value) (x : held_value.Value) (o : Option Known) (r : Result AbsState Stop) → e ≡ Some x → IfOk r (λ r. EvaluatesOr fr (Some (value_of x)) o (state_of r)) → IfOk r (λ r. EvaluatesOr fr (option_value e) o (state_of r))
evaluated_or_some fr e x o r q h = let P : Option held_value.Value → Type 0 = λ e. IfOk r (λ r. EvaluatesOr fr (option_value e) o (state_of r)) in subst P (sym q) h

pub tested_or_none : (fr : Frame) (e : Option held_value.Value) (o : Option Known) → e ≡ None → TestsOr fr (option_value e) o o None
tested_or_none fr e o q = let P : Option held_value.Value → Type 0 = λ e. TestsOr fr (option_value e) o o None in subst P (sym q) (tests_none fr o)

pub tested_or_some : (fr : Frame) (e : Option held_value.Value) (x : held_value.Value) (o : Option Known) (r : Result Tested Stop) → e ≡ Some x → IfOk r (λ r. TestsOr fr (Some (value_of x)) o (state_of r.on) (state_of r.off)) →
    IfOk r (λ r. TestsOr fr (option_value e) o (state_of r.on) (state_of r.off))
tested_or_some fr e x o r q h = let P : Option held_value.Value → Type 0 = λ e. IfOk r (λ r. TestsOr fr (option_value e) o (state_of r.on) (state_of r.off)) in subst P (sym q) h

pub never_executes : (fr : Frame) (a : Statement) (o : Option Known) (w : Ways) → o ≡ None → Executes fr a o w
never_executes fr a o w q = let P : Option Known → Type 0 = λ o. Executes fr a o w in subst P (sym q) (record { runs = λ d s c. absurd c })

-- a loop that was analysed before

pub loops_some : (fr : Frame) (test step : Option Value) (a : Statement) (o2 o : Option Known) (q : Option Left) (l : Left) → q ≡ Some l → o2 ≡ o → IfSome q (λ r. Loops fr test step a o2 (ways_of r)) → Loops fr test step a o (ways_of l)
loops_some fr test step a o2 o q l eq eo h =
    let P : Option Left → Type 0 = λ q. IfSome q (λ r. Loops fr test step a o2 (ways_of r)) in
    let Q : Option Known → Type 0 = λ o. Loops fr test step a o (ways_of l) in
    let k : Loops fr test step a o2 (ways_of l) = subst P eq h in
    subst Q eo k
