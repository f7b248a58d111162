-- The types of a unit's objects and parameters are sized (6.7p7, 6.7.6.2p1, 6.7.6.3p7).
use Rattle.std.proofs.Common.{◌≡◌, ◌<◌, ◌≤◌, ℕ, zero, suc, ◌+◌, ◌-◌, Bool, true, false, ◌||◌, nat_le, nat_lt, List, [], ◌∷◌, ◌++◌, length, take, Option, Some, None, refl, arith}
use Rattle.std.specs.Prelude.{if◌then◌else◌}
use Rattle.std.specs.List.{list_all}
use Rattle.std.proofs.lemmas.Bool.{and_from}
use Rattle.std.proofs.lemmas.Bool.Decides.{nat_tests}
use Rattle.srcset.specs.declared.code.Code.{Code}
use Rattle.srcset.specs.declared.code.Code.TheVariants as code
use Rattle.srcset.specs.declared.refusal.Pos.{Pos}
use Rattle.ctypes.specs.declared.types.IntType.{IntType}
use Rattle.ctypes.specs.Types.{promoted}
use Rattle.tree.specs.Tree.{Tree, StartTree, expression_start, declaration_start, ParameterTree, StmtTree, stmt_hole, block_stmt, empty_stmt, expression_stmt, if_stmt, if_else_stmt, switch_stmt, case_stmt, default_stmt, while_stmt, do_while_stmt, for_stmt, break_stmt, continue_stmt, return_stmt, declaration_item, statement_item, Pieces, no_pieces, and_piece, FunctionTree, ExternalTree, definition, declaration}
use Rattle.typing_spec.specs.Types.{ObjectType, ParameterType, number, elements, elements_in, size_of_object}
use Rattle.typing_spec.specs.Program as typed
use Rattle.typing_spec.specs.Program.{Statement, Function, Program}
use Rattle.typing_spec.specs.Verdict.{Verdict, fine, breaks, both, then_check, provided, refuse_if, each, IfFine}
use Rattle.typing_spec.specs.Scope.{Scope, StaticObject, Binding, defined, inside, outside, past, with_literals, file_scope}
use Rattle.typing_spec.specs.Specifiers.{BaseType, base_type}
use Rattle.typing_spec.specs.Expressions.{object_limit, typing, effect, valued, too_large}
use Rattle.typing_spec.specs.Declarators as declarators
use Rattle.typing_spec.specs.Declarators.{Sizes, no_sizes, outermost, ParameterObject, a_number, a_reference, Parameters, parameters_from, parameters_in, parameter_object, sizes_in, strings_in_sizes, with_object, with_parameter, references_after, behind_parameters, function_type}
use Rattle.typing_spec.specs.Linkage.{file_function}
use Rattle.typing_spec.specs.Declarations.{Initial, no_effects, declaration_typed, specified}
use Rattle.typing_spec.specs.Statements as rules
use Rattle.typing_spec.specs.Statements.{Around, Done, AllDone, Start, Control, statement, pieces}
use Rattle.typing_spec.specs.Uses.{all_defined, uses_in_functions}
use Rattle.typing_spec.specs.Units as units
use Rattle.typing_spec.specs.Units.{Built, external_typed, externals_typed, function_typed, function_of, body_typed, with_function, whole_program, program_of, unit_typed}
use Rattle.lower_wf.specs.Asked.{is_sized, parameter_is_sized, function_is_sized, types_are_sized}
use Rattle.lower_wf.specs.Settled.{Sized}
use Rattle.lower_wf.proofs.Verdicts.{then_any, then_some, both_any, part, of_fine}
use Rattle.lower_wf.proofs.Typings.{sized_part}
use Rattle.lower_wf.proofs.Specifiers.{SizesGood, sizes_good, number_sized}
use Rattle.lower_wf.proofs.SizedScopes.{AllSized, StaticsSized, AllBound, Good, one_more, specified_good, file_function_good, declaration_good}

-- ---- statements (6.8)

abbrev DoneGood : Done → Type 0
DoneGood d = Good d.scope

abbrev AllGood : AllDone → Type 0
AllGood all = Good all.scope

abbrev StartGood : Start → Type 0
StartGood x = Good x.scope

past_good : (s : Scope) (e : Option Tree) → Good s → Good (rules.past_option s e)
past_good s None g = g
past_good s (Some e) g = g

inside_good : (s : Scope) → Good s → Good (inside s)
inside_good s g = g

started_good : (s : Scope) (start : StartTree) → Good s → IfFine StartGood (rules.started s start)
started_good s (expression_start e) g = then_any StartGood (rules.effect_in s e)
    (λ v. fine (record { effects = no_effects; first = v; scope = rules.past_option s e })) (λ v. past_good s e g)
started_good s (declaration_start d) g =
    part StartGood (rules.fit_for_loop d) (then_check (declaration_typed s d) (λ x. fine (record { effects = x.effects; first = None; scope = x.scope })))
    (then_some (λ x. Good x.scope) StartGood (declaration_typed s d) (λ x. fine (record { effects = x.effects; first = None; scope = x.scope }))
    (declaration_good s d g) (λ x h. h))

misplaced : (at : Pos) (b : Bool) → IfFine DoneGood (if b then breaks code.LeftOutLabel at else breaks code.LabelOutsideSwitch at)
misplaced at true = tt
misplaced at false = tt

jump_good : (b : Bool) (at : Pos) (s : Scope) (x : Statement) → Good s → IfFine DoneGood (rules.jump b at s x)
jump_good true at s x g = g
jump_good false at s x g = tt

refused : {A B : Type 0} (v : Verdict A) (c : Code) (at : Pos) (go : A → B → Verdict Done) → IfFine DoneGood (both v (breaks c at) go)
refused (fine a) c at go = tt
refused v c at go = tt

returned_good : (r : Option IntType) (at : Pos) (s : Scope) (e : Option Tree) → Good s → IfFine DoneGood (rules.returned r at s e)
returned_good None at s None g = g
returned_good (Some t) at s None g = tt
returned_good None at s (Some e) g = refused (typing s e) code.ReturnMismatch at (λ x d. fine d)
returned_good (Some t) at s (Some e) g = then_any DoneGood (valued code.VoidAssigned at (typing s e))
    (λ w. rules.done (past s e) (typed.return_value t w.e)) (λ w. g)

not_switched : (s : Scope) (at : Pos) (e : Tree) → IfFine DoneGood
    (both (valued code.VoidControl at (typing s e)) (breaks code.LeftOutLabel at) (λ c d. fine d))
not_switched s at e = refused (valued code.VoidControl at (typing s e)) code.LeftOutLabel at (λ c d. fine d)

mutual
  statement_good : (A : Around) (d : Option IntType) (s : Scope) (t : StmtTree) → Good s → IfFine DoneGood (statement A d s t)
  statement_good A d s stmt_hole g = tt
  statement_good A (Some t) s (case_stmt at e a) g =
      both_any DoneGood DoneGood (rules.case_value s t e) (statement A (Some t) (past s e) a) (rules.case_label at)
      (statement_good A (Some t) (past s e) a g) (λ v x h. h)
  statement_good A None s (case_stmt at e a) g = misplaced at A.in_switch
  statement_good A (Some t) s (default_stmt at a) g =
      then_some DoneGood DoneGood (statement A (Some t) s a) (rules.with_label (record { at = at; value = None })) (statement_good A (Some t) s a g) (λ x h. h)
  statement_good A None s (default_stmt at a) g = misplaced at A.in_switch
  statement_good A d s (block_stmt at ps) g =
      then_some AllGood DoneGood (pieces A None (inside s) ps) (rules.block_of s) (pieces_good A None (inside s) ps (inside_good s g))
      (λ all h. (g.0, h.1, h.2))
  statement_good A d s (empty_stmt at) g = g
  statement_good A d s (expression_stmt at e) g =
      then_any DoneGood (typing s e) (λ x. then_check (effect x) (λ v. rules.done (past s e) (typed.evaluate v))) (λ x.
      then_any DoneGood (effect x) (λ v. rules.done (past s e) (typed.evaluate v)) (λ v. g))
  statement_good A d s (if_stmt at e a) g =
      both_any DoneGood DoneGood (valued code.VoidControl at (typing s e)) (statement A None (past s e) a) _ (statement_good A None (past s e) a g) (λ c x h. h)
  statement_good A d s (if_else_stmt at e a b) g =
      both_any DoneGood DoneGood (valued code.VoidControl at (typing s e)) (statement A None (past s e) a) _ (statement_good A None (past s e) a g) (λ c x h.
      then_some DoneGood DoneGood (statement A None x.scope b) _ (statement_good A None x.scope b h) (λ y k. k))
  statement_good A d s (switch_stmt at e (block_stmt p ps)) g =
      then_any DoneGood (valued code.VoidControl at (typing s e)) _ (λ c.
      let t = promoted c.type in
      then_some AllGood DoneGood (pieces (rules.in_a_switch A) (Some t) (inside (past s e)) ps) (rules.switch_of s t c)
      (pieces_good (rules.in_a_switch A) (Some t) (inside (past s e)) ps (inside_good (past s e) g)) (λ all h.
      part DoneGood (rules.no_label_twice [] all.labels) (rules.done_with (outside s all.scope) all.initial
      (typed.switch t c.e (length s.objects) (length all.scope.objects - length s.objects) all.statements)) (g.0, h.1, h.2)))
  statement_good A d s (switch_stmt at e stmt_hole) g = not_switched s at e
  statement_good A d s (switch_stmt at e (empty_stmt p)) g = not_switched s at e
  statement_good A d s (switch_stmt at e (expression_stmt p a)) g = not_switched s at e
  statement_good A d s (switch_stmt at e (if_stmt p a b)) g = not_switched s at e
  statement_good A d s (switch_stmt at e (if_else_stmt p a b c)) g = not_switched s at e
  statement_good A d s (switch_stmt at e (switch_stmt p a b)) g = not_switched s at e
  statement_good A d s (switch_stmt at e (case_stmt p a b)) g = not_switched s at e
  statement_good A d s (switch_stmt at e (default_stmt p a)) g = not_switched s at e
  statement_good A d s (switch_stmt at e (while_stmt p a b)) g = not_switched s at e
  statement_good A d s (switch_stmt at e (do_while_stmt p a b)) g = not_switched s at e
  statement_good A d s (switch_stmt at e (for_stmt p a b c f)) g = not_switched s at e
  statement_good A d s (switch_stmt at e (break_stmt p)) g = not_switched s at e
  statement_good A d s (switch_stmt at e (continue_stmt p)) g = not_switched s at e
  statement_good A d s (switch_stmt at e (return_stmt p a)) g = not_switched s at e
  statement_good A d s (while_stmt at e a) g =
      both_any DoneGood DoneGood (valued code.VoidControl at (typing s e)) (statement (rules.in_a_loop A) None (past s e) a) _
      (statement_good (rules.in_a_loop A) None (past s e) a g) (λ c x h. h)
  statement_good A d s (do_while_stmt at a e) g =
      then_some DoneGood DoneGood (statement (rules.in_a_loop A) None s a) _ (statement_good (rules.in_a_loop A) None s a g) (λ x h.
      then_any DoneGood (valued code.VoidControl at (typing x.scope e)) _ (λ c. h))
  statement_good A d s (for_stmt at start test step a) g =
      then_some StartGood DoneGood (rules.started (inside s) start) _ (started_good (inside s) start (inside_good s g)) (λ x h.
      let s1 = rules.past_option x.scope test in
      let s2 = rules.past_option s1 step in
      both_any DoneGood DoneGood (both (rules.test_in x.scope at test) (rules.effect_in s1 step) rules.control)
      (statement (rules.in_a_loop A) None (inside s2) a) (rules.loop_of s x)
      (statement_good (rules.in_a_loop A) None (inside s2) a (inside_good s2 (past_good s1 step (past_good x.scope test h)))) (λ c y k. (g.0, k.1, k.2)))
  statement_good A d s (break_stmt at) g = jump_good (A.in_loop || A.in_switch) at s typed.break g
  statement_good A d s (continue_stmt at) g = jump_good A.in_loop at s typed.continue g
  statement_good A d s (return_stmt at e) g = returned_good A.result at s e g

  pieces_good : (A : Around) (d : Option IntType) (s : Scope) (ps : Pieces) → Good s → IfFine AllGood (pieces A d s ps)
  pieces_good A d s no_pieces g = g
  pieces_good A d s (and_piece (declaration_item x) ps) g =
      then_some (λ y. Good y.scope) AllGood (declaration_typed s x) _ (declaration_good s x g) (λ y h.
      then_some AllGood AllGood (pieces A d y.scope ps) (rules.and_declaration y.effects) (pieces_good A d y.scope ps h) (λ more k. k))
  pieces_good A d s (and_piece (statement_item x) ps) g =
      then_some DoneGood AllGood (statement A d s x) _ (statement_good A d s x g) (λ y h.
      then_some AllGood AllGood (pieces A d y.scope ps) (rules.and_statements y) (pieces_good A d y.scope ps h) (λ more k. k))

-- ---- parameters (6.7.6.3)

abbrev IsParameter : ParameterObject → Type 0
IsParameter (a_number t) = Sized t
IsParameter (a_reference t) = Sized t

abbrev TypesSized : List ParameterType → Type 0
TypesSized [] = Unit {0}
TypesSized (number t ∷ ps) = TypesSized ps
TypesSized (elements t ∷ ps) = Sized t × TypesSized ps

with_reference : (at : Pos) (t : IntType) (k : Bool) (ns : List ℕ) → 0 < elements_in ns
    → IfFine IsParameter (provided (too_large at (declarators.object_type t k ns)) (fine (a_reference (declarators.object_type t k ns))))
with_reference at t k ns h = let type = declarators.object_type t k ns in sized_part IsParameter at type (fine (a_reference type)) h (λ z. z)

parameter_is : (at : Pos) (b : BaseType) (t : Option IntType) (z : Sizes) → SizesGood z → IfFine IsParameter (declarators.parameter_with at b t z)
parameter_is at b None no_sizes h = tt
parameter_is at b None (outermost n ns) h = tt
parameter_is at b (Some t) no_sizes h = number_sized t b.constant
parameter_is at b (Some t) (outermost None ns) h = with_reference at t b.constant ns h
parameter_is at b (Some t) (outermost (Some n) ns) h = with_reference at t b.constant ns h.1

parameter_good : (s : Scope) (p : ParameterTree) → IfFine IsParameter (parameter_object s p)
parameter_good s p =
    both_any SizesGood IsParameter (base_type s p.start p.specifiers) (sizes_in s p.at p.sizes)
    (λ b sizes. declarators.parameter_with p.at b b.type sizes)
    (sizes_good s p.at p.sizes) (λ b z h. parameter_is p.at b b.type z h)

object_good : (s : Scope) (r : ℕ) (n : Option ℕ) (o : ParameterObject) → Good s → IsParameter o → Good (with_object (with_parameter s r n o) o)
object_good s r None (a_number t) g h = (g.0, one_more s.objects t g.1 h, g.2)
object_good s r None (a_reference t) g h = g
object_good s r (Some n) (a_number t) g h = ((h, g.0), one_more s.objects t g.1 h, g.2)
object_good s r (Some n) (a_reference t) g h = ((tt, g.0), g.1, g.2)

type_sized : (o : ParameterObject) (ps : List ParameterType) → IsParameter o → TypesSized ps → TypesSized (declarators.type_of_parameter o ∷ ps)
type_sized (a_number t) ps h k = k
type_sized (a_reference t) ps h k = (h, k)

abbrev ParametersGood : Parameters → Type 0
ParametersGood ps = Good ps.scope × TypesSized ps.types

parameters_good : (r : ℕ) (s : Scope) (ps : List ParameterTree) → Good s → IfFine ParametersGood (parameters_from r s ps)
parameters_good r s [] g = (g, tt)
parameters_good r s (p ∷ ps) g =
    let u = with_literals s (strings_in_sizes p.sizes) in
    then_some IsParameter ParametersGood (provided (declarators.fresh_if_named s p.at p.name) (parameter_object s p)) _
    (part IsParameter (declarators.fresh_if_named s p.at p.name) (parameter_object s p) (parameter_good s p)) (λ o h.
    let v = with_object (with_parameter u r p.name o) o in
    then_some ParametersGood ParametersGood (parameters_from (references_after r o) v ps) (declarators.and_parameter (declarators.type_of_parameter o))
    (parameters_good (references_after r o) v ps (object_good u r p.name o g h)) (λ q k. (k.0, type_sized o q.types h k.1)))

-- ---- functions (6.9.1)

taken : (n : ℕ) (bs : List Binding) → AllBound bs → AllBound (take n bs)
taken zero bs h = tt
taken (suc n) [] h = tt
taken (suc n) (b ∷ bs) h = (h.0, taken n bs h.1)

both_bound : (bs cs : List Binding) → AllBound bs → AllBound cs → AllBound (bs ++ cs)
both_bound [] cs h k = k
both_bound (b ∷ bs) cs h k = (h.0, both_bound bs cs h.1 k)

body_good : (file inner outer : Scope) → Good file → Good inner → Good (units.body_scope file inner outer)
body_good file inner outer g h = (
  both_bound (units.newer inner.bindings outer.bindings) file.bindings (taken (length inner.bindings - length outer.bindings) inner.bindings h.0) g.0,
  h.1,
  g.2,
)

abbrev FunctionSized : Function → Type 0
FunctionSized f = TypesSized f.type.parameters × AllSized f.objects

abbrev FunctionsSized : List Function → Type 0
FunctionsSized [] = Unit {0}
FunctionsSized (f ∷ fs) = FunctionSized f × FunctionsSized fs

one_more_function : (fs : List Function) (f : Function) → FunctionsSized fs → FunctionSized f → FunctionsSized (fs ++ f ∷ [])
one_more_function [] f h k = (k, tt)
one_more_function (g ∷ fs) f h k = (h.0, one_more_function fs f h.1 k)

abbrev BuiltSized : Built → Type 0
BuiltSized b = FunctionsSized b.functions × Good b.scope

function_sized : (b : Built) (f : FunctionTree) → BuiltSized b → IfFine BuiltSized (function_typed b f)
function_sized b f g =
    then_some (λ d. Good d.scope) BuiltSized (specified b.scope f.start f.specifiers) _ (specified_good b.scope f.start f.specifiers g.1) (λ d s.
    let u = inside (record d.scope { objects = [] }) in
    then_some ParametersGood BuiltSized (provided (units.all_named f.parameters) (parameters_in d.scope f.parameters)) _
    (part ParametersGood (units.all_named f.parameters) (parameters_in d.scope f.parameters) (parameters_good 0 u f.parameters (s.0, tt, s.2)))
    (λ ps h.
    let t = function_type d.base ps.types in
    let v = behind_parameters d.scope ps.scope in
    then_some Good BuiltSized (file_function v f.at f.name d.class t defined) (body_typed b f d.scope ps t)
    (file_function_good v f.at f.name d.class t defined s)
    (λ file i.
    then_some AllGood BuiltSized (pieces (units.around_of t) None (units.body_scope file ps.scope d.scope) f.body) (with_function b file f t)
    (pieces_good (units.around_of t) None (units.body_scope file ps.scope d.scope) f.body (body_good file ps.scope d.scope i h.0)) (λ all k.
    part BuiltSized (refuse_if (nat_lt b.stack (units.weight f t.parameters all.scope.objects)) code.WeightLimit f.at) (fine (record {
      stack = b.stack;
      scope = record file { literals = all.scope.literals; statics = all.scope.statics; objects = [] };
      functions = b.functions ++ function_of f t all ∷ [];
      initial = b.initial ++ all.initial;
    })) (one_more_function b.functions (function_of f t all) g.0 (h.1, k.1), (i.0, tt, k.2))))))

-- ---- the unit (6.9)

external_sized : (b : Built) (e : ExternalTree) → BuiltSized b → IfFine BuiltSized (external_typed b e)
external_sized b (definition f) g = function_sized b f g
external_sized b (declaration d) g =
    then_some (λ x. Good x.scope) BuiltSized (declaration_typed b.scope d) (units.with_declaration b) (declaration_good b.scope d g.1) (λ x h. (g.0, h))

externals_sized : (b : Built) (es : List ExternalTree) → BuiltSized b → IfFine BuiltSized (externals_typed b es)
externals_sized b [] g = g
externals_sized b (e ∷ es) g = then_some BuiltSized BuiltSized (external_typed b e) (λ c. externals_typed c es) (external_sized b e g)
    (λ c k. externals_sized c es k)

-- ---- the tests

at_most : (a b : ℕ) → a ≤ b → nat_le a b ≡ true
at_most a b h = grind (arith, nat_tests, h)

below : (a b : ℕ) → a < b → nat_lt a b ≡ true
below a b h = grind (arith, nat_tests, h)

sized_test : (t : ObjectType) → Sized t → is_sized t ≡ true
sized_test t z =
    and_from (nat_lt 0 (elements_in t.lengths)) (nat_le (size_of_object t) object_limit) (below 0 (elements_in t.lengths) z.0)
    (at_most (size_of_object t) object_limit z.1)

parameters_test : (ps : List ParameterType) → TypesSized ps → list_all parameter_is_sized ps ≡ true
parameters_test [] h = refl
parameters_test (number t ∷ ps) h = parameters_test ps h
parameters_test (elements t ∷ ps) h = and_from (is_sized t) (list_all parameter_is_sized ps) (sized_test t h.0) (parameters_test ps h.1)

objects_test : (ts : List ObjectType) → AllSized ts → list_all is_sized ts ≡ true
objects_test [] h = refl
objects_test (t ∷ ts) h = and_from (is_sized t) (list_all is_sized ts) (sized_test t h.0) (objects_test ts h.1)

functions_test : (fs : List Function) → FunctionsSized fs → list_all function_is_sized fs ≡ true
functions_test [] h = refl
functions_test (f ∷ fs) h =
    and_from (function_is_sized f) (list_all function_is_sized fs)
    (and_from (list_all parameter_is_sized f.type.parameters) (list_all is_sized f.objects) (parameters_test f.type.parameters h.0.0)
    (objects_test f.objects h.0.1))
    (functions_test fs h.1)

statics_test : (n : ℕ) (os : List StaticObject) (initial : List Initial) → StaticsSized os
    → list_all (λ o. is_sized o.type) (units.statics_from n os initial) ≡ true
statics_test n [] initial h = refl
statics_test n (o ∷ os) initial h =
    and_from (is_sized o.type) (list_all (λ o. is_sized o.type) (units.statics_from (n + 1) os initial)) (sized_test o.type h.0)
    (statics_test (n + 1) os initial h.1)

-- ---- the law

abbrev ProgramSized : Program → Type 0
ProgramSized p = types_are_sized p ≡ true

built_sized : (b : Built) (main : ℕ) → BuiltSized b → ProgramSized (program_of b main)
built_sized b main g =
    and_from (list_all function_is_sized b.functions) (list_all (λ o. is_sized o.type) (units.statics_from 0 b.scope.statics b.initial))
    (functions_test b.functions g.0) (statics_test 0 b.scope.statics b.initial g.1.2)

whole_sized : (whole : Pos) (b : Built) → BuiltSized b → IfFine ProgramSized (whole_program whole b)
whole_sized whole b g =
    part ProgramSized (each (units.within_limits whole b) (all_defined b.scope [] (uses_in_functions b.functions)))
    (then_check (units.main_or_fault whole (units.main_from b.scope 0 b.functions)) (λ main. fine (program_of b main)))
    (then_any ProgramSized (units.main_or_fault whole (units.main_from b.scope 0 b.functions)) (λ main. fine (program_of b main))
    (λ main. built_sized b main g))

pub types_sized : (stack : ℕ) (texts : List (List ℕ)) (whole : Pos) (unit : List ExternalTree) (p : Program) → unit_typed stack texts whole unit ≡ fine p
    → types_are_sized p ≡ true
types_sized stack texts whole unit p e =
    let start : Built = record { stack = stack; scope = file_scope texts (units.definitions_in unit); functions = []; initial = [] } in
    of_fine ProgramSized (unit_typed stack texts whole unit) p e
    (then_some BuiltSized ProgramSized (externals_typed start unit) (whole_program whole) (externals_sized start unit (tt, (tt, tt, tt)))
    (λ c h. whole_sized whole c h))
