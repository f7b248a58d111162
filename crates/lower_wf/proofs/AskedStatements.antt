-- The requirements on statements in addition to their types hold for those that the checker's rules give (6.8).
use Rattle.std.proofs.Common.{◌≡◌, ℕ, ◌-◌, length, Bool, true, false, ◌&&◌, ◌||◌, ℤ, List, [], ◌∷◌, ◌++◌, Option, Some, None, refl, sym, subst}
use Rattle.std.specs.Prelude.{if◌then◌else◌, nat_lt}
use Rattle.std.specs.List.{list_all}
use Rattle.std.proofs.lemmas.Bool.{and_from}
use Rattle.srcset.specs.declared.code.Code.{Code}
use Rattle.srcset.specs.declared.code.Code.TheVariants as code
use Rattle.srcset.specs.declared.refusal.Pos.{Pos}
use Rattle.ctypes.specs.declared.types.IntType.{IntType}
use Rattle.ctypes.specs.Types.{promoted, converted}
use Rattle.tree.specs.Tree.{Tree, hole, identifier, constant, string, paren, call, subscript, after, before, prefix, size_of, size_of_type, cast, binary, conditional, assign, Init, init_hole, one_init, braced_init, Inits, no_inits, and_init, ItemTree, object, function, DeclarationTree, declared, assertion, StartTree, expression_start, declaration_start, StmtTree, stmt_hole, block_stmt, empty_stmt, expression_stmt, if_stmt, if_else_stmt, switch_stmt, case_stmt, default_stmt, while_stmt, do_while_stmt, for_stmt, break_stmt, continue_stmt, return_stmt, declaration_item, statement_item, Pieces, no_pieces, and_piece, FunctionTree, ExternalTree, definition, declaration}
use Rattle.typing_spec.specs.Program as typed
use Rattle.typing_spec.specs.Program.{Storage, Value, Initialiser, Initialisers, Statement, Statements, Function, Program}
use Rattle.typing_spec.specs.Verdict.{Verdict, fine, breaks, both, then_check, provided, refuse_if, each, IfFine}
use Rattle.typing_spec.specs.Scope.{Scope, inside, outside, past, literal_of, defined, file_scope}
use Rattle.typing_spec.specs.Specifiers.{BaseType}
use Rattle.typing_spec.specs.Expressions.{Worth, typing, worth, effect, valued, position, constant_value}
use Rattle.typing_spec.specs.Initialisers as initials
use Rattle.typing_spec.specs.Initialisers.{Wanted, one_number, an_array, has_characters, exceeds, text_alone, wanted, past_init, initialiser, initialisers}
use Rattle.typing_spec.specs.Declarators.{Parameters, parameters_in, behind_parameters, function_type}
use Rattle.typing_spec.specs.Linkage.{StorageClass, file_function}
use Rattle.typing_spec.specs.Declarations as declarations
use Rattle.typing_spec.specs.Declarations.{Begun, Effects, no_effects, Declared, before_others, begun, finished, initialised, initialised_as, items_typed, declaration_typed, specified}
use Rattle.typing_spec.specs.Statements as rules
use Rattle.typing_spec.specs.Statements.{Around, Label, Done, AllDone, Start, Control, statement, pieces, followed_by, labelled, label_statement}
use Rattle.typing_spec.specs.Units as units
use Rattle.typing_spec.specs.Units.{Built, external_typed, externals_typed, function_typed, body_typed, with_function, function_of, whole_program, program_of, unit_typed}
use Rattle.typing_spec.specs.Uses.{all_defined, uses_in_functions}
use Rattle.csem.specs.Statements.{labels_at, labels_of}
use Rattle.lower_wf.specs.Asked.{is_wide, gives, value_is_asked, initialiser_is_asked, initialisers_are_asked, option_is_asked, test_is_asked, declares, all_declare, label_fits, statement_is_asked, statements_are_asked, bodies_are_asked, types_are_sized, ProgramIsAsked}
use Rattle.lower_wf.proofs.Same.{both_true}
use Rattle.lower_wf.proofs.Verdicts.{then_any, then_some, both_some, part, of_fine}
use Rattle.lower_wf.proofs.Typings.{converted_is_value}
use Rattle.lower_wf.proofs.AskedValues.{Asked, WorthAsked, ValueAsked, number_asked, worth_asked, effect_asked, typing_asked, promoted_wide}
use Rattle.lower_wf.proofs.SizedUnits.{types_sized}

-- ---- initialisers

abbrev InitialAsked : Initialiser → Type 0
InitialAsked x = initialiser_is_asked x ≡ true

abbrev InitialsAsked : Initialisers → Type 0
InitialsAsked xs = initialisers_are_asked xs ≡ true

number_from : (s : Scope) (t : IntType) (e : Tree) → IfFine InitialAsked (initials.number_from s t e)
number_from s t e =
    then_some Asked InitialAsked (typing s e) (λ x. then_check (worth code.VoidAssigned (position x) x) (initials.of_number t)) (typing_asked s e) (λ x h.
    then_some WorthAsked InitialAsked (worth code.VoidAssigned (position x) x) (initials.of_number t) (worth_asked code.VoidAssigned (position x) x h) (λ w k. number_asked w k))

not_braced : (top : Bool) (at : Pos) → IfFine InitialAsked (initials.not_braced top at)
not_braced true at = tt
not_braced false at = tt

text_asked : (b top : Bool) (s : Scope) (at own : Pos) (room : Option ℕ) (n : ℕ) → IfFine InitialAsked (initials.text_if b top s at own room n)
text_asked true top s at own room n = part InitialAsked (refuse_if (exceeds (length (literal_of s n)) room) code.TooManyInitialisers own) (fine (typed.text (length s.literals))) refl
text_asked false top s at own room n = not_braced top at

array_asked : (s : Scope) (at : Pos) (t : IntType) (room : Option ℕ) (l : List ℕ) (top : Bool) (e : Tree) → IfFine InitialAsked (initials.array_from s at t room l top e)
array_asked s at t room l top (string own n) = text_asked (has_characters t l) top s at own room n
array_asked s at t room l top hole = not_braced top at
array_asked s at t room l top (identifier p n) = not_braced top at
array_asked s at t room l top (constant p u v) = not_braced top at
array_asked s at t room l top (paren a) = not_braced top at
array_asked s at t room l top (call p f given) = not_braced top at
array_asked s at t room l top (subscript p a i) = not_braced top at
array_asked s at t room l top (after p o a) = not_braced top at
array_asked s at t room l top (before p o a) = not_braced top at
array_asked s at t room l top (prefix p o a) = not_braced top at
array_asked s at t room l top (size_of p a) = not_braced top at
array_asked s at t room l top (size_of_type p u) = not_braced top at
array_asked s at t room l top (cast p u a) = not_braced top at
array_asked s at t room l top (binary p o a b) = not_braced top at
array_asked s at t room l top (conditional p c a b) = not_braced top at
array_asked s at t room l top (assign p o a b) = not_braced top at

braced : (v : Verdict Initialiser) → IfFine InitialAsked v → IfFine InitialAsked (then_check v (λ i. fine (typed.in_braces i)))
braced v h = then_some InitialAsked InitialAsked v (λ i. fine (typed.in_braces i)) h (λ i k. k)

refused : {A B C : Type 0} (P : C → Type 0) (v : Verdict A) (c : Code) (at : Pos) (go : A → B → Verdict C) → IfFine P (both v (breaks c at) go)
refused P (fine a) c at go = tt
refused P v c at go = tt

braced_number : (s : Scope) (p : Pos) (t : IntType) (parts : Inits) → IfFine InitialAsked (initials.number_in_braces s p t parts)
braced_number s p t no_inits = tt
braced_number s p t (and_init init_hole is) = tt
braced_number s p t (and_init (braced_init q ps) is) = tt
braced_number s p t (and_init (one_init e) no_inits) = braced (initials.number_from s t e) (number_from s t e)
braced_number s p t (and_init (one_init e) (and_init i is)) = refused InitialAsked (initials.number_from s t e) code.TooManyInitialisers p (λ x d. fine d)

list_asked : (p : Pos) (room : Option ℕ) (parts : Inits) (v : Verdict Initialisers) → IfFine InitialsAsked v → IfFine InitialAsked (initials.in_list p room parts v)
list_asked p room parts v h =
    then_some InitialsAsked InitialAsked v (λ is. provided (initials.fits_room p room parts) (fine (typed.list is))) h (λ is k. part InitialAsked (initials.fits_room p room parts) (fine (typed.list is)) k)

list_or_text : (b : Bool) (s : Scope) (at p : Pos) (t : IntType) (room : Option ℕ) (l : List ℕ) (parts : Inits) (o : Option Tree) (v : Verdict Initialisers) → IfFine InitialsAsked v → IfFine InitialAsked (initials.list_or_text b s at t room l o (initials.in_list p room parts v))
list_or_text true s at p t room l parts (Some e) v h = braced (initials.array_from s at t room l false e) (array_asked s at t room l false e)
list_or_text true s at p t room l parts None v h = list_asked p room parts v h
list_or_text false s at p t room l parts e v h = list_asked p room parts v h

mutual
  initialiser_asked : (s : Scope) (at : Pos) (t : IntType) (w : Wanted) (top : Bool) (i : Init) → IfFine InitialAsked (initialiser s at t w top i)
  initialiser_asked s at t w top init_hole = tt
  initialiser_asked s at t one_number top (one_init e) = number_from s t e
  initialiser_asked s at t (an_array room l) top (one_init e) = array_asked s at t room l top e
  initialiser_asked s at t one_number top (braced_init p parts) = braced_number s p t parts
  initialiser_asked s at t (an_array room l) top (braced_init p parts) = list_or_text (has_characters t l) s at p t room l parts (text_alone parts) (initialisers s p t l parts) (initialisers_asked s p t l parts)

  initialisers_asked : (s : Scope) (at : Pos) (t : IntType) (l : List ℕ) (parts : Inits) → IfFine InitialsAsked (initialisers s at t l parts)
  initialisers_asked s at t l no_inits = refl
  initialisers_asked s at t l (and_init i is) =
      both_some InitialAsked InitialsAsked InitialsAsked (initialiser s at t (wanted l) false i) (initialisers (past_init s i) at t l is) initials.and_part (initialiser_asked s at t (wanted l) false i) (initialisers_asked (past_init s i) at t l is)
      (λ x xs h k. and_from (initialiser_is_asked x) (initialisers_are_asked xs) h k)

-- ---- declarations: statements that declare, and have no label

abbrev ListAsked : List Statement → Type 0
ListAsked [] = Unit {0}
ListAsked (x ∷ xs) = (statement_is_asked x ≡ true) × (declares x ≡ true) × (labels_at x ≡ []) × ListAsked xs

list_both : (xs ys : List Statement) → ListAsked xs → ListAsked ys → ListAsked (xs ++ ys)
list_both [] ys h k = k
list_both (x ∷ xs) ys h k = (h.0, h.1, h.2, list_both xs ys h.3 k)

abbrev EffectsAsked : Effects → Type 0
EffectsAsked e = ListAsked e.statements

abbrev DeclaredAsked : Declared → Type 0
DeclaredAsked d = ListAsked d.effects.statements

static_asked : (b : Begun) (n : ℕ) (i : Init) → IfFine EffectsAsked (declarations.static_values b n i)
static_asked b n i =
    then_any EffectsAsked (initials.constant_parts b.scope (declarations.element_of b.type) (declarations.wanted_by b.type) i) _ (λ u. then_any EffectsAsked (declarations.initialiser_of b i) _ (λ x.
    then_any EffectsAsked (initials.values (past_init b.scope i) (declarations.element_of b.type) (declarations.lengths_of b.type) x) _ (λ vs. tt)))

initialised_asked : (b : Begun) (what : Storage) (init : Option Init) → IfFine EffectsAsked (initialised_as b what init)
initialised_asked b (typed.static n) None = tt
initialised_asked b (typed.static n) (Some i) = static_asked b n i
initialised_asked b (typed.automatic n) None = (refl, refl, refl, tt)
initialised_asked b (typed.automatic n) (Some i) =
    then_some InitialAsked EffectsAsked (declarations.initialiser_of b i) (declarations.definition_of n) (initialiser_asked b.scope b.at (declarations.element_of b.type) (declarations.wanted_by b.type) true i) (λ x h. (h, refl, refl, tt))
initialised_asked b (typed.literal n) init = tt
initialised_asked b (typed.parameter n) init = tt

items_asked : (class : StorageClass) (b : BaseType) (is : List ItemTree) (s : Scope) → IfFine DeclaredAsked (items_typed s class b is)
items_asked class b [] s = tt
items_asked class b (object at n sizes init ∷ is) s =
    then_any DeclaredAsked (begun s class b at n sizes init) _ (λ o.
    both_some EffectsAsked DeclaredAsked DeclaredAsked (initialised o) (then_check (finished o) (λ inner. items_typed inner class b is)) before_others (initialised_asked o o.what o.init)
    (then_any DeclaredAsked (finished o) (λ inner. items_typed inner class b is) (λ inner. items_asked class b is inner)) (λ x d h k. list_both x.statements d.effects.statements h k))
items_asked class b (function at n ps ∷ is) s = then_any DeclaredAsked (declarations.function_at s.level s class b at n ps) _ (λ inner. items_asked class b is inner)

declaration_asked : (s : Scope) (t : DeclarationTree) → IfFine DeclaredAsked (declaration_typed s t)
declaration_asked s (declared at ss items) = then_any DeclaredAsked (declarations.specified_for s at ss items) _ (λ d. items_asked d.class d.base items d.scope)
declaration_asked s (assertion at e text) = then_any DeclaredAsked (declarations.asserted s at e) _ (λ u. tt)

-- ---- labels that fit the switch whose block contains them

abbrev ValuesFit : IntType → List (Option ℤ) → Type 0
ValuesFit t vs = list_all (label_fits t) vs ≡ true

abbrev LabelsFit : Option IntType → List Label → Type 0
LabelsFit None ls = Unit {0}
LabelsFit (Some t) [] = Unit {0}
LabelsFit (Some t) (l ∷ ls) = (label_fits t l.value ≡ true) × LabelsFit (Some t) ls

abbrev ListFits : Option IntType → Statements → Type 0
ListFits None xs = Unit {0}
ListFits (Some t) xs = ValuesFit t (labels_of xs)

one_label : (t : IntType) (o : Option ℤ) (more : Statements) → label_fits t o ≡ true → ValuesFit t (labels_of more) → ValuesFit t (labels_of (typed.and_statement (label_statement o) more))
one_label t None more h k = k
one_label t (Some v) more h k = and_from (label_fits t (Some v)) (list_all (label_fits t) (labels_of more)) h k

labelled_fit : (d : Option IntType) (ls : List Label) (more : Statements) → LabelsFit d ls → ListFits d more → ListFits d (labelled ls more)
labelled_fit None ls more h k = tt
labelled_fit (Some t) [] more h k = k
labelled_fit (Some t) (l ∷ ls) more h k = one_label t l.value (labelled ls more) h.0 (labelled_fit (Some t) ls more h.1 k)

followed_fit : (d : Option IntType) (xs : List Statement) (more : Statements) → ListAsked xs → ListFits d more → ListFits d (followed_by xs more)
followed_fit None xs more h k = tt
followed_fit (Some t) [] more h k = k
followed_fit (Some t) (x ∷ xs) more h k = subst (λ l. ValuesFit t (l ++ labels_of (followed_by xs more))) (sym h.2) (followed_fit (Some t) xs more h.3 k)

none_before : (d : Option IntType) (x : Statement) (more : Statements) → labels_at x ≡ [] → ListFits d more → ListFits d (typed.and_statement x more)
none_before None x more h k = tt
none_before (Some t) x more h k = subst (λ l. ValuesFit t (l ++ labels_of more)) (sym h) k

-- ---- statements

abbrev S : Statement → Bool
S x = statement_is_asked x

abbrev SS : Statements → Bool
SS xs = statements_are_asked xs

followed_asked : (xs : List Statement) (more : Statements) → ListAsked xs → SS more ≡ true → SS (followed_by xs more) ≡ true
followed_asked [] more h k = k
followed_asked (x ∷ xs) more h k = and_from (S x) (SS (followed_by xs more)) h.0 (followed_asked xs more h.3 k)

followed_declare : (xs : List Statement) → ListAsked xs → all_declare (followed_by xs typed.no_statements) ≡ true
followed_declare [] h = refl
followed_declare (x ∷ xs) h = and_from (declares x) (all_declare (followed_by xs typed.no_statements)) h.1 (followed_declare xs h.3)

label_asked : (o : Option ℤ) → S (label_statement o) ≡ true
label_asked None = refl
label_asked (Some v) = refl

labelled_asked : (ls : List Label) (more : Statements) → SS more ≡ true → SS (labelled ls more) ≡ true
labelled_asked [] more k = k
labelled_asked (l ∷ ls) more k = and_from (S (label_statement l.value)) (SS (labelled ls more)) (label_asked l.value) (labelled_asked ls more k)

abbrev DoneAsked : Option IntType → Done → Type 0
DoneAsked d x = (S x.statement ≡ true) × (labels_at x.statement ≡ []) × LabelsFit d x.labels

abbrev AllAsked : Option IntType → AllDone → Type 0
AllAsked d x = (SS x.statements ≡ true) × ListFits d x.statements

no_labels : (d : Option IntType) → LabelsFit d []
no_labels None = tt
no_labels (Some t) = tt

worth_of_tree : (c : Code) (at : Pos) (s : Scope) (e : Tree) → IfFine WorthAsked (valued c at (typing s e))
worth_of_tree c at s e = then_some Asked WorthAsked (typing s e) (worth c at) (typing_asked s e) (λ x h. worth_asked c at x h)

abbrev N : Worth → Bool
N w = value_is_asked w.e && gives w.e

abbrev OptionAsked : Option Value → Type 0
OptionAsked o = option_is_asked o ≡ true

abbrev TestAsked : Option Value → Type 0
TestAsked o = test_is_asked o ≡ true

effect_option : (s : Scope) (o : Option Tree) → IfFine OptionAsked (rules.effect_in s o)
effect_option s None = refl
effect_option s (Some e) =
    then_some Asked OptionAsked (typing s e) (λ x. then_check (effect x) (λ v. fine (Some v))) (typing_asked s e) (λ x h. then_some ValueAsked OptionAsked (effect x) (λ v. fine (Some v)) (effect_asked x h) (λ v k. k))

test_option : (s : Scope) (at : Pos) (o : Option Tree) → IfFine TestAsked (rules.test_in s at o)
test_option s at None = refl
test_option s at (Some e) = then_some WorthAsked TestAsked (valued code.VoidControl at (typing s e)) (λ w. fine (Some w.e)) (worth_of_tree code.VoidControl at s e) (λ w k. number_asked w k)

abbrev StartAsked : Start → Type 0
StartAsked x = ListAsked x.effects.statements × OptionAsked x.first

started_asked : (s : Scope) (start : StartTree) → IfFine StartAsked (rules.started s start)
started_asked s (expression_start e) = then_some OptionAsked StartAsked (rules.effect_in s e) (λ v. fine (record { effects = no_effects; first = v; scope = rules.past_option s e })) (effect_option s e) (λ v h. (tt, h))
started_asked s (declaration_start d) =
    part StartAsked (rules.fit_for_loop d) (then_check (declaration_typed s d) (λ x. fine (record { effects = x.effects; first = None; scope = x.scope })))
    (then_some DeclaredAsked StartAsked (declaration_typed s d) (λ x. fine (record { effects = x.effects; first = None; scope = x.scope })) (declaration_asked s d) (λ x h. (h, refl)))

abbrev ControlAsked : Control → Type 0
ControlAsked c = TestAsked c.test × OptionAsked c.step

misplaced : (d : Option IntType) (R : Around) (at : Pos) (b : Bool) → b ≡ R.in_switch → IfFine (DoneAsked d) (if b then breaks code.LeftOutLabel at else breaks code.LabelOutsideSwitch at)
misplaced d R at true e = tt
misplaced d R at false e = tt

jump_asked : (d : Option IntType) (b : Bool) (at : Pos) (s : Scope) (x : Statement) → S x ≡ true → labels_at x ≡ [] → IfFine (DoneAsked d) (rules.jump b at s x)
jump_asked d true at s x h k = (h, k, no_labels d)
jump_asked d false at s x h k = tt

returned_asked : (d : Option IntType) (r : Option IntType) (at : Pos) (s : Scope) (e : Option Tree) → IfFine (DoneAsked d) (rules.returned r at s e)
returned_asked d None at s None = (refl, refl, no_labels d)
returned_asked d (Some t) at s None = tt
returned_asked d None at s (Some e) = refused (DoneAsked d) (typing s e) code.ReturnMismatch at (λ x y. fine y)
returned_asked d (Some t) at s (Some e) =
    then_some WorthAsked (DoneAsked d) (valued code.VoidAssigned at (typing s e)) (λ w. rules.done (past s e) (typed.return_value t w.e)) (worth_of_tree code.VoidAssigned at s e) (λ w k. (number_asked w k, refl, no_labels d))

not_switched : (d : Option IntType) (s : Scope) (at : Pos) (e : Tree) → IfFine (DoneAsked d) (both (valued code.VoidControl at (typing s e)) (breaks code.LeftOutLabel at) (λ c x. fine x))
not_switched d s at e = refused (DoneAsked d) (valued code.VoidControl at (typing s e)) code.LeftOutLabel at (λ c x. fine x)

case_fits : (s : Scope) (t : IntType) (e : Tree) → IfFine (λ v. label_fits t (Some v) ≡ true) (rules.case_value s t e)
case_fits s t e = then_any (λ v. label_fits t (Some v) ≡ true) (constant_value s e) (λ c. fine (converted t c.v)) (λ c. converted_is_value t c.v)

for_asked : (d : Option IntType) (s : Scope) (x : Start) (c : Control) (y : Done) → StartAsked x → ControlAsked c → DoneAsked None y → IfFine (DoneAsked d) (rules.loop_of s x c y)
for_asked d s x c y h k l =
    let all = followed_by x.effects.statements typed.no_statements in (
      and_from (all_declare all) (SS all && (option_is_asked x.first && (test_is_asked c.test && (option_is_asked c.step && S y.statement)))) (followed_declare x.effects.statements h.0)
          (and_from (SS all) (option_is_asked x.first && (test_is_asked c.test && (option_is_asked c.step && S y.statement))) (followed_asked x.effects.statements typed.no_statements h.0 refl)
          (and_from (option_is_asked x.first) (test_is_asked c.test && (option_is_asked c.step && S y.statement)) h.1
          (and_from (test_is_asked c.test) (option_is_asked c.step && S y.statement) k.0 (and_from (option_is_asked c.step) (S y.statement) k.1 l.0)))),
      refl,
      no_labels d,
    )

switch_asked : (d : Option IntType) (s : Scope) (t : IntType) (c : Worth) (all : AllDone) → is_wide t ≡ true → WorthAsked c → AllAsked (Some t) all → IfFine (DoneAsked d) (rules.switch_of s t c all)
switch_asked d s t c all w k h =
    part (DoneAsked d) (rules.no_label_twice [] all.labels) (rules.done_with (outside s all.scope) all.initial (typed.switch t c.e (length s.objects) (length all.scope.objects - length s.objects) all.statements)) (
      and_from (is_wide t) (list_all (label_fits t) (labels_of all.statements) && (N c && SS all.statements)) w
          (and_from (list_all (label_fits t) (labels_of all.statements)) (N c && SS all.statements) h.1 (and_from (N c) (SS all.statements) (number_asked c k) h.0)),
      refl,
      no_labels d,
    )

mutual
  statement_asked : (R : Around) (d : Option IntType) (s : Scope) (t : StmtTree) → IfFine (DoneAsked d) (statement R d s t)
  statement_asked R d s stmt_hole = tt
  statement_asked R (Some t) s (case_stmt at e a) =
      both_some (λ v. label_fits t (Some v) ≡ true) (DoneAsked (Some t)) (DoneAsked (Some t)) (rules.case_value s t e) (statement R (Some t) (past s e) a) (rules.case_label at) (case_fits s t e) (statement_asked R (Some t) (past s e) a) (λ v x f h. (h.0, h.1, (f, h.2)))
  statement_asked R None s (case_stmt at e a) = misplaced None R at R.in_switch refl
  statement_asked R (Some t) s (default_stmt at a) =
      then_some (DoneAsked (Some t)) (DoneAsked (Some t)) (statement R (Some t) s a) (rules.with_label (record { at = at; value = None })) (statement_asked R (Some t) s a) (λ x h. (h.0, h.1, (refl, h.2)))
  statement_asked R None s (default_stmt at a) = misplaced None R at R.in_switch refl
  statement_asked R d s (block_stmt at ps) = then_some (AllAsked None) (DoneAsked d) (pieces R None (inside s) ps) (rules.block_of s) (pieces_asked R None (inside s) ps) (λ all h. (h.0, refl, no_labels d))
  statement_asked R d s (empty_stmt at) = (refl, refl, no_labels d)
  statement_asked R d s (expression_stmt at e) =
      then_some Asked (DoneAsked d) (typing s e) (λ x. then_check (effect x) (λ v. rules.done (past s e) (typed.evaluate v))) (typing_asked s e) (λ x h.
      then_some ValueAsked (DoneAsked d) (effect x) (λ v. rules.done (past s e) (typed.evaluate v)) (effect_asked x h) (λ v k. (k, refl, no_labels d)))
  statement_asked R d s (if_stmt at e a) =
      both_some WorthAsked (DoneAsked None) (DoneAsked d) (valued code.VoidControl at (typing s e)) (statement R None (past s e) a) (λ c x. rules.done_with x.scope x.initial (typed.branch c.e x.statement)) (worth_of_tree code.VoidControl at s e) (statement_asked R None (past s e) a)
      (λ c x k h. (and_from (N c) (S x.statement) (number_asked c k) h.0, refl, no_labels d))
  statement_asked R d s (if_else_stmt at e a b) =
      both_some WorthAsked (DoneAsked None) (DoneAsked d) (valued code.VoidControl at (typing s e)) (statement R None (past s e) a) _ (worth_of_tree code.VoidControl at s e) (statement_asked R None (past s e) a) (λ c x k h.
      then_some (DoneAsked None) (DoneAsked d) (statement R None x.scope b) _ (statement_asked R None x.scope b) (λ y l.
      (and_from (N c) (S x.statement && S y.statement) (number_asked c k) (and_from (S x.statement) (S y.statement) h.0 l.0), refl, no_labels d)))
  statement_asked R d s (switch_stmt at e (block_stmt p ps)) =
      then_some WorthAsked (DoneAsked d) (valued code.VoidControl at (typing s e)) _ (worth_of_tree code.VoidControl at s e) (λ c k.
      then_some (AllAsked (Some (promoted c.type))) (DoneAsked d) (pieces (rules.in_a_switch R) (Some (promoted c.type)) (inside (past s e)) ps) (rules.switch_of s (promoted c.type) c) (pieces_asked (rules.in_a_switch R) (Some (promoted c.type)) (inside (past s e)) ps)
      (λ all h. switch_asked d s (promoted c.type) c all (promoted_wide c.type) k h))
  statement_asked R d s (switch_stmt at e stmt_hole) = not_switched d s at e
  statement_asked R d s (switch_stmt at e (empty_stmt p)) = not_switched d s at e
  statement_asked R d s (switch_stmt at e (expression_stmt p a)) = not_switched d s at e
  statement_asked R d s (switch_stmt at e (if_stmt p a b)) = not_switched d s at e
  statement_asked R d s (switch_stmt at e (if_else_stmt p a b c)) = not_switched d s at e
  statement_asked R d s (switch_stmt at e (switch_stmt p a b)) = not_switched d s at e
  statement_asked R d s (switch_stmt at e (case_stmt p a b)) = not_switched d s at e
  statement_asked R d s (switch_stmt at e (default_stmt p a)) = not_switched d s at e
  statement_asked R d s (switch_stmt at e (while_stmt p a b)) = not_switched d s at e
  statement_asked R d s (switch_stmt at e (do_while_stmt p a b)) = not_switched d s at e
  statement_asked R d s (switch_stmt at e (for_stmt p a b c f)) = not_switched d s at e
  statement_asked R d s (switch_stmt at e (break_stmt p)) = not_switched d s at e
  statement_asked R d s (switch_stmt at e (continue_stmt p)) = not_switched d s at e
  statement_asked R d s (switch_stmt at e (return_stmt p a)) = not_switched d s at e
  statement_asked R d s (while_stmt at e a) =
      both_some WorthAsked (DoneAsked None) (DoneAsked d) (valued code.VoidControl at (typing s e)) (statement (rules.in_a_loop R) None (past s e) a) (λ c x. rules.done_with x.scope x.initial (typed.while c.e x.statement)) (worth_of_tree code.VoidControl at s e)
      (statement_asked (rules.in_a_loop R) None (past s e) a) (λ c x k h. (and_from (N c) (S x.statement) (number_asked c k) h.0, refl, no_labels d))
  statement_asked R d s (do_while_stmt at a e) =
      then_some (DoneAsked None) (DoneAsked d) (statement (rules.in_a_loop R) None s a) _ (statement_asked (rules.in_a_loop R) None s a) (λ x h.
      then_some WorthAsked (DoneAsked d) (valued code.VoidControl at (typing x.scope e)) _ (worth_of_tree code.VoidControl at x.scope e) (λ c k. (and_from (S x.statement) (N c) h.0 (number_asked c k), refl, no_labels d)))
  statement_asked R d s (for_stmt at start test step a) =
      then_some StartAsked (DoneAsked d) (rules.started (inside s) start) _ (started_asked (inside s) start) (λ x h.
      let s1 = rules.past_option x.scope test in
      let s2 = rules.past_option s1 step in
      both_some ControlAsked (DoneAsked None) (DoneAsked d) (both (rules.test_in x.scope at test) (rules.effect_in s1 step) rules.control) (statement (rules.in_a_loop R) None (inside s2) a) (rules.loop_of s x)
      (both_some TestAsked OptionAsked ControlAsked (rules.test_in x.scope at test) (rules.effect_in s1 step) rules.control (test_option x.scope at test) (effect_option s1 step) (λ v w i j. (i, j)))
      (statement_asked (rules.in_a_loop R) None (inside s2) a) (λ c y k l. for_asked d s x c y h k l))
  statement_asked R d s (break_stmt at) = jump_asked d (R.in_loop || R.in_switch) at s typed.break refl refl
  statement_asked R d s (continue_stmt at) = jump_asked d R.in_loop at s typed.continue refl refl
  statement_asked R d s (return_stmt at e) = returned_asked d R.result at s e

  pieces_asked : (R : Around) (d : Option IntType) (s : Scope) (ps : Pieces) → IfFine (AllAsked d) (pieces R d s ps)
  pieces_asked R None s no_pieces = (refl, tt)
  pieces_asked R (Some t) s no_pieces = (refl, refl)
  pieces_asked R d s (and_piece (declaration_item x) ps) =
      then_some DeclaredAsked (AllAsked d) (declaration_typed s x) _ (declaration_asked s x) (λ y h.
      then_some (AllAsked d) (AllAsked d) (pieces R d y.scope ps) (rules.and_declaration y.effects) (pieces_asked R d y.scope ps) (λ more k.
      (followed_asked y.effects.statements more.statements h k.0, followed_fit d y.effects.statements more.statements h k.1)))
  pieces_asked R d s (and_piece (statement_item x) ps) =
      then_some (DoneAsked d) (AllAsked d) (statement R d s x) _ (statement_asked R d s x) (λ y h.
      then_some (AllAsked d) (AllAsked d) (pieces R d y.scope ps) (rules.and_statements y) (pieces_asked R d y.scope ps) (λ more k. (
        labelled_asked y.labels (typed.and_statement y.statement more.statements) (and_from (S y.statement) (SS more.statements) h.0 k.0),
        labelled_fit d y.labels (typed.and_statement y.statement more.statements) h.2 (none_before d y.statement more.statements h.1 k.1),
      )))

-- ---- the unit

abbrev BuiltAsked : Built → Type 0
BuiltAsked b = list_all (λ f. statement_is_asked f.body) b.functions ≡ true

one_more : (fs : List Function) (f : Function) → list_all (λ g. statement_is_asked g.body) fs ≡ true → S f.body ≡ true → list_all (λ g. statement_is_asked g.body) (fs ++ f ∷ []) ≡ true
one_more [] f h k = and_from (S f.body) true k refl
one_more (g ∷ fs) f h k =
    let w = both_true (S g.body) (list_all (λ x. statement_is_asked x.body) fs) h in and_from (S g.body) (list_all (λ x. statement_is_asked x.body) (fs ++ f ∷ [])) w.0 (one_more fs f w.1 k)

function_asked : (b : Built) (f : FunctionTree) → BuiltAsked b → IfFine BuiltAsked (function_typed b f)
function_asked b f h =
    then_any BuiltAsked (specified b.scope f.start f.specifiers) _ (λ d.
    then_any BuiltAsked (provided (units.all_named f.parameters) (parameters_in d.scope f.parameters)) _ (λ (ps : Parameters).
    let t = function_type d.base ps.types in
    then_any BuiltAsked (file_function (behind_parameters d.scope ps.scope) f.at f.name d.class t defined) (body_typed b f d.scope ps t) (λ file.
    then_some (AllAsked None) BuiltAsked (pieces (units.around_of t) None (units.body_scope file ps.scope d.scope) f.body) (with_function b file f t) (pieces_asked (units.around_of t) None (units.body_scope file ps.scope d.scope) f.body) (λ all k.
    part BuiltAsked (refuse_if (nat_lt b.stack (units.weight f t.parameters all.scope.objects)) code.WeightLimit f.at)
    (fine (record { stack = b.stack; scope = record file { literals = all.scope.literals; statics = all.scope.statics; objects = [] }; functions = b.functions ++ function_of f t all ∷ []; initial = b.initial ++ all.initial }))
    (one_more b.functions (function_of f t all) h k.0)))))

external_asked : (b : Built) (e : ExternalTree) → BuiltAsked b → IfFine BuiltAsked (external_typed b e)
external_asked b (definition f) h = function_asked b f h
external_asked b (declaration d) h = then_any BuiltAsked (declaration_typed b.scope d) (units.with_declaration b) (λ x. h)

externals_asked : (b : Built) (es : List ExternalTree) → BuiltAsked b → IfFine BuiltAsked (externals_typed b es)
externals_asked b [] h = h
externals_asked b (e ∷ es) h = then_some BuiltAsked BuiltAsked (external_typed b e) (λ c. externals_typed c es) (external_asked b e h) (λ c k. externals_asked c es k)

abbrev ProgramAsked : Program → Type 0
ProgramAsked p = bodies_are_asked p ≡ true

whole_asked : (whole : Pos) (b : Built) → BuiltAsked b → IfFine ProgramAsked (whole_program whole b)
whole_asked whole b h =
    part ProgramAsked (each (units.within_limits whole b) (all_defined b.scope [] (uses_in_functions b.functions)))
    (then_check (units.main_or_fault whole (units.main_from b.scope 0 b.functions)) (λ main. fine (program_of b main)))
    (then_any ProgramAsked (units.main_or_fault whole (units.main_from b.scope 0 b.functions)) (λ main. fine (program_of b main)) (λ main. h))

pub program_is_asked : ProgramIsAsked
program_is_asked stack texts whole unit p e =
    let start : Built = record { stack = stack; scope = file_scope texts (units.definitions_in unit); functions = []; initial = [] } in
    let bodies = of_fine ProgramAsked (unit_typed stack texts whole unit) p e
    (then_some BuiltAsked ProgramAsked (externals_typed start unit) (whole_program whole) (externals_asked start unit refl) (λ c h. whole_asked whole c h)) in
    and_from (bodies_are_asked p) (types_are_sized p) bodies (types_sized stack texts whole unit p e)
