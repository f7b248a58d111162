-- Typed initialisers, declarations and statements have no more nodes than their trees.
use Rattle.std.proofs.Common.{◌≡◌, ◌≤◌, ℕ, ◌+◌, ◌-◌, length, Bool, true, false, ◌||◌, ℤ, List, [], ◌∷◌, ◌++◌, Option, Some, None, refl, sym, subst, arith}
use Rattle.std.specs.Prelude.{if◌then◌else◌}
use Rattle.srcset.specs.declared.code.Code.{Code}
use Rattle.srcset.specs.declared.code.Code.TheVariants as code
use Rattle.srcset.specs.declared.refusal.Pos.{Pos}
use Rattle.ctypes.specs.declared.types.IntType.{IntType}
use Rattle.ctypes.specs.Types.{promoted}
use Rattle.tree.specs.Tree.{Tree, hole, identifier, constant, string, paren, call, subscript, after, before, prefix, size_of, size_of_type, cast, binary, conditional, assign, Init, init_hole, one_init, braced_init, Inits, no_inits, and_init, ItemTree, object, function, DeclarationTree, declared, assertion, StartTree, expression_start, declaration_start, StmtTree, stmt_hole, block_stmt, empty_stmt, expression_stmt, if_stmt, if_else_stmt, switch_stmt, case_stmt, default_stmt, while_stmt, do_while_stmt, for_stmt, break_stmt, continue_stmt, return_stmt, declaration_item, statement_item, Pieces, no_pieces, and_piece}
use Rattle.tree.specs.Counts.{nodes, option_nodes, init_nodes, inits_nodes, option_init_nodes, items_nodes, specifiers_nodes, declaration_nodes, start_nodes, stmt_nodes, pieces_nodes}
use Rattle.typing_spec.specs.Program as typed
use Rattle.typing_spec.specs.Program.{Storage, Value, Initialiser, Initialisers, Statement, Statements}
use Rattle.typing_spec.specs.Verdict.{Verdict, fine, breaks, both, then_check, provided, refuse_if, IfFine}
use Rattle.typing_spec.specs.Scope.{Scope, inside, outside, past, literal_of, with_literals}
use Rattle.typing_spec.specs.Specifiers.{BaseType}
use Rattle.typing_spec.specs.Expressions.{typing, worth, effect, valued, position}
use Rattle.typing_spec.specs.Initialisers as initials
use Rattle.typing_spec.specs.Initialisers.{Wanted, one_number, an_array, has_characters, exceeds, text_alone, wanted, past_init, initialiser, initialisers}
use Rattle.typing_spec.specs.Declarators.{declared_type, strings_in_sizes}
use Rattle.typing_spec.specs.Linkage.{StorageClass}
use Rattle.typing_spec.specs.Declarations as declarations
use Rattle.typing_spec.specs.Declarations.{Begun, Effects, no_effects, Declared, before_others, begun, finished, initialised, initialised_as, items_typed, declaration_typed}
use Rattle.typing_spec.specs.Statements as rules
use Rattle.typing_spec.specs.Statements.{Around, Label, Done, AllDone, Start, Control, statement, pieces, followed_by, labelled, label_statement}
use Rattle.typing_spec.specs.Nodes as counts
use Rattle.typing_spec.specs.Nodes.{value_nodes, initialiser_nodes, initialisers_nodes, statement_nodes, statements_nodes}
use Rattle.lower_wf.proofs.Verdicts.{then_any, then_some, both_some, both_any, part, more_of}
use Rattle.lower_wf.proofs.ValueNodes.{Within, WorthWithin, ValueWithin, worth_within, effect_within, typing_within}

abbrev InitialWithin : ℕ → Initialiser → Type 0
InitialWithin n x = initialiser_nodes x ≤ n

abbrev InitialsWithin : ℕ → Initialisers → Type 0
InitialsWithin n xs = initialisers_nodes xs ≤ n

number_within : (s : Scope) (t : IntType) (e : Tree) → IfFine (InitialWithin (nodes e)) (initials.number_from s t e)
number_within s t e =
    then_some (Within (nodes e)) (InitialWithin (nodes e)) (typing s e) (λ x. then_check (worth code.VoidAssigned (position x) x) (initials.of_number t)) (typing_within s e) (λ x h.
    then_some (WorthWithin (nodes e)) (InitialWithin (nodes e)) (worth code.VoidAssigned (position x) x) (initials.of_number t) (worth_within (nodes e) code.VoidAssigned (position x) x h) (λ w k. k))

not_braced : (P : Initialiser → Type 0) (top : Bool) (at : Pos) → IfFine P (initials.not_braced top at)
not_braced P true at = tt
not_braced P false at = tt

text_within : (b top : Bool) (s : Scope) (at own : Pos) (room : Option ℕ) (n : ℕ) → IfFine (InitialWithin 1) (initials.text_if b top s at own room n)
text_within true top s at own room n = part (InitialWithin 1) (refuse_if (exceeds (length (literal_of s n)) room) code.TooManyInitialisers own) (fine (typed.text (length s.literals))) (omega arith)
text_within false top s at own room n = not_braced (InitialWithin 1) top at

array_within : (s : Scope) (at : Pos) (t : IntType) (room : Option ℕ) (l : List ℕ) (top : Bool) (e : Tree) → IfFine (InitialWithin (nodes e)) (initials.array_from s at t room l top e)
array_within s at t room l top (string own n) = text_within (has_characters t l) top s at own room n
array_within s at t room l top hole = not_braced (InitialWithin 0) top at
array_within s at t room l top (identifier p n) = not_braced (InitialWithin 1) top at
array_within s at t room l top (constant p u v) = not_braced (InitialWithin 1) top at
array_within s at t room l top (paren a) = not_braced (InitialWithin (nodes a)) top at
array_within s at t room l top (call p f given) = not_braced (InitialWithin (nodes (call p f given))) top at
array_within s at t room l top (subscript p a i) = not_braced (InitialWithin (nodes a + nodes i + 1)) top at
array_within s at t room l top (after p o a) = not_braced (InitialWithin (nodes a + 1)) top at
array_within s at t room l top (before p o a) = not_braced (InitialWithin (nodes a + 1)) top at
array_within s at t room l top (prefix p o a) = not_braced (InitialWithin (nodes a + 1)) top at
array_within s at t room l top (size_of p a) = not_braced (InitialWithin (nodes a + 1)) top at
array_within s at t room l top (size_of_type p u) = not_braced (InitialWithin (nodes (size_of_type p u))) top at
array_within s at t room l top (cast p u a) = not_braced (InitialWithin (nodes (cast p u a))) top at
array_within s at t room l top (binary p o a b) = not_braced (InitialWithin (nodes a + nodes b + 1)) top at
array_within s at t room l top (conditional p c a b) = not_braced (InitialWithin (nodes c + nodes a + nodes b + 1)) top at
array_within s at t room l top (assign p o a b) = not_braced (InitialWithin (nodes a + nodes b + 1)) top at

braced : (n : ℕ) (v : Verdict Initialiser) → IfFine (InitialWithin n) v → IfFine (InitialWithin (n + 1)) (then_check v (λ i. fine (typed.in_braces i)))
braced n v h = then_some (InitialWithin n) (InitialWithin (n + 1)) v (λ i. fine (typed.in_braces i)) h (λ i k. omega (arith, k))

refused : {A B C : Type 0} (P : C → Type 0) (v : Verdict A) (c : Code) (at : Pos) (go : A → B → Verdict C) → IfFine P (both v (breaks c at) go)
refused P (fine a) c at go = tt
refused P v c at go = tt

braced_number : (s : Scope) (p : Pos) (t : IntType) (parts : Inits) → IfFine (InitialWithin (inits_nodes parts + 1)) (initials.number_in_braces s p t parts)
braced_number s p t no_inits = tt
braced_number s p t (and_init init_hole is) = tt
braced_number s p t (and_init (braced_init q ps) is) = tt
braced_number s p t (and_init (one_init e) no_inits) =
    more_of (InitialWithin (nodes e + 1)) (InitialWithin (nodes e + 0 + 1)) (initials.number_in_braces s p t (and_init (one_init e) no_inits)) (λ x h. omega (arith, h)) (braced (nodes e) (initials.number_from s t e) (number_within s t e))
braced_number s p t (and_init (one_init e) (and_init i is)) = refused (InitialWithin (inits_nodes (and_init (one_init e) (and_init i is)) + 1)) (initials.number_from s t e) code.TooManyInitialisers p (λ x d. fine d)

alone_nodes : (parts : Inits) (e : Tree) → text_alone parts ≡ Some e → nodes e ≤ inits_nodes parts
alone_nodes (and_init (one_init (string own n)) no_inits) e h = subst (λ x. nodes x ≤ 1 + 0) (let z : string own n ≡ e = cc in z) (omega arith)
alone_nodes parts e h = absurd (let z : ⊥ = cc in z)

list_within : (p : Pos) (room : Option ℕ) (parts : Inits) (v : Verdict Initialisers) → IfFine (InitialsWithin (inits_nodes parts)) v → IfFine (InitialWithin (inits_nodes parts + 1)) (initials.in_list p room parts v)
list_within p room parts v h =
    then_some (InitialsWithin (inits_nodes parts)) (InitialWithin (inits_nodes parts + 1)) v (λ is. provided (initials.fits_room p room parts) (fine (typed.list is))) h (λ is k. part (InitialWithin (inits_nodes parts + 1)) (initials.fits_room p room parts) (fine (typed.list is)) (omega (arith, k)))

list_or_text : (b : Bool) (s : Scope) (at p : Pos) (t : IntType) (room : Option ℕ) (l : List ℕ) (parts : Inits) (o : Option Tree) (v : Verdict Initialisers) → o ≡ text_alone parts → IfFine (InitialsWithin (inits_nodes parts)) v →
    IfFine (InitialWithin (inits_nodes parts + 1)) (initials.list_or_text b s at t room l o (initials.in_list p room parts v))
list_or_text true s at p t room l parts (Some e) v o h =
    more_of (InitialWithin (nodes e + 1)) (InitialWithin (inits_nodes parts + 1)) (then_check (initials.array_from s at t room l false e) (λ i. fine (typed.in_braces i))) (λ x k. omega (arith, k, alone_nodes parts e (sym o))) (braced (nodes e) (initials.array_from s at t room l false e) (array_within s at t room l false e))
list_or_text true s at p t room l parts None v o h = list_within p room parts v h
list_or_text false s at p t room l parts e v o h = list_within p room parts v h

mutual
  pub initialiser_within : (s : Scope) (at : Pos) (t : IntType) (w : Wanted) (top : Bool) (i : Init) → IfFine (InitialWithin (init_nodes i)) (initialiser s at t w top i)
  initialiser_within s at t w top init_hole = tt
  initialiser_within s at t one_number top (one_init e) = number_within s t e
  initialiser_within s at t (an_array room l) top (one_init e) = array_within s at t room l top e
  initialiser_within s at t one_number top (braced_init p parts) = braced_number s p t parts
  initialiser_within s at t (an_array room l) top (braced_init p parts) =
      list_or_text (has_characters t l) s at p t room l parts (text_alone parts) (initialisers s p t l parts) refl (initialisers_within s p t l parts)

  pub initialisers_within : (s : Scope) (at : Pos) (t : IntType) (l : List ℕ) (parts : Inits) → IfFine (InitialsWithin (inits_nodes parts)) (initialisers s at t l parts)
  initialisers_within s at t l no_inits = omega arith
  initialisers_within s at t l (and_init i is) =
      both_some (InitialWithin (init_nodes i)) (InitialsWithin (inits_nodes is)) (InitialsWithin (init_nodes i + inits_nodes is)) (initialiser s at t (wanted l) false i) (initialisers (past_init s i) at t l is) initials.and_part
      (initialiser_within s at t (wanted l) false i) (initialisers_within (past_init s i) at t l is) (λ x xs h k. omega (arith, h, k))

-- ---- declarations

abbrev pub list_nodes : List Statement → ℕ
list_nodes [] = 0
list_nodes (x ∷ xs) = statement_nodes x + list_nodes xs

list_nodes_both : (xs ys : List Statement) → list_nodes (xs ++ ys) ≡ list_nodes xs + list_nodes ys
list_nodes_both [] ys = omega arith
list_nodes_both (x ∷ xs) ys = omega (arith, list_nodes_both xs ys)

abbrev EffectsWithin : ℕ → Effects → Type 0
EffectsWithin n e = list_nodes e.statements ≤ n

abbrev pub DeclaredWithin : ℕ → Declared → Type 0
DeclaredWithin n d = list_nodes d.effects.statements ≤ n

abbrev HasInit : Option Init → Begun → Type 0
HasInit init b = b.init ≡ init

begun_with : (s : Scope) (class : StorageClass) (b : BaseType) (at : Pos) (n : ℕ) (sizes : List (Option Tree)) (init : Option Init) → IfFine (HasInit init) (begun s class b at n sizes init)
begun_with s class b at n sizes init = then_any (HasInit init) (declared_type s at b sizes) _ (λ t. then_any (HasInit init) (declarations.object_at s.level (with_literals s (strings_in_sizes sizes)) at n class t (declarations.has_init init)) _ (λ inner. refl))

static_within : (b : Begun) (n : ℕ) (i : Init) (k : ℕ) → IfFine (EffectsWithin k) (declarations.static_values b n i)
static_within b n i k =
    then_any (EffectsWithin k) (initials.constant_parts b.scope (declarations.element_of b.type) (declarations.wanted_by b.type) i) _ (λ u. then_any (EffectsWithin k) (declarations.initialiser_of b i) _ (λ x.
    then_any (EffectsWithin k) (initials.values (past_init b.scope i) (declarations.element_of b.type) (declarations.lengths_of b.type) x) _ (λ vs. omega arith)))

initialised_within : (b : Begun) (what : Storage) (init : Option Init) → IfFine (EffectsWithin (option_init_nodes init + 1)) (initialised_as b what init)
initialised_within b (typed.static n) None = omega arith
initialised_within b (typed.static n) (Some i) = static_within b n i (init_nodes i + 1)
initialised_within b (typed.automatic n) None = omega arith
initialised_within b (typed.automatic n) (Some i) =
    then_some (InitialWithin (init_nodes i)) (EffectsWithin (init_nodes i + 1)) (declarations.initialiser_of b i) (declarations.definition_of n) (initialiser_within b.scope b.at (declarations.element_of b.type) (declarations.wanted_by b.type) true i) (λ x h. omega (arith, h))
initialised_within b (typed.literal n) init = omega arith
initialised_within b (typed.parameter n) init = omega arith

pub items_within : (class : StorageClass) (b : BaseType) (is : List ItemTree) (s : Scope) → IfFine (DeclaredWithin (items_nodes is)) (items_typed s class b is)
items_within class b [] s = omega arith
items_within class b (object at n sizes init ∷ is) s =
    then_some (HasInit init) (DeclaredWithin (items_nodes (object at n sizes init ∷ is))) (begun s class b at n sizes init) _ (begun_with s class b at n sizes init) (λ o e.
    both_some (EffectsWithin (option_init_nodes init + 1)) (DeclaredWithin (items_nodes is)) (DeclaredWithin (items_nodes (object at n sizes init ∷ is))) (initialised o) (then_check (finished o) (λ inner. items_typed inner class b is)) before_others
    (subst (λ i. IfFine (EffectsWithin (option_init_nodes i + 1)) (initialised o)) e (initialised_within o o.what o.init))
    (then_any (DeclaredWithin (items_nodes is)) (finished o) (λ inner. items_typed inner class b is) (λ inner. items_within class b is inner))
    (λ x d h k. omega (arith, h, k, list_nodes_both x.statements d.effects.statements)))
items_within class b (function at n ps ∷ is) s =
    then_any (DeclaredWithin (items_nodes (function at n ps ∷ is))) (declarations.function_at s.level s class b at n ps) _ (λ inner.
    more_of (DeclaredWithin (items_nodes is)) (DeclaredWithin (items_nodes (function at n ps ∷ is))) (items_typed inner class b is) (λ d h. omega (arith, h)) (items_within class b is inner))

pub declaration_within : (s : Scope) (t : DeclarationTree) → IfFine (DeclaredWithin (declaration_nodes t)) (declaration_typed s t)
declaration_within s (declared at ss items) =
    then_any (DeclaredWithin (specifiers_nodes ss + items_nodes items)) (declarations.specified_for s at ss items) _ (λ d.
    more_of (DeclaredWithin (items_nodes items)) (DeclaredWithin (specifiers_nodes ss + items_nodes items)) (items_typed d.scope d.class d.base items) (λ x h. omega (arith, h)) (items_within d.class d.base items d.scope))
declaration_within s (assertion at e text) = then_any (DeclaredWithin (nodes e + 1)) (declarations.asserted s at e) _ (λ u. omega arith)

-- ---- statements: with the labels before them

abbrev DoneWithin : ℕ → Done → Type 0
DoneWithin n d = statement_nodes d.statement + length d.labels ≤ n

abbrev pub AllWithin : ℕ → AllDone → Type 0
AllWithin n d = statements_nodes d.statements ≤ n

followed_nodes : (xs : List Statement) (more : Statements) → statements_nodes (followed_by xs more) ≡ list_nodes xs + statements_nodes more
followed_nodes [] more = omega arith
followed_nodes (x ∷ xs) more = omega (arith, followed_nodes xs more)

label_nodes : (o : Option ℤ) → statement_nodes (label_statement o) ≡ 1
label_nodes None = refl
label_nodes (Some v) = refl

labelled_nodes : (ls : List Label) (more : Statements) → statements_nodes (labelled ls more) ≡ length ls + statements_nodes more
labelled_nodes [] more = omega arith
labelled_nodes (l ∷ ls) more = omega (arith, labelled_nodes ls more, label_nodes l.value)

worth_of_tree : (c : Code) (at : Pos) (s : Scope) (e : Tree) → IfFine (WorthWithin (nodes e)) (valued c at (typing s e))
worth_of_tree c at s e = then_some (Within (nodes e)) (WorthWithin (nodes e)) (typing s e) (worth c at) (typing_within s e) (λ x h. worth_within (nodes e) c at x h)

abbrev OptionWithin : ℕ → Option Value → Type 0
OptionWithin n o = counts.option_nodes o ≤ n

effect_option : (s : Scope) (o : Option Tree) → IfFine (OptionWithin (option_nodes o)) (rules.effect_in s o)
effect_option s None = omega arith
effect_option s (Some e) =
    then_some (Within (nodes e)) (OptionWithin (nodes e)) (typing s e) _ (typing_within s e) (λ x h. then_some (ValueWithin (nodes e)) (OptionWithin (nodes e)) (effect x) _ (effect_within (nodes e) x h) (λ v k. k))

test_option : (s : Scope) (at : Pos) (o : Option Tree) → IfFine (OptionWithin (option_nodes o)) (rules.test_in s at o)
test_option s at None = omega arith
test_option s at (Some e) = then_some (WorthWithin (nodes e)) (OptionWithin (nodes e)) (valued code.VoidControl at (typing s e)) _ (worth_of_tree code.VoidControl at s e) (λ w k. k)

abbrev StartWithin : ℕ → Start → Type 0
StartWithin n d = list_nodes d.effects.statements + counts.option_nodes d.first ≤ n

started_within : (s : Scope) (start : StartTree) → IfFine (StartWithin (start_nodes start)) (rules.started s start)
started_within s (expression_start e) = then_some (OptionWithin (option_nodes e)) (StartWithin (option_nodes e)) (rules.effect_in s e) _ (effect_option s e) (λ v h. omega (arith, h))
started_within s (declaration_start d) =
    part (StartWithin (declaration_nodes d)) (rules.fit_for_loop d) (then_check (declaration_typed s d) (λ x. fine (record { effects = x.effects; first = None; scope = x.scope })))
    (then_some (DeclaredWithin (declaration_nodes d)) (StartWithin (declaration_nodes d)) (declaration_typed s d) (λ x. fine (record { effects = x.effects; first = None; scope = x.scope })) (declaration_within s d) (λ x h. omega (arith, h)))

abbrev ControlWithin : ℕ → ℕ → Control → Type 0
ControlWithin m n c = OptionWithin m c.test × OptionWithin n c.step

misplaced : (P : Done → Type 0) (A : Around) (at : Pos) (b : Bool) → b ≡ A.in_switch → IfFine P (if b then breaks code.LeftOutLabel at else breaks code.LabelOutsideSwitch at)
misplaced P A at true e = tt
misplaced P A at false e = tt

jump_within : (b : Bool) (at : Pos) (s : Scope) (x : Statement) → statement_nodes x ≡ 1 → IfFine (DoneWithin 1) (rules.jump b at s x)
jump_within true at s x h = omega (arith, h)
jump_within false at s x h = tt

returned_within : (r : Option IntType) (at : Pos) (s : Scope) (e : Option Tree) → IfFine (DoneWithin (option_nodes e + 1)) (rules.returned r at s e)
returned_within None at s None = omega arith
returned_within (Some t) at s None = tt
returned_within None at s (Some e) = refused (DoneWithin (nodes e + 1)) (typing s e) code.ReturnMismatch at (λ x d. fine d)
returned_within (Some t) at s (Some e) = then_some (WorthWithin (nodes e)) (DoneWithin (nodes e + 1)) (valued code.VoidAssigned at (typing s e)) _ (worth_of_tree code.VoidAssigned at s e) (λ w k. omega (arith, k))

not_switched : (P : Done → Type 0) (s : Scope) (at : Pos) (e : Tree) → IfFine P (both (valued code.VoidControl at (typing s e)) (breaks code.LeftOutLabel at) (λ c d. fine d))
not_switched P s at e = refused P (valued code.VoidControl at (typing s e)) code.LeftOutLabel at (λ c d. fine d)

mutual
  pub statement_within : (A : Around) (d : Option IntType) (s : Scope) (t : StmtTree) → IfFine (DoneWithin (stmt_nodes t)) (statement A d s t)
  statement_within A d s stmt_hole = tt
  statement_within A (Some t) s (case_stmt at e a) =
      both_any (DoneWithin (stmt_nodes a)) (DoneWithin (nodes e + stmt_nodes a + 1)) (rules.case_value s t e) (statement A (Some t) (past s e) a) (rules.case_label at) (statement_within A (Some t) (past s e) a) (λ v x h. omega (arith, h))
  statement_within A None s (case_stmt at e a) = misplaced (DoneWithin (nodes e + stmt_nodes a + 1)) A at A.in_switch refl
  statement_within A (Some t) s (default_stmt at a) =
      then_some (DoneWithin (stmt_nodes a)) (DoneWithin (stmt_nodes a + 1)) (statement A (Some t) s a) (rules.with_label (record { at = at; value = None })) (statement_within A (Some t) s a) (λ x h. omega (arith, h))
  statement_within A None s (default_stmt at a) = misplaced (DoneWithin (stmt_nodes a + 1)) A at A.in_switch refl
  statement_within A d s (block_stmt at ps) = then_some (AllWithin (pieces_nodes ps)) (DoneWithin (pieces_nodes ps + 1)) (pieces A None (inside s) ps) (rules.block_of s) (pieces_within A None (inside s) ps) (λ all h. omega (arith, h))
  statement_within A d s (empty_stmt at) = omega arith
  statement_within A d s (expression_stmt at e) =
      then_some (Within (nodes e)) (DoneWithin (nodes e + 1)) (typing s e) _ (typing_within s e) (λ x h. then_some (ValueWithin (nodes e)) (DoneWithin (nodes e + 1)) (effect x) _ (effect_within (nodes e) x h) (λ v k. omega (arith, k)))
  statement_within A d s (if_stmt at e a) =
      both_some (WorthWithin (nodes e)) (DoneWithin (stmt_nodes a)) (DoneWithin (nodes e + stmt_nodes a + 1)) (valued code.VoidControl at (typing s e)) (statement A None (past s e) a) _ (worth_of_tree code.VoidControl at s e) (statement_within A None (past s e) a)
      (λ c x h k. omega (arith, h, k))
  statement_within A d s (if_else_stmt at e a b) =
      both_some (WorthWithin (nodes e)) (DoneWithin (stmt_nodes a)) (DoneWithin (nodes e + stmt_nodes a + stmt_nodes b + 1)) (valued code.VoidControl at (typing s e)) (statement A None (past s e) a) _ (worth_of_tree code.VoidControl at s e) (statement_within A None (past s e) a)
      (λ c x h k. then_some (DoneWithin (stmt_nodes b)) (DoneWithin (nodes e + stmt_nodes a + stmt_nodes b + 1)) (statement A None x.scope b) _ (statement_within A None x.scope b) (λ y l. omega (arith, h, k, l)))
  statement_within A d s (switch_stmt at e (block_stmt p ps)) =
      then_some (WorthWithin (nodes e)) (DoneWithin (nodes e + (pieces_nodes ps + 1) + 1)) (valued code.VoidControl at (typing s e)) _ (worth_of_tree code.VoidControl at s e) (λ c h.
      then_some (AllWithin (pieces_nodes ps)) (DoneWithin (nodes e + (pieces_nodes ps + 1) + 1)) (pieces (rules.in_a_switch A) (Some (promoted c.type)) (inside (past s e)) ps) (rules.switch_of s (promoted c.type) c) (pieces_within (rules.in_a_switch A) (Some (promoted c.type)) (inside (past s e)) ps) (λ all k.
      part (DoneWithin (nodes e + (pieces_nodes ps + 1) + 1)) (rules.no_label_twice [] all.labels) (rules.done_with (outside s all.scope) all.initial (typed.switch (promoted c.type) c.e (length s.objects) (length all.scope.objects - length s.objects) all.statements)) (omega (arith, h, k))))
  statement_within A d s (switch_stmt at e stmt_hole) = not_switched (DoneWithin (nodes e + stmt_nodes stmt_hole + 1)) s at e
  statement_within A d s (switch_stmt at e (empty_stmt p)) = not_switched (DoneWithin (nodes e + stmt_nodes (empty_stmt p) + 1)) s at e
  statement_within A d s (switch_stmt at e (expression_stmt p a)) = not_switched (DoneWithin (nodes e + stmt_nodes (expression_stmt p a) + 1)) s at e
  statement_within A d s (switch_stmt at e (if_stmt p a b)) = not_switched (DoneWithin (nodes e + stmt_nodes (if_stmt p a b) + 1)) s at e
  statement_within A d s (switch_stmt at e (if_else_stmt p a b c)) = not_switched (DoneWithin (nodes e + stmt_nodes (if_else_stmt p a b c) + 1)) s at e
  statement_within A d s (switch_stmt at e (switch_stmt p a b)) = not_switched (DoneWithin (nodes e + stmt_nodes (switch_stmt p a b) + 1)) s at e
  statement_within A d s (switch_stmt at e (case_stmt p a b)) = not_switched (DoneWithin (nodes e + stmt_nodes (case_stmt p a b) + 1)) s at e
  statement_within A d s (switch_stmt at e (default_stmt p a)) = not_switched (DoneWithin (nodes e + stmt_nodes (default_stmt p a) + 1)) s at e
  statement_within A d s (switch_stmt at e (while_stmt p a b)) = not_switched (DoneWithin (nodes e + stmt_nodes (while_stmt p a b) + 1)) s at e
  statement_within A d s (switch_stmt at e (do_while_stmt p a b)) = not_switched (DoneWithin (nodes e + stmt_nodes (do_while_stmt p a b) + 1)) s at e
  statement_within A d s (switch_stmt at e (for_stmt p a b c f)) = not_switched (DoneWithin (nodes e + stmt_nodes (for_stmt p a b c f) + 1)) s at e
  statement_within A d s (switch_stmt at e (break_stmt p)) = not_switched (DoneWithin (nodes e + stmt_nodes (break_stmt p) + 1)) s at e
  statement_within A d s (switch_stmt at e (continue_stmt p)) = not_switched (DoneWithin (nodes e + stmt_nodes (continue_stmt p) + 1)) s at e
  statement_within A d s (switch_stmt at e (return_stmt p a)) = not_switched (DoneWithin (nodes e + stmt_nodes (return_stmt p a) + 1)) s at e
  statement_within A d s (while_stmt at e a) =
      both_some (WorthWithin (nodes e)) (DoneWithin (stmt_nodes a)) (DoneWithin (nodes e + stmt_nodes a + 1)) (valued code.VoidControl at (typing s e)) (statement (rules.in_a_loop A) None (past s e) a) _ (worth_of_tree code.VoidControl at s e)
      (statement_within (rules.in_a_loop A) None (past s e) a) (λ c x h k. omega (arith, h, k))
  statement_within A d s (do_while_stmt at a e) =
      then_some (DoneWithin (stmt_nodes a)) (DoneWithin (stmt_nodes a + nodes e + 1)) (statement (rules.in_a_loop A) None s a) _ (statement_within (rules.in_a_loop A) None s a) (λ x h.
      then_some (WorthWithin (nodes e)) (DoneWithin (stmt_nodes a + nodes e + 1)) (valued code.VoidControl at (typing x.scope e)) _ (worth_of_tree code.VoidControl at x.scope e) (λ c k. omega (arith, h, k)))
  statement_within A d s (for_stmt at start test step a) =
      then_some (StartWithin (start_nodes start)) (DoneWithin (start_nodes start + option_nodes test + option_nodes step + stmt_nodes a + 1)) (rules.started (inside s) start) _ (started_within (inside s) start) (λ x h.
      let s1 = rules.past_option x.scope test in
      let s2 = rules.past_option s1 step in
      both_some (ControlWithin (option_nodes test) (option_nodes step)) (DoneWithin (stmt_nodes a)) (DoneWithin (start_nodes start + option_nodes test + option_nodes step + stmt_nodes a + 1))
      (both (rules.test_in x.scope at test) (rules.effect_in s1 step) rules.control) (statement (rules.in_a_loop A) None (inside s2) a) (rules.loop_of s x)
      (both_some (OptionWithin (option_nodes test)) (OptionWithin (option_nodes step)) (ControlWithin (option_nodes test) (option_nodes step)) (rules.test_in x.scope at test) (rules.effect_in s1 step) rules.control (test_option x.scope at test) (effect_option s1 step) (λ v w i j. (i, j)))
      (statement_within (rules.in_a_loop A) None (inside s2) a) (λ c y k l. let f = followed_nodes x.effects.statements typed.no_statements in omega (arith, h, k.0, k.1, l, f)))
  statement_within A d s (break_stmt at) = jump_within (A.in_loop || A.in_switch) at s typed.break refl
  statement_within A d s (continue_stmt at) = jump_within A.in_loop at s typed.continue refl
  statement_within A d s (return_stmt at e) = returned_within A.result at s e

  pub pieces_within : (A : Around) (d : Option IntType) (s : Scope) (ps : Pieces) → IfFine (AllWithin (pieces_nodes ps)) (pieces A d s ps)
  pieces_within A d s no_pieces = omega arith
  pieces_within A d s (and_piece (declaration_item x) ps) =
      then_some (DeclaredWithin (declaration_nodes x)) (AllWithin (declaration_nodes x + pieces_nodes ps)) (declaration_typed s x) _ (declaration_within s x) (λ y h.
      then_some (AllWithin (pieces_nodes ps)) (AllWithin (declaration_nodes x + pieces_nodes ps)) (pieces A d y.scope ps) (rules.and_declaration y.effects) (pieces_within A d y.scope ps) (λ more k. omega (arith, h, k, followed_nodes y.effects.statements more.statements)))
  pieces_within A d s (and_piece (statement_item x) ps) =
      then_some (DoneWithin (stmt_nodes x)) (AllWithin (stmt_nodes x + pieces_nodes ps)) (statement A d s x) _ (statement_within A d s x) (λ y h.
      then_some (AllWithin (pieces_nodes ps)) (AllWithin (stmt_nodes x + pieces_nodes ps)) (pieces A d y.scope ps) (rules.and_statements y) (pieces_within A d y.scope ps) (λ more k. omega (arith, h, k, labelled_nodes y.labels (typed.and_statement y.statement more.statements))))
