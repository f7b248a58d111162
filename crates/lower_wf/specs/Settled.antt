-- When the names of a scope denote entities of a program, and the entries of a scope are the program's in the end.
use Rattle.std.specs.Prelude.{◌≡◌, ◌≤◌, ◌<◌, ℕ, Bool, true, List, [], ◌∷◌, ◌++◌, length, Option, Some, None, slice_get}
use Rattle.ctypes.specs.declared.types.IntType.{IntType}
use Rattle.ctypes.specs.declared.types.IntType.TheVariants as ty
use Rattle.ctypes.specs.Types.{is_value_of}
use Rattle.tree.specs.Tree.{Pieces, FunctionTree}
use Rattle.typing_spec.specs.Types.{ObjectType, DeclaredType, complete, unknown_size, FunctionType, elements_in, size_of_object}
use Rattle.typing_spec.specs.Program as typed
use Rattle.typing_spec.specs.Program.{Callee, Function, Static, Program}
use Rattle.typing_spec.specs.Verdict.{fine}
use Rattle.typing_spec.specs.Scope.{Scope, StaticObject, Binding, Meaning, an_object, an_array_parameter, a_function, an_enumerator, file_scope, callee_of, literal_of}
use Rattle.typing_spec.specs.Statements.{Around, AllDone, pieces}
use Rattle.typing_spec.specs.Nodes.{type_of_storage}
use Rattle.typing_spec.specs.Uses as uses
use Rattle.typing_spec.specs.Uses.{Used, Use, uses_in_statement, uses_in_statements}
use Rattle.typing_spec.specs.WellTyped.{is_array, rows_of, callee_type, parameters_are_first, statement_is_typed, statements_are_typed}
use Rattle.typing_spec.specs.Units.{Built, function_typed, numbers_in}
use Rattle.tac_code.specs.Designated.{in_statement, in_statements}
use Rattle.typing_spec.specs.Expressions.{object_limit}

-- a program, a function of it, and its names and definitions
pub record Setting : Type 0 where
  pub program : Program
  pub function : Function
  pub texts : List (List ℕ)
  pub definitions : List ℕ

-- ---- used entities have definitions

abbrev pub IsPresent : Program → Used → Type 0
IsPresent p (uses.an_object n) = (o : Static) → slice_get p.statics n ≡ Some o → o.defined ≡ true
IsPresent p (uses.a_function n) = ⊥

abbrev pub Present : Program → List Use → Type 0
Present p [] = Unit {0}
Present p (u ∷ us) = IsPresent p u.what × Present p us

-- ---- the types that a place of a type may have: a number that type, an array such rows

abbrev pub RowsAre : ObjectType → Option DeclaredType → Type 0
RowsAre u T = (is_array T ≡ true) × (rows_of T ≡ Some u)

abbrev pub FitsBy : IntType → Bool → List ℕ → Option DeclaredType → Type 0
FitsBy e k [] T = T ≡ Some (complete (record { element = e; constant = k; lengths = [] }))
FitsBy e k (n ∷ l) T = RowsAre (record { element = e; constant = k; lengths = l }) T

abbrev pub Fits : DeclaredType → Option DeclaredType → Type 0
Fits (complete t) T = FitsBy t.element t.constant t.lengths T
Fits (unknown_size u) T = RowsAre u T

abbrev pub Sized : ObjectType → Type 0
Sized t = (0 < elements_in t.lengths) × (size_of_object t ≤ object_limit)

abbrev pub SizedType : DeclaredType → Type 0
SizedType (complete t) = Sized t
SizedType (unknown_size t) = Sized t

-- ---- names and literals

abbrev pub callee_in : List (List ℕ) → List ℕ → ℕ → Callee
callee_in texts definitions n = callee_of (file_scope texts definitions) n

-- a call of a function without a definition is not evaluated
abbrev pub CalleeFits : Program → Callee → FunctionType → Type 0
CalleeFits p (typed.missing n) t = Unit {0}
CalleeFits p (typed.function f) t = callee_type p (typed.function f) ≡ Some t
CalleeFits p typed.get_byte t = callee_type p typed.get_byte ≡ Some t
CalleeFits p typed.put_byte t = callee_type p typed.put_byte ≡ Some t
CalleeFits p typed.exit t = callee_type p typed.exit ≡ Some t

abbrev pub MeaningFits : Setting → ℕ → Meaning → Type 0
MeaningFits W n (an_object what t) = Fits t (type_of_storage W.program W.function what) × SizedType t
MeaningFits W n (an_array_parameter k u) = RowsAre u (type_of_storage W.program W.function (typed.parameter k)) × Sized u
MeaningFits W n (a_function t) = CalleeFits W.program (callee_in W.texts W.definitions n) t
MeaningFits W n (an_enumerator v) = is_value_of ty.Int v ≡ true

abbrev pub AllFit : Setting → List Binding → Type 0
AllFit W [] = Unit {0}
AllFit W (b ∷ bs) = MeaningFits W b.name b.meaning × AllFit W bs

abbrev pub Names : Setting → Scope → Type 0
Names W s = (s.texts ≡ W.texts) × (s.definitions ≡ W.definitions) × AllFit W s.bindings

abbrev pub text_in : List (List ℕ) → ℕ → List ℕ
text_in texts k = literal_of (file_scope texts []) k

-- the literals with these numbers are the program's first ones
abbrev pub TextsEnd : Setting → List ℕ → Type 0
TextsEnd W literals = (n k : ℕ) → slice_get literals n ≡ Some k → slice_get W.program.literals n ≡ Some (text_in W.texts k ++ 0 ∷ [])

-- ---- types of which one may be longer

abbrev pub LengthsWider : List ℕ → List ℕ → Type 0
LengthsWider [] k = k ≡ []
LengthsWider (n ∷ l) k = (m : ℕ) × (k ≡ m ∷ l) × (n ≤ m)

abbrev pub Wider : ObjectType → ObjectType → Type 0
Wider t u = (u.element ≡ t.element) × (u.constant ≡ t.constant) × LengthsWider t.lengths u.lengths

abbrev pub IsWider : ObjectType → Option Static → Type 0
IsWider t None = ⊥
IsWider t (Some o) = Wider t o.type

-- ---- the entries of a scope are those of the program in the end

abbrev pub StaticsEnd : Setting → List StaticObject → Type 0
StaticsEnd W os = (n : ℕ) (o : StaticObject) → slice_get os n ≡ Some o → IsWider o.type (slice_get W.program.statics n)

abbrev pub ObjectsEnd : Setting → List ObjectType → Type 0
ObjectsEnd W os = (n : ℕ) (t : ObjectType) → slice_get os n ≡ Some t → slice_get W.function.objects n ≡ Some t

abbrev pub Ends : Setting → Scope → Type 0
Ends W s = TextsEnd W s.literals × StaticsEnd W s.statics × ObjectsEnd W s.objects

-- ---- the laws

-- The items of a block of a function are typed, and designate defined entities, where the entities that they use are present: as soon as the
-- names before them denote entities of the program, and the scope after them is the program's in the end.
abbrev pub BlockIsTyped : Type 0
BlockIsTyped = (W : Setting) (around : Around) (direct : Option IntType) (s : Scope) (ps : Pieces) (all : AllDone) → around.result ≡ W.function.type.result → (s.level ≡ 0 → ⊥)
    → pieces around direct s ps ≡ fine all → Names W s → Ends W all.scope → (lo hi : ℕ) → lo ≤ length s.objects → length all.scope.objects ≤ hi → Present W.program (uses_in_statements all.statements)
    → (statements_are_typed W.program W.function lo hi all.statements ≡ true) × (in_statements W.program all.statements ≡ true)

-- The function that a definition adds is typed, and designates defined entities (6.9.1): as soon as the names of the file after it denote entities
-- of the program, its string literals and its objects with static storage are the program's in the end, and the entities that its body uses
-- are present.
abbrev pub FunctionIsTyped : Type 0
FunctionIsTyped = (W : Setting) (b c : Built) (f : FunctionTree) → function_typed b f ≡ fine c → c.functions ≡ b.functions ++ W.function ∷ [] → Names W c.scope → TextsEnd W c.scope.literals → StaticsEnd W c.scope.statics
    → Present W.program (uses_in_statement W.function.body)
    → (parameters_are_first W.function.type.parameters W.function.objects ≡ true) ×
    (statement_is_typed W.program W.function (numbers_in W.function.type.parameters) (length W.function.objects) W.function.body ≡ true) × (in_statement W.program W.function.body ≡ true)
