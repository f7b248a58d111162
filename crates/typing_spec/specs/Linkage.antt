-- Declarations at file scope: linkage, redeclarations, definitions (ISO/IEC 9899:2011 6.2.2, 6.2.7, 6.7, 6.9, 6.9.2).
use Rattle.std.specs.Prelude.{ℕ, zero, suc, Bool, true, false, not, ◌&&◌, List, [], ◌∷◌, length, Option, Some, None, if◌then◌else◌}
use Rattle.srcset.specs.declared.refusal.Pos.{Pos}
use Rattle.srcset.specs.declared.code.Code.TheVariants as code
use Rattle.typing_spec.specs.Types.{ObjectType, DeclaredType, complete, unknown_size, FunctionType, same_function, composite, array_of}
use Rattle.typing_spec.specs.Verdict.{Verdict, fine, breaks, then_check, both, refuse_if, each, provided}
use Rattle.typing_spec.specs.Program as typed
use Rattle.typing_spec.specs.Program.{Storage}
use Rattle.typing_spec.specs.Scope.{Scope, StaticObject, Binding, BuiltIn, Meaning, an_object, a_function, Linkage, no_linkage, internal, external, State, mentioned, tentative, defined, lookup, with_name, built_in}

-- the storage-class specifier of a declaration (6.7.1)
pub data StorageClass : Type 0 where
  no_class : StorageClass
  by_extern : StorageClass
  by_static : StorageClass

-- 6.2.2p4, p5: extern keeps the linkage of the declaration before, and a function without a specifier is as with extern
abbrev pub as_before : Option Binding → Linkage
as_before None = external
as_before (Some b) = b.linkage

abbrev pub linkage_of_object : StorageClass → Option Binding → Linkage
linkage_of_object no_class before = external
linkage_of_object by_extern before = as_before before
linkage_of_object by_static before = internal

abbrev pub linkage_of_function : StorageClass → Option Binding → Linkage
linkage_of_function no_class before = as_before before
linkage_of_function by_extern before = as_before before
linkage_of_function by_static before = internal

-- 6.9.2p1, p2: with an initialiser a definition, without one a tentative definition, unless it has extern
abbrev pub state_of_object : StorageClass → Bool → State
state_of_object class true = defined
state_of_object by_extern false = mentioned
state_of_object by_static false = tentative
state_of_object no_class false = tentative

abbrev pub joined : State → State → State
joined defined b = defined
joined tentative defined = defined
joined tentative b = tentative
joined mentioned b = b

abbrev pub is_linked : Linkage → Bool
is_linked no_linkage = false
is_linked internal = true
is_linked external = true

abbrev pub is_internal : Linkage → Bool
is_internal no_linkage = false
is_internal internal = true
is_internal external = false

abbrev pub clash : Linkage → Linkage → Bool
clash internal external = true
clash external internal = true
clash a b = false

abbrev pub is_defined : State → Bool
is_defined defined = true
is_defined tentative = false
is_defined mentioned = false

abbrev pub is_mentioned : State → Bool
is_mentioned defined = false
is_mentioned tentative = false
is_mentioned mentioned = true

-- ---- the types of two declarations of a name (6.7p4), and their composite type

abbrev pub object_with : Storage → Option DeclaredType → Option Meaning
object_with what None = None
object_with what (Some t) = Some (an_object what t)

abbrev pub composite_meaning : Meaning → Meaning → Option Meaning
composite_meaning (an_object what t) (an_object other u) = object_with what (composite t u)
composite_meaning (a_function f) (a_function g) = if same_function f g then Some (a_function f) else None
composite_meaning old new = None

abbrev pub compatible : Pos → Option Meaning → Verdict Meaning
compatible at None = breaks code.RedeclaredWithAnotherType at
compatible at (Some m) = fine m

-- the meaning of a name once it is declared again
pub record Agreed : Type 0 where
  pub meaning : Meaning
  pub linkage : Linkage
  pub state : State

abbrev pub agreed : Meaning → Linkage → State → Agreed
agreed m linkage state = record { meaning = m; linkage = linkage; state = state }

-- 6.2.2p7; 6.9p3, p5: one definition; 6.7p4
abbrev pub with_linkage : Pos → Agreed → Binding → Verdict Agreed
with_linkage at new old =
    both (each (refuse_if (clash old.linkage new.linkage) code.LinkageConflict at)
    (refuse_if (is_defined old.state && is_defined new.state) code.DefinedTwice at))
    (compatible at (composite_meaning old.meaning new.meaning)) (λ u m. fine (agreed m old.linkage (joined old.state new.state)))

abbrev pub by_linkage : Bool → Pos → Agreed → Binding → Verdict Agreed
by_linkage true at new old = with_linkage at new old
by_linkage false at new old = breaks code.NameDeclaredTwice at

abbrev pub redeclared : Pos → Agreed → Option Binding → Verdict Agreed
redeclared at new None = fine new
redeclared at new (Some old) = by_linkage (is_linked old.linkage) at new old

-- ---- built-ins: a name of one at file scope has its type, is not static and has no other definition

abbrev pub is_of_type : FunctionType → Meaning → Bool
is_of_type f (a_function g) = same_function f g
is_of_type f m = false

abbrev pub as_built_in : Pos → Agreed → Option BuiltIn → Verdict (Unit {0})
as_built_in at new None = fine tt
as_built_in at new (Some b) =
    each (refuse_if (not (is_of_type b.type new.meaning)) code.RedeclaredWithAnotherType at)
    (each (refuse_if (is_internal new.linkage) code.LinkageConflict at) (refuse_if (is_defined new.state) code.BuiltInDefined at))

-- ---- the scope after a declaration at file scope

abbrev pub put_static : List StaticObject → ℕ → StaticObject → List StaticObject
put_static [] n x = x ∷ []
put_static (y ∷ ys) zero x = x ∷ ys
put_static (y ∷ ys) (suc n) x = y ∷ put_static ys n x

-- 6.9.2p5: a size that stays unknown is 1
abbrev pub completed : DeclaredType → ObjectType
completed (complete t) = t
completed (unknown_size t) = array_of 1 t

abbrev pub with_storage : Scope → State → Meaning → Scope
with_storage s state (an_object (typed.static n) t) =
    record s { statics = put_static s.statics n (record { type = completed t; defined = not (is_mentioned state) }) }
with_storage s state m = s

abbrev pub agreed_in : Scope → ℕ → Agreed → Verdict Scope
agreed_in s n a = fine (with_storage (with_name s n a.meaning a.linkage a.state) a.state a.meaning)

-- a name declared at file scope with this meaning, linkage and state
abbrev pub declared_at_file : Scope → Pos → ℕ → Agreed → Verdict Scope
declared_at_file s at n new = provided (as_built_in at new (built_in s n)) (then_check (redeclared at new (lookup s n)) (agreed_in s n))

-- an object's number: that of the declaration before, or the next
abbrev pub storage_of_meaning : Scope → Meaning → Storage
storage_of_meaning s (an_object what t) = what
storage_of_meaning s m = typed.static (length s.statics)

abbrev pub storage_before : Scope → Option Binding → Storage
storage_before s None = typed.static (length s.statics)
storage_before s (Some b) = storage_of_meaning s b.meaning

abbrev pub file_object : Scope → Pos → ℕ → StorageClass → DeclaredType → State → Verdict Scope
file_object s at n class t state =
    declared_at_file s at n (agreed (an_object (storage_before s (lookup s n)) t) (linkage_of_object class (lookup s n)) state)

abbrev pub file_function : Scope → Pos → ℕ → StorageClass → FunctionType → State → Verdict Scope
file_function s at n class f state = declared_at_file s at n (agreed (a_function f) (linkage_of_function class (lookup s n)) state)
