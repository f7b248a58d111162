-- The effects of declarators, one at a time.
use Rattle.std.specs.Prelude.{◌≡◌, ℕ, List, [], ◌∷◌, ◌++◌, ℤ, Option, Some, None}
use Rattle.srcset.specs.declared.refusal.Pos.{Pos}
use Rattle.tree.specs.Tree.{Init, ItemTree, object, function}
use Rattle.typed_ast.specs.declared.statements.Statement.{Statement}
use Rattle.typed_ast.specs.View.{initialiser_of}
use Rattle.typing_units.specs.declared.first_values.Initial.{Initial}
use Rattle.typing_spec.specs.Types.{DeclaredType}
use Rattle.typing_spec.specs.Verdict.{Verdict, fine, then_check, both}
use Rattle.typing_spec.specs.Program as program
use Rattle.typing_spec.specs.Scope.{Scope}
use Rattle.typing_spec.specs.Specifiers.{BaseType}
use Rattle.typing_spec.specs.Initialisers.{past_init, values}
use Rattle.typing_spec.specs.Linkage.{StorageClass, no_class}
use Rattle.typing_spec.specs.Declarations as typed
use Rattle.typing_declarations.specs.declared.object_effects.ObjectEffect.{ObjectEffect}
use Rattle.typing_declarations.specs.declared.object_effects.ObjectEffect.TheVariants as effect
use Rattle.typing_declarations.specs.Views.{effects_of, declared_of}

-- one that has begun, as far as its initialiser uses it
abbrev pub begun_at : Scope → Pos → DeclaredType → typed.Begun
begun_at s at t = record { at = at; name = 0; class = no_class; type = t; what = program.static 0; init = None; scope = s }

-- the scope after an initialiser, if there is one
abbrev pub behind : Scope → Option Init → Scope
behind s None = s
behind s (Some i) = past_init s i

-- the first values of an object with static storage
abbrev pub first_values : ℕ → List ℤ → Verdict typed.Effects
first_values n vs = fine (record { statements = []; initial = record { static = n; values = vs } ∷ [] })

-- the effects of a declarator whose initialiser has its type, in a scope with its literals
abbrev pub effect_in : Scope → DeclaredType → ObjectEffect → Verdict typed.Effects
effect_in s t effect.Nothing = fine typed.no_effects
effect_in s t (effect.Declared at n) = fine (record { statements = program.declare n ∷ []; initial = [] })
effect_in s t (effect.Defined at n x) = typed.definition_of n (initialiser_of x)
effect_in s t (effect.First n x) = then_check (values s (typed.element_of t) (typed.lengths_of t) (initialiser_of x)) (first_values n)

-- one declarator
abbrev pub object_typed : typed.Begun → Verdict typed.Declared
object_typed o = both (typed.initialised o) (typed.finished o) (λ e inner. fine (record { scope = inner; effects = e }))

abbrev pub without_effects : Scope → Verdict typed.Declared
without_effects inner = fine (record { scope = inner; effects = typed.no_effects })

abbrev pub item_typed : Scope → StorageClass → BaseType → ItemTree → Verdict typed.Declared
item_typed s class b (object at n sizes init) = then_check (typed.begun s class b at n sizes init) object_typed
item_typed s class b (function at n ps) = then_check (typed.function_at s.level s class b at n ps) without_effects

-- statements and first values that follow those before, and are the effects
abbrev pub Does : Verdict typed.Effects → List Statement → List Statement → List Initial → List Initial → Type 0
Does v before after first later = (xs : List Statement) × (js : List Initial) × (after ≡ before ++ xs) × (later ≡ first ++ js) × (v ≡ fine (effects_of xs js))

-- the same of a declarator, and the scope after it
abbrev pub Leaves : Verdict typed.Declared → Scope → List Statement → List Statement → List Initial → List Initial → Type 0
Leaves v s before after first later = (xs : List Statement) × (js : List Initial) × (after ≡ before ++ xs) × (later ≡ first ++ js) × (v ≡ fine (declared_of s xs js))

-- declarators that are left, in this scope: the effects so far follow those before
abbrev pub Goes : Verdict typed.Declared → Verdict typed.Declared → List Statement → List Statement → List Initial → List Initial → Type 0
Goes whole left before after first later =
    (xs : List Statement) × (js : List Initial) × (after ≡ before ++ xs) × (later ≡ first ++ js) × (whole ≡ then_check left (typed.before_others (effects_of xs js)))
