-- The names of parameters, by the types of the parameters and by those objects of the function that are parameters.
use Rattle.std.specs.Prelude.{◌≡◌, ℕ, ◌+◌, List, [], ◌∷◌, Option, Some, None, map, drop}
use Rattle.tree.specs.Tree.{ParameterTree}
use Rattle.typed_ast.specs.declared.types.ObjectType as held
use Rattle.typed_ast.specs.View.{object_type_of}
use Rattle.typing_spec.specs.Types.{ObjectType, ParameterType, number, elements, complete}
use Rattle.typing_spec.specs.Program as typed
use Rattle.typing_spec.specs.Scope.{Scope, Binding, an_object, an_array_parameter, no_linkage, defined}
use Rattle.typing_spec.specs.Declarators.{ParameterObject, a_number, a_reference}

-- binds a name, if there is one, to a parameter: to reference r or to number k
abbrev pub named : ℕ → ℕ → ℕ → Option ℕ → ParameterObject → List Binding → List Binding
named level r k None o bs = bs
named level r k (Some n) (a_number t) bs = record { name = n; level = level; meaning = an_object (typed.automatic k) (complete t); linkage = no_linkage; state = defined } ∷ bs
named level r k (Some n) (a_reference t) bs = record { name = n; level = level; meaning = an_array_parameter r t; linkage = no_linkage; state = defined } ∷ bs

-- the names in order, the newest first
abbrev pub bound : ℕ → ℕ → ℕ → List (Option ℕ) → List ParameterType → List ObjectType → List Binding → List Binding
bound level r k [] ts os bs = bs
bound level r k (n ∷ ns) [] os bs = bs
bound level r k (n ∷ ns) (number t ∷ ts) [] bs = bound level r (k + 1) ns ts [] bs
bound level r k (n ∷ ns) (number t ∷ ts) (o ∷ os) bs = bound level r (k + 1) ns ts os (named level r k n (a_number o) bs)
bound level r k (n ∷ ns) (elements t ∷ ts) os bs = bound level (r + 1) k ns ts os (named level r k n (a_reference t) bs)

abbrev pub names_of : List ParameterTree → List (Option ℕ)
names_of ps = map (λ p. p.name) ps

abbrev pub with_bindings : List Binding → Scope → Scope
with_bindings bs s = record s { bindings = bs }

-- the names that are left, once one is bound to its parameter
abbrev pub Again : (old new : Scope) → (r new_r k new_k : ℕ) → Option ℕ → ParameterType → List held.ObjectType → Type 0
Again old new r new_r k new_k n t own =
    (new ≡ with_bindings new.bindings old) × ((ns : List (Option ℕ)) (ts : List ParameterType) →
    bound old.level r k (n ∷ ns) (t ∷ ts) (map object_type_of (drop k own)) old.bindings ≡ bound old.level new_r new_k ns ts (map object_type_of (drop new_k own)) new.bindings)
