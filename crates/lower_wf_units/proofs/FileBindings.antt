-- The meaning of a name after a new binding, and types of which one may be longer.
use Rattle.std.proofs.Common.{◌≡◌, ◌≤◌, ◌<◌, ℕ, ◌*◌, zero, suc, Bool, true, false, nat_eq, List, [], ◌∷◌}
use Rattle.std.proofs.Common.{Option, Some, None, refl, sym, ap, ◌∙◌, subst, ◌⊎◌, inl, inr, arith}
use Rattle.std.specs.Prelude.{if◌then◌else◌}
use Rattle.std.proofs.lemmas.Bool.{false≢true}
use Rattle.std.proofs.lemmas.Bool.Decides.{nat_tests}
use Rattle.ctypes.specs.declared.types.IntType.{IntType}
use Rattle.typing_spec.specs.Types.{ObjectType, DeclaredType, complete, unknown_size, FunctionType, elements_in, same_object}
use Rattle.typing_spec.specs.Types.{element_type, inner_type, fits_unknown, composite, array_of}
use Rattle.typing_spec.specs.Program as typed
use Rattle.typing_spec.specs.Program.{Storage, Static}
use Rattle.typing_spec.specs.Nodes.{static_type}
use Rattle.typing_spec.specs.Scope.{Scope, Binding, Meaning, an_object, a_function, lookup}
use Rattle.typing_spec.specs.Linkage.{completed}
use Rattle.lower_wf.specs.Settled.{Fits, Sized, SizedType, Wider, IsWider}
use Rattle.lower_wf.proofs.Same.{same_number, same_object_is}
use Rattle.lower_wf.proofs.Ground.{same_some}
use Rattle.lower_wf.proofs.Scopes.{wider_fits}
use Rattle.lower_wf_units.proofs.Files.{Stands}
use Rattle.lower_wf_units.proofs.FileSteps.{wider_self}

-- ---- a name after a new binding

abbrev pub Means : Option Binding → Meaning → Type 0
Means o m = (b : Binding) × (o ≡ Some b) × (b.meaning ≡ m)

-- name k, where the newest binding is that of n
abbrev pub behind : ℕ → ℕ → Binding → Option Binding → Option Binding
behind n k new o = if nat_eq n k then Some new else o

pub same_test : (n : ℕ) → nat_eq n n ≡ true
same_test n = grind (arith, nat_tests)

pub differs : (n k : ℕ) → false ≡ nat_eq n k → n ≡ k → ⊥
differs n k e f = false≢true (e ∙ sym (ap (λ x. nat_eq n x) f) ∙ same_test n)

-- it has the new meaning, or the one before
abbrev pub OneOf : ℕ → ℕ → Meaning → Option Binding → Meaning → Type 0
OneOf n k a o m = ((n ≡ k) × (a ≡ m)) ⊎ ((n ≡ k → ⊥) × Means o m)

pub one_of : (n k : ℕ) (new : Binding) (o : Option Binding) (m : Meaning) → Means (behind n k new o) m → OneOf n k new.meaning o m
one_of n k new o m h = by (nat_eq n k) refl h
  where
    by : (c : Bool) → c ≡ nat_eq n k → Means (if c then Some new else o) m → OneOf n k new.meaning o m
    by true e h = inl (same_number n k (sym e), ap (λ b. b.meaning) (same_some new h.0 h.1) ∙ h.2)
    by false e h = inr (differs n k e, h)

pub means_still : (n k : ℕ) (new : Binding) (o : Option Binding) (m : Meaning) → (n ≡ k → ⊥) → Means o m → Means (behind n k new o) m
means_still n k new o m d h = by (nat_eq n k) refl
  where
    by : (c : Bool) → c ≡ nat_eq n k → Means (if c then Some new else o) m
    by true e = absurd (d (same_number n k (sym e)))
    by false e = h

pub newest : (n : ℕ) (new : Binding) (o : Option Binding) → behind n n new o ≡ Some new
newest n new o = ap (λ c. if c then Some new else o) (same_test n)

pub level_behind : (n k : ℕ) (new : Binding) (o : Option Binding) → new.level ≡ 0 → ((b : Binding) → o ≡ Some b → b.level ≡ 0) → (b : Binding) →
    behind n k new o ≡ Some b → b.level ≡ 0
level_behind n k new o z h b e = by (nat_eq n k) e
  where
    by : (c : Bool) → (if c then Some new else o) ≡ Some b → b.level ≡ 0
    by true f = subst (λ x. x.level ≡ 0) (same_some new b f) z
    by false f = h b f

pub one_meaning : (s : Scope) (n : ℕ) (a b : Meaning) → Stands s n a → Stands s n b → a ≡ b
one_meaning s n a b h g = sym h.2 ∙ ap (λ x. x.meaning) (same_some h.0 g.0 (sym h.1 ∙ g.1)) ∙ g.2

pub no_function : (what : Storage) (t : DeclaredType) (f : FunctionType) → an_object what t ≡ a_function f → ⊥
no_function what t f e = cc

pub one_static : (i j : ℕ) (t u : DeclaredType) → an_object (typed.static i) t ≡ an_object (typed.static j) u → i ≡ j
one_static i j t u e = cc

pub nothing_there : (s : Scope) (n : ℕ) (m : Meaning) → lookup s n ≡ None → Stands s n m → ⊥
nothing_there s n m e h = by (sym e ∙ h.1)
  where
    by : None ≡ Some h.0 → ⊥
    by f = cc

-- ---- a type and a longer one

pub declared_fits : (t : DeclaredType) (o : Option Static) → IsWider (completed t) o → Fits t (static_type o)
declared_fits (complete t) o h = wider_fits t o h
declared_fits (unknown_size t) o h = wider_fits (array_of 1 t) o h

-- an array whose size was unknown (6.2.7p3)
some_more : (n k : ℕ) → 0 < n * k → 1 ≤ n
some_more zero k h = absurd (let e : zero * k ≡ 0 = grind arith in omega (arith, h, e))
some_more (suc n) k h = omega arith

pub longer_array : (t : ObjectType) (m : ℕ) → 1 ≤ m → Wider (array_of 1 t) (array_of m t)
longer_array t m h = (refl, refl, (m, refl, h))

-- ---- the composite type has a size, and is the old one or a longer one

abbrev pub IfTyped : DeclaredType → Option DeclaredType → Type 0
IfTyped old None = Unit {0}
IfTyped old (Some t) = SizedType t × Wider (completed old) (completed t)

if_kept : (old new : DeclaredType) (c : Bool) → SizedType new → Wider (completed old) (completed new) → IfTyped old (if c then Some new else None)
if_kept old new true z w = (z, w)
if_kept old new false z w = tt

complete_rows : (a b : ObjectType) (o : Option ObjectType) → Sized a → IfTyped (complete a) (fits_unknown o b a)
complete_rows a b None z = tt
complete_rows a b (Some e) z = if_kept (complete a) (complete a) (same_object e b) z (wider_self a)

-- elements such as those of the array of unknown size
rows_wider : (a : ObjectType) (t : IntType) (k : Bool) (n : ℕ) (l : List ℕ) → 1 ≤ n →
    let e : ObjectType = record { element = t; constant = k; lengths = l } in
    let b : ObjectType = record { element = t; constant = k; lengths = n ∷ l } in e ≡ a → Wider (array_of 1 a) b
rows_wider a t k n l h e = (ap (λ x. x.element) e, ap (λ x. x.constant) e, (n, ap (λ x. n ∷ x.lengths) e, h))

known_rows : (a : ObjectType) (t : IntType) (k : Bool) (l : List ℕ) →
    let b : ObjectType = record { element = t; constant = k; lengths = l } in Sized b → IfTyped (unknown_size a) (fits_unknown (inner_type t k l) a b)
known_rows a t k [] z = tt
known_rows a t k (n ∷ l) z = by (same_object (record { element = t; constant = k; lengths = l }) a) refl
  where
    by : (c : Bool) → c ≡ same_object (record { element = t; constant = k; lengths = l }) a →
        IfTyped (unknown_size a) (if c then Some (complete (record { element = t; constant = k; lengths = n ∷ l })) else None)
    by true e = (z, rows_wider a t k n l (some_more n (elements_in l) z.0) (same_object_is (record { element = t; constant = k; lengths = l }) a (sym e)))
    by false e = tt

pub composite_good : (old t : DeclaredType) → SizedType old → SizedType t → IfTyped old (composite old t)
composite_good (complete a) (complete b) y z = if_kept (complete a) (complete a) (same_object a b) y (wider_self a)
composite_good (complete a) (unknown_size b) y z = complete_rows a b (element_type a) y
composite_good (unknown_size a) (complete b) y z = known_rows a b.element b.constant b.lengths z
composite_good (unknown_size a) (unknown_size b) y z = if_kept (unknown_size a) (unknown_size a) (same_object a b) y (wider_self (array_of 1 a))
