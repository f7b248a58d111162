-- The first values of objects with static storage.
use Rattle.std.proofs.Common.{◌≡◌, ℕ, zero, suc, ◌+◌, ◌<◌, ◌≤◌, true, false, nat_eq, List, [], ◌∷◌, ◌++◌, length, map, set, get_or, ℤ, refl, sym, ap, ◌∙◌, append_assoc, append-nil, arith}
use Rattle.std.specs.Prelude.{if◌then◌else◌}
use Rattle.std.proofs.lemmas.List.{map-set, map_push, get_or-map, length-map}
use Rattle.typed_ast.specs.declared.units.Static as held
use Rattle.typed_ast.specs.View.{static_of, object_type_of}
use Rattle.typing_scopes.specs.declared.bindings.StaticObject as scopes_held
use Rattle.typing_scopes.specs.Scopes as scopes
use Rattle.typing_spec.specs.Scope.{StaticObject}
use Rattle.typing_spec.specs.Program.{Static}
use Rattle.typing_spec.specs.Declarations.{Initial}
use Rattle.typing_spec.specs.Units.{values_for, statics_from}
use Rattle.typing_units.specs.declared.first_values.Initial as given
use Rattle.typing_units.specs.Views.{initial_of}

-- ---- one more initialiser

other : (m n : ℕ) (xs ys : List ℤ) → nat_eq m n ≡ false → (if nat_eq m n then xs else ys) ≡ ys
other m n xs ys e = ap (λ b. if b then xs else ys) e

same : (m n : ℕ) (xs ys : List ℤ) → nat_eq m n ≡ true → (if nat_eq m n then xs else ys) ≡ xs
same m n xs ys e = ap (λ b. if b then xs else ys) e

-- its number is not among those from n on
pub behind : (n : ℕ) (os : List StaticObject) (i : Initial) (is : List Initial) → n + length os ≤ i.static → statics_from n os (i ∷ is) ≡ statics_from n os is
behind n [] i is h = refl
behind n (o ∷ os) i is h = cc (other i.static n i.values (values_for n is) (grind (arith, h)), behind (n + 1) os i is (omega (arith, h)))

before : (n : ℕ) (os : List StaticObject) (i : Initial) (is : List Initial) → i.static < n → statics_from n os (i ∷ is) ≡ statics_from n os is
before n [] i is h = refl
before n (o ∷ os) i is h = cc (other i.static n i.values (values_for n is) (grind (arith, h)), before (n + 1) os i is (omega (arith, h)))

abbrev with_these : Static → List ℤ → Static
with_these x vs = record x { values = vs }

among : (n k : ℕ) (os : List StaticObject) (i : Initial) (is : List Initial) (d : Static) → i.static ≡ n + k → k < length os →
    statics_from n os (i ∷ is) ≡ set (statics_from n os is) k (with_these (get_or (statics_from n os is) k d) i.values)
among n k [] i is d e h = absurd (omega (arith, h))
among n zero (o ∷ os) i is d e h = cc (same i.static n i.values (values_for n is) (grind (arith, e)), before (n + 1) os i is (omega (arith, e)))
among n (suc k) (o ∷ os) i is d e h = cc (other i.static n i.values (values_for n is) (grind (arith, e)), among (n + 1) k os i is d (omega (arith, e)) (omega (arith, h)))

statics_count : (n : ℕ) (os : List StaticObject) (is : List Initial) → length (statics_from n os is) ≡ length os
statics_count n [] is = refl
statics_count n (o ∷ os) is = ap (λ k. suc k) (statics_count (n + 1) os is)

object_count : (xs : List held.Static) (os : List StaticObject) (is : List Initial) → map static_of xs ≡ statics_from 0 os is → length os ≡ length xs
object_count xs os is e = sym (statics_count 0 os is) ∙ ap (λ l. length l) (sym e) ∙ length-map xs static_of

pub set_first : (xs : List held.Static) (x : held.Static) (i : given.Initial) (os : List StaticObject) (is : List Initial) → i.static_number < length xs → x ≡ get_or xs i.static_number x → map static_of xs ≡ statics_from 0 os is →
    map static_of (set xs i.static_number (record x { values = i.values })) ≡ statics_from 0 os (initial_of i ∷ is)
set_first xs x i os is h g e =
    let k : ℕ = i.static_number in
    let vs : List ℤ = i.values.items in
    let d : Static = static_of x in
    let n : length os ≡ length xs = object_count xs os is e in
    map-set static_of xs k (record x { values = i.values })
    ∙ ap (λ l. set l k (with_these (static_of x) vs)) e
    ∙ ap (λ y. set (statics_from 0 os is) k (with_these y vs)) (ap static_of g ∙ sym (get_or-map static_of xs k x d h) ∙ ap (λ l. get_or l k d) e)
    ∙ sym (among 0 k os (initial_of i) is d (omega arith) (omega (arith, n, h)))

pub set_none : (xs : List held.Static) (i : given.Initial) (os : List StaticObject) (is : List Initial) → length xs ≤ i.static_number → map static_of xs ≡ statics_from 0 os is → map static_of xs ≡ statics_from 0 os (initial_of i ∷ is)
set_none xs i os is h e = let n : length os ≡ length xs = object_count xs os is e in e ∙ sym (behind 0 os (initial_of i) is (omega (arith, n, h)))

-- ---- objects without values

abbrev pub empty_of : scopes_held.StaticObject → Static
empty_of o = record { type = object_type_of o.object_type; defined = o.defined; values = [] }

pub empties : (n : ℕ) (os : List scopes_held.StaticObject) → map empty_of os ≡ statics_from n (map scopes.static_of os) []
empties n [] = refl
empties n (o ∷ os) = ap (λ l. empty_of o ∷ l) (empties (n + 1) os)

pub empty_more : (xs next : List held.Static) (x : held.Static) (os : List scopes_held.StaticObject) (o : scopes_held.StaticObject) → map static_of xs ≡ map empty_of os → next ≡ xs ++ x ∷ [] → static_of x ≡ empty_of o →
    map static_of next ≡ map empty_of (os ++ o ∷ [])
empty_more xs next x os o e n h = ap (λ l. map static_of l) n ∙ map_push static_of xs x ∙ ap (λ l. l ++ static_of x ∷ []) e ∙ ap (λ y. map empty_of os ++ y ∷ []) h ∙ sym (map_push empty_of os o)

-- ---- the first values, as far as they are set: those of the last initialisers

abbrev pub SetSoFar : List StaticObject → (start left : List given.Initial) → List held.Static → Type 0
SetSoFar os start left all = (done : List given.Initial) × (start ≡ left ++ done) × (map static_of all ≡ statics_from 0 os (map initial_of done))

pub none_set : (os : List StaticObject) (start : List given.Initial) (all : List held.Static) → map static_of all ≡ statics_from 0 os [] → SetSoFar os start start all
none_set os start all e = ([], sym (append-nil start), e)

pub one_set : (os : List StaticObject) (start left rest : List given.Initial) (last : given.Initial) (all next : List held.Static) → SetSoFar os start left all → left ≡ rest ++ last ∷ [] →
    ((is : List Initial) → map static_of all ≡ statics_from 0 os is → map static_of next ≡ statics_from 0 os (initial_of last ∷ is)) → SetSoFar os start rest next
one_set os start left rest last all next w e f = (last ∷ w.0, w.1 ∙ ap (λ l. l ++ w.0) e ∙ append_assoc rest (last ∷ []) w.0, f (map initial_of w.0) w.2)

pub all_set : (os : List StaticObject) (start left : List given.Initial) (all : List held.Static) → SetSoFar os start left all → left ≡ [] → map static_of all ≡ statics_from 0 os (map initial_of start)
all_set os start left all w e = w.2 ∙ ap (λ l. statics_from 0 os (map initial_of l)) (sym (w.1 ∙ ap (λ l. l ++ w.0) e))

pub same_items : {X : Type 0} (xs ys : List X) → map (λ x. x) xs ≡ ys → xs ≡ ys
same_items [] ys e = e
same_items (x ∷ xs) ys e = ap (λ l. x ∷ l) (same_items xs (map (λ x. x) xs) refl) ∙ e
