-- The lengths of an array whose declarator has begun, and of the one that its initialiser completes.
use Rattle.std.proofs.Common.{◌≡◌, ℕ, zero, suc, ◌<◌, ◌≤◌, Bool, true, false, nat_lt, List, [], ◌∷◌, Option, Some, None, ℤ, pos, negsuc, length, refl, sym, ap, ◌∙◌, subst, arith}
use Rattle.std.specs.Prelude.{◌&&◌, ◌^◌, nat_eq, if◌then◌else◌}
use Rattle.std.specs.List.{list_all}
use Rattle.std.proofs.lemmas.Bool.Decides.{nat_tests}
use Rattle.srcset.specs.declared.code.Code.TheVariants as code
use Rattle.srcset.specs.declared.refusal.Pos.{Pos}
use Rattle.ctypes.specs.declared.types.IntType.{IntType}
use Rattle.tree.specs.Tree.{Tree}
use Rattle.tree.specs.Capped.{capped}
use Rattle.typing_spec.specs.Types.{ObjectType, DeclaredType, complete, unknown_size, array_of, element_type, same_type, same_truth, same_lengths, alike, same_object, fits_unknown, composite, size_of_object}
use Rattle.typing_spec.specs.Verdict.{Verdict, fine, broken, then_check, both, provided, each, refuse_if, IfFine}
use Rattle.typing_spec.specs.Program as program
use Rattle.typing_spec.specs.Program.{Storage}
use Rattle.typing_spec.specs.Scope.{Scope, Binding, Meaning, an_object, an_array_parameter, a_function, an_enumerator, Linkage, no_linkage, State, defined, lookup, with_name, with_literals, built_in}
use Rattle.typing_spec.specs.Specifiers.{BaseType}
use Rattle.typing_spec.specs.Expressions.{constant_value, positive, too_large}
use Rattle.typing_spec.specs.Declarators as declarator
use Rattle.typing_spec.specs.Declarators.{Sizes, no_sizes, outermost, declared_type, strings_in_size, strings_in_sizes}
use Rattle.typing_spec.specs.Linkage as linkage
use Rattle.typing_spec.specs.Linkage.{StorageClass, no_class, by_extern, by_static, Agreed}
use Rattle.typing_spec.specs.Declarations as typed
use Rattle.decls_declarators.specs.Views.{Positive}
use Rattle.decls_declarators.proofs.Limits.{lengths_within}
use Rattle.decls.specs.inside.Elements.{has_elements}

-- ---- verdicts

then_ok : {A B : Type 0} (Q : B → Type 0) (v : Verdict A) (go : A → Verdict B) → ((a : A) → IfFine Q (go a)) → IfFine Q (then_check v go)
then_ok Q (fine a) go h = h a
then_ok Q (broken vs) go h = tt

then_by : {A B : Type 0} (P : A → Type 0) (Q : B → Type 0) (v : Verdict A) (go : A → Verdict B) → IfFine P v → ((a : A) → P a → IfFine Q (go a)) → IfFine Q (then_check v go)
then_by P Q (fine a) go p h = h a p
then_by P Q (broken vs) go p h = tt

both_by : {A B C : Type 0} (P : A → Type 0) (R : B → Type 0) (Q : C → Type 0) (v : Verdict A) (w : Verdict B) (go : A → B → Verdict C)
    → IfFine P v → IfFine R w → ((a : A) (b : B) → P a → R b → IfFine Q (go a b)) → IfFine Q (both v w go)
both_by P R Q (fine a) (fine b) go p r h = h a b p r
both_by P R Q (fine a) (broken vs) go p r h = tt
both_by P R Q (broken us) w go p r h = tt

provided_ok : {A : Type 0} (Q : A → Type 0) (test : Verdict (Unit {0})) (part : Verdict A) → IfFine Q part → IfFine Q (provided test part)
provided_ok Q (fine u) (fine a) h = h
provided_ok Q (fine u) (broken vs) h = tt
provided_ok Q (broken us) part h = tt

-- ---- the sizes of a declarator

abbrev Each : List ℕ → Type 0
Each ns = list_all (nat_lt 0) ns ≡ true

each_more : (n : ℕ) (ns : List ℕ) → nat_lt 0 n ≡ true → Each ns → Each (n ∷ ns)
each_more n ns p h = rw (p, h) refl

some_more : (n : ℕ) → nat_lt 0 (suc n) ≡ true
some_more n = grind arith

positive_length : (at : Pos) (z : ℤ) → IfFine (λ n. nat_lt 0 n ≡ true) (positive at z)
positive_length at (pos zero) = tt
positive_length at (pos (suc n)) = some_more n
positive_length at (negsuc n) = tt

inner_length : (s : Scope) (at : Pos) (e : Option Tree) → IfFine (λ n. nat_lt 0 n ≡ true) (declarator.inner_size s at e)
inner_length s at None = tt
inner_length s at (Some e) = then_ok (λ n. nat_lt 0 n ≡ true) (constant_value s e) (λ c. positive at c.v) (λ c. positive_length at c.v)

inner_lengths : (s : Scope) (at : Pos) (es : List (Option Tree)) → IfFine Each (declarator.inner_sizes s at es)
inner_lengths s at [] = refl
inner_lengths s at (e ∷ es) =
    let behind = with_literals s (strings_in_size e) in
    both_by (λ n. nat_lt 0 n ≡ true) Each Each (declarator.inner_size s at e) (declarator.inner_sizes behind at es) declarator.and_length (inner_length s at e) (inner_lengths behind at es) each_more

abbrev Inner : Sizes → Type 0
Inner no_sizes = Unit {0}
Inner (outermost n ns) = Each ns

abbrev Any : Option ℕ → Type 0
Any n = Unit {0}

outer_length : (v : Verdict (Option ℕ)) → IfFine Any v
outer_length (fine n) = tt
outer_length (broken vs) = tt

sizes_inner : (s : Scope) (at : Pos) (es : List (Option Tree)) → IfFine Inner (declarator.sizes_in s at es)
sizes_inner s at [] = tt
sizes_inner s at (e ∷ es) =
    let behind = with_literals s (strings_in_size e) in
    both_by Any Each Inner (declarator.outer_size s at e) (declarator.inner_sizes behind at es) declarator.and_outermost (outer_length (declarator.outer_size s at e)) (inner_lengths behind at es) (λ n ns u h. h)

abbrev Has : DeclaredType → Type 0
Has d = has_elements d ≡ true

of_sizes_has : (at : Pos) (t : IntType) (k : Bool) (sizes : Sizes) → Inner sizes → IfFine Has (declarator.of_sizes at t k sizes)
of_sizes_has at t k no_sizes h = refl
of_sizes_has at t k (outermost (Some n) ns) h = provided_ok Has (too_large at (declarator.object_type t k (n ∷ ns))) (fine (complete (declarator.object_type t k (n ∷ ns)))) refl
of_sizes_has at t k (outermost None ns) h = provided_ok Has (too_large at (declarator.object_type t k ns)) (fine (unknown_size (declarator.object_type t k ns))) h

with_base_has : (at : Pos) (t : Option IntType) (k : Bool) (sizes : Sizes) → Inner sizes → IfFine Has (declarator.with_base at t k sizes)
with_base_has at None k no_sizes h = tt
with_base_has at None k (outermost n ns) h = tt
with_base_has at (Some t) k sizes h = of_sizes_has at t k sizes h

declared_has : (s : Scope) (at : Pos) (b : BaseType) (es : List (Option Tree)) → IfFine Has (declared_type s at b es)
declared_has s at b es = then_by Inner Has (declarator.sizes_in s at es) (declarator.with_base at b.type b.constant) (sizes_inner s at es) (λ sizes h. with_base_has at b.type b.constant sizes h)

-- ---- the composite type

abbrev HasSome : Option DeclaredType → Type 0
HasSome None = Unit {0}
HasSome (Some d) = Has d

same_complete : (test : Bool) (a : ObjectType) → HasSome (if test then Some (complete a) else None)
same_complete true a = refl
same_complete false a = tt

fits_has : (e : Option ObjectType) (u t : ObjectType) → HasSome (fits_unknown e u t)
fits_has None u t = tt
fits_has (Some e) u t = same_complete (same_object e u) t

both_true : (a b : Bool) → (a && b) ≡ true → (a ≡ true) × (b ≡ true)
both_true true b e = (refl, e)
both_true false b e = absurd (cc)

lengths_are : (ms ns : List ℕ) → same_lengths ms ns ≡ true → ms ≡ ns
lengths_are [] [] e = refl
lengths_are [] (n ∷ ns) e = absurd (cc)
lengths_are (m ∷ ms) [] e = absurd (cc)
lengths_are (m ∷ ms) (n ∷ ns) e =
    let w = both_true (nat_eq m n) (same_lengths ms ns) e in
    let is : m ≡ n = (let g = w.0 in grind (arith, nat_tests, g)) in ap (λ k. k ∷ ms) is ∙ ap (λ ks. n ∷ ks) (lengths_are ms ns w.1)

lengths_in : (a b : ObjectType) → same_object a b ≡ true → a.lengths ≡ b.lengths
lengths_in a b e =
    lengths_are a.lengths b.lengths (both_true (same_type a.element b.element) (same_lengths a.lengths b.lengths) (both_true (alike a b) (same_truth a.constant b.constant) e).0).1

same_unknown : (a b : ObjectType) (test : Bool) → same_object a b ≡ test → Each b.lengths → HasSome (if test then Some (unknown_size a) else None)
same_unknown a b true e h = subst Each (sym (lengths_in a b e)) h
same_unknown a b false e h = tt

composite_has : (d e : DeclaredType) → Has e → HasSome (composite d e)
composite_has (complete a) (complete b) h = same_complete (same_object a b) a
composite_has (complete a) (unknown_size b) h = fits_has (element_type a) b a
composite_has (unknown_size a) (complete b) h = fits_has (element_type b) a b
composite_has (unknown_size a) (unknown_size b) h = same_unknown a b (same_object a b) refl h

-- ---- the object that a declarator puts into the scope

abbrev Means : Meaning → Type 0
Means (an_object what d) = Has d
Means (an_array_parameter n t) = Unit {0}
Means (a_function f) = Unit {0}
Means (an_enumerator v) = Unit {0}

compatible_has : (at : Pos) (what : Storage) (o : Option DeclaredType) → HasSome o → IfFine Means (linkage.compatible at (linkage.object_with what o))
compatible_has at what None h = tt
compatible_has at what (Some d) h = h

compatible_means : (at : Pos) (m : Meaning) (what : Storage) (d : DeclaredType) → Has d → IfFine Means (linkage.compatible at (linkage.composite_meaning m (an_object what d)))
compatible_means at (an_object w e) what d h = compatible_has at w (composite e d) (composite_has e d h)
compatible_means at (an_array_parameter n t) what d h = tt
compatible_means at (a_function f) what d h = tt
compatible_means at (an_enumerator v) what d h = tt

abbrev Agrees : Agreed → Type 0
Agrees a = Means a.meaning

linked_agrees : (at : Pos) (what : Storage) (d : DeclaredType) (l : Linkage) (state : State) (old : Binding) (test : Verdict (Unit {0})) → Has d
    → IfFine Agrees (both test (linkage.compatible at (linkage.composite_meaning old.meaning (an_object what d))) (λ u m. fine (linkage.agreed m old.linkage (linkage.joined old.state state))))
linked_agrees at what d l state old (broken vs) h = tt
linked_agrees at what d l state old (fine u) h =
    then_by Means Agrees (linkage.compatible at (linkage.composite_meaning old.meaning (an_object what d))) (λ m. fine (linkage.agreed m old.linkage (linkage.joined old.state state)))
    (compatible_means at old.meaning what d h) (λ m p. p)

by_linkage_agrees : (linked : Bool) (at : Pos) (what : Storage) (d : DeclaredType) (l : Linkage) (state : State) (old : Binding) → Has d → IfFine Agrees (linkage.by_linkage linked at (linkage.agreed (an_object what d) l state) old)
by_linkage_agrees true at what d l state old h =
    linked_agrees at what d l state old
    (each (refuse_if (linkage.clash old.linkage l) code.LinkageConflict at) (refuse_if (linkage.is_defined old.state && linkage.is_defined state) code.DefinedTwice at)) h
by_linkage_agrees false at what d l state old h = tt

redeclared_agrees : (at : Pos) (what : Storage) (d : DeclaredType) (l : Linkage) (state : State) (old : Option Binding) → Has d → IfFine Agrees (linkage.redeclared at (linkage.agreed (an_object what d) l state) old)
redeclared_agrees at what d l state None h = h
redeclared_agrees at what d l state (Some old) h = by_linkage_agrees (linkage.is_linked old.linkage) at what d l state old h

-- the type of the name, where a declarator gives it this one
abbrev Gives : DeclaredType → ℕ → Scope → Type 0
Gives d n s = Has (typed.type_of_binding d (lookup s n))

meaning_has : (d : DeclaredType) (m : Meaning) → Has d → Means m → Has (typed.type_of_meaning d m)
meaning_has d (an_object what e) h p = p
meaning_has d (an_array_parameter n t) h p = h
meaning_has d (a_function f) h p = h
meaning_has d (an_enumerator v) h p = h

same_name : (n : ℕ) → nat_eq n n ≡ true
same_name n = grind (arith, nat_tests)

name_gives : (d : DeclaredType) (s : Scope) (n : ℕ) (m : Meaning) (l : Linkage) (state : State) → Has d → Means m → Gives d n (with_name s n m l state)
name_gives d s n m l state h p = rw (same_name n) (meaning_has d m h p)

storage_found : (s : Scope) (state : State) (m : Meaning) (n : ℕ) → lookup (linkage.with_storage s state m) n ≡ lookup s n
storage_found s state (an_object (program.static k) t) n = refl
storage_found s state (an_object (program.automatic k) t) n = refl
storage_found s state (an_object (program.literal k) t) n = refl
storage_found s state (an_object (program.parameter k) t) n = refl
storage_found s state (an_array_parameter k t) n = refl
storage_found s state (a_function f) n = refl
storage_found s state (an_enumerator v) n = refl

agreed_gives : (d : DeclaredType) (s : Scope) (n : ℕ) (a : Agreed) → Has d → Agrees a → Gives d n (linkage.with_storage (with_name s n a.meaning a.linkage a.state) a.state a.meaning)
agreed_gives d s n a h p =
    subst (λ o. Has (typed.type_of_binding d o)) (sym (storage_found (with_name s n a.meaning a.linkage a.state) a.state a.meaning n)) (name_gives d s n a.meaning a.linkage a.state h p)

file_gives : (s : Scope) (at : Pos) (n : ℕ) (what : Storage) (d : DeclaredType) (l : Linkage) (state : State) → Has d
    → IfFine (Gives d n) (linkage.declared_at_file s at n (linkage.agreed (an_object what d) l state))
file_gives s at n what d l state h =
    provided_ok (Gives d n) (linkage.as_built_in at (linkage.agreed (an_object what d) l state) (built_in s n))
    (then_check (linkage.redeclared at (linkage.agreed (an_object what d) l state) (lookup s n)) (linkage.agreed_in s n))
    (then_by Agrees (Gives d n) (linkage.redeclared at (linkage.agreed (an_object what d) l state) (lookup s n)) (linkage.agreed_in s n)
    (redeclared_agrees at what d l state (lookup s n) h) (λ a p. agreed_gives d s n a h p))

block_gives : (s : Scope) (at : Pos) (n : ℕ) (class : StorageClass) (d : DeclaredType) → Has d → IfFine (Gives d n) (typed.block_object s at n class d)
block_gives s at n no_class d h =
    provided_ok (Gives d n) (declarator.fresh s at n) (fine (typed.with_automatic s n d)) (name_gives d s n (an_object (program.automatic (length s.objects)) d) no_linkage defined h h)
block_gives s at n by_static d h =
    provided_ok (Gives d n) (declarator.fresh s at n) (fine (typed.with_static s n d)) (name_gives d s n (an_object (program.static (length s.statics)) d) no_linkage defined h h)
block_gives s at n by_extern d h = tt

object_gives : (level : ℕ) (s : Scope) (at : Pos) (n : ℕ) (class : StorageClass) (d : DeclaredType) (initialised : Bool) → Has d → IfFine (Gives d n) (typed.object_at level s at n class d initialised)
object_gives zero s at n class d initialised h =
    file_gives s at n (linkage.storage_before s (lookup s n)) d (linkage.linkage_of_object class (lookup s n)) (linkage.state_of_object class initialised) h
object_gives (suc level) s at n class d initialised h = block_gives s at n class d h

-- the type of an object whose declarator has begun
pub has_begun : (s behind inner : Scope) (class : StorageClass) (b : BaseType) (at : Pos) (n level : ℕ) (sizes : List (Option Tree)) (initialised : Bool) (d copy last : DeclaredType) (o : Option Binding)
    → declared_type s at b sizes ≡ fine d → copy ≡ d → typed.object_at level behind at n class copy initialised ≡ fine inner → o ≡ lookup inner n → last ≡ typed.type_of_binding d o → has_elements last ≡ true
has_begun s behind inner class b at n level sizes initialised d copy last o e same put found is =
    let h : Has d = subst (IfFine Has) e (declared_has s at b sizes) in
    let g : Gives copy n inner = subst (IfFine (Gives copy n)) put (object_gives level behind at n class copy initialised (subst Has (sym same) h)) in
    subst Has (sym is) (subst (λ x. Has (typed.type_of_binding x o)) same (subst (λ x. Has (typed.type_of_binding copy x)) (sym found) g))

-- ---- the array that an initialiser completes

positive_each : (ns : List ℕ) → Each ns → Positive ns
positive_each [] h = tt
positive_each (zero ∷ ns) h = absurd (cc)
positive_each (suc n ∷ ns) h = (omega arith, positive_each ns (both_true (nat_lt 0 (suc n)) (list_all (nat_lt 0) ns) h).1)

pub elements_positive : (d : DeclaredType) (t : ObjectType) → d ≡ unknown_size t → has_elements d ≡ true → Positive t.lengths
elements_positive d t e h = positive_each t.lengths (subst Has e h)

-- the number of elements of an array within the limit
pub length_fits : (n : ℕ) (t : ObjectType) (bytes : ℕ) → Positive t.lengths → bytes ≡ capped (size_of_object (array_of n t)) → bytes ≤ 1048576 → n < 2 ^ 32
length_fits zero t bytes p e h = omega arith
length_fits (suc n) t bytes p e h = let q = lengths_within (array_of (suc n) t) bytes (omega arith, p) e h 0 0 (omega arith) in omega (arith, q)
