-- Declarations in a block are typed (6.7), and their names denote entities of the program.
use Rattle.std.proofs.Common.{◌≡◌, ◌<◌, ℕ, zero, suc, Bool, true, false, not, nat_eq, List, [], ◌∷◌, ◌++◌, length, Option, Some, None, refl, sym, ap, ◌∙◌, subst, ◌⊎◌, inl, inr, arith}
use Rattle.std.specs.Prelude.{slice_get, if◌then◌else◌}
use Rattle.std.proofs.lemmas.Bool.Decides.{nat_tests}
use Rattle.srcset.specs.declared.code.Code.TheVariants as code
use Rattle.srcset.specs.declared.refusal.Pos.{Pos}
use Rattle.ctypes.specs.Types.{truth}
use Rattle.tree.specs.Tree.{Tree, Init, ParameterTree, ItemTree, object, function, DeclarationTree, declared, assertion}
use Rattle.typing_spec.specs.Types.{ObjectType, DeclaredType, complete, unknown_size, elements_in, array_of, same_object}
use Rattle.typing_spec.specs.Program as typed
use Rattle.typing_spec.specs.Program.{Storage, Static}
use Rattle.typing_spec.specs.Verdict.{Verdict, fine, both, then_check, refuse_if, IfFine}
use Rattle.typing_spec.specs.Scope.{Scope, StaticObject, Binding, an_object, no_linkage, defined, lookup, with_name, with_literals, past, strings}
use Rattle.typing_spec.specs.Specifiers.{BaseType}
use Rattle.typing_spec.specs.Expressions.{constant_value}
use Rattle.typing_spec.specs.Declarators.{declared_type, strings_in_sizes, fresh}
use Rattle.typing_spec.specs.Initialisers.{strings_of, past_init, initialiser, wanted, an_array}
use Rattle.typing_spec.specs.Linkage.{StorageClass, no_class, by_extern, by_static, compatible, object_with, put_static, completed}
use Rattle.typing_spec.specs.Declarations as rules
use Rattle.typing_spec.specs.Declarations.{Begun, Effects, no_effects, Declared, before_others, begun, finished, finished_with, initialised, items_typed, declaration_typed, with_automatic, with_static, put_object}
use Rattle.lower_wf.proofs.Verdicts.{then_any, then_some, both_any, part, more_of}
use Rattle.lower_wf.proofs.Ground.{Setting, Sized, SizedType, Names}
use Rattle.lower_wf.proofs.Typings.{get_last, product_positive, sized_part}
use Rattle.lower_wf.proofs.Initials.{InitGood, initialiser_good, open_good}
use Rattle.lower_wf.proofs.Scopes.{Grown, onwards, literals_grow, extends_none, extends_by, IsWider, wider_fits, Ends}
use Rattle.lower_wf.proofs.Specifiers.{Leads, leads_literals, specified_for_more, declared_good}
use Rattle.lower_wf.proofs.Items.{ItemGood, DeclaredGood, after_leads, nothing_done, known, known_more, open_more, declare_typed, define_typed, object_end, one_longer, object_fits, row_fits, static_verdict, static_complete, static_open, LengthGood, length_good}

-- a block's level
abbrev pub Deep : ℕ → Type 0
Deep level = level ≡ zero → ⊥

same_name : (n : ℕ) (b : Binding) (o : Option Binding) → (if nat_eq n n then Some b else o) ≡ Some b
same_name n b o = let e : nat_eq n n ≡ true = grind (arith, nat_tests) in ap (λ c. if c then Some b else o) e

put_last : (xs : List ObjectType) (y z : ObjectType) → put_object (xs ++ y ∷ []) (length xs) z ≡ xs ++ z ∷ []
put_last [] y z = refl
put_last (x ∷ xs) y z = ap (λ l. x ∷ l) (put_last xs y z)

put_last_static : (xs : List StaticObject) (y z : StaticObject) → put_static (xs ++ y ∷ []) (length xs) z ≡ xs ++ z ∷ []
put_last_static [] y z = refl
put_last_static (x ∷ xs) y z = ap (λ l. x ∷ l) (put_last_static xs y z)

-- ---- the object that has begun: an automatic or a static one

abbrev automatic_begun : Scope → Pos → ℕ → StorageClass → Option Init → DeclaredType → Begun
automatic_begun s at n class init t = record { at = at; name = n; class = class; type = t; what = typed.automatic (length s.objects); init = init; scope = with_automatic s n t }

abbrev static_begun : Scope → Pos → ℕ → StorageClass → Option Init → DeclaredType → Begun
static_begun s at n class init t = record { at = at; name = n; class = class; type = t; what = typed.static (length s.statics); init = init; scope = with_static s n t }

abbrev IsBegun : Scope → Pos → ℕ → StorageClass → Option Init → Begun → Type 0
IsBegun s at n class init o = (t : DeclaredType) × SizedType t × ((o ≡ automatic_begun s at n class init t) ⊎ (o ≡ static_begun s at n class init t))

abbrev made : Pos → ℕ → StorageClass → Option Init → DeclaredType → Scope → Option Binding → Begun
made at n class init t inner b = record { at = at; name = n; class = class; type = rules.type_of_binding t b; what = rules.storage_of b; init = init; scope = inner }

abbrev IsEither : Scope → ℕ → DeclaredType → Scope → Type 0
IsEither s n t inner = (inner ≡ with_automatic s n t) ⊎ (inner ≡ with_static s n t)

begun_as : (s : Scope) (at : Pos) (n : ℕ) (class : StorageClass) (init : Option Init) (t : DeclaredType) → SizedType t → (inner : Scope) → IsEither s n t inner → IsBegun s at n class init (made at n class init t inner (lookup inner n))
begun_as s at n class init t z inner (inl e) =
    (t, z, inl (ap (λ x. made at n class init t x (lookup x n)) e ∙ ap (made at n class init t (with_automatic s n t)) (same_name n (record { name = n; level = s.level; meaning = an_object (typed.automatic (length s.objects)) t; linkage = no_linkage; state = defined }) _)))
begun_as s at n class init t z inner (inr e) =
    (t, z, inr (ap (λ x. made at n class init t x (lookup x n)) e ∙ ap (made at n class init t (with_static s n t)) (same_name n (record { name = n; level = s.level; meaning = an_object (typed.static (length s.statics)) t; linkage = no_linkage; state = defined }) _)))

either_is : (level : ℕ) → Deep level → (s : Scope) (at : Pos) (n : ℕ) (class : StorageClass) (t : DeclaredType) (b : Bool) → IfFine (IsEither s n t) (rules.object_at level s at n class t b)
either_is zero d s at n class t b = absurd (d refl)
either_is (suc level) d s at n no_class t b = part (IsEither s n t) (fresh s at n) (fine (with_automatic s n t)) (inl refl)
either_is (suc level) d s at n by_static t b = part (IsEither s n t) (fresh s at n) (fine (with_static s n t)) (inr refl)
either_is (suc level) d s at n by_extern t b = tt

begun_good : (s : Scope) → Deep s.level → (class : StorageClass) (b : BaseType) (at : Pos) (n : ℕ) (sizes : List (Option Tree)) (init : Option Init) → IfFine (IsBegun (with_literals s (strings_in_sizes sizes)) at n class init) (begun s class b at n sizes init)
begun_good s d class b at n sizes init =
    let u = with_literals s (strings_in_sizes sizes) in
    then_some SizedType (IsBegun u at n class init) (declared_type s at b sizes) _ (declared_good s at b sizes) (λ t z.
    then_some (IsEither u n t) (IsBegun u at n class init) (rules.object_at s.level u at n class t (rules.has_init init)) _ (either_is s.level d u at n class t (rules.has_init init)) (λ inner e. begun_as u at n class init t z inner e))

-- ---- an array whose size its initialiser gives

abbrev sized_scope : Scope → ℕ → Storage → ObjectType → ℕ → Scope
sized_scope s n what t m = rules.with_storage_type (with_name s n (an_object what (complete (array_of m t))) no_linkage defined) (an_object what (complete (array_of m t)))

sized_as : (s : Scope) (at : Pos) (n : ℕ) (what : Storage) (t : ObjectType) (m : ℕ) (c : Bool) →
    IfFine (λ u. u ≡ sized_scope s n what t m) (then_check (compatible at (object_with what (if c then Some (complete (array_of m t)) else None))) (λ x. fine (rules.with_storage_type (with_name s n x no_linkage defined) x)))
sized_as s at n what t m true = refl
sized_as s at n what t m false = tt

abbrev binding_of : Scope → ℕ → Storage → ObjectType → Binding
binding_of s n what t = record { name = n; level = s.level; meaning = an_object what (unknown_size t); linkage = no_linkage; state = defined }

retyped_as : (s : Scope) (at : Pos) (n : ℕ) (what : Storage) (t : ObjectType) (m level : ℕ) (o : Option Binding) → o ≡ Some (record { name = n; level = level; meaning = an_object what (unknown_size t); linkage = no_linkage; state = defined }) →
    IfFine (λ u. u ≡ sized_scope s n what t m) (rules.retyped s at (complete (array_of m t)) n o)
retyped_as s at n what t m level o e =
    subst (λ x. IfFine (λ u. u ≡ sized_scope s n what t m) (rules.retyped s at (complete (array_of m t)) n x)) (sym e) (sized_as s at n what t m (same_object t t))

abbrev SizedAs : Scope → ℕ → Storage → ObjectType → ℕ → Scope → Type 0
SizedAs s n what t m u = Sized (array_of m t) × (u ≡ sized_scope s n what t m)

sized_good : (s : Scope) (at : Pos) (n : ℕ) (what : Storage) (t : ObjectType) (m level : ℕ) → lookup s n ≡ Some (record { name = n; level = level; meaning = an_object what (unknown_size t); linkage = no_linkage; state = defined }) → 0 < m → Sized t →
    IfFine (SizedAs s n what t m) (rules.sized s at n t m)
sized_good s at n what t m level e h z =
    sized_part (SizedAs s n what t m) at (array_of m t) (rules.retyped s at (complete (array_of m t)) n (lookup s n)) (product_positive m (elements_in t.lengths) h z.0) (λ y.
    more_of (λ u. u ≡ sized_scope s n what t m) (SizedAs s n what t m) (rules.retyped s at (complete (array_of m t)) n (lookup s n)) (λ u k. (y, k)) (retyped_as s at n what t m level (lookup s n) e))

refused_unknown : (level : ℕ) → Deep level → (class : StorageClass) (at : Pos) (s : Scope) → IfFine (λ u. ⊥) (rules.left_unknown level class at s)
refused_unknown zero d class at s = absurd (d refl)
refused_unknown (suc level) d class at s = tt

module _ (W : Setting) where
  -- ---- automatic objects

  abbrev auto : Scope → ℕ → ObjectType → Scope
  auto s n t = with_automatic s n (complete t)

  auto_grows : (s : Scope) (n : ℕ) (t : DeclaredType) → Grown s (with_automatic s n t)
  auto_grows s n t = record { texts = refl; definitions = refl; level = refl; literals = extends_none s.literals; statics = extends_none s.statics; objects = extends_by s.objects (completed t ∷ []) }

  auto_names : (s : Scope) (n : ℕ) (t : ObjectType) → Sized t → Names W s → slice_get W.function.objects (length s.objects) ≡ Some t → Names W (auto s n t)
  auto_names s n t z N e = (N.0, N.1, ((object_fits W t (slice_get W.function.objects (length s.objects)) e, z), N.2))

  declared_only : (s : Scope) (n : ℕ) (t : ObjectType) → Sized t → ItemGood W s (auto s n t) (record { statements = typed.declare (length s.objects) ∷ []; initial = [] })
  declared_only s n t z = (
    auto_grows s n (complete t),
    λ N E. (
      auto_names s n t z N (object_end W s (auto s n t) t refl E),
      λ lo hi l h. (declare_typed W lo hi (length s.objects) l (omega (arith, h, one_longer W s (auto s n t) t refl)), tt),
      tt,
    ),
  )

  auto_initialised : (s : Scope) (at : Pos) (n : ℕ) (t : ObjectType) (i : Init) → Sized t →
      IfFine (ItemGood W s (past_init (auto s n t) i)) (then_check (initialiser (auto s n t) at t.element (wanted t.lengths) true i) (rules.definition_of (length s.objects)))
  auto_initialised s at n t i z =
      let a = auto s n t in
      let u = past_init a i in
      let named = λ (N : Names W s) (E : Ends W u). auto_names s n t z N (object_end W s u t refl E) in
      known W s u (then_check (initialiser a at t.element (wanted t.lengths) true i) (rules.definition_of (length s.objects))) (onwards s a u (auto_grows s n (complete t)) (literals_grow a (strings_of i))) named (λ N E.
      then_some (InitGood W t.element t.lengths) _ (initialiser a at t.element (wanted t.lengths) true i) (rules.definition_of (length s.objects)) (initialiser_good W a at t.element t.lengths true i (named N E) E.0) (λ x g.
      (λ lo hi l h. (define_typed W lo hi (length s.objects) t x (object_end W s u t refl E) l (omega (arith, h, one_longer W s u t refl)) g, tt), tt)))

  abbrev auto_sized : Scope → ℕ → ObjectType → Init → ℕ → Scope
  auto_sized s n t i m = sized_scope (past_init (with_automatic s n (unknown_size t)) i) n (typed.automatic (length s.objects)) t m

  sized_objects : (s : Scope) (n : ℕ) (t : ObjectType) (i : Init) (m : ℕ) → (auto_sized s n t i m).objects ≡ s.objects ++ array_of m t ∷ []
  sized_objects s n t i m = put_last s.objects (array_of 1 t) (array_of m t)

  sized_grows : (s : Scope) (n : ℕ) (t : ObjectType) (i : Init) (m : ℕ) → Grown s (auto_sized s n t i m)
  sized_grows s n t i m = record {
    texts = refl;
    definitions = refl;
    level = refl;
    literals = extends_by s.literals (strings_of i);
    statics = extends_none s.statics;
    objects = record { more = array_of m t ∷ []; is = sized_objects s n t i m };
  }

  auto_open : (s : Scope) (at : Pos) (n : ℕ) (t : ObjectType) (i : Init) (m : ℕ) → Sized t → Sized (array_of m t) → LengthGood (with_automatic s n (unknown_size t)) t i m →
      IfFine (ItemGood W s (auto_sized s n t i m)) (then_check (initialiser (with_automatic s n (unknown_size t)) at t.element (an_array None t.lengths) true i) (rules.definition_of (length s.objects)))
  auto_open s at n t i m z y r =
      let a = with_automatic s n (unknown_size t) in
      let u = auto_sized s n t i m in
      let k = length s.objects in
      let got = λ (E : Ends W u). object_end W s u (array_of m t) (sized_objects s n t i m) E in
      let inner = λ (N : Names W s) (E : Ends W u). (let old : Names W a = (N.0, N.1, ((row_fits W m t (slice_get W.function.objects k) (got E), z), N.2)) in old) in
      known W s u (then_check (initialiser a at t.element (an_array None t.lengths) true i) (rules.definition_of k)) (sized_grows s n t i m)
      (λ N E. let old = inner N E in (old.0, old.1, ((object_fits W (array_of m t) (slice_get W.function.objects k) (got E), y), old.2))) (λ N E.
      then_some (InitGood W t.element (m ∷ t.lengths)) _ (initialiser a at t.element (an_array None t.lengths) true i) (rules.definition_of k) (open_good W a at t.element m t.lengths true i (inner N E) E.0 r.0) (λ x g.
      (λ lo hi l h. (define_typed W lo hi k (array_of m t) x (got E) l (omega (arith, h, one_longer W s u (array_of m t) (sized_objects s n t i m))) g, tt), tt)))

  -- ---- objects with static storage

  static_grows : (s : Scope) (n : ℕ) (t : DeclaredType) → Grown s (with_static s n t)
  static_grows s n t = record { texts = refl; definitions = refl; level = refl; literals = extends_none s.literals; statics = extends_by s.statics (record { type = completed t; defined = true } ∷ []); objects = extends_none s.objects }

  static_end : (s u : Scope) (t : ObjectType) → u.statics ≡ s.statics ++ record { type = t; defined = true } ∷ [] → Ends W u → IsWider t (slice_get W.program.statics (length s.statics))
  static_end s u t e E =
      let o : StaticObject = record { type = t; defined = true } in E.1 (length s.statics) o (subst (λ l. slice_get l (length s.statics) ≡ Some o) (sym e) (get_last s.statics o))

  abbrev stat : Scope → ℕ → ObjectType → Scope
  stat s n t = with_static s n (complete t)

  static_names : (s : Scope) (n : ℕ) (t : ObjectType) → Sized t → Names W s → IsWider t (slice_get W.program.statics (length s.statics)) → Names W (stat s n t)
  static_names s n t z N e = (N.0, N.1, ((wider_fits t (slice_get W.program.statics (length s.statics)) e, z), N.2))

  static_only : (s : Scope) (n : ℕ) (t : ObjectType) → Sized t → ItemGood W s (stat s n t) no_effects
  static_only s n t z = (static_grows s n (complete t), λ N E. (static_names s n t z N (static_end s (stat s n t) t refl E), λ lo hi l h. tt, tt))

  abbrev values_of : Scope → Pos → DeclaredType → ℕ → Init → Verdict Effects
  values_of s at t n i = static_verdict W s at t n i

  static_initialised : (s : Scope) (at : Pos) (n : ℕ) (t : ObjectType) (i : Init) → Sized t → IfFine (ItemGood W s (past_init (stat s n t) i)) (values_of (stat s n t) at (complete t) (length s.statics) i)
  static_initialised s at n t i z =
      let a = stat s n t in
      let u = past_init a i in
      let named = λ (N : Names W s) (E : Ends W u). static_names s n t z N (static_end s u t refl E) in
      known W s u (values_of a at (complete t) (length s.statics) i) (onwards s a u (static_grows s n (complete t)) (literals_grow a (strings_of i))) named (λ N E.
      more_of _ _ (values_of a at (complete t) (length s.statics) i) (λ e k. (k.0 (length s.objects) (length u.objects), k.1)) (static_complete W a at t (length s.statics) i (named N E) E.0 (static_end s u t refl E)))

  abbrev stat_sized : Scope → ℕ → ObjectType → Init → ℕ → Scope
  stat_sized s n t i m = sized_scope (past_init (with_static s n (unknown_size t)) i) n (typed.static (length s.statics)) t m

  sized_statics : (s : Scope) (n : ℕ) (t : ObjectType) (i : Init) (m : ℕ) → (stat_sized s n t i m).statics ≡ s.statics ++ record { type = array_of m t; defined = true } ∷ []
  sized_statics s n t i m = put_last_static s.statics (record { type = array_of 1 t; defined = true }) (record { type = array_of m t; defined = true })

  stat_sized_grows : (s : Scope) (n : ℕ) (t : ObjectType) (i : Init) (m : ℕ) → Grown s (stat_sized s n t i m)
  stat_sized_grows s n t i m = record {
    texts = refl;
    definitions = refl;
    level = refl;
    literals = extends_by s.literals (strings_of i);
    statics = record { more = record { type = array_of m t; defined = true } ∷ []; is = sized_statics s n t i m };
    objects = extends_none s.objects;
  }

  static_sized : (s : Scope) (at : Pos) (n : ℕ) (t : ObjectType) (i : Init) (m : ℕ) → Sized t → Sized (array_of m t) → LengthGood (with_static s n (unknown_size t)) t i m →
      IfFine (ItemGood W s (stat_sized s n t i m)) (values_of (with_static s n (unknown_size t)) at (unknown_size t) (length s.statics) i)
  static_sized s at n t i m z y r =
      let a = with_static s n (unknown_size t) in
      let u = stat_sized s n t i m in
      let k = length s.statics in
      let got = λ (E : Ends W u). static_end s u (array_of m t) (sized_statics s n t i m) E in
      let inner = λ (N : Names W s) (E : Ends W u). (let old : Names W a = (N.0, N.1, ((wider_fits (array_of m t) (slice_get W.program.statics k) (got E), z), N.2)) in old) in
      known W s u (values_of a at (unknown_size t) k i) (stat_sized_grows s n t i m)
      (λ N E. let old = inner N E in (old.0, old.1, ((wider_fits (array_of m t) (slice_get W.program.statics k) (got E), y), old.2))) (λ N E.
      more_of _ _ (values_of a at (unknown_size t) k i) (λ e q. (q.0 (length s.objects) (length u.objects), q.1)) (static_open W a at t m k i (inner N E) E.0 r.0 (got E)))

  -- ---- declarators in order

  abbrev going : StorageClass → BaseType → List ItemTree → Scope → Verdict Declared
  going class b is u = items_typed u class b is

  abbrev one_item : StorageClass → BaseType → List ItemTree → Begun → Verdict Declared
  one_item class b is o = both (initialised o) (then_check (finished o) (going class b is)) before_others

  abbrev M : Scope → ObjectType → Init → ℕ → Type 0
  M a t i m = LengthGood a t i m × Sized (array_of m t)

  sized_behind : (a : Scope) (at : Pos) (n : ℕ) (what : Storage) (t : ObjectType) (i : Init) (level : ℕ) → lookup a n ≡ Some (record { name = n; level = level; meaning = an_object what (unknown_size t); linkage = no_linkage; state = defined }) → Sized t →
      IfFine (λ u. (m : ℕ) × M a t i m × (u ≡ sized_scope (past_init a i) n what t m)) (then_check (rules.length_from a at t i) (rules.sized (past_init a i) at n t))
  sized_behind a at n what t i level e z =
      then_some (LengthGood a t i) _ (rules.length_from a at t i) (rules.sized (past_init a i) at n t) (length_good a at t i) (λ m r.
      more_of (SizedAs (past_init a i) n what t m) _ (rules.sized (past_init a i) at n t m) (λ u k. (m, (r, k.0), k.1)) (sized_good (past_init a i) at n what t m level e r.1 z))

  module _ (class : StorageClass) (b : BaseType) (is : List ItemTree) (rest : (u : Scope) → Deep u.level → IfFine (DeclaredGood W u) (items_typed u class b is)) where
    never : (s : Scope) (v : Verdict Effects) (level : ℕ) → Deep level → (at : Pos) (x : Scope) → IfFine (DeclaredGood W s) (both v (then_check (rules.left_unknown level class at x) (going class b is)) before_others)
    never s v level d at x =
        both_any (λ y. ⊥) (DeclaredGood W s) v (then_check (rules.left_unknown level class at x) (going class b is)) before_others
        (then_some (λ u. ⊥) (λ y. ⊥) (rules.left_unknown level class at x) (going class b is) (refused_unknown level d class at x) (λ u z. absurd z)) (λ e y z. absurd z)

    automatic_item : (s : Scope) → Deep s.level → (at : Pos) (n : ℕ) (init : Option Init) (t : DeclaredType) → SizedType t → IfFine (DeclaredGood W s) (one_item class b is (automatic_begun s at n class init t))
    automatic_item s d at n None (complete t) z =
        let e : Effects = record { statements = typed.declare (length s.objects) ∷ []; initial = [] } in known_more W s (auto s n t) (fine e) (items_typed (auto s n t) class b is) (declared_only s n t z) (rest (auto s n t) d)
    automatic_item s d at n (Some i) (complete t) z = let u = past_init (auto s n t) i in known_more W s u (initialised (automatic_begun s at n class (Some i) (complete t))) (items_typed u class b is) (auto_initialised s at n t i z) (rest u d)
    automatic_item s d at n None (unknown_size t) z = never s (initialised (automatic_begun s at n class None (unknown_size t))) s.level d at (with_automatic s n (unknown_size t))
    automatic_item s d at n (Some i) (unknown_size t) z =
        let a = with_automatic s n (unknown_size t) in
        open_more W s (auto_sized s n t i) (M a t i) (initialised (automatic_begun s at n class (Some i) (unknown_size t))) (then_check (rules.length_from a at t i) (rules.sized (past_init a i) at n t)) (going class b is) (λ m r. auto_open s at n t i m z r.1 r.0)
        (sized_behind a at n (typed.automatic (length s.objects)) t i s.level (same_name n (binding_of s n (typed.automatic (length s.objects)) t) _) z)
        (λ u m e. rest u (subst (λ x. Deep x.level) (sym e) d))

    static_item : (s : Scope) → Deep s.level → (at : Pos) (n : ℕ) (init : Option Init) (t : DeclaredType) → SizedType t → IfFine (DeclaredGood W s) (one_item class b is (static_begun s at n class init t))
    static_item s d at n None (complete t) z = known_more W s (stat s n t) (fine no_effects) (items_typed (stat s n t) class b is) (static_only s n t z) (rest (stat s n t) d)
    static_item s d at n (Some i) (complete t) z = let u = past_init (stat s n t) i in known_more W s u (initialised (static_begun s at n class (Some i) (complete t))) (items_typed u class b is) (static_initialised s at n t i z) (rest u d)
    static_item s d at n None (unknown_size t) z = never s (initialised (static_begun s at n class None (unknown_size t))) s.level d at (with_static s n (unknown_size t))
    static_item s d at n (Some i) (unknown_size t) z =
        let a = with_static s n (unknown_size t) in
        open_more W s (stat_sized s n t i) (M a t i) (initialised (static_begun s at n class (Some i) (unknown_size t))) (then_check (rules.length_from a at t i) (rules.sized (past_init a i) at n t)) (going class b is) (λ m r. static_sized s at n t i m z r.1 r.0)
        (sized_behind a at n (typed.static (length s.statics)) t i s.level (same_name n (binding_of s n (typed.static (length s.statics)) t) _) z)
        (λ u m e. rest u (subst (λ x. Deep x.level) (sym e) d))

    begun_item : (s : Scope) → Deep s.level → (at : Pos) (n : ℕ) (init : Option Init) (o : Begun) → IsBegun s at n class init o → IfFine (DeclaredGood W s) (one_item class b is o)
    begun_item s d at n init o h = by h.2
      where
        by : (o ≡ automatic_begun s at n class init h.0) ⊎ (o ≡ static_begun s at n class init h.0) → IfFine (DeclaredGood W s) (one_item class b is o)
        by (inl e) = subst (λ x. IfFine (DeclaredGood W s) (one_item class b is x)) (sym e) (automatic_item s d at n init h.0 h.1)
        by (inr e) = subst (λ x. IfFine (DeclaredGood W s) (one_item class b is x)) (sym e) (static_item s d at n init h.0 h.1)

    object_item : (s : Scope) → Deep s.level → (at : Pos) (n : ℕ) (sizes : List (Option Tree)) (init : Option Init) → IfFine (DeclaredGood W s) (then_check (begun s class b at n sizes init) (one_item class b is))
    object_item s d at n sizes init =
        let u = with_literals s (strings_in_sizes sizes) in
        then_some (IsBegun u at n class init) (DeclaredGood W s) (begun s class b at n sizes init) (one_item class b is) (begun_good s d class b at n sizes init) (λ o h.
        more_of (DeclaredGood W u) (DeclaredGood W s) (one_item class b is o) (λ x g. after_leads W s u x.scope x.effects (leads_literals W s (strings_in_sizes sizes)) g) (begun_item u d at n init o h))

  no_function : (level : ℕ) → Deep level → (P : Declared → Type 0) (s : Scope) (class : StorageClass) (b : BaseType) (at : Pos) (n : ℕ) (ps : List ParameterTree) (go : Scope → Verdict Declared) → IfFine P (then_check (rules.function_at level s class b at n ps) go)
  no_function zero d P s class b at n ps go = absurd (d refl)
  no_function (suc level) d P s class b at n ps go = tt

  items_good : (class : StorageClass) (b : BaseType) (is : List ItemTree) (s : Scope) → Deep s.level → IfFine (DeclaredGood W s) (items_typed s class b is)
  items_good class b [] s d = nothing_done W s
  items_good class b (object at n sizes init ∷ is) s d = object_item class b is (λ u k. items_good class b is u k) s d at n sizes init
  items_good class b (function at n ps ∷ is) s d = no_function s.level d (DeclaredGood W s) s class b at n ps (going class b is)

  asserted_more : (s : Scope) (at : Pos) (e : Tree) → IfFine (Leads W s) (rules.asserted s at e)
  asserted_more s at e = then_any (Leads W s) (constant_value s e) _ (λ c. part (Leads W s) (refuse_if (not (truth c.v)) code.StaticAssertionFailed at) (fine (past s e)) (leads_literals W s (strings e)))

  pub declaration_good : (s : Scope) → Deep s.level → (t : DeclarationTree) → IfFine (DeclaredGood W s) (declaration_typed s t)
  declaration_good s d (declared at ss items) =
      then_some (λ x. Leads W s x.scope) (DeclaredGood W s) (rules.specified_for s at ss items) (λ x. items_typed x.scope x.class x.base items) (specified_for_more W s at ss items) (λ x g.
      more_of (DeclaredGood W x.scope) (DeclaredGood W s) (items_typed x.scope x.class x.base items) (λ y h. after_leads W s x.scope y.scope y.effects g h) (items_good x.class x.base items x.scope (λ e. d (sym g.0.level ∙ e))))
  declaration_good s d (assertion at e text) =
      then_some (Leads W s) (DeclaredGood W s) (rules.asserted s at e) (λ u. fine (record { scope = u; effects = no_effects })) (asserted_more s at e) (λ u g. after_leads W s u u no_effects g (nothing_done W u))
