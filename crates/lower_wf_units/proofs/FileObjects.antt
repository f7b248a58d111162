-- Objects declared at file scope (6.9.2): their names denote objects of the program, and there is room for their first values.
use Rattle.std.proofs.Common.{◌≡◌, ◌<◌, ℕ, zero, suc, Bool, true, false, not, ◌&&◌, List, [], length, Option, Some, None, refl, sym, ap, ◌∙◌, subst}
use Rattle.std.specs.Prelude.{slice_get, if◌then◌else◌}
use Rattle.srcset.specs.declared.code.Code.TheVariants as code
use Rattle.srcset.specs.declared.refusal.Pos.{Pos}
use Rattle.tree.specs.Tree.{Tree, Init, ItemTree}
use Rattle.typing_spec.specs.Types.{ObjectType, DeclaredType, complete, unknown_size, elements_in, same_object, composite, array_of}
use Rattle.typing_spec.specs.Program as typed
use Rattle.typing_spec.specs.Program.{Storage, Function, Static, Program}
use Rattle.typing_spec.specs.Verdict.{Verdict, fine, both, then_check, refuse_if, each, IfFine}
use Rattle.typing_spec.specs.Scope.{Scope, Binding, Meaning, an_object, an_array_parameter, a_function, an_enumerator, Linkage, State, lookup}
use Rattle.typing_spec.specs.Scope.{with_name, with_literals, built_in}
use Rattle.typing_spec.specs.Specifiers.{BaseType}
use Rattle.typing_spec.specs.Declarators.{declared_type, strings_in_sizes}
use Rattle.typing_spec.specs.Initialisers.{strings_of, past_init}
use Rattle.typing_spec.specs.Linkage as linkage
use Rattle.typing_spec.specs.Linkage.{StorageClass, no_class, by_extern, by_static, Agreed, is_linked, is_mentioned, redeclared, as_built_in}
use Rattle.typing_spec.specs.Linkage.{compatible, object_with, composite_meaning, storage_before, file_object, completed}
use Rattle.typing_spec.specs.Declarations as rules
use Rattle.typing_spec.specs.Declarations.{Begun, Initial, Effects, no_effects, Declared, before_others, begun, finished, initialised, items_typed}
use Rattle.lower_wf.specs.Settled.{Setting, Sized, SizedType}
use Rattle.lower_wf.proofs.Verdicts.{both_any, then_some, both_some, part, more_of, delayed}
use Rattle.lower_wf.proofs.Typings.{product_positive, sized_part}
use Rattle.lower_wf.proofs.Specifiers.{declared_good}
use Rattle.lower_wf.proofs.Items.{NoneDone, static_complete, static_open, LengthGood, length_good}
use Rattle.lower_wf_units.proofs.Files.{Stands, IsStatic, IsOfFile, IsFile, in_function, Final, Named, Reaches}
use Rattle.lower_wf_units.proofs.FileSteps.{reaches_self, reaches_on, reaches_literals}
use Rattle.lower_wf_units.proofs.FileBindings.{newest, declared_fits, longer_array, IfTyped, composite_good}
use Rattle.lower_wf_units.proofs.FileStorage.{MayStand, stands_new, stands_again, object_of, put_scope, put_binding, put_is_file, put_onward}

-- ---- the result of a declaration: an object's number and type

abbrev MayMean : Scope → ℕ → Meaning → Type 0
MayMean s n m = (i : ℕ) × (t : DeclaredType) × (m ≡ an_object (typed.static i) t) × MayStand s n i t

abbrev Placed : Scope → ℕ → Scope → Type 0
Placed s n u =
    (i : ℕ) × (t : DeclaredType) × (l : Linkage) × (state : State) × (d : Bool) × MayStand s n i t × (u ≡ put_scope s n i t l state d)

abbrev AgreedGood : Scope → ℕ → Agreed → Type 0
AgreedGood s n a = MayMean s n a.meaning

module _ (s : Scope) (F : IsFile s) (at : Pos) (n : ℕ) where
  composite_means : (i : ℕ) (old : DeclaredType) (o : Option DeclaredType) → Stands s n (an_object (typed.static i) old) → IfTyped old o →
      IfFine (MayMean s n) (compatible at (object_with (typed.static i) o))
  composite_means i old None h k = tt
  composite_means i old (Some t) h k = (i, t, refl, stands_again s F n i old t h k.0 k.1)

  object_again : (what : Storage) (old t : DeclaredType) → Stands s n (an_object what old) → IsStatic s what old → SizedType old → SizedType t →
      IfFine (MayMean s n) (compatible at (object_with what (composite old t)))
  object_again (typed.static i) old t h g y z = composite_means i old (composite old t) h (composite_good old t y z)
  object_again (typed.literal i) old t h g y z = absurd g
  object_again (typed.automatic i) old t h g y z = absurd g
  object_again (typed.parameter i) old t h g y z = absurd g

  meant_again : (m : Meaning) (t : DeclaredType) → Stands s n m → IsOfFile s n m → SizedType t →
      IfFine (MayMean s n) (compatible at (composite_meaning m (an_object (linkage.storage_of_meaning s m) t)))
  meant_again (an_object what old) t h g z = object_again what old t h g.0 g.1 z
  meant_again (an_array_parameter k u) t h g z = absurd g
  meant_again (a_function f) t h g z = tt
  meant_again (an_enumerator v) t h g z = tt

  linked_again : (c : Bool) (l : Linkage) (state : State) (t : DeclaredType) (b : Binding) → lookup s n ≡ Some b → SizedType t →
      IfFine (AgreedGood s n) (linkage.by_linkage c at (linkage.agreed (an_object (linkage.storage_of_meaning s b.meaning) t) l state) b)
  linked_again false l state t b e z = tt
  linked_again true l state t b e z =
      let m : Meaning = an_object (linkage.storage_of_meaning s b.meaning) t in
      both_any (MayMean s n) (AgreedGood s n)
      (each (refuse_if (linkage.clash b.linkage l) code.LinkageConflict at)
      (refuse_if (linkage.is_defined b.state && linkage.is_defined state) code.DefinedTwice at))
      (compatible at (composite_meaning b.meaning m)) (λ u x. fine (linkage.agreed x b.linkage (linkage.joined b.state state)))
      (meant_again b.meaning t (b, e, refl) (F.names n b.meaning (b, e, refl)) z) (λ u x h. h)

  declared_again : (o : Option Binding) (l : Linkage) (state : State) (t : DeclaredType) → lookup s n ≡ o → SizedType t →
      IfFine (AgreedGood s n) (redeclared at (linkage.agreed (an_object (storage_before s o) t) l state) o)
  declared_again None l state t e z = (length s.statics, t, refl, stands_new s F n t e z)
  declared_again (Some b) l state t e z = linked_again (is_linked b.linkage) l state t b e z

  placed : (a : Agreed) → AgreedGood s n a → IfFine (Placed s n) (linkage.agreed_in s n a)
  placed a h =
      (h.0, h.1, a.linkage, a.state, not (is_mentioned a.state), h.3, ap (λ m. linkage.with_storage (with_name s n m a.linkage a.state) a.state m) h.2)

  file_object_good : (class : StorageClass) (t : DeclaredType) (state : State) → SizedType t → IfFine (Placed s n) (file_object s at n class t state)
  file_object_good class t state z =
      let new = linkage.agreed (an_object (storage_before s (lookup s n)) t) (linkage.linkage_of_object class (lookup s n)) state in
      part (Placed s n) (as_built_in at new (built_in s n)) (then_check (redeclared at new (lookup s n)) (linkage.agreed_in s n))
      (then_some (AgreedGood s n) (Placed s n) (redeclared at new (lookup s n)) (linkage.agreed_in s n)
      (declared_again (lookup s n) (linkage.linkage_of_object class (lookup s n)) state t refl z) placed)

-- ---- a declarator that has begun

abbrev file_begun : Scope → Pos → ℕ → StorageClass → Option Init → ℕ → DeclaredType → Linkage → State → Bool → Begun
file_begun s at n class init i t l state d =
    record { at = at; name = n; class = class; type = t; what = typed.static i; init = init; scope = put_scope s n i t l state d }

abbrev IsBegun : Scope → Pos → ℕ → StorageClass → Option Init → Begun → Type 0
IsBegun s at n class init o =
    (i : ℕ) × (t : DeclaredType) × (l : Linkage) × (state : State) × (d : Bool) × MayStand s n i t ×
    (o ≡ file_begun s at n class init i t l state d)

abbrev made : Pos → ℕ → StorageClass → Option Init → DeclaredType → Scope → Option Binding → Begun
made at n class init t inner b =
    record { at = at; name = n; class = class; type = rules.type_of_binding t b; what = rules.storage_of b; init = init; scope = inner }

begun_as : (s : Scope) (at : Pos) (n : ℕ) (class : StorageClass) (init : Option Init) (t : DeclaredType) (inner : Scope) → Placed s n inner →
    IsBegun s at n class init (made at n class init t inner (lookup inner n))
begun_as s at n class init t inner h =
    let u = put_scope s n h.0 h.1 h.2 h.3 h.4 in
    let b = put_binding s n h.0 h.1 h.2 h.3 in
    let e = ap (λ x. made at n class init t x (lookup x n)) h.6 ∙ ap (made at n class init t u) (newest n b (lookup s n)) in
    (h.0, h.1, h.2, h.3, h.4, h.5, e)

at_file : (s : Scope) → IsFile s → (level : ℕ) → level ≡ zero → (at : Pos) (n : ℕ) (class : StorageClass) (t : DeclaredType) (b : Bool) → SizedType t →
    IfFine (Placed s n) (rules.object_at level s at n class t b)
at_file s F zero e at n class t b z = file_object_good s F at n class t (linkage.state_of_object class b) z
at_file s F (suc level) e at n class t b z = absurd (let w : ⊥ = cc in w)

begun_good : (s : Scope) → s.level ≡ 0 → (class : StorageClass) (b : BaseType) (at : Pos) (n : ℕ) (sizes : List (Option Tree)) (init : Option Init) →
    IsFile (with_literals s (strings_in_sizes sizes)) →
    IfFine (IsBegun (with_literals s (strings_in_sizes sizes)) at n class init) (begun s class b at n sizes init)
begun_good s e class b at n sizes init F =
    let u = with_literals s (strings_in_sizes sizes) in
    then_some SizedType (IsBegun u at n class init) (declared_type s at b sizes) _ (declared_good s at b sizes) (λ t z.
    then_some (Placed u n) (IsBegun u at n class init) (rules.object_at s.level u at n class t (rules.has_init init)) _
    (at_file u F s.level e at n class t (rules.has_init init) z) (λ inner h. begun_as u at n class init t inner h))

-- ---- an array whose size its initialiser gives (6.7.9p22)

sized_as : (s : Scope) (at : Pos) (n i : ℕ) (t : ObjectType) (l : Linkage) (state : State) (m : ℕ) (c : Bool) →
    IfFine (λ u. u ≡ put_scope s n i (complete (array_of m t)) l state true)
    (then_check (compatible at (object_with (typed.static i) (if c then Some (complete (array_of m t)) else None)))
    (λ x. fine (rules.with_storage_type (with_name s n x l state) x)))
sized_as s at n i t l state m true = refl
sized_as s at n i t l state m false = tt

abbrev array_scope : Scope → ℕ → ℕ → ObjectType → Linkage → State → ℕ → Scope
array_scope s n i t l state m = put_scope s n i (complete (array_of m t)) l state true

retyped_as : (s : Scope) (at : Pos) (n i : ℕ) (t : ObjectType) (l : Linkage) (state : State) (m level : ℕ) (o : Option Binding) →
    o ≡ Some (record { name = n; level = level; meaning = an_object (typed.static i) (unknown_size t); linkage = l; state = state }) →
    IfFine (λ u. u ≡ array_scope s n i t l state m) (rules.retyped s at (complete (array_of m t)) n o)
retyped_as s at n i t l state m level o e =
    subst (λ x. IfFine (λ u. u ≡ array_scope s n i t l state m) (rules.retyped s at (complete (array_of m t)) n x)) (sym e)
    (sized_as s at n i t l state m (same_object t t))

abbrev SizedAs : Scope → ℕ → ℕ → ObjectType → Linkage → State → ℕ → Scope → Type 0
SizedAs s n i t l state m u = Sized (array_of m t) × (u ≡ array_scope s n i t l state m)

sized_good : (s : Scope) (at : Pos) (n i : ℕ) (t : ObjectType) (l : Linkage) (state : State) (m level : ℕ) →
    lookup s n ≡ Some (record { name = n; level = level; meaning = an_object (typed.static i) (unknown_size t); linkage = l; state = state }) →
    0 < m → Sized t → IfFine (SizedAs s n i t l state m) (rules.sized s at n t m)
sized_good s at n i t l state m level e h z =
    let v = rules.retyped s at (complete (array_of m t)) n (lookup s n) in
    sized_part (SizedAs s n i t l state m) at (array_of m t) v (product_positive m (elements_in t.lengths) h z.0) (λ y.
    more_of (λ u. u ≡ array_scope s n i t l state m) (SizedAs s n i t l state m) v (λ u k. (y, k)) (retyped_as s at n i t l state m level (lookup s n) e))

left_good : (level : ℕ) (class : StorageClass) (at : Pos) (s : Scope) → IfFine (λ u. u ≡ s) (rules.left_unknown level class at s)
left_good zero by_static at s = tt
left_good zero no_class at s = refl
left_good zero by_extern at s = refl
left_good (suc level) class at s = tt

-- a size and room for the parts
abbrev HasLength : Scope → ObjectType → Init → ℕ → Type 0
HasLength a t init m = LengthGood a t init m × Sized (array_of m t)

sized_behind : (a : Scope) (at : Pos) (n i : ℕ) (t : ObjectType) (l : Linkage) (state : State) (init : Init) (level : ℕ) →
    lookup a n ≡ Some (record { name = n; level = level; meaning = an_object (typed.static i) (unknown_size t); linkage = l; state = state }) → Sized t →
    IfFine (λ u. (m : ℕ) × HasLength a t init m × (u ≡ array_scope (past_init a init) n i t l state m))
    (then_check (rules.length_from a at t init) (rules.sized (past_init a init) at n t))
sized_behind a at n i t l state init level e z =
    then_some (LengthGood a t init) _ (rules.length_from a at t init) (rules.sized (past_init a init) at n t) (length_good a at t init) (λ m r.
    more_of (SizedAs (past_init a init) n i t l state m) _ (rules.sized (past_init a init) at n t m) (λ u k. (m, (r, k.0), k.1))
    (sized_good (past_init a init) at n i t l state m level e r.1 z))

module _ (p : Program) (texts : List (List ℕ)) (definitions : List ℕ) where
  abbrev pub DeclaredReaches : Scope → Declared → Type 0
  DeclaredReaches s d = Reaches p texts definitions s d.effects.initial d.scope

  abbrev In : Function → Setting
  In g = in_function p texts definitions g

  abbrev Leads : Scope → Scope → Effects → Type 0
  Leads s u e = Reaches p texts definitions s e.initial u

  -- ---- the scope after a declaration

  put_reaches : (s : Scope) → IsFile s → (n i : ℕ) (t : DeclaredType) (l : Linkage) (state : State) (d : Bool) → MayStand s n i t →
      Reaches p texts definitions s [] (put_scope s n i t l state d)
  put_reaches s F n i t l state d M = (
    put_onward s F n i t l state d M,
    put_is_file s F n i t l state d M,
    λ N E.
        let fits = λ (g : Function). declared_fits t (slice_get p.statics i) (E.statics g i (object_of t d) (M.statics d).here) in
        (λ g. let w = N g in (w.0, w.1, ((fits g, M.sized), w.2)), λ g. tt),
  )

  -- ---- first values, and the declarators after them

  abbrev Goes : Scope → Verdict Declared → Type 0
  Goes s v = IfFine (DeclaredReaches s) v

  abbrev Given : Scope → Scope → Type 0
  Given s u = Named p texts definitions s × Final p texts definitions u × Function

  known : (s u : Scope) (v : Verdict Effects) → Reaches p texts definitions s [] u →
      (Named p texts definitions s → Final p texts definitions u → (g : Function) → IfFine (NoneDone (In g)) v) → IfFine (Leads s u) v
  known s u v r h =
      more_of (λ e. (q : Given s u) → NoneDone (In q.2) e) (Leads s u) v
      (λ e k. (r.0, r.1, λ N E. ((r.2 N E).0, λ g. (k (N, E, g)).1)))
      (delayed {H = Given s u} (λ q e. NoneDone (In q.2) e) v (λ q. h q.0 q.1 q.2))

  further : (s u : Scope) (v : Verdict Declared) → Reaches p texts definitions s [] u → Goes u v → Goes s v
  further s u v r h = more_of (DeclaredReaches u) (DeclaredReaches s) v (λ d k. reaches_on p texts definitions s u d.scope [] d.effects.initial r k) h

  then_others : (s u : Scope) (v : Verdict Effects) (rest : Verdict Declared) → IfFine (Leads s u) v → Goes u rest → Goes s (both v rest before_others)
  then_others s u v rest g h =
      both_some (Leads s u) (DeclaredReaches u) (DeclaredReaches s) v rest before_others g h
      (λ e d i k. reaches_on p texts definitions s u d.scope e.initial d.effects.initial i k)

  -- the same where the scope is one of the scopes R m, for an m of which M holds
  abbrev Which : (ℕ → Type 0) → Type 0
  Which M = (m : ℕ) × M m

  abbrev Behind : (ℕ → Scope) → (ℕ → Type 0) → Declared → Type 0
  Behind R M d = (m : ℕ) × M m × DeclaredReaches (R m) d

  open_others : (s : Scope) (R : ℕ → Scope) (M : ℕ → Type 0) (v : Verdict Effects) (w : Verdict Scope) (go : Scope → Verdict Declared) →
      ((m : ℕ) → M m → IfFine (Leads s (R m)) v) → IfFine (λ u. (m : ℕ) × M m × (u ≡ R m)) w →
      ((m : ℕ) → M m → Goes (R m) (go (R m))) → Goes s (both v (then_check w go) before_others)
  open_others s R M v w go g h k =
      both_some (λ e. (z : Which M) → Leads s (R z.0) e) (Behind R M) (DeclaredReaches s) v (then_check w go) before_others
      (delayed {H = Which M} (λ z e. Leads s (R z.0) e) v (λ z. g z.0 z.1))
      (then_some (λ u. (m : ℕ) × M m × (u ≡ R m)) (Behind R M) w go h (λ u z.
      let behind : Goes (R z.0) (go u) = subst (λ x. Goes (R z.0) (go x)) (sym z.2) (k z.0 z.1) in
      more_of (DeclaredReaches (R z.0)) (Behind R M) (go u) (λ d i. (z.0, z.1, i)) behind))
      (λ e d i z. reaches_on p texts definitions s (R z.0) d.scope e.initial d.effects.initial (i (z.0, z.1)) z.2)

  module _ (class : StorageClass) (b : BaseType) (is : List ItemTree) (rest : (u : Scope) → IsFile u → Goes u (items_typed u class b is)) where
    abbrev going : Scope → Verdict Declared
    going u = items_typed u class b is

    abbrev one_item : Begun → Verdict Declared
    one_item o = both (initialised o) (then_check (finished o) going) before_others

    module _ (s : Scope) (F : IsFile s) (at : Pos) (n i : ℕ) (l : Linkage) (state : State) (d : Bool) where
      abbrev behind : DeclaredType → Scope
      behind t = put_scope s n i t l state d

      abbrev begun_of : Option Init → DeclaredType → Begun
      begun_of init t = file_begun s at n class init i t l state d

      file_behind : (t : DeclaredType) → MayStand s n i t → IsFile (behind t)
      file_behind t M = put_is_file s F n i t l state d M

      nothing_given : (t : DeclaredType) → MayStand s n i t → Goes (behind t) (one_item (begun_of None t))
      nothing_given (complete t) M =
          let a = behind (complete t) in
          let A = file_behind (complete t) M in
          then_others a a (fine no_effects) (going a) (reaches_self p texts definitions a A) (rest a A)
      nothing_given (unknown_size t) M =
          let a = behind (unknown_size t) in
          let A = file_behind (unknown_size t) M in
          let w = rules.left_unknown a.level class at a in
          then_others a a (fine no_effects) (then_check w going) (reaches_self p texts definitions a A)
          (then_some (λ u. u ≡ a) (DeclaredReaches a) w going (left_good a.level class at a) (λ u e. subst (λ x. Goes a (going x)) (sym e) (rest a A)))

      complete_given : (t : ObjectType) (init : Init) → MayStand s n i (complete t) → Goes (behind (complete t)) (one_item (begun_of (Some init) (complete t)))
      complete_given t init M =
          let a = behind (complete t) in
          let u = past_init a init in
          let v = initialised (begun_of (Some init) (complete t)) in
          let r = reaches_literals p texts definitions a (strings_of init) (file_behind (complete t) M) in
          let here = (M.statics d).here in
          then_others a u v (going u)
          (known a u v r (λ N E g. static_complete (In g) a at t i init (N g) (E.literals g) (E.statics g i (object_of (complete t) d) here)))
          (rest u r.1)

      -- the array of m elements takes the place of the array of unknown size
      abbrev ArrayReaches : ObjectType → Scope → ℕ → Scope → Type 0
      ArrayReaches t a m u = Reaches p texts definitions a [] u × (slice_get u.statics i ≡ Some (object_of (complete (array_of m t)) true))

      array_reaches : (t : ObjectType) (init : Init) (m : ℕ) → MayStand s n i (unknown_size t) → HasLength (behind (unknown_size t)) t init m →
          ArrayReaches t (behind (unknown_size t)) m (array_scope (past_init (behind (unknown_size t)) init) n i t l state m)
      array_reaches t init m M h =
          let a = behind (unknown_size t) in
          let c = past_init a init in
          let new = put_binding s n i (unknown_size t) l state in
          let r = reaches_literals p texts definitions a (strings_of init) (file_behind (unknown_size t) M) in
          let stood : Stands c n (an_object (typed.static i) (unknown_size t)) = (new, newest n new (lookup s n), refl) in
          let K = stands_again c r.1 n i (unknown_size t) (complete (array_of m t)) stood h.1 (longer_array t m h.0.1) in
          let k = put_reaches c r.1 n i (complete (array_of m t)) l state true K in
          (reaches_on p texts definitions a c (array_scope c n i t l state m) [] [] r k, (K.statics true).here)

      open_given : (t : ObjectType) (init : Init) → MayStand s n i (unknown_size t) →
          Goes (behind (unknown_size t)) (one_item (begun_of (Some init) (unknown_size t)))
      open_given t init M =
          let a = behind (unknown_size t) in
          let v = initialised (begun_of (Some init) (unknown_size t)) in
          let w = then_check (rules.length_from a at t init) (rules.sized (past_init a init) at n t) in
          let R = array_scope (past_init a init) n i t l state in
          let e = newest n (put_binding s n i (unknown_size t) l state) (lookup s n) in
          open_others a R (HasLength a t init) v w going (λ m h.
          let r = array_reaches t init m M h in
          let o = object_of (complete (array_of m t)) true in
          known a (R m) v r.0 (λ N E g. static_open (In g) a at t m i init (N g) (E.literals g) h.0.0 (E.statics g i o r.1)))
          (sized_behind a at n i t l state init s.level e M.sized)
          (λ m h. rest (R m) (array_reaches t init m M h).0.1)

      item_given : (init : Option Init) (t : DeclaredType) → MayStand s n i t → Goes (behind t) (one_item (begun_of init t))
      item_given None t M = nothing_given t M
      item_given (Some init) (complete t) M = complete_given t init M
      item_given (Some init) (unknown_size t) M = open_given t init M

    begun_reaches : (s : Scope) → IsFile s → (at : Pos) (n : ℕ) (init : Option Init) (o : Begun) → IsBegun s at n class init o → Goes s (one_item o)
    begun_reaches s F at n init o h =
        let a = put_scope s n h.0 h.1 h.2 h.3 h.4 in
        let x = file_begun s at n class init h.0 h.1 h.2 h.3 h.4 in
        subst (λ y. Goes s (one_item y)) (sym h.6)
        (further s a (one_item x) (put_reaches s F n h.0 h.1 h.2 h.3 h.4 h.5) (item_given s F at n h.0 h.2 h.3 h.4 init h.1 h.5))

  pub object_reaches : (class : StorageClass) (b : BaseType) (is : List ItemTree) →
      ((u : Scope) → IsFile u → IfFine (DeclaredReaches u) (items_typed u class b is)) →
      (s : Scope) → IsFile s → (at : Pos) (n : ℕ) (sizes : List (Option Tree)) (init : Option Init) →
      IfFine (DeclaredReaches s) (then_check (begun s class b at n sizes init) (λ o.
      both (initialised o) (then_check (finished o) (λ inner. items_typed inner class b is)) before_others))
  object_reaches class b is rest s F at n sizes init =
      let u = with_literals s (strings_in_sizes sizes) in
      let r = reaches_literals p texts definitions s (strings_in_sizes sizes) F in
      then_some (IsBegun u at n class init) (DeclaredReaches s) (begun s class b at n sizes init) (one_item class b is rest)
      (begun_good s F.level class b at n sizes init r.1) (λ o h.
      further s u (one_item class b is rest o) r (begun_reaches class b is rest u r.1 at n init o h))
