-- An object with static storage is declared at file scope, for the first time or once more (6.9.2): the objects, and the scope after it.
use Rattle.std.proofs.Common.{◌≡◌, ℕ, zero, suc, Bool, List, [], ◌∷◌, ◌++◌, length, Some, None, refl, sym, ap, ◌∙◌, subst, inl, inr}
use Rattle.std.specs.Prelude.{slice_get}
use Rattle.typing_spec.specs.Types.{DeclaredType, FunctionType}
use Rattle.typing_spec.specs.Program as typed
use Rattle.typing_spec.specs.Program.{Storage}
use Rattle.typing_spec.specs.Scope.{Scope, StaticObject, Binding, Meaning, an_object, an_array_parameter, a_function}
use Rattle.typing_spec.specs.Scope.{an_enumerator, Linkage, State, lookup, with_name}
use Rattle.typing_spec.specs.Linkage.{put_static, completed}
use Rattle.lower_wf.specs.Settled.{SizedType, Wider}
use Rattle.lower_wf.proofs.Ground.{same_some}
use Rattle.lower_wf.proofs.Typings.{get_left, get_last}
use Rattle.lower_wf.proofs.Scopes.{extends_none}
use Rattle.lower_wf_units.proofs.Files.{Stands, HasStatic, IsStatic, IsOfFile, IsFile, StaticsWider, Onward}
use Rattle.lower_wf_units.proofs.FileSteps.{wider_self}
use Rattle.lower_wf_units.proofs.FileBindings.{OneOf, one_of, means_still, level_behind, one_meaning, no_function, one_static, nothing_there}

-- ---- objects other than one that is new, or has another type

pub record PutFits (os : List StaticObject) (n : ℕ) (x : StaticObject) : Type 0 where
  pub here : slice_get (put_static os n x) n ≡ Some x
  pub wider : StaticsWider os (put_static os n x)
  pub others : (k : ℕ) (o : StaticObject) → (n ≡ k → ⊥) → slice_get os k ≡ Some o → slice_get (put_static os n x) k ≡ Some o

put_last : (os : List StaticObject) (x : StaticObject) → put_static os (length os) x ≡ os ++ x ∷ []
put_last [] x = refl
put_last (y ∷ os) x = ap (λ l. y ∷ l) (put_last os x)

get_put : (os : List StaticObject) (x : StaticObject) (k : ℕ) (o : StaticObject) →
    slice_get os k ≡ Some o → slice_get (put_static os (length os) x) k ≡ Some o
get_put os x k o e = subst (λ l. slice_get l k ≡ Some o) (sym (put_last os x)) (get_left os (x ∷ []) k o e)

pub put_new : (os : List StaticObject) (x : StaticObject) → PutFits os (length os) x
put_new os x = record {
  here = subst (λ l. slice_get l (length os) ≡ Some x) (sym (put_last os x)) (get_last os x);
  wider = λ k o e. (o, get_put os x k o e, wider_self o.type);
  others = λ k o d e. get_put os x k o e;
}

none_there : (n : ℕ) (o : StaticObject) → let os : List StaticObject = [] in slice_get os n ≡ Some o → ⊥
none_there n o e = cc

put_here : (os : List StaticObject) (n : ℕ) (x y : StaticObject) → slice_get os n ≡ Some y → slice_get (put_static os n x) n ≡ Some x
put_here [] n x y e = absurd (none_there n y e)
put_here (z ∷ os) zero x y e = refl
put_here (z ∷ os) (suc n) x y e = put_here os n x y e

put_wider : (os : List StaticObject) (n : ℕ) (x y : StaticObject) → slice_get os n ≡ Some y → Wider y.type x.type → StaticsWider os (put_static os n x)
put_wider [] n x y e w k o f = absurd (none_there k o f)
put_wider (z ∷ os) zero x y e w zero o f = (x, refl, subst (λ a. Wider a.type x.type) (same_some y o (sym e ∙ f)) w)
put_wider (z ∷ os) zero x y e w (suc k) o f = (o, f, wider_self o.type)
put_wider (z ∷ os) (suc n) x y e w zero o f = (o, f, wider_self o.type)
put_wider (z ∷ os) (suc n) x y e w (suc k) o f = put_wider os n x y e w k o f

put_others : (os : List StaticObject) (n : ℕ) (x : StaticObject) (k : ℕ) (o : StaticObject) → (n ≡ k → ⊥) → slice_get os k ≡ Some o →
    slice_get (put_static os n x) k ≡ Some o
put_others [] n x k o d e = absurd (none_there k o e)
put_others (z ∷ os) zero x zero o d e = absurd (d refl)
put_others (z ∷ os) zero x (suc k) o d e = e
put_others (z ∷ os) (suc n) x zero o d e = e
put_others (z ∷ os) (suc n) x (suc k) o d e = put_others os n x k o (λ f. d (ap (λ i. suc i) f)) e

pub put_old : (os : List StaticObject) (n : ℕ) (x y : StaticObject) → slice_get os n ≡ Some y → Wider y.type x.type → PutFits os n x
put_old os n x y e w = record { here = put_here os n x y e; wider = put_wider os n x y e w; others = put_others os n x }

no_more : (os : List StaticObject) (o : StaticObject) → slice_get os (length os) ≡ Some o → ⊥
no_more [] o e = none_there 0 o e
no_more (y ∷ os) o e = no_more os o e

-- ---- a name may denote this object

abbrev pub object_of : DeclaredType → Bool → StaticObject
object_of t d = record { type = completed t; defined = d }

pub record MayStand (s : Scope) (n i : ℕ) (t : DeclaredType) : Type 0 where
  pub sized : SizedType t
  pub statics : (d : Bool) → PutFits s.statics i (object_of t d)
  pub functions : (f : FunctionType) → Stands s n (a_function f) → ⊥
  pub alone : (k : ℕ) (u : DeclaredType) → Stands s k (an_object (typed.static i) u) → k ≡ n

beyond : (s : Scope) (k : ℕ) (u : DeclaredType) → HasStatic s (length s.statics) u → ⊥
beyond s k u h = no_more s.statics h.0 h.1

pub stands_new : (s : Scope) → IsFile s → (n : ℕ) (t : DeclaredType) → lookup s n ≡ None → SizedType t → MayStand s n (length s.statics) t
stands_new s F n t e z = record {
  sized = z;
  statics = λ d. put_new s.statics (object_of t d);
  functions = λ f h. nothing_there s n (a_function f) e h;
  alone = λ k u h. absurd (beyond s k u (F.names k (an_object (typed.static (length s.statics)) u) h).0);
}

pub stands_again : (s : Scope) → IsFile s → (n i : ℕ) (old t : DeclaredType) → Stands s n (an_object (typed.static i) old) → SizedType t →
    Wider (completed old) (completed t) → MayStand s n i t
stands_again s F n i old t h z w =
    let had : HasStatic s i old = (F.names n (an_object (typed.static i) old) h).0 in record {
      sized = z;
      statics = λ d. put_old s.statics i (object_of t d) had.0 had.1 (subst (λ a. Wider a (completed t)) (sym had.2) w);
      functions = λ f g. no_function (typed.static i) old f (one_meaning s n (an_object (typed.static i) old) (a_function f) h g);
      alone = λ k u g. F.apart k n i u old g h;
    }

-- ---- the scope after its declaration

abbrev pub put_scope : Scope → ℕ → ℕ → DeclaredType → Linkage → State → Bool → Scope
put_scope s n i t l state d = record (with_name s n (an_object (typed.static i) t) l state) { statics = put_static s.statics i (object_of t d) }

abbrev pub put_binding : Scope → ℕ → ℕ → DeclaredType → Linkage → State → Binding
put_binding s n i t l state = record { name = n; level = s.level; meaning = an_object (typed.static i) t; linkage = l; state = state }

module _ (s : Scope) (F : IsFile s) (n i : ℕ) (t : DeclaredType) (l : Linkage) (state : State) (d : Bool) (M : MayStand s n i t) where
  abbrev after : Scope
  after = put_scope s n i t l state d

  abbrev new : Binding
  new = put_binding s n i t l state

  split : (k : ℕ) (m : Meaning) → Stands after k m → OneOf n k (an_object (typed.static i) t) (lookup s k) m
  split k m h = one_of n k new (lookup s k) m h

  -- another name's object has another number
  static_kept : (k : ℕ) (what : Storage) (u : DeclaredType) → (n ≡ k → ⊥) → Stands s k (an_object what u) → IsStatic s what u → IsStatic after what u
  static_kept k (typed.static j) u c h g =
      (g.0, (M.statics d).others j g.0 (λ e. c (sym (M.alone k u (subst (λ x. Stands s k (an_object (typed.static x) u)) (sym e) h)))) g.1, g.2)
  static_kept k (typed.literal j) u c h g = g
  static_kept k (typed.automatic j) u c h g = g
  static_kept k (typed.parameter j) u c h g = g

  kept : (k : ℕ) (m : Meaning) → (n ≡ k → ⊥) → Stands s k m → IsOfFile s k m → IsOfFile after k m
  kept k (an_object what u) c h g = (static_kept k what u c h g.0, g.1)
  kept k (an_array_parameter j u) c h g = g
  kept k (a_function f) c h g = g
  kept k (an_enumerator v) c h g = g

  names_after : (k : ℕ) (m : Meaning) → OneOf n k (an_object (typed.static i) t) (lookup s k) m → IsOfFile after k m
  names_after k m (inl h) = subst (IsOfFile after k) h.1 ((object_of t d, (M.statics d).here, refl), M.sized)
  names_after k m (inr h) = kept k m h.0 h.1 (F.names k m h.1)

  apart_after : (a b j : ℕ) (u v : DeclaredType) → OneOf n a (an_object (typed.static i) t) (lookup s a) (an_object (typed.static j) u) →
      OneOf n b (an_object (typed.static i) t) (lookup s b) (an_object (typed.static j) v) → a ≡ b
  apart_after a b j u v (inl h) (inl g) = sym h.0 ∙ g.0
  apart_after a b j u v (inl h) (inr g) =
      sym h.0 ∙ sym (M.alone b v (subst (λ x. Stands s b (an_object (typed.static x) v)) (sym (one_static i j t u h.1)) g.1))
  apart_after a b j u v (inr h) (inl g) =
      M.alone a u (subst (λ x. Stands s a (an_object (typed.static x) u)) (sym (one_static i j t v g.1)) h.1) ∙ g.0
  apart_after a b j u v (inr h) (inr g) = F.apart a b j u v h.1 g.1

  pub put_is_file : IsFile (put_scope s n i t l state d)
  put_is_file = record {
    level = F.level;
    levels = λ k b e. level_behind n k new (lookup s k) F.level (F.levels k) b e;
    names = λ k m h. names_after k m (split k m h);
    apart = λ a b j u v h g. apart_after a b j u v (split a (an_object (typed.static j) u) h) (split b (an_object (typed.static j) v) g);
  }

  pub put_onward : Onward s (put_scope s n i t l state d)
  put_onward = record {
    texts = refl;
    definitions = refl;
    literals = extends_none s.literals;
    statics = (M.statics d).wider;
    functions = λ k f h. means_still n k new (lookup s k) (a_function f) (λ e. M.functions f (subst (λ x. Stands s x (a_function f)) (sym e) h)) h;
  }
