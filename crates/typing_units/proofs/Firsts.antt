-- The first use of an object or function without a definition.
use Rattle.std.proofs.Common.{◌≡◌, ℕ, ◌+◌, ◌<◌, Bool, true, false, not, ◌&&◌, ◌||◌, nat_eq, List, [], ◌∷◌, ◌++◌, take, get_or, length, Option, Some, None, refl, ap, sym, ◌∙◌, subst, append_assoc, append-nil, inl, arith}
use Rattle.std.proofs.lemmas.List.{take_more}
use Rattle.srcset.specs.declared.refusal.Pos.{Pos}
use Rattle.srcset.specs.declared.refusal.Refusal.TheVariants.{At}
use Rattle.srcset.specs.declared.code.Code.TheVariants as code
use Rattle.typed_ast.specs.View.{Given, number_given, array_given, and_given}
use Rattle.typing_spec.specs.Program.{Arguments}
use Rattle.typing_spec.specs.Verdict.{Verdict, fine, refuse_if, each, Stands}
use Rattle.typing_spec.specs.Scope.{Scope, StaticObject}
use Rattle.typing_spec.specs.Uses.{Used, an_object, a_function, Use, is_undefined, same_use, is_used_in, all_defined, uses_in_arguments}
use Rattle.typing_expressions.proofs.Verdicts.{each_right, each_fine}
use Rattle.typing_units.specs.inside.Undefined.{has_no_definition, here_or, undefined_in, uses_in_given}

-- ---- two lists of uses

abbrev first_of_two : Option Pos → Option Pos → Option Pos
first_of_two None later = later
first_of_two (Some p) later = Some p

here_then : (b : Bool) (at : Pos) (x y : Option Pos) → here_or b at (first_of_two x y) ≡ first_of_two (here_or b at x) y
here_then true at x y = refl
here_then false at x y = refl

of_both : (os : List StaticObject) (xs ys : List Use) → undefined_in os (xs ++ ys) ≡ first_of_two (undefined_in os xs) (undefined_in os ys)
of_both os [] ys = refl
of_both os (u ∷ us) ys =
    ap (λ k. here_or (has_no_definition os u.what) u.at k) (of_both os us ys) ∙ here_then (has_no_definition os u.what) u.at (undefined_in os us) (undefined_in os ys)

pub found_first : (os : List StaticObject) (xs ys : List Use) (p : Pos) → Some p ≡ undefined_in os xs → Some p ≡ undefined_in os (xs ++ ys)
found_first os xs ys p e = sym (of_both os xs ys ∙ ap (λ k. first_of_two k (undefined_in os ys)) (sym e))

pub found_later : (os : List StaticObject) (xs ys : List Use) (r : Option Pos) → None ≡ undefined_in os xs → r ≡ undefined_in os ys → r ≡ undefined_in os (xs ++ ys)
found_later os xs ys r e f = f ∙ sym (of_both os xs ys ∙ ap (λ k. first_of_two k (undefined_in os ys)) (sym e))

-- ---- the uses so far

uses_snoc : {X : Type 0} (G : List X → List Use) (g : X → List Use) → G [] ≡ [] → ((x : X) (xs : List X) → G (x ∷ xs) ≡ g x ++ G xs) → (xs : List X) (y : X) → G (xs ++ y ∷ []) ≡ G xs ++ g y
uses_snoc G g none step [] y = step y [] ∙ ap (λ k. g y ++ k) none ∙ append-nil (g y) ∙ ap (λ k. k ++ g y) (sym none)
uses_snoc G g none step (x ∷ xs) y =
    step x (xs ++ y ∷ []) ∙ ap (λ k. g x ++ k) (uses_snoc G g none step xs y) ∙ sym (append_assoc (g x) (G xs) (g y)) ∙ ap (λ k. k ++ g y) (sym (step x xs))

pub next_use : {X : Type 0} (os : List StaticObject) (G : List X → List Use) (g : X → List Use) → G [] ≡ [] → ((x : X) (xs : List X) → G (x ∷ xs) ≡ g x ++ G xs) →
    (xs : List X) (i : ℕ) (x : X) → i < length xs → (found next more : Option Pos) → found ≡ undefined_in os (G (take i xs)) → x ≡ get_or xs i x → more ≡ undefined_in os (g x) →
    ((ps qs : List Use) → found ≡ undefined_in os ps → more ≡ undefined_in os qs → next ≡ undefined_in os (ps ++ qs)) → next ≡ undefined_in os (G (take (i + 1) xs))
next_use os G g none step xs i x l found next more f e m s =
    s (G (take i xs)) (g x) f m ∙ ap (λ k. undefined_in os (G (take i xs) ++ g k)) e
    ∙ ap (undefined_in os) (sym (ap G (take_more xs i x l) ∙ uses_snoc G g none step (take i xs) (get_or xs i x)))

pub arguments_step : (a : Given) (more : Arguments) → uses_in_arguments (and_given a more) ≡ uses_in_given a ++ uses_in_arguments more
arguments_step (number_given ty e) more = refl
arguments_step (array_given p) more = refl

-- ---- the definition's violations

as_in_scope : (s : Scope) (what : Used) → is_undefined s what ≡ has_no_definition s.statics what
as_in_scope s (an_object n) = refl
as_in_scope s (a_function name) = refl

same_number : (m n : ℕ) → nat_eq m n ≡ true → m ≡ n
same_number m n e = grind arith

same_is : (os : List StaticObject) (a b : Used) → same_use a b ≡ true → has_no_definition os a ≡ has_no_definition os b
same_is os (an_object m) (an_object n) e = ap (λ k. has_no_definition os (an_object k)) (same_number m n e)
same_is os (a_function m) (a_function n) e = refl
same_is os (an_object m) (a_function n) e = absurd (cc)
same_is os (a_function m) (an_object n) e = absurd (cc)

nowhere_here : (b : Bool) (at : Pos) (later : Option Pos) → here_or b at later ≡ None → (b ≡ false) × (later ≡ None)
nowhere_here true at later e = absurd (cc)
nowhere_here false at later e = (refl, e)

neither : (a b : Bool) → a ≡ false → b ≡ false → (a || b) ≡ false
neither a b e f = ap (λ k. k || b) e ∙ f

differs : (v : Bool) → (v ≡ true → true ≡ false) → v ≡ false
differs true h = h refl
differs false h = refl

not_used : (os : List StaticObject) (before : List Use) (what : Used) → undefined_in os before ≡ None → has_no_definition os what ≡ true → is_used_in before what ≡ false
not_used os [] what e f = refl
not_used os (u ∷ us) what e f =
    let w = nowhere_here (has_no_definition os u.what) u.at (undefined_in os us) e in
    neither (same_use u.what what) (is_used_in us what) (differs (same_use u.what what) (λ t. sym f ∙ sym (same_is os u.what what t) ∙ w.0)) (not_used os us what w.1 f)

unused : (s : Scope) (u : Use) (b : Bool) → is_undefined s u.what ≡ false → refuse_if (is_undefined s u.what && b) code.UsedUndefined u.at ≡ fine tt
unused s u b e = ap (λ k. refuse_if (k && b) code.UsedUndefined u.at) e

first_use : (s : Scope) (u : Use) (b : Bool) → is_undefined s u.what ≡ true → b ≡ false → refuse_if (is_undefined s u.what && not b) code.UsedUndefined u.at ≡ refuse_if true code.UsedUndefined u.at
first_use s u b e f = ap (λ k. refuse_if (k && not b) code.UsedUndefined u.at) e ∙ ap (λ k. refuse_if (not k) code.UsedUndefined u.at) f

pub none_undefined : (s : Scope) (before us : List Use) → undefined_in s.statics us ≡ None → all_defined s before us ≡ fine tt
none_undefined s before [] e = refl
none_undefined s before (u ∷ us) e =
    let w = nowhere_here (has_no_definition s.statics u.what) u.at (undefined_in s.statics us) e in
    each_fine (refuse_if (is_undefined s u.what && not (is_used_in before u.what)) code.UsedUndefined u.at) (all_defined s (u ∷ before) us)
    (unused s u (not (is_used_in before u.what)) (as_in_scope s u.what ∙ w.0)) (none_undefined s (u ∷ before) us w.1)

at_first : (a b : Verdict (Unit {0})) (at p : Pos) → a ≡ refuse_if true code.UsedUndefined at → at ≡ p → Stands code.UsedUndefined p (each a b)
at_first a b at p e f = subst (λ v. Stands code.UsedUndefined p (each v b)) (sym e) (inl (refl, f))

same_place : (p q : Pos) → Some p ≡ Some q → p ≡ q
same_place p q e = cc

stands_by : (s : Scope) (before : List Use) (u : Use) (us : List Use) (p : Pos) (v : Bool) → v ≡ has_no_definition s.statics u.what → undefined_in s.statics before ≡ None → here_or v u.at (undefined_in s.statics us) ≡ Some p →
    (undefined_in s.statics (u ∷ before) ≡ None → undefined_in s.statics us ≡ Some p → Stands code.UsedUndefined p (all_defined s (u ∷ before) us)) → Stands code.UsedUndefined p (all_defined s before (u ∷ us))
stands_by s before u us p true v b e more =
    at_first (refuse_if (is_undefined s u.what && not (is_used_in before u.what)) code.UsedUndefined u.at) (all_defined s (u ∷ before) us) u.at p
    (first_use s u (is_used_in before u.what) (as_in_scope s u.what ∙ sym v) (not_used s.statics before u.what b (sym v))) (same_place u.at p e)
stands_by s before u us p false v b e more =
    each_right (At code.UsedUndefined p) (refuse_if (is_undefined s u.what && not (is_used_in before u.what)) code.UsedUndefined u.at) (all_defined s (u ∷ before) us)
    (more (ap (λ k. here_or k u.at (undefined_in s.statics before)) (sym v) ∙ b) e)

pub first_stands : (s : Scope) (before us : List Use) (p : Pos) → undefined_in s.statics before ≡ None → undefined_in s.statics us ≡ Some p → Stands code.UsedUndefined p (all_defined s before us)
first_stands s before [] p b e = absurd (cc)
first_stands s before (u ∷ us) p b e = stands_by s before u us p (has_no_definition s.statics u.what) refl b e (λ c f. first_stands s (u ∷ before) us p c f)
