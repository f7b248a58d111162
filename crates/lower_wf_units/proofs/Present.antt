-- The objects and functions used are present at the end of the unit (6.9p3, p5).
use Rattle.std.proofs.Common.{◌≡◌, ℕ, zero, suc, ◌+◌, Bool, true, false, not, ◌&&◌, ◌||◌, nat_le, nat_lt, List, [], ◌∷◌, length, Some, refl, sym, subst}
use Rattle.std.specs.Prelude.{slice_get}
use Rattle.std.proofs.lemmas.Bool.{true≢false}
use Rattle.srcset.specs.declared.code.Code.TheVariants as code
use Rattle.srcset.specs.declared.refusal.Pos.{Pos}
use Rattle.typing_spec.specs.Program.{Function, Static, Program}
use Rattle.typing_spec.specs.Verdict.{Verdict, fine, broken, then_check, provided, refuse_if, each, IfFine}
use Rattle.typing_spec.specs.Scope.{Scope, StaticObject, file_scope}
use Rattle.typing_spec.specs.Declarations.{Initial}
use Rattle.typing_spec.specs.Uses as uses
use Rattle.typing_spec.specs.Uses.{Used, Use, is_undefined, is_undefined_object, same_use, is_used_in, all_defined, uses_in_statement, uses_in_functions}
use Rattle.typing_spec.specs.Nodes.{typed_nodes}
use Rattle.typing_spec.specs.WellTyped.{function_is_typed, functions_are_typed, statement_is_typed, parameters_are_first, statics_are_typed}
use Rattle.typing_spec.specs.Units as units
use Rattle.typing_spec.specs.Units.{Built, numbers_in, statics_from, whole_program, program_of, externals_typed, unit_typed}
use Rattle.lower_wf.specs.Settled.{IsPresent, Present}
use Rattle.lower_wf.proofs.Same.{both_true, same_number}
use Rattle.lower_wf.proofs.Verdicts.{then_any, part, each_parts, refused, of_fine}
use Rattle.lower_wf.proofs.Ground.{first, second, same_some}
use Rattle.lower_wf.proofs.Defined.{statement_defined}
use Rattle.lower_wf_units.specs.Objects.{UsesArePresent, DesignatedAreDefined}

-- ---- uses that were found to have a definition

abbrev IsFound : Scope → Used → Type 0
IsFound s what = is_undefined s what ≡ false

abbrev AllFound : Scope → List Use → Type 0
AllFound s [] = Unit {0}
AllFound s (u ∷ us) = IsFound s u.what × AllFound s us

same_found : (s : Scope) (v w : Used) → same_use v w ≡ true → IsFound s v → IsFound s w
same_found s (uses.an_object m) (uses.an_object n) e h = subst (λ k. IsFound s (uses.an_object k)) (same_number m n e) h
same_found s (uses.an_object m) (uses.a_function n) e h = absurd (true≢false (sym e))
same_found s (uses.a_function m) (uses.an_object n) e h = absurd (true≢false (sym e))
same_found s (uses.a_function m) (uses.a_function n) e h = absurd (true≢false h)

found_before : (s : Scope) (before : List Use) (w : Used) → AllFound s before → is_used_in before w ≡ true → IsFound s w
found_before s [] w h e = absurd (true≢false (sym e))
found_before s (u ∷ us) w h e = by (same_use u.what w) refl e (found_before s us w h.1)
  where
    by : (b : Bool) → b ≡ same_use u.what w → (b || is_used_in us w) ≡ true → (is_used_in us w ≡ true → IsFound s w) → IsFound s w
    by true f k go = same_found s u.what w (sym f) h.0
    by false f k go = go k

found_by : (s : Scope) (before : List Use) (w : Used) → AllFound s before → (a b : Bool) → a ≡ is_undefined s w → b ≡ is_used_in before w →
    (a && not b) ≡ false → IsFound s w
found_by s before w h false b e f g = sym e
found_by s before w h true true e f g = found_before s before w h (sym f)
found_by s before w h true false e f g = absurd (true≢false g)

all_found : (s : Scope) (before us : List Use) → AllFound s before → all_defined s before us ≡ fine tt → AllFound s us
all_found s before [] h e = tt
all_found s before (u ∷ us) h e =
    let c = is_undefined s u.what && not (is_used_in before u.what) in
    let w = each_parts (refuse_if c code.UsedUndefined u.at) (all_defined s (u ∷ before) us) e in
    let here = found_by s before u.what h (is_undefined s u.what) (is_used_in before u.what) refl refl (refused c code.UsedUndefined u.at w.0) in
    (here, all_found s (u ∷ before) us (here, h) w.1)

-- ---- the program's objects are those of the scope at its end

static_at : (k : ℕ) (os : List StaticObject) (initial : List Initial) (n : ℕ) (o : Static) → slice_get (statics_from k os initial) n ≡ Some o →
    is_undefined_object (slice_get os n) ≡ false → o.defined ≡ true
static_at k [] initial n o e h = absurd (let z : ⊥ = cc in z)
static_at k (x ∷ os) initial zero o e h = subst (λ y. y.defined ≡ true) (same_some _ o e) (by x.defined h)
  where
    by : (b : Bool) → not b ≡ false → b ≡ true
    by true f = refl
    by false f = absurd (true≢false f)
static_at k (x ∷ os) initial (suc n) o e h = static_at (k + 1) os initial n o e h

module _ (b : Built) (main : ℕ) where
  abbrev P : Program
  P = program_of b main

  is_present : (w : Used) → IsFound b.scope w → IsPresent P w
  is_present (uses.an_object n) h = λ o e. static_at 0 b.scope.statics b.initial n o e h
  is_present (uses.a_function n) h = absurd (true≢false h)

  all_present : (us : List Use) → AllFound b.scope us → Present P us
  all_present [] h = tt
  all_present (u ∷ us) h = (is_present u.what h.0, all_present us h.1)

  each_present : (fs : List Function) (k : ℕ) (f : Function) → slice_get fs k ≡ Some f → Present P (uses_in_functions fs) → Present P (uses_in_statement f.body)
  each_present [] k f e h = absurd (let z : ⊥ = cc in z)
  each_present (g ∷ fs) zero f e h = subst (λ x. Present P (uses_in_statement x.body)) (same_some g f e)
      (first P (uses_in_statement g.body) (uses_in_functions fs) h)
  each_present (g ∷ fs) (suc k) f e h = each_present fs k f e (second P (uses_in_statement g.body) (uses_in_functions fs) h)

-- ---- the unit

abbrev AllPresent : Program → Type 0
AllPresent p = (k : ℕ) (f : Function) → slice_get p.functions k ≡ Some f → Present p (uses_in_statement f.body)

whole_present : (whole : Pos) (b : Built) → IfFine AllPresent (whole_program whole b)
whole_present whole b = by (each limits (all_defined b.scope [] us)) refl
  where
    us : List Use
    us = uses_in_functions b.functions

    limits : Verdict (Unit {0})
    limits = units.within_limits whole b

    main : Verdict ℕ
    main = units.main_or_fault whole (units.main_from b.scope 0 b.functions)

    rest : Verdict Program
    rest = then_check main (λ m. fine (program_of b m))

    by : (v : Verdict (Unit {0})) → v ≡ each limits (all_defined b.scope [] us) → IfFine AllPresent (provided v rest)
    by (broken vs) e = tt
    by (fine u) e =
        let found = all_found b.scope [] us tt (each_parts limits (all_defined b.scope [] us) (sym e)).1 in
        part AllPresent (fine u) rest (then_any AllPresent main (λ m. fine (program_of b m))
        (λ m k f g. each_present b m b.functions k f g (all_present b m us found)))

pub uses_are_present : UsesArePresent
uses_are_present stack texts whole unit p e =
    let start : Built = record { stack = stack; scope = file_scope texts (units.definitions_in unit); functions = []; initial = [] } in
    of_fine AllPresent (unit_typed stack texts whole unit) p e (then_any AllPresent (externals_typed start unit) (whole_program whole) (λ c. whole_present whole c))

-- ---- a use that is typed and present is defined

body_typed : (p : Program) (fs : List Function) (k : ℕ) (f : Function) → slice_get fs k ≡ Some f → functions_are_typed p fs ≡ true →
    statement_is_typed p f (numbers_in f.type.parameters) (length f.objects) f.body ≡ true
body_typed p [] k f e h = absurd (let z : ⊥ = cc in z)
body_typed p (g ∷ fs) zero f e h =
    let body : Function → Bool = λ x. statement_is_typed p x (numbers_in x.type.parameters) (length x.objects) x.body in
    let w = (both_true (function_is_typed p g) (functions_are_typed p fs) h).0 in
    let v = (both_true (nat_le (typed_nodes g) g.nodes) (nat_le g.weight 16777216 && (parameters_are_first g.type.parameters g.objects && body g)) w).1 in
    let u = (both_true (nat_le g.weight 16777216) (parameters_are_first g.type.parameters g.objects && body g) v).1 in
    subst (λ x. statement_is_typed p x (numbers_in x.type.parameters) (length x.objects) x.body ≡ true) (same_some g f e)
    (both_true (parameters_are_first g.type.parameters g.objects) (body g) u).1
body_typed p (g ∷ fs) (suc k) f e h = body_typed p fs k f e (both_true (function_is_typed p g) (functions_are_typed p fs) h).1

pub designated_are_defined : DesignatedAreDefined
designated_are_defined stack texts whole unit p e t k f g =
    let fs = (both_true (functions_are_typed p p.functions) (statics_are_typed p.statics && nat_lt p.main (length p.functions)) t).0 in
    statement_defined p f (numbers_in f.type.parameters) (length f.objects) f.body (body_typed p p.functions k f g fs)
    (uses_are_present stack texts whole unit p e k f g)
