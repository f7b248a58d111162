-- The functions of a typed program weigh at most what the profile allows.
use Rattle.std.proofs.Common.{◌≡◌, ◌≤◌, ◌<◌, ℕ, zero, suc, List, [], ◌∷◌, Bool, true, Some, map, get_or, refl, sym, subst, arith}
use Rattle.std.specs.Prelude.{◌&&◌, ◌^◌, nat_le, nat_lt, slice_get, length}
use Rattle.typing_spec.specs.Program.{Function, Program}
use Rattle.typed_ast.specs.declared.units.Function as unit
use Rattle.typed_ast.specs.View.{function_of}
use Rattle.typing_spec.specs.Nodes.{typed_nodes}
use Rattle.typing_spec.specs.Units.{weight_limit, numbers_in}
use Rattle.typing_spec.specs.WellTyped.{function_is_typed, functions_are_typed, statics_are_typed, parameters_are_first, statement_is_typed}
use Rattle.std.proofs.lemmas.Bool.{and_parts}
use Rattle.std.proofs.lemmas.Bool.Decides.{nat_tests}
use Rattle.cc_backend.specs.Made.{IsReady}
use Rattle.cc.specs.inside.Light.{AreLight}

le_holds : (a b : ℕ) → nat_le a b ≡ true → a ≤ b
le_holds a b h = grind (arith, nat_tests)

left_true : (a b : Bool) → (a && b) ≡ true → a ≡ true
left_true a b h = (and_parts a b h).0

right_true : (a b : Bool) → (a && b) ≡ true → b ≡ true
right_true a b h = (and_parts a b h).1

function_light : (p : Program) (f : Function) → function_is_typed p f ≡ true → f.weight < 2 ^ 32
function_light p f h =
    let a = nat_le (typed_nodes f) f.nodes in
    let b = nat_le f.weight weight_limit in
    let c = parameters_are_first f.type.parameters f.objects && statement_is_typed p f (numbers_in f.type.parameters) (length f.objects) f.body in
    let light : f.weight ≤ 16777216 = le_holds f.weight weight_limit (left_true b c (right_true a (b && c) h)) in
    omega (arith, light)

each_light : (p : Program) (fs : List Function) → functions_are_typed p fs ≡ true → AreLight fs
each_light p [] h k f e = absurd (let z : ⊥ = cc in z)
each_light p (g ∷ fs) h zero f e =
    let same : g ≡ f = cc in
    function_light p f (rw (← same) (left_true (function_is_typed p g) (functions_are_typed p fs) h))
each_light p (g ∷ fs) h (suc k) f e = each_light p fs (right_true (function_is_typed p g) (functions_are_typed p fs) h) k f e

pub are_light : (p : Program) → IsReady p → AreLight p.functions
are_light p ready =
    each_light p p.functions (left_true (functions_are_typed p p.functions) (statics_are_typed p.statics && nat_lt p.main (length p.functions)) ready.checked.well_typed)

-- the function at a number
pub light_at : (fs : List unit.Function) (k : ℕ) (f : unit.Function) → AreLight (map function_of fs) → k < length fs → f ≡ get_or fs k f → (function_of f).weight < 2 ^ 32
light_at [] k f h lt e = absurd (omega (arith, lt))
light_at (g ∷ fs) zero f h lt e =
    let same : f ≡ g = e in
    subst (λ x. (function_of x).weight < 2 ^ 32) (sym same) (h zero (function_of g) refl)
light_at (g ∷ fs) (suc k) f h lt e = light_at fs k f (λ j x ex. h (suc j) x ex) (omega (arith, lt)) e
