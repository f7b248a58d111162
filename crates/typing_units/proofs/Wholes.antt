-- The parts of a unit and the whole.
use Rattle.std.proofs.Common.{◌≡◌, ℕ, ◌+◌, ◌-◌, ◌<◌, ◌≤◌, List, [], ◌∷◌, drop, get_or, length, map, Bool, true, false, Option, Some, None, refl, sym, ap, ◌∙◌, subst}
use Rattle.std.specs.Prelude.{if◌then◌else◌, Result, Ok, Err, IfOk}
use Rattle.std.proofs.lemmas.List.{drop_all}
use Rattle.srcset.specs.declared.code.Code.TheVariants as code
use Rattle.srcset.specs.declared.refusal.Pos.{Pos}
use Rattle.srcset.specs.declared.refusal.Refusal.{Refusal}
use Rattle.srcset.specs.declared.refusal.Refusal.TheVariants.{At}
use Rattle.typed_ast.specs.declared.units.Function as held
use Rattle.typed_ast.specs.View as view
use Rattle.typing_scopes.specs.declared.bindings.StaticObject as held_object
use Rattle.typing_scopes.specs.Scopes.{with_texts, with_statics, static_of}
use Rattle.typing_spec.specs.Verdict.{Verdict, fine, both, then_check, each}
use Rattle.typing_spec.specs.Scope.{Scope, StaticObject}
use Rattle.typing_spec.specs.Program as typed
use Rattle.typing_spec.specs.Program.{Function, Static, Statement, Statements, Program}
use Rattle.typing_spec.specs.Types.{ObjectType, FunctionType}
use Rattle.typing_spec.specs.Statements.{AllDone}
use Rattle.tree.specs.Tree.{FunctionTree}
use Rattle.tree.specs.Counts.{function_nodes}
use Rattle.typing_spec.specs.Uses.{all_defined, uses_in_functions}
use Rattle.typing_spec.specs.Units.{Built, is_main, main_from, main_or_fault, within_limits, literals_of, statics_from, program_of, whole_program, numbers_in, weight, function_of}
use Rattle.typing_expressions.specs.Refused.{IsOf, Tells}
use Rattle.typing_expressions.proofs.Verdicts.{each_left, each_right, tells_left, tells_right, tells_of}
use Rattle.typing_units.specs.Views.{unit_scope}
use Rattle.typing_units.proofs.Readings.{next_of}

-- ---- main

abbrev main_left : Scope → ℕ → List held.Function → Option ℕ
main_left s n fs = main_from s n (map view.function_of fs)

pub main_more : (s : Scope) (fs : List held.Function) (i : ℕ) (f : held.Function) (v : Bool) (all : Option ℕ) → i < length fs → f ≡ get_or fs i f → v ≡ is_main s (view.function_of f) → v ≡ false →
    all ≡ main_left s i (drop i fs) → all ≡ main_left s (i + 1) (drop (i + 1) fs)
main_more s fs i f v all h e g t inv = inv ∙ ap (λ l. main_left s i l) (next_of fs i f h e) ∙ ap (λ b. if b then Some i else main_left s (i + 1) (drop (i + 1) fs)) (sym g ∙ t)

pub main_found : (s : Scope) (fs : List held.Function) (i : ℕ) (f : held.Function) (v : Bool) (all : Option ℕ) → i < length fs → f ≡ get_or fs i f → v ≡ is_main s (view.function_of f) → v ≡ true →
    all ≡ main_left s i (drop i fs) → Some i ≡ all
main_found s fs i f v all h e g t inv = sym (inv ∙ ap (λ l. main_left s i l) (next_of fs i f h e) ∙ ap (λ b. if b then Some i else main_left s (i + 1) (drop (i + 1) fs)) (sym g ∙ t))

pub main_ended : (s : Scope) (fs : List held.Function) (i : ℕ) (all : Option ℕ) → length fs ≤ i → all ≡ main_left s i (drop i fs) → None ≡ all
main_ended s fs i all h inv = sym (inv ∙ ap (λ l. main_left s i l) (drop_all i fs h))

pub main_same : (t : List (List ℕ)) (ls : List ℕ) (os : List held_object.StaticObject) (s : Scope) (n : ℕ) (fs : List Function) → main_from (unit_scope t ls os s) n fs ≡ main_from (with_texts t s) n fs
main_same t ls os s n [] = refl
main_same t ls os s n (f ∷ fs) = ap (λ k. if is_main (with_texts t s) f then Some n else k) (main_same t ls os s (n + 1) fs)

-- the literals and the objects with static storage that were taken out of a scope
pub taken_out : (t : List (List ℕ)) (ls : List ℕ) (os : List held_object.StaticObject) (rest : List StaticObject) (old new : Scope) → new ≡ with_statics rest old → ls ≡ new.literals → map static_of os ≡ old.statics →
    unit_scope t ls os new ≡ with_texts t old
taken_out t ls os rest old new e f g =
    ap (λ s. unit_scope t ls os s) e
    ∙ ap (λ l. record old { texts = t; literals = l; statics = map static_of os }) (f ∙ ap (λ s. s.literals) e)
    ∙ ap (λ l. record old { texts = t; statics = l }) g

-- ---- the program

abbrev tests : Pos → Built → Verdict (Unit {0})
tests whole b = each (within_limits whole b) (all_defined b.scope [] (uses_in_functions b.functions))

abbrev with_main : Pos → Built → Option ℕ → Verdict Program
with_main whole b m = then_check (main_or_fault whole m) (λ main. fine (program_of b main))

pub whole_fine : (whole : Pos) (b : Built) (m : ℕ) (p : Program) → within_limits whole b ≡ fine tt → all_defined b.scope [] (uses_in_functions b.functions) ≡ fine tt → main_from b.scope 0 b.functions ≡ Some m → p ≡ program_of b m →
    whole_program whole b ≡ fine p
whole_fine whole b m p e f g h =
    ap (λ v. both (each v (all_defined b.scope [] (uses_in_functions b.functions))) (with_main whole b (main_from b.scope 0 b.functions)) (λ u x. fine x)) e
    ∙ ap (λ v. both (each (fine tt) v) (with_main whole b (main_from b.scope 0 b.functions)) (λ u x. fine x)) f
    ∙ ap (λ k. then_check (with_main whole b k) (λ x. fine x)) g ∙ ap fine (sym h)

pub limits_told : (whole : Pos) (b : Built) (r : Refusal) → IsOf r (within_limits whole b) → Tells r (whole_program whole b)
limits_told whole b r h =
    tells_left r (tests whole b) (with_main whole b (main_from b.scope 0 b.functions)) (λ u x. fine x)
    (tells_of r (tests whole b) (each_left r (within_limits whole b) (all_defined b.scope [] (uses_in_functions b.functions)) h))

pub uses_told : (whole : Pos) (b : Built) (r : Refusal) → IsOf r (all_defined b.scope [] (uses_in_functions b.functions)) → Tells r (whole_program whole b)
uses_told whole b r h =
    tells_left r (tests whole b) (with_main whole b (main_from b.scope 0 b.functions)) (λ u x. fine x)
    (tells_of r (tests whole b) (each_right r (within_limits whole b) (all_defined b.scope [] (uses_in_functions b.functions)) h))

pub main_told : (whole : Pos) (b : Built) → main_from b.scope 0 b.functions ≡ None → Tells (At code.NoMain whole) (whole_program whole b)
main_told whole b e =
    tells_right (At code.NoMain whole) (tests whole b) (with_main whole b (main_from b.scope 0 b.functions)) (λ u x. fine x)
    (subst (λ m. Tells (At code.NoMain whole) (with_main whole b m)) (sym e) (refl, refl))

pub at_slices : {X Y : Type 0} (P : X → Y → Type 0) (a b : X) (c d : Y) → a ≡ b → c ≡ d → P a c → P b d
at_slices P a b c d e f h = subst (λ x. P x d) e (subst (λ y. P a y) f h)

pub program_is : (b : Built) (m : ℕ) (literals : List (List ℕ)) (statics : List Static) → literals ≡ literals_of b.scope b.scope.literals → statics ≡ statics_from 0 b.scope.statics b.initial →
    (let p : Program = record { literals = literals; statics = statics; functions = b.functions; main = m } in p ≡ program_of b m)
program_is b m literals statics e f = cc

-- ---- functions

pub function_is : (f : FunctionTree) (t : FunctionType) (all : AllDone) (objects : List ObjectType) (body : Statement) (inner : Statements) (n m nodes w : ℕ) → all.scope.objects ≡ objects → all.statements ≡ inner → body ≡ typed.block n m inner → n ≡ numbers_in t.parameters →
    m ≡ length objects - n → nodes ≡ function_nodes f → w ≡ weight f t.parameters objects →
    (let g : Function = record { name = f.name; type = t; objects = objects; body = body; nodes = nodes; weight = w } in g ≡ function_of f t all)
function_is f t all objects body inner n m nodes w e g b h i j k = cc

pub if_ok : {T E : Type 0} {P Q : T → Type 0} (r : Result T E) → IfOk r P → ((x : T) → P x → Q x) → IfOk r Q
if_ok (Ok x) h f = f x h
if_ok (Err e) h f = tt
