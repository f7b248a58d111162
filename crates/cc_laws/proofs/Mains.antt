-- The program of a unit that breaks no constraint has its main among its functions.
use Rattle.std.proofs.Common.{◌<◌, ℕ, suc, ◌+◌, Bool, true, false, List, [], ◌∷◌, length, Option, Some, None, subst, arith}
use Rattle.std.specs.Prelude.{IfSome, if◌then◌else◌}
use Rattle.srcset.specs.declared.refusal.Pos.{Pos}
use Rattle.typing_spec.specs.Scope.{Scope, file_scope}
use Rattle.typing_spec.specs.Program.{Function}
use Rattle.typing_spec.specs.Uses.{all_defined, uses_in_functions}
use Rattle.typing_spec.specs.Verdict.{Verdict, fine, broken, then_check, provided, each, IfFine}
use Rattle.typing_spec.specs.Units.{Built, is_main, main_from, main_or_fault, within_limits, program_of, whole_program, externals_typed, definitions_in}
use Rattle.cc_laws.specs.Laws.{HasMain, UnitsHaveMain}

then_fine : {A B : Type 0} (P : B → Type 0) (v : Verdict A) (go : A → Verdict B) → ((a : A) → IfFine P (go a)) → IfFine P (then_check v go)
then_fine P (fine a) go h = h a
then_fine P (broken vs) go h = tt

provided_fine : {A : Type 0} (P : A → Type 0) (test : Verdict (Unit {0})) (part : Verdict A) → IfFine P part → IfFine P (provided test part)
provided_fine P (fine u) (fine a) h = h
provided_fine P (fine u) (broken vs) h = tt
provided_fine P (broken vs) part h = tt

first_or_later : (t : Bool) (n m : ℕ) (later : Option ℕ) → IfSome later (λ k. k < n + 1 + m) → IfSome (if t then Some n else later) (λ k. k < n + suc m)
first_or_later true n m later h = omega arith
first_or_later false n m None h = tt
first_or_later false n m (Some k) h = omega (arith, h)

main_within : (s : Scope) (n : ℕ) (fs : List Function) → IfSome (main_from s n fs) (λ k. k < n + length fs)
main_within s n [] = tt
main_within s n (f ∷ fs) = first_or_later (is_main s f) n (length fs) (main_from s (n + 1) fs) (main_within s (n + 1) fs)

main_fine : (whole : Pos) (b : Built) (o : Option ℕ) → IfSome o (λ k. k < 0 + length b.functions) → IfFine HasMain (then_check (main_or_fault whole o) (λ main. fine (program_of b main)))
main_fine whole b None h = tt
main_fine whole b (Some m) h = omega (arith, h)

whole_fine : (whole : Pos) (b : Built) → IfFine HasMain (whole_program whole b)
whole_fine whole b =
    provided_fine HasMain (each (within_limits whole b) (all_defined b.scope [] (uses_in_functions b.functions)))
    (then_check (main_or_fault whole (main_from b.scope 0 b.functions)) (λ main. fine (program_of b main)))
    (main_fine whole b (main_from b.scope 0 b.functions) (main_within b.scope 0 b.functions))

pub units_have_main : UnitsHaveMain
units_have_main stack texts whole unit p e =
    let first : Built = record { stack = stack; scope = file_scope texts (definitions_in unit); functions = []; initial = [] } in
    let each = then_fine HasMain (externals_typed first unit) (whole_program whole) (whole_fine whole) in
    subst (IfFine HasMain) e each
