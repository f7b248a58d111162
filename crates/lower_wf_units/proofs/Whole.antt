-- A unit that breaks no constraint has a typed program.
use Rattle.std.proofs.Common.{◌≡◌, ℕ, zero, suc, ◌≤◌, ◌<◌, true, ◌&&◌, nat_le, nat_lt, List, [], ◌∷◌, length, Some, refl, sym, ap, ◌∙◌, subst, arith}
use Rattle.std.specs.Prelude.{slice_get}
use Rattle.std.proofs.lemmas.Bool.{and_from}
use Rattle.std.proofs.lemmas.Bool.Decides.{nat_tests}
use Rattle.srcset.specs.declared.refusal.Pos.{Pos}
use Rattle.tree.specs.Tree.{ExternalTree}
use Rattle.typing_spec.specs.Program.{Function, Program}
use Rattle.typing_spec.specs.Verdict.{fine, then_check, each, IfFine}
use Rattle.typing_spec.specs.Scope.{file_scope}
use Rattle.typing_spec.specs.Nodes.{typed_nodes}
use Rattle.typing_spec.specs.Units as units
use Rattle.typing_spec.specs.Units.{Built, numbers_in, function_typed, externals_typed, program_of, whole_program, unit_typed}
use Rattle.typing_spec.specs.Uses.{uses_in_statement, all_defined, uses_in_functions}
use Rattle.typing_spec.specs.WellTyped.{is_typed, function_is_typed, functions_are_typed, statics_are_typed, parameters_are_first, statement_is_typed}
use Rattle.lower_wf.specs.Laws.{IsMeasured}
use Rattle.lower_wf.specs.Settled.{Present}
use Rattle.lower_wf.proofs.Verdicts.{then_any, then_some, part, more_of, delayed, of_fine}
use Rattle.lower_wf.proofs.Ground.{same_some}
use Rattle.lower_wf.proofs.Items.{InitialsGood}
use Rattle.lower_wf.proofs.Measured.{program_is_measured}
use Rattle.lower_wf_units.proofs.Present.{uses_are_present}
use Rattle.lower_wf_units.proofs.Joined.{typed_is_checked}
use Rattle.lower_wf_units.specs.Laws.{ProgramIsTyped, ProgramIsChecked}
use Rattle.lower_wf_units.proofs.Files.{Final, in_function}
use Rattle.lower_wf_units.proofs.FilePassed.{no_function, names_of, AllOf, StandsIn, BodyTyped, Passed}
use Rattle.lower_wf_units.proofs.FileExternals.{externals_passed}
use Rattle.lower_wf_units.proofs.FileEnd.{final, file_begins, names_begin, statics_typed}

each_at : (P : Function → Type 0) (gs : List Function) (k : ℕ) (g : Function) → slice_get gs k ≡ Some g → AllOf P gs → P g
each_at P [] k g e h = absurd (let z : ⊥ = cc in z)
each_at P (x ∷ gs) zero g e h = subst P (same_some x g e) h.0
each_at P (x ∷ gs) (suc k) g e h = each_at P gs k g e h.1

at_most : (a b : ℕ) → a ≤ b → nat_le a b ≡ true
at_most a b h = grind (arith, nat_tests, h)

below : (a b : ℕ) → a < b → nat_lt a b ≡ true
below a b h = grind (arith, nat_tests, h)

all_typed : (p : Program) (gs : List Function) → ((k : ℕ) (g : Function) → slice_get gs k ≡ Some g → function_is_typed p g ≡ true) →
    functions_are_typed p gs ≡ true
all_typed p [] h = refl
all_typed p (g ∷ gs) h = and_from (function_is_typed p g) (functions_are_typed p gs) (h zero g refl) (all_typed p gs (λ k x e. h (suc k) x e))

abbrev AllPresent : Program → Type 0
AllPresent p = (k : ℕ) (g : Function) → slice_get p.functions k ≡ Some g → Present p (uses_in_statement g.body)

abbrev start : ℕ → List (List ℕ) → List ℕ → Built
start stack texts definitions = record { stack = stack; scope = file_scope texts definitions; functions = []; initial = [] }

module _ (stack : ℕ) (texts : List (List ℕ)) (definitions : List ℕ) (c : Built) (main : ℕ) where
  abbrev P : Program
  P = program_of c main

  ended : Passed P texts definitions (start stack texts definitions) definitions c → Final P texts definitions c.scope
  ended g =
      final c main texts definitions g.reaches.1 g.reaches.0.texts (ap names_of g.functions ∙ g.named)
      (λ k x e. each_at (StandsIn c.scope) g.added k x (subst (λ l. slice_get l k ≡ Some x) g.functions e) g.stand)

  function_by : IsMeasured P → AllPresent P → (k : ℕ) (g : Function) → slice_get P.functions k ≡ Some g → BodyTyped P texts definitions g →
      function_is_typed P g ≡ true
  function_by m u k g e h =
      let counted = m.each k g e in
      let body = h (u k g e) in
      let typed_body = statement_is_typed P g (numbers_in g.type.parameters) (length g.objects) g.body in
      and_from (nat_le (typed_nodes g) g.nodes) (nat_le g.weight 16777216 && (parameters_are_first g.type.parameters g.objects && typed_body))
      (at_most (typed_nodes g) g.nodes counted.counted)
      (and_from (nat_le g.weight 16777216) (parameters_are_first g.type.parameters g.objects && typed_body) (at_most g.weight 16777216 counted.light)
      (and_from (parameters_are_first g.type.parameters g.objects) typed_body body.0 body.1))

  built_typed : Passed P texts definitions (start stack texts definitions) definitions c → IsMeasured P → AllPresent P → is_typed P ≡ true
  built_typed g m u =
      let F = ended g in
      let N = names_begin P texts definitions in
      let bodies = g.bodies N F in
      let room = (g.reaches.2 N F).1 no_function in
      and_from (functions_are_typed P P.functions) (statics_are_typed P.statics && nat_lt P.main (length P.functions))
      (all_typed P c.functions (λ k x e. function_by m u k x e
      (each_at (BodyTyped P texts definitions) g.added k x (subst (λ l. slice_get l k ≡ Some x) g.functions e) bodies)))
      (and_from (statics_are_typed P.statics) (nat_lt P.main (length P.functions))
      (statics_typed c main (in_function P texts definitions no_function) refl
      (subst (InitialsGood (in_function P texts definitions no_function)) (sym g.initial) room))
      (below P.main (length P.functions) m.main_is_there))

-- ---- the unit

abbrev Comes_from : Built → Program → Type 0
Comes_from b p = (main : ℕ) × (p ≡ program_of b main)

whole_built : (whole : Pos) (b : Built) → IfFine (Comes_from b) (whole_program whole b)
whole_built whole b =
    part (Comes_from b) (each (units.within_limits whole b) (all_defined b.scope [] (uses_in_functions b.functions)))
    (then_check (units.main_or_fault whole (units.main_from b.scope 0 b.functions)) (λ main. fine (program_of b main)))
    (then_any (Comes_from b) (units.main_or_fault whole (units.main_from b.scope 0 b.functions)) (λ main. fine (program_of b main)) (λ main. (main, refl)))

abbrev Comes : ℕ → List (List ℕ) → List ExternalTree → Program → Type 0
Comes stack texts unit p =
    let ds = units.definitions_in unit in (c : Built) × (main : ℕ) × (p ≡ program_of c main) × Passed (program_of c main) texts ds (start stack texts ds) ds c

comes : (stack : ℕ) (texts : List (List ℕ)) (whole : Pos) (unit : List ExternalTree) → IfFine (Comes stack texts unit) (unit_typed stack texts whole unit)
comes stack texts whole unit =
    let ds = units.definitions_in unit in
    let b = start stack texts ds in
    then_some (λ c. (p : Program) → Passed p texts ds b ds c) (Comes stack texts unit) (externals_typed b unit) (whole_program whole)
    (delayed {H = Program} (λ p c. Passed p texts ds b ds c) (externals_typed b unit)
    (λ p. externals_passed p texts ds b (file_begins texts ds) unit)) (λ c h.
    more_of (Comes_from c) (Comes stack texts unit) (whole_program whole c) (λ p r. (c, r.0, r.1, h (program_of c r.0))) (whole_built whole c))

pub program_is_typed : ProgramIsTyped
program_is_typed stack texts whole unit p l a n e =
    let r = of_fine (Comes stack texts unit) (unit_typed stack texts whole unit) p e (comes stack texts whole unit) in
    subst (λ q. IsMeasured q → AllPresent q → is_typed q ≡ true) (sym r.2) (built_typed stack texts (units.definitions_in unit) r.0 r.1 r.3)
    (program_is_measured stack texts whole unit p l a n e) (uses_are_present stack texts whole unit p e)

pub program_is_checked : ProgramIsChecked
program_is_checked stack texts whole unit p l a n e = typed_is_checked stack texts whole unit p l a n e (program_is_typed stack texts whole unit p l a n e)
