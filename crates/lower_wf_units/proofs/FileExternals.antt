-- The functions and declarations of a unit, one after the other (6.9).
use Rattle.std.proofs.Common.{ℕ, List, [], ◌∷◌, refl, sym, append-nil}
use Rattle.tree.specs.Tree.{DeclarationTree, ExternalTree, definition, declaration}
use Rattle.typing_spec.specs.Program.{Program}
use Rattle.typing_spec.specs.Verdict.{then_check, IfFine}
use Rattle.typing_spec.specs.Declarations.{declaration_typed}
use Rattle.typing_spec.specs.Units as units
use Rattle.typing_spec.specs.Units.{Built, function_typed, externals_typed, definitions_in}
use Rattle.lower_wf.proofs.Verdicts.{then_some, more_of}
use Rattle.lower_wf_units.proofs.Files.{IsFile, Reaches}
use Rattle.lower_wf_units.proofs.FileDeclarations.{declaration_reaches}
use Rattle.lower_wf_units.proofs.FilePassed.{Passed, nothing_passed, passed_on}
use Rattle.lower_wf_units.proofs.FileFunctions.{function_passed}

module _ (p : Program) (texts : List (List ℕ)) (definitions : List ℕ) where
  abbrev From : Built → List ℕ → Built → Type 0
  From b names c = Passed p texts definitions b names c

  declaration_passed : (b : Built) → IsFile b.scope → (t : DeclarationTree) →
      IfFine (From b []) (then_check (declaration_typed b.scope t) (units.with_declaration b))
  declaration_passed b f t =
      then_some (λ d. Reaches p texts definitions b.scope d.effects.initial d.scope) (From b []) (declaration_typed b.scope t) (units.with_declaration b)
      (declaration_reaches p texts definitions b.scope f t) (λ d r. record {
        more = d.effects.initial;
        initial = refl;
        added = [];
        functions = sym (append-nil b.functions);
        named = refl;
        reaches = r;
        stand = tt;
        bodies = λ N F. tt;
      })

  pub externals_passed : (b : Built) → IsFile b.scope → (es : List ExternalTree) → IfFine (From b (definitions_in es)) (externals_typed b es)
  externals_passed b f [] = nothing_passed p texts definitions b f
  externals_passed b f (definition t ∷ es) =
      then_some (From b (t.name ∷ [])) (From b (t.name ∷ definitions_in es)) (function_typed b t) (λ c. externals_typed c es)
      (function_passed p texts definitions b f t)
      (λ c g.
      more_of (From c (definitions_in es)) (From b (t.name ∷ definitions_in es)) (externals_typed c es)
      (λ d h. passed_on p texts definitions b c d (t.name ∷ []) (definitions_in es) g h) (externals_passed c g.reaches.1 es))
  externals_passed b f (declaration t ∷ es) =
      then_some (From b []) (From b (definitions_in es)) (then_check (declaration_typed b.scope t) (units.with_declaration b))
      (λ c. externals_typed c es) (declaration_passed b f t) (λ c g.
      more_of (From c (definitions_in es)) (From b (definitions_in es)) (externals_typed c es)
      (λ d h. passed_on p texts definitions b c d [] (definitions_in es) g h)
      (externals_passed c g.reaches.1 es))
