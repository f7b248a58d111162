-- Declarations at file scope lead from one scope of a file to the next (6.7).
use Rattle.std.proofs.Common.{ℕ, zero, suc, not, List, [], ◌∷◌, refl}
use Rattle.srcset.specs.declared.code.Code.TheVariants as code
use Rattle.srcset.specs.declared.refusal.Pos.{Pos}
use Rattle.ctypes.specs.Types.{truth}
use Rattle.tree.specs.Tree.{ParameterTree, ItemTree, object, function, DeclarationTree, declared, assertion}
use Rattle.typing_spec.specs.Program.{Program}
use Rattle.typing_spec.specs.Verdict.{Verdict, fine, refuse_if, IfFine}
use Rattle.typing_spec.specs.Scope.{Scope, mentioned, past, strings}
use Rattle.typing_spec.specs.Specifiers.{BaseType}
use Rattle.typing_spec.specs.Expressions.{constant_value}
use Rattle.typing_spec.specs.Declarators.{parameters_in, behind_parameters, function_type}
use Rattle.typing_spec.specs.Linkage.{StorageClass, file_function}
use Rattle.typing_spec.specs.Declarations as rules
use Rattle.typing_spec.specs.Declarations.{Declared, before_others, begun, finished, initialised, items_typed, declaration_typed}
use Rattle.lower_wf.proofs.Verdicts.{then_any, then_some, part, more_of}
use Rattle.lower_wf.proofs.Scopes.{Extends, extends_none}
use Rattle.lower_wf_units.proofs.Files.{IsFile, Reaches}
use Rattle.lower_wf_units.proofs.FileSteps.{reaches_self, reaches_on, reaches_keeping, reaches_literals}
use Rattle.lower_wf_units.proofs.FileNames.{SaidReaches, specified_for_reaches}
use Rattle.lower_wf_units.proofs.FileFunctionNames.{ExtendsLiterals, parameters_extend, FunctionReaches, function_reaches}
use Rattle.lower_wf_units.proofs.FileObjects.{DeclaredReaches, object_reaches}

module _ (p : Program) (texts : List (List ℕ)) (definitions : List ℕ) where
  abbrev Leads : Scope → Scope → Type 0
  Leads s u = Reaches p texts definitions s [] u

  abbrev Declares : Scope → Declared → Type 0
  Declares s d = DeclaredReaches p texts definitions s d

  -- the result after a step without first values
  behind_step : (s u : Scope) (v : Verdict Declared) → Leads s u → IfFine (Declares u) v → IfFine (Declares s) v
  behind_step s u v g h = more_of (Declares u) (Declares s) v (λ d k. reaches_on p texts definitions s u d.scope [] d.effects.initial g k) h

  behind_reaches : (s inner : Scope) → IsFile s → Extends s.literals inner.literals → Leads s (behind_parameters s inner)
  behind_reaches s inner h x =
      reaches_keeping p texts definitions s (behind_parameters s inner)
      (record { texts = refl; definitions = refl; bindings = refl; level = refl; literals = x; statics = extends_none s.statics }) h

  function_at_reaches : (level : ℕ) (s : Scope) → IsFile s → (class : StorageClass) (b : BaseType) (at : Pos) (n : ℕ) (ps : List ParameterTree) →
      IfFine (Leads s) (rules.function_at level s class b at n ps)
  function_at_reaches zero s h class b at n ps =
      then_some (ExtendsLiterals s) (Leads s) (parameters_in s ps) _ (parameters_extend s ps) (λ q x.
      let v = behind_parameters s q.scope in
      let t = function_type b q.types in
      let g = behind_reaches s q.scope h x in
      more_of (FunctionReaches p texts definitions v n t) (Leads s) (file_function v at n class t mentioned)
      (λ u k. reaches_on p texts definitions s v u [] [] g k.0)
      (function_reaches p texts definitions v g.1 at n class t mentioned))
  function_at_reaches (suc level) s h class b at n ps = tt

  items_reach : (class : StorageClass) (b : BaseType) (is : List ItemTree) (s : Scope) → IsFile s → IfFine (Declares s) (items_typed s class b is)
  items_reach class b [] s h = reaches_self p texts definitions s h
  items_reach class b (object at n sizes init ∷ is) s h = object_reaches p texts definitions class b is (λ u k. items_reach class b is u k) s h at n sizes init
  items_reach class b (function at n ps ∷ is) s h =
      then_some (Leads s) (Declares s) (rules.function_at s.level s class b at n ps) _ (function_at_reaches s.level s h class b at n ps) (λ u g.
      behind_step s u (items_typed u class b is) g (items_reach class b is u g.1))

  pub declaration_reaches : (s : Scope) → IsFile s → (t : DeclarationTree) → IfFine (DeclaredReaches p texts definitions s) (declaration_typed s t)
  declaration_reaches s h (declared at ss items) =
      then_some (SaidReaches p texts definitions s) (Declares s) (rules.specified_for s at ss items) _
      (specified_for_reaches p texts definitions s h at ss items) (λ d g.
      behind_step s d.scope (items_typed d.scope d.class d.base items) g (items_reach d.class d.base items d.scope g.1))
  declaration_reaches s h (assertion at e text) =
      then_some (Leads s) (Declares s) (rules.asserted s at e) _
      (then_any (Leads s) (constant_value s e) _
      (λ c. part (Leads s) (refuse_if (not (truth c.v)) code.StaticAssertionFailed at) (fine (past s e))
      (reaches_literals p texts definitions s (strings e) h))) (λ u g. g)
