-- A function's parameters denote its first objects and its references, so its body is typed (6.9.1).
use Rattle.std.proofs.Common.{◌≡◌, ℕ, suc, Bool, true, ◌&&◌, nat_eq, List, [], ◌∷◌, ◌++◌, length, Option, Some, None, refl, sym, ap, ◌∙◌, subst, append_assoc, append-nil, arith}
use Rattle.std.specs.Prelude.{slice_get}
use Rattle.std.proofs.lemmas.Bool.{and_from}
use Rattle.srcset.specs.declared.refusal.Pos.{Pos}
use Rattle.ctypes.specs.declared.types.IntType.{IntType}
use Rattle.tree.specs.Tree.{ParameterTree}
use Rattle.typing_spec.specs.Types.{ObjectType, complete, unknown_size, ParameterType, number, elements, same_type}
use Rattle.typing_spec.specs.Program as typed
use Rattle.typing_spec.specs.Program.{Function}
use Rattle.typing_spec.specs.Verdict.{fine, provided, IfFine}
use Rattle.typing_spec.specs.Scope.{Scope, Binding, an_object, an_array_parameter, no_linkage, defined, with_literals}
use Rattle.typing_spec.specs.Specifiers.{BaseType, base_type}
use Rattle.typing_spec.specs.Declarators as rules
use Rattle.typing_spec.specs.Declarators.{Sizes, no_sizes, outermost, sizes_in, strings_in_sizes, ParameterObject, a_number, a_reference, Parameters, parameters_from, parameter_object, type_of_parameter, with_object, with_parameter, references_after}
use Rattle.typing_spec.specs.Nodes.{reference_in}
use Rattle.typing_spec.specs.Units.{numbers_in}
use Rattle.typing_spec.specs.WellTyped.{parameters_are_first}
use Rattle.lower_wf.proofs.Verdicts.{then_some, both_any, part}
use Rattle.lower_wf.proofs.Ground.{Setting, AllFit, Sized, RowsAre, same_self}
use Rattle.lower_wf.proofs.Typings.{get_left, get_last, sized_part}
use Rattle.lower_wf.proofs.Scopes.{Extends, extends_none, extends_on, ObjectsEnd}
use Rattle.lower_wf.proofs.Specifiers.{SizesGood, sizes_good, number_sized}
use Rattle.lower_wf.proofs.Items.{object_fits}

-- ---- the properties of a parameter

abbrev IsParameter : ParameterObject → Type 0
IsParameter (a_number t) = (t.lengths ≡ []) × Sized t
IsParameter (a_reference t) = Sized t

inner_sized : (at : Pos) (t : IntType) (k : Bool) (n : Option ℕ) (ns : List ℕ) → SizesGood (outermost n ns) → IfFine IsParameter (rules.parameter_of at t k (outermost n ns))
inner_sized at t k None ns h = let type = rules.object_type t k ns in sized_part IsParameter at type (fine (a_reference type)) h (λ z. z)
inner_sized at t k (Some n) ns h = let type = rules.object_type t k ns in sized_part IsParameter at type (fine (a_reference type)) h.1 (λ z. z)

parameter_is : (at : Pos) (b : BaseType) (t : Option IntType) (z : Sizes) → SizesGood z → IfFine IsParameter (rules.parameter_with at b t z)
parameter_is at b None no_sizes h = tt
parameter_is at b None (outermost n ns) h = tt
parameter_is at b (Some t) no_sizes h = (refl, number_sized t b.constant)
parameter_is at b (Some t) (outermost n ns) h = inner_sized at t b.constant n ns h

parameter_good : (s : Scope) (p : ParameterTree) → IfFine IsParameter (parameter_object s p)
parameter_good s p =
    both_any SizesGood IsParameter (base_type s p.start p.specifiers) (sizes_in s p.at p.sizes) (λ b sizes. rules.parameter_with p.at b b.type sizes) (sizes_good s p.at p.sizes) (λ b z h. parameter_is p.at b b.type z h)

-- ---- references, by their number among the parameters

abbrev references : List ParameterType → ℕ
references [] = 0
references (number t ∷ ps) = references ps
references (elements t ∷ ps) = suc (references ps)

reference_is : (before : List ParameterType) (t : ObjectType) (more : List ParameterType) → reference_in (before ++ elements t ∷ more) (references before) ≡ Some (unknown_size t)
reference_is [] t more = refl
reference_is (number u ∷ before) t more = reference_is before t more
reference_is (elements u ∷ before) t more = reference_is before t more

one_more_reference : (before : List ParameterType) (p : ParameterObject) → references (before ++ type_of_parameter p ∷ []) ≡ references_after (references before) p
one_more_reference [] (a_number t) = refl
one_more_reference [] (a_reference t) = omega arith
one_more_reference (number u ∷ before) p = one_more_reference before p
one_more_reference (elements u ∷ before) (a_number t) = ap suc (one_more_reference before (a_number t))
one_more_reference (elements u ∷ before) (a_reference t) = let e = one_more_reference before (a_reference t) in omega (arith, e)

module _ (W : Setting) where
  -- the parameters that follow those of `before`, from scope s on
  pub record Stand (before : List ParameterType) (s : Scope) (p : Parameters) : Type 0 where
    pub texts : p.scope.texts ≡ s.texts
    pub definitions : p.scope.definitions ≡ s.definitions
    pub level : p.scope.level ≡ s.level
    pub literals : Extends s.literals p.scope.literals
    pub own : List ObjectType
    pub objects : p.scope.objects ≡ s.objects ++ own
    pub first : parameters_are_first p.types own ≡ true
    pub count : length own ≡ numbers_in p.types
    pub names : List Binding
    pub names_are : p.scope.bindings ≡ names ++ s.bindings
    pub fit : W.function.type.parameters ≡ before ++ p.types → ObjectsEnd W p.scope.objects → AllFit W names

  all_fit : (xs ys : List Binding) → AllFit W xs → AllFit W ys → AllFit W (xs ++ ys)
  all_fit [] ys h k = k
  all_fit (x ∷ xs) ys h k = (h.0, all_fit xs ys h.1 k)

  none : (before : List ParameterType) (s : Scope) → Stand before s (record { types = []; scope = s })
  none before s = record {
    texts = refl;
    definitions = refl;
    level = refl;
    literals = extends_none s.literals;
    own = [];
    objects = sym (append-nil s.objects);
    first = refl;
    count = refl;
    names = [];
    names_are = refl;
    fit = λ e o. tt;
  }

  abbrev own_of : ParameterObject → List ObjectType
  own_of (a_number t) = t ∷ []
  own_of (a_reference t) = []

  -- one parameter, before those of q
  pub record Step (before : List ParameterType) (s s1 : Scope) (o : ParameterObject) (q : Parameters) : Type 0 where
    pub texts : s1.texts ≡ s.texts
    pub definitions : s1.definitions ≡ s.definitions
    pub level : s1.level ≡ s.level
    pub literals : Extends s.literals s1.literals
    pub objects : s1.objects ≡ s.objects ++ own_of o
    pub front : List Binding
    pub front_is : s1.bindings ≡ front ++ s.bindings
    pub fit : W.function.type.parameters ≡ before ++ type_of_parameter o ∷ q.types → ObjectsEnd W q.scope.objects → AllFit W front

  is_first : (o : ParameterObject) (ps : List ParameterType) (own : List ObjectType) → IsParameter o → parameters_are_first ps own ≡ true → parameters_are_first (type_of_parameter o ∷ ps) (own_of o ++ own) ≡ true
  is_first (a_number t) ps own h k =
      and_from (same_type t.element t.element) (nat_eq (length t.lengths) 0 && parameters_are_first ps own) (same_self t.element)
      (and_from (nat_eq (length t.lengths) 0) (parameters_are_first ps own) (subst (λ l. nat_eq (length l) 0 ≡ true) (sym h.0) refl) k)
  is_first (a_reference t) ps own h k = k

  counted : (o : ParameterObject) (ps : List ParameterType) (own : List ObjectType) → length own ≡ numbers_in ps → length (own_of o ++ own) ≡ numbers_in (type_of_parameter o ∷ ps)
  counted (a_number t) ps own h = omega (arith, h)
  counted (a_reference t) ps own h = h

  behind : (before : List ParameterType) (s s1 : Scope) (o : ParameterObject) (q : Parameters) → IsParameter o → Step before s s1 o q → Stand (before ++ type_of_parameter o ∷ []) s1 q → Stand before s (record { types = type_of_parameter o ∷ q.types; scope = q.scope })
  behind before s s1 o q z g h = record {
    texts = h.texts ∙ g.texts;
    definitions = h.definitions ∙ g.definitions;
    level = h.level ∙ g.level;
    literals = extends_on s.literals s1.literals q.scope.literals g.literals h.literals;
    own = own_of o ++ h.own;
    objects = h.objects ∙ ap (λ l. l ++ h.own) g.objects ∙ append_assoc s.objects (own_of o) h.own;
    first = is_first o q.types h.own z h.first;
    count = counted o q.types h.own h.count;
    names = h.names ++ g.front;
    names_are = h.names_are ∙ ap (λ l. h.names ++ l) g.front_is ∙ sym (append_assoc h.names g.front s.bindings);
    fit = λ e oe. all_fit h.names g.front (h.fit (e ∙ sym (append_assoc before (type_of_parameter o ∷ []) q.types)) oe) (g.fit e oe);
  }

  number_end : (s : Scope) (t : ObjectType) (own : List ObjectType) (objects : List ObjectType) → objects ≡ (s.objects ++ t ∷ []) ++ own → ObjectsEnd W objects → slice_get W.function.objects (length s.objects) ≡ Some t
  number_end s t own objects e oe = oe (length s.objects) t (subst (λ l. slice_get l (length s.objects) ≡ Some t) (sym e) (get_left (s.objects ++ t ∷ []) own (length s.objects) t (get_last s.objects t)))

  reference_end : (before more : List ParameterType) (t : ObjectType) (r : ℕ) → r ≡ references before → W.function.type.parameters ≡ before ++ elements t ∷ more → RowsAre t (reference_in W.function.type.parameters r)
  reference_end before more t r e h =
      subst (λ T. RowsAre t T) (sym (ap (λ l. reference_in l r) h ∙ ap (reference_in (before ++ elements t ∷ more)) e ∙ reference_is before t more)) (refl, refl)

  abbrev after : Scope → ℕ → ParameterTree → ParameterObject → Scope
  after s r p o = with_object (with_parameter (with_literals s (strings_in_sizes p.sizes)) r p.name o) o

  step_by : (before : List ParameterType) (s : Scope) (r : ℕ) (lits : List ℕ) (n : Option ℕ) (o : ParameterObject) (q : Parameters) → r ≡ references before → IsParameter o →
      Stand (before ++ type_of_parameter o ∷ []) (with_object (with_parameter (with_literals s lits) r n o) o) q → Step before s (with_object (with_parameter (with_literals s lits) r n o) o) o q
  step_by before s r lits None (a_number t) q e z h =
      record { texts = refl; definitions = refl; level = refl; literals = record { more = lits; is = refl }; objects = refl; front = []; front_is = refl; fit = λ f oe. tt }
  step_by before s r lits None (a_reference t) q e z h =
      record { texts = refl; definitions = refl; level = refl; literals = record { more = lits; is = refl }; objects = sym (append-nil s.objects); front = []; front_is = refl; fit = λ f oe. tt }
  step_by before s r lits (Some n) (a_number t) q e z h = record {
    texts = refl;
    definitions = refl;
    level = refl;
    literals = record { more = lits; is = refl };
    objects = refl;
    front = record { name = n; level = s.level; meaning = an_object (typed.automatic (length s.objects)) (complete t); linkage = no_linkage; state = defined } ∷ [];
    front_is = refl;
    fit = λ f oe. ((object_fits W t (slice_get W.function.objects (length s.objects)) (number_end s t h.own q.scope.objects h.objects oe), z.1), tt);
  }
  step_by before s r lits (Some n) (a_reference t) q e z h = record {
    texts = refl;
    definitions = refl;
    level = refl;
    literals = record { more = lits; is = refl };
    objects = sym (append-nil s.objects);
    front = record { name = n; level = s.level; meaning = an_array_parameter r t; linkage = no_linkage; state = defined } ∷ [];
    front_is = refl;
    fit = λ f oe. ((reference_end before q.types t r e f, z), tt);
  }

  pub parameters_stand : (before : List ParameterType) (r : ℕ) (s : Scope) (ps : List ParameterTree) → r ≡ references before → IfFine (Stand before s) (parameters_from r s ps)
  parameters_stand before r s [] e = none before s
  parameters_stand before r s (p ∷ ps) e =
      then_some IsParameter (Stand before s) (provided (rules.fresh_if_named s p.at p.name) (parameter_object s p)) _ (part IsParameter (rules.fresh_if_named s p.at p.name) (parameter_object s p) (parameter_good s p)) (λ o z.
      then_some (Stand (before ++ type_of_parameter o ∷ []) (after s r p o)) (Stand before s) (parameters_from (references_after r o) (after s r p o) ps) (rules.and_parameter (type_of_parameter o))
      (parameters_stand (before ++ type_of_parameter o ∷ []) (references_after r o) (after s r p o) ps (ap (λ k. references_after k o) e ∙ sym (one_more_reference before o))) (λ q h.
      behind before s (after s r p o) o q z (step_by before s r (strings_in_sizes p.sizes) p.name o q e z h) h))
