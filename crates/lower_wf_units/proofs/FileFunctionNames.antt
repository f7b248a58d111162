-- Functions declared at file scope: each keeps its type (6.2.7p3, 6.7p4, 6.9.1).
use Rattle.std.proofs.Common.{◌≡◌, ℕ, Bool, true, false, not, ◌&&◌, List, [], Option, Some, None, refl, sym, ap, ◌∙◌, subst}
use Rattle.std.specs.Prelude.{if◌then◌else◌}
use Rattle.srcset.specs.declared.code.Code.TheVariants as code
use Rattle.srcset.specs.declared.refusal.Pos.{Pos}
use Rattle.tree.specs.Tree.{ParameterTree}
use Rattle.typing_spec.specs.Types.{FunctionType, same_function}
use Rattle.typing_spec.specs.Program as typed
use Rattle.typing_spec.specs.Program.{Program}
use Rattle.typing_spec.specs.Verdict.{fine, then_check, refuse_if, each, IfFine}
use Rattle.typing_spec.specs.Scope.{Scope, Binding, BuiltIn, Meaning, an_object, an_array_parameter, a_function, an_enumerator, Linkage, State, lookup, built_in, with_name, inside}
use Rattle.typing_spec.specs.Declarators.{Parameters, parameters_in}
use Rattle.typing_spec.specs.Linkage.{StorageClass, Agreed, agreed, linkage_of_function, composite_meaning, compatible, is_linked, is_internal, is_defined, clash, joined, is_of_type, with_linkage, by_linkage, redeclared, as_built_in, agreed_in, with_storage, file_function}
use Rattle.lower_wf.specs.Settled.{Setting}
use Rattle.lower_wf.proofs.Same.{same_function_is}
use Rattle.lower_wf.proofs.Verdicts.{then_some, both_any, more_of, each_parts, refused}
use Rattle.lower_wf.proofs.Ground.{same_some}
use Rattle.lower_wf.proofs.Scopes.{Extends}
use Rattle.lower_wf.proofs.Parameters.{Stand, parameters_stand}
use Rattle.lower_wf_units.proofs.Files.{Stands, IsFile, Reaches}
use Rattle.lower_wf_units.proofs.FileNames.{guarded, not_false, stands_itself, name_reaches}

-- ---- parameters leave their string literals

-- of no program
nothing : Setting
nothing = record {
  program = record { literals = []; statics = []; functions = []; main = 0 };
  function = record { name = 0; type = record { result = None; constant = false; parameters = [] }; objects = []; body = typed.empty; nodes = 0; weight = 0 };
  texts = [];
  definitions = [];
}

abbrev pub ExtendsLiterals : Scope → Parameters → Type 0
ExtendsLiterals s q = Extends s.literals q.scope.literals

pub parameters_extend : (s : Scope) (ps : List ParameterTree) → IfFine (ExtendsLiterals s) (parameters_in s ps)
parameters_extend s ps =
    let u = inside (record s { objects = [] }) in
    more_of (Stand nothing [] u) (ExtendsLiterals s) (parameters_in s ps) (λ q st. st.literals) (parameters_stand nothing [] 0 u ps refl)

-- ---- a built-in's name has its type

built_in_type : (at : Pos) (t : FunctionType) (l : Linkage) (state : State) (o : Option BuiltIn) →
    as_built_in at (agreed (a_function t) l state) o ≡ fine tt → (b : BuiltIn) → o ≡ Some b → b.type ≡ t
built_in_type at t l state None e b f = absurd (cc)
built_in_type at t l state (Some x) e b f =
    let others = each (refuse_if (is_internal l) code.LinkageConflict at) (refuse_if (is_defined state) code.BuiltInDefined at) in
    let first = (each_parts (refuse_if (not (is_of_type x.type (a_function t))) code.RedeclaredWithAnotherType at) others e).0 in
    let same = not_false (same_function x.type t) (refused (not (same_function x.type t)) code.RedeclaredWithAnotherType at first) in
    ap (λ (y : BuiltIn). y.type) (sym (same_some x b f)) ∙ same_function_is x.type t same

-- ---- an earlier declaration has this very type

abbrev Composed : Meaning → FunctionType → Meaning → Type 0
Composed old t m = (m ≡ a_function t) × ((u : FunctionType) → old ≡ a_function u → u ≡ t)

function_same : (t u : FunctionType) → a_function t ≡ a_function u → t ≡ u
function_same t u e = cc

composed_if : (at : Pos) (f t : FunctionType) (c : Bool) → c ≡ same_function f t →
    IfFine (Composed (a_function f) t) (compatible at (if c then Some (a_function f) else None))
composed_if at f t true e = let w = same_function_is f t (sym e) in (ap a_function w, λ u h. sym (function_same f u h) ∙ w)
composed_if at f t false e = tt

composed : (at : Pos) (old : Meaning) (t : FunctionType) → IfFine (Composed old t) (compatible at (composite_meaning old (a_function t)))
composed at (an_object what x) t = tt
composed at (an_array_parameter k x) t = tt
composed at (a_function f) t = composed_if at f t (same_function f t) refl
composed at (an_enumerator v) t = tt

abbrev FunctionAgreed : Option Binding → FunctionType → Agreed → Type 0
FunctionAgreed o t a = (a.meaning ≡ a_function t) × ((u : FunctionType) → (b : Binding) → o ≡ Some b → b.meaning ≡ a_function u → u ≡ t)

with_linkage_agreed : (at : Pos) (t : FunctionType) (l : Linkage) (state : State) (old : Binding) →
    IfFine (FunctionAgreed (Some old) t) (with_linkage at (agreed (a_function t) l state) old)
with_linkage_agreed at t l state old =
    both_any (Composed old.meaning t) (FunctionAgreed (Some old) t)
    (each (refuse_if (clash old.linkage l) code.LinkageConflict at) (refuse_if (is_defined old.state && is_defined state) code.DefinedTwice at))
    (compatible at (composite_meaning old.meaning (a_function t))) (λ u m. fine (agreed m old.linkage (joined old.state state))) (composed at old.meaning t)
    (λ x m c.
    (c.0, λ u b e f. c.1 u (ap (λ (y : Binding). y.meaning) (same_some old b e) ∙ f)))

by_linkage_agreed : (c : Bool) (at : Pos) (t : FunctionType) (l : Linkage) (state : State) (old : Binding) →
    IfFine (FunctionAgreed (Some old) t) (by_linkage c at (agreed (a_function t) l state) old)
by_linkage_agreed true at t l state old = with_linkage_agreed at t l state old
by_linkage_agreed false at t l state old = tt

function_agreed : (at : Pos) (t : FunctionType) (l : Linkage) (state : State) (o : Option Binding) →
    IfFine (FunctionAgreed o t) (redeclared at (agreed (a_function t) l state) o)
function_agreed at t l state None = (refl, λ u b e f. absurd (cc))
function_agreed at t l state (Some old) = by_linkage_agreed (is_linked old.linkage) at t l state old

module _ (p : Program) (texts : List (List ℕ)) (definitions : List ℕ) where
  abbrev pub FunctionReaches : Scope → ℕ → FunctionType → Scope → Type 0
  FunctionReaches s n t u = Reaches p texts definitions s [] u × Stands u n (a_function t)

  named_function : (s : Scope) → IsFile s → (n : ℕ) (t : FunctionType) (l : Linkage) (state : State) → ((b : BuiltIn) → built_in s n ≡ Some b → b.type ≡ t) →
      ((u : FunctionType) → Stands s n (a_function u) → u ≡ t) →
      FunctionReaches s n t (with_name s n (a_function t) l state)
  named_function s h n t l state b e =
      let own = stands_itself s n (a_function t) l state in
      (name_reaches p texts definitions s n (a_function t) l state h tt b (λ u w. ap a_function (sym (e u w))) (λ F a. F.functions n t own), own)

  agreed_function : (s : Scope) → IsFile s → (n : ℕ) (t : FunctionType) (l : Linkage) (state : State) (m : Meaning) → a_function t ≡ m →
      ((b : BuiltIn) → built_in s n ≡ Some b → b.type ≡ t) → ((u : FunctionType) → Stands s n (a_function u) → u ≡ t) →
      FunctionReaches s n t (with_storage (with_name s n m l state) state m)
  agreed_function s h n t l state m q b e =
      subst (λ x. FunctionReaches s n t (with_storage (with_name s n x l state) state x)) q (named_function s h n t l state b e)

  pub function_reaches : (s : Scope) → IsFile s → (at : Pos) (n : ℕ) (class : StorageClass) (t : FunctionType) (state : State) →
      IfFine (FunctionReaches s n t) (file_function s at n class t state)
  function_reaches s h at n class t state =
      let l = linkage_of_function class (lookup s n) in
      let new = agreed (a_function t) l state in
      guarded (FunctionReaches s n t) (as_built_in at new (built_in s n)) (then_check (redeclared at new (lookup s n)) (agreed_in s n)) (λ g.
      then_some (FunctionAgreed (lookup s n) t) (FunctionReaches s n t) (redeclared at new (lookup s n)) (agreed_in s n)
      (function_agreed at t l state (lookup s n)) (λ a c.
      agreed_function s h n t a.linkage a.state a.meaning (sym c.0) (built_in_type at t l state (built_in s n) g) (λ u w. c.1 u w.0 w.1 w.2)))
