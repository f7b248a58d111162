-- The measures of a program: nodes, weights, bytes (5.2.4.1, 6.9).
use Rattle.std.proofs.Common.{◌≡◌, ◌≤◌, ◌<◌, ℕ, zero, suc, ◌+◌, ◌-◌, Bool, true, false, ◌&&◌, nat_lt, List, [], ◌∷◌, ◌++◌, length, take, Option, Some, None, refl, sym, ap, ◌∙◌, subst, arith}
use Rattle.std.specs.Prelude.{slice_get, codes, if◌then◌else◌}
use Rattle.std.proofs.lemmas.Bool.Decides.{nat_tests}
use Rattle.std.proofs.lemmas.List.Recursion.{is_sum_by}
use Rattle.srcset.specs.declared.code.Code.TheVariants as code
use Rattle.srcset.specs.declared.refusal.Pos.{Pos}
use Rattle.tree.specs.Tree.{ParameterTree, FunctionTree, ExternalTree, definition, declaration}
use Rattle.tree.specs.Counts.{function_nodes, parameters_nodes, pieces_nodes}
use Rattle.typing_spec.specs.Types.{FunctionType, same_function, size_of_object}
use Rattle.typing_spec.specs.Verdict.{fine, then_check, provided, refuse_if, each, IfFine}
use Rattle.typing_spec.specs.Program.{Function, Static}
use Rattle.typing_spec.specs.Scope.{Scope, StaticObject, is_called, literal_of, text_of, lookup, defined, or_empty, file_scope, with_literals, inside}
use Rattle.typing_spec.specs.Uses.{all_defined, uses_in_functions}
use Rattle.typing_spec.specs.Declarators.{Parameters, parameters_from, parameters_in, parameter_object, fresh_if_named, references_after, and_parameter, type_of_parameter, function_type, behind_parameters, with_object, with_parameter, strings_in_sizes}
use Rattle.typing_spec.specs.Declarations.{Initial, declaration_typed, specified}
use Rattle.typing_spec.specs.Linkage.{file_function}
use Rattle.typing_spec.specs.Statements.{AllDone, pieces}
use Rattle.typing_spec.specs.Units as rules
use Rattle.typing_spec.specs.Units.{Built, in_words, bytes_of_statics, bytes_of_literals, statics_from, literals_of, main_from, is_main, main_type, externals_typed, external_typed, function_typed, function_of, with_function, body_typed, with_type, whole_program, program_of, unit_typed}
use Rattle.tac_code.specs.Sound.{AreBytes, data_bytes}
use Rattle.tac_code.specs.Sound as sound
use Rattle.lower_wf.specs.Laws.{ProgramIsMeasured, FunctionIsMeasured, IsMeasured, IsWithinNodes, AreTexts}
use Rattle.lower_wf.proofs.Same.{both_true, same_function_is}
use Rattle.lower_wf.proofs.Verdicts.{then_any, then_some, part, of_fine, both_of}
use Rattle.lower_wf.proofs.Texts.{externals_texts}
use Rattle.lower_wf.proofs.Ground.{same_some}
use Rattle.lower_wf.proofs.StatementNodes.{AllWithin, pieces_within}

abbrev FunctionsGood : List Function → Type 0
FunctionsGood [] = Unit {0}
FunctionsGood (f ∷ fs) = FunctionIsMeasured f × FunctionsGood fs

one_more_function : (fs : List Function) (f : Function) → FunctionsGood fs → FunctionIsMeasured f → FunctionsGood (fs ++ f ∷ [])
one_more_function [] f h k = (k, tt)
one_more_function (g ∷ fs) f h k = (h.0, one_more_function fs f h.1 k)

each_function : (fs : List Function) (k : ℕ) (f : Function) → FunctionsGood fs → slice_get fs k ≡ Some f → FunctionIsMeasured f
each_function [] k f h e = absurd (let z : ⊥ = cc in z)
each_function (g ∷ fs) zero f h e = subst FunctionIsMeasured (let z : g ≡ f = cc in z) h.0
each_function (g ∷ fs) (suc k) f h e = each_function fs k f h.1 e

-- ---- parameters

abbrev TypesWithin : ℕ → Parameters → Type 0
TypesWithin n p = length p.types ≤ n

types_within : (r : ℕ) (s : Scope) (ps : List ParameterTree) → IfFine (TypesWithin (parameters_nodes ps)) (parameters_from r s ps)
types_within r s [] = omega arith
types_within r s (p ∷ ps) =
    then_any (TypesWithin (parameters_nodes (p ∷ ps))) (provided (fresh_if_named s p.at p.name) (parameter_object s p)) _ (λ o.
    then_some (TypesWithin (parameters_nodes ps)) (TypesWithin (parameters_nodes (p ∷ ps))) (parameters_from (references_after r o) (with_object (with_parameter (with_literals s (strings_in_sizes p.sizes)) r p.name o) o) ps) (and_parameter (type_of_parameter o))
    (types_within (references_after r o) (with_object (with_parameter (with_literals s (strings_in_sizes p.sizes)) r p.name o) o) ps) (λ q h. omega (arith, h)))

-- ---- functions

at_most : (m n : ℕ) → nat_lt m n ≡ false → n ≤ m
at_most m n h = grind (arith, nat_tests, h)

light : (stack w : ℕ) → stack ≤ 16777216 → nat_lt stack w ≡ false → w ≤ 16777216
light stack w l h = omega (arith, l, at_most stack w h)

abbrev BuiltGood : Built → Type 0
BuiltGood b = FunctionsGood b.functions × (b.stack ≤ 16777216)

function_good : (stack : ℕ) (f : FunctionTree) (t : FunctionType) (all : AllDone) → stack ≤ 16777216 → length t.parameters ≤ parameters_nodes f.parameters → AllWithin (pieces_nodes f.body) all → function_nodes f ≤ 8000 →
    nat_lt stack (rules.weight f t.parameters all.scope.objects) ≡ false → FunctionIsMeasured (function_of f t all)
function_good stack f t all l h k n e = record {
  weight = refl;
  light = light stack (rules.weight f t.parameters all.scope.objects) l e;
  counted = omega (arith, h, k);
  nodes = n;
}

with_function_good : (b : Built) (file : Scope) (f : FunctionTree) (t : FunctionType) (all : AllDone) → BuiltGood b → length t.parameters ≤ parameters_nodes f.parameters → AllWithin (pieces_nodes f.body) all → function_nodes f ≤ 8000 →
    IfFine BuiltGood (with_function b file f t all)
with_function_good b file f t all g h k n = by (nat_lt b.stack (rules.weight f t.parameters all.scope.objects)) refl
  where
    by : (c : Bool) → c ≡ nat_lt b.stack (rules.weight f t.parameters all.scope.objects) → IfFine BuiltGood (provided (refuse_if c code.WeightLimit f.at) (fine (record {
      stack = b.stack;
      scope = record file { literals = all.scope.literals; statics = all.scope.statics; objects = [] };
      functions = b.functions ++ function_of f t all ∷ [];
      initial = b.initial ++ all.initial;
    })))
    by true e = tt
    by false e = (one_more_function b.functions (function_of f t all) g.0 (function_good b.stack f t all g.1 h k n (sym e)), g.1)

function_typed_good : (b : Built) (f : FunctionTree) → BuiltGood b → function_nodes f ≤ 8000 → IfFine BuiltGood (function_typed b f)
function_typed_good b f g n =
    then_any BuiltGood (specified b.scope f.start f.specifiers) _ (λ d.
    then_some (TypesWithin (parameters_nodes f.parameters)) BuiltGood (provided (rules.all_named f.parameters) (parameters_in d.scope f.parameters)) _
    (part (TypesWithin (parameters_nodes f.parameters)) (rules.all_named f.parameters) (parameters_in d.scope f.parameters) (types_within 0 (inside (record d.scope { objects = [] })) f.parameters)) (λ ps h.
    let t = function_type d.base ps.types in
    then_any BuiltGood (file_function (behind_parameters d.scope ps.scope) f.at f.name d.class t defined) (body_typed b f d.scope ps t) (λ file.
    then_some (AllWithin (pieces_nodes f.body)) BuiltGood (pieces (rules.around_of t) None (rules.body_scope file ps.scope d.scope) f.body) (with_function b file f t) (pieces_within (rules.around_of t) None (rules.body_scope file ps.scope d.scope) f.body) (λ all k.
    with_function_good b file f t all g h k n))))

external_good : (b : Built) (e : ExternalTree) → BuiltGood b → ((f : FunctionTree) → e ≡ definition f → function_nodes f ≤ 8000) → IfFine BuiltGood (external_typed b e)
external_good b (definition f) g n = function_typed_good b f g (n f refl)
external_good b (declaration d) g n = then_any BuiltGood (declaration_typed b.scope d) (rules.with_declaration b) (λ x. g)

externals_good : (b : Built) (es : List ExternalTree) → BuiltGood b → IsWithinNodes es → IfFine BuiltGood (externals_typed b es)
externals_good b [] g n = g
externals_good b (e ∷ es) g n =
    then_some BuiltGood BuiltGood (external_typed b e) (λ c. externals_typed c es) (external_good b e g (λ f h. n 0 f (ap Some h))) (λ c k. externals_good c es k (λ j f h. n (suc j) f h))

-- ---- main

abbrev IsMainIn : Scope → List Function → ℕ → ℕ → Type 0
IsMainIn s fs n m = (k : ℕ) × (f : Function) × (m ≡ n + k) × (slice_get fs k ≡ Some f) × (is_main s f ≡ true)

abbrev IfSome : (ℕ → Type 0) → Option ℕ → Type 0
IfSome P None = Unit {0}
IfSome P (Some m) = P m

later : (s : Scope) (f : Function) (fs : List Function) (n : ℕ) (o : Option ℕ) → IfSome (IsMainIn s fs (n + 1)) o → IfSome (IsMainIn s (f ∷ fs) n) o
later s f fs n None h = tt
later s f fs n (Some m) h = (suc h.0, h.1, (let e = h.2 in omega (arith, e)), h.3, h.4)

main_found : (s : Scope) (n : ℕ) (fs : List Function) → IfSome (IsMainIn s fs n) (main_from s n fs)
main_found s n [] = tt
main_found s n (f ∷ fs) = by (is_main s f) refl (main_from s (n + 1) fs) (main_found s (n + 1) fs)
  where
    by : (c : Bool) → c ≡ is_main s f → (o : Option ℕ) → IfSome (IsMainIn s fs (n + 1)) o → IfSome (IsMainIn s (f ∷ fs) n) (if c then Some n else o)
    by true e o h = (zero, f, omega arith, refl, sym e)
    by false e o h = later s f fs n o h

main_type_is : (s : Scope) (f : Function) → is_main s f ≡ true → f.type ≡ main_type
main_type_is s f h =
    let w = both_true (is_called s f.name (codes "main")) (same_function f.type main_type && rules.is_external (lookup s f.name)) h in
    same_function_is f.type main_type (both_true (same_function f.type main_type) (rules.is_external (lookup s f.name)) w.1).0

below_length : {A : Type 0} (xs : List A) (n : ℕ) (x : A) → slice_get xs n ≡ Some x → n < length xs
below_length [] n x e = absurd (let z : ⊥ = cc in z)
below_length (y ∷ xs) zero x e = omega arith
below_length (y ∷ xs) (suc n) x e = omega (arith, below_length xs n x e)

-- ---- bytes

static_size : (b : Bool) (n : ℕ) → (if b then in_words n else 0) ≡ sound.static_bytes b n
static_size true n = refl
static_size false n = refl

abbrev StaticSize : Static → ℕ
StaticSize o = sound.static_bytes o.defined (size_of_object o.type)

abbrev sizes_of : List Static → ℕ
sizes_of [] = 0
sizes_of (o ∷ os) = StaticSize o + sizes_of os

statics_same : (n : ℕ) (os : List StaticObject) (initial : List Initial) → bytes_of_statics os ≡ sizes_of (statics_from n os initial)
statics_same n [] initial = refl
statics_same n (o ∷ os) initial =
    ap (λ k. k + bytes_of_statics os) (static_size o.defined (size_of_object o.type)) ∙ ap (λ k. sound.static_bytes o.defined (size_of_object o.type) + k) (statics_same (n + 1) os initial)

data_same : (literals : List (List ℕ)) (n : ℕ) (os : List StaticObject) (initial : List Initial) → bytes_of_statics os + bytes_of_literals literals ≡ data_bytes literals (statics_from n os initial)
data_same literals n os initial =
    let a = is_sum_by bytes_of_literals (λ text. in_words (length text)) refl (λ x xs. refl) literals in
    let b = statics_same n os initial ∙ is_sum_by sizes_of StaticSize refl (λ x xs. refl) (statics_from n os initial) in omega (arith, a, b)

-- ---- literals

taken_bytes : (n : ℕ) (text : List ℕ) → AreBytes text → AreBytes (take n text ++ 0 ∷ [])
taken_bytes zero text h zero c e = let z : 0 ≡ c = cc in omega (arith, z)
taken_bytes zero text h (suc k) c e = absurd (let z : ⊥ = cc in z)
taken_bytes (suc n) [] h zero c e = let z : 0 ≡ c = cc in omega (arith, z)
taken_bytes (suc n) [] h (suc k) c e = absurd (let z : ⊥ = cc in z)
taken_bytes (suc n) (x ∷ text) h zero c e = h zero c e
taken_bytes (suc n) (x ∷ text) h (suc k) c e = taken_bytes n text (λ j d f. h (suc j) d f) k c e

no_bytes : AreBytes []
no_bytes k c e = absurd (let z : ⊥ = cc in z)

text_bytes : (o : Option (List ℕ)) → ((text : List ℕ) → o ≡ Some text → AreBytes text) → AreBytes (or_empty o)
text_bytes None h = no_bytes
text_bytes (Some text) h = h text refl

literals_bytes : (s : Scope) → AreTexts s.texts → (ns : List ℕ) (n : ℕ) (text : List ℕ) → slice_get (literals_of s ns) n ≡ Some text → AreBytes text
literals_bytes s h [] n text e = absurd (let z : ⊥ = cc in z)
literals_bytes s h (k ∷ ns) zero text e =
    subst AreBytes (let z : literal_of s k ++ 0 ∷ [] ≡ text = cc in z) (taken_bytes (length (text_of s k) - 1) (text_of s k) (text_bytes (slice_get s.texts k) (λ t f. h k t f)))
literals_bytes s h (k ∷ ns) (suc n) text e = literals_bytes s h ns n text e

-- ---- the program

measured_by : (b : Built) → BuiltGood b → AreTexts b.scope.texts → nat_lt rules.static_limit (rules.static_bytes b.scope) ≡ false → nat_lt rules.function_limit (length b.functions) ≡ false → (main : ℕ) → IsMainIn b.scope b.functions 0 main → IsMeasured (program_of b main)
measured_by b g t s l main m =
    let k = m.0 in
    let place : main ≡ k = (let e = m.2 in omega (arith, e)) in
    let here : slice_get b.functions main ≡ Some m.1 = ap (slice_get b.functions) place ∙ m.3 in
    let type = main_type_is b.scope m.1 m.4 in
    let same = λ (f : Function) (e : slice_get b.functions main ≡ Some f). same_some f m.1 (sym e ∙ here) in record {
      main_is_there = below_length b.functions main m.1 here;
      main_takes_nothing = λ f e. ap (λ x. x.type.parameters) (same f e) ∙ ap (λ x. x.parameters) type;
      main_gives_int = λ f e. ap (λ x. x.type.result) (same f e) ∙ ap (λ x. x.result) type;
      each = λ j f e. each_function b.functions j f g.0 e;
      literals = λ n text e. literals_bytes b.scope t b.scope.literals n text e;
      few = at_most 16384 (length b.functions) l;
      small = subst (λ n. n ≤ 16777216) (data_same (literals_of b.scope b.scope.literals) 0 b.scope.statics b.initial) (at_most 16777216 (rules.static_bytes b.scope) s);
    }

by_main : (whole : Pos) (b : Built) → ((main : ℕ) → IsMainIn b.scope b.functions 0 main → IsMeasured (program_of b main)) → (o : Option ℕ) → IfSome (IsMainIn b.scope b.functions 0) o → IfFine IsMeasured (then_check (rules.main_or_fault whole o) (λ main. fine (program_of b main)))
by_main whole b g None h = tt
by_main whole b g (Some m) h = g m h

whole_measured : (whole : Pos) (b : Built) → BuiltGood b → AreTexts b.scope.texts → IfFine IsMeasured (whole_program whole b)
whole_measured whole b g t = by (nat_lt rules.static_limit (rules.static_bytes b.scope)) (nat_lt rules.function_limit (length b.functions)) refl refl
  where
    by : (x y : Bool) → x ≡ nat_lt rules.static_limit (rules.static_bytes b.scope) → y ≡ nat_lt rules.function_limit (length b.functions) →
        IfFine IsMeasured (provided (each (each (refuse_if x code.StaticSizeLimit whole) (refuse_if y code.FunctionLimit whole)) (all_defined b.scope [] (uses_in_functions b.functions)))
        (then_check (rules.main_or_fault whole (main_from b.scope 0 b.functions)) (λ main. fine (program_of b main))))
    by true y e f = tt
    by false true e f = tt
    by false false e f =
        part IsMeasured (each (each (refuse_if false code.StaticSizeLimit whole) (refuse_if false code.FunctionLimit whole)) (all_defined b.scope [] (uses_in_functions b.functions))) (then_check (rules.main_or_fault whole (main_from b.scope 0 b.functions)) (λ main. fine (program_of b main)))
        (by_main whole b (λ main m. measured_by b g t (sym e) (sym f) main m) (main_from b.scope 0 b.functions) (main_found b.scope 0 b.functions))

pub program_is_measured : ProgramIsMeasured
program_is_measured stack texts whole unit p l t n e =
    let start : Built = record { stack = stack; scope = file_scope texts (rules.definitions_in unit); functions = []; initial = [] } in
    of_fine IsMeasured (unit_typed stack texts whole unit) p e
    (then_some (λ c. BuiltGood c × (c.scope.texts ≡ texts)) IsMeasured (externals_typed start unit) (whole_program whole)
    (both_of BuiltGood (λ c. c.scope.texts ≡ texts) (externals_typed start unit) (externals_good start unit (tt, l) n) (externals_texts start unit)) (λ c h. whole_measured whole c h.0 (subst AreTexts (sym h.1) t)))
