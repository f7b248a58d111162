-- Lists as far as they are read.
use Rattle.std.proofs.Common.{◌≡◌, ℕ, ◌+◌, ◌<◌, ◌≤◌, Bool, true, false, not, List, [], ◌∷◌, ◌++◌, drop, get_or, length, map, refl, sym, ap, ◌∙◌, subst, append_assoc, append-nil, arith, nat_eq, Ok, Err, OnOk, Vec, Global}
use Rattle.std.specs.Prelude.{Result}
use Rattle.std.proofs.lemmas.List.{drop_more, drop_all, map_push}
use Rattle.srcset.specs.declared.code.Code.TheVariants as code
use Rattle.srcset.specs.declared.refusal.Refusal.{Refusal}
use Rattle.tree.specs.Tree.{ParameterTree, ExternalTree, definition, declaration}
use Rattle.tree.specs.View.{parameter_of, external_of}
use Rattle.tree.specs.declared.declaration.Parameter.{Parameter}
use Rattle.tree.specs.declared.unit.External.{External}
use Rattle.typed_ast.specs.declared.types.ParameterType as held
use Rattle.typed_ast.specs.View.{parameter_type_of}
use Rattle.typing_spec.specs.Types.{ParameterType, number, elements, same_parameters}
use Rattle.typing_spec.specs.Verdict.{Verdict, fine, refuse_if}
use Rattle.typing_spec.specs.Scope.{Scope, literal_of}
use Rattle.typing_spec.specs.Units.{has_name, all_named, definitions_in, numbers_in, literals_of}
use Rattle.typing_expressions.specs.Refused.{IsOf}
use Rattle.typing_expressions.proofs.Verdicts.{each_left, each_right, each_fine}
use Rattle.typing_units.specs.inside.Parts.{is_number}

pub next_of : {X : Type 0} (xs : List X) (i : ℕ) (x : X) → i < length xs → x ≡ get_or xs i x → drop i xs ≡ x ∷ drop (i + 1) xs
next_of xs i x h e = drop_more xs i x h ∙ ap (λ y. y ∷ drop (i + 1) xs) (sym e)

-- ---- names of parameters: the result on the rest determines the result on the whole

pub record Naming (all rest : List ParameterTree) : Type 0 where
  pub ok : all_named rest ≡ fine tt → all_named all ≡ fine tt
  pub err : (r : Refusal) → IsOf r (all_named rest) → IsOf r (all_named all)

abbrev named : ParameterTree → Verdict (Unit {0})
named p = refuse_if (not (has_name p.name)) code.UnnamedParameter p.at

one_named : (all : List ParameterTree) (p : ParameterTree) (ps : List ParameterTree) → Naming all (p ∷ ps) → named p ≡ fine tt → Naming all ps
one_named all p ps h e = record { ok = λ f. h.ok (each_fine (named p) (all_named ps) e f); err = λ r q. h.err r (each_right r (named p) (all_named ps) q) }

next_parameter : (ps : List Parameter) (i : ℕ) (p : Parameter) → i < length ps → p ≡ get_or ps i p → map parameter_of (drop i ps) ≡ parameter_of p ∷ map parameter_of (drop (i + 1) ps)
next_parameter ps i p h e = ap (λ l. map parameter_of l) (next_of ps i p h e)

pub naming_begun : (all : List ParameterTree) → Naming all all
naming_begun all = record { ok = λ e. e; err = λ r q. q }

pub naming_more : (all : List ParameterTree) (ps : List Parameter) (i : ℕ) (p : Parameter) → i < length ps → p ≡ get_or ps i p → Naming all (map parameter_of (drop i ps)) → named (parameter_of p) ≡ fine tt →
    Naming all (map parameter_of (drop (i + 1) ps))
naming_more all ps i p h e inv f = one_named all (parameter_of p) (map parameter_of (drop (i + 1) ps)) (subst (λ l. Naming all l) (next_parameter ps i p h e) inv) f

pub naming_stops : (all : List ParameterTree) (ps : List Parameter) (i : ℕ) (p : Parameter) (r : Refusal) → i < length ps → p ≡ get_or ps i p → Naming all (map parameter_of (drop i ps)) → IsOf r (named (parameter_of p)) → IsOf r (all_named all)
naming_stops all ps i p r h e inv q =
    inv.err r (subst (λ l. IsOf r (all_named l)) (sym (next_parameter ps i p h e)) (each_left r (named (parameter_of p)) (all_named (map parameter_of (drop (i + 1) ps))) q))

pub naming_ended : (all : List ParameterTree) (ps : List Parameter) (i : ℕ) → length ps ≤ i → Naming all (map parameter_of (drop i ps)) → all_named all ≡ fine tt
naming_ended all ps i h inv = inv.ok (ap (λ l. all_named (map parameter_of l)) (drop_all i ps h))

-- ---- definitions

one_definition : (e : ExternalTree) (es : List ExternalTree) → definitions_in (e ∷ es) ≡ definitions_in (e ∷ []) ++ definitions_in es
one_definition (definition f) es = refl
one_definition (declaration d) es = refl

pub definitions_more : (xs : List External) (i : ℕ) (x : External) (old new all : List ℕ) → i < length xs → x ≡ get_or xs i x → old ++ definitions_in (map external_of (drop i xs)) ≡ all →
    new ≡ old ++ definitions_in (external_of x ∷ []) → new ++ definitions_in (map external_of (drop (i + 1) xs)) ≡ all
definitions_more xs i x old new all h e inv n =
    ap (λ l. l ++ definitions_in (map external_of (drop (i + 1) xs))) n ∙ append_assoc old (definitions_in (external_of x ∷ [])) (definitions_in (map external_of (drop (i + 1) xs)))
    ∙ ap (λ l. old ++ l) (sym (one_definition (external_of x) (map external_of (drop (i + 1) xs)))) ∙ ap (λ l. old ++ definitions_in (map external_of l)) (sym (next_of xs i x h e)) ∙ inv

pub definitions_ended : (xs : List External) (i : ℕ) (names all : List ℕ) → length xs ≤ i → names ++ definitions_in (map external_of (drop i xs)) ≡ all → names ≡ all
definitions_ended xs i names all h inv = sym (append-nil names) ∙ ap (λ l. names ++ definitions_in (map external_of l)) (sym (drop_all i xs h)) ∙ inv

-- ---- parameters that are numbers

numbers_true : (p : ParameterType) (ps : List ParameterType) → is_number p ≡ true → numbers_in (p ∷ ps) ≡ numbers_in ps + 1
numbers_true (number t) ps e = refl
numbers_true (elements t) ps e = absurd (cc)

numbers_false : (p : ParameterType) (ps : List ParameterType) → is_number p ≡ false → numbers_in (p ∷ ps) ≡ numbers_in ps
numbers_false (number t) ps e = absurd (cc)
numbers_false (elements t) ps e = refl

abbrev numbers_left : List held.ParameterType → ℕ
numbers_left ps = numbers_in (map parameter_type_of ps)

pub one_number : (ps : List held.ParameterType) (i : ℕ) (p : held.ParameterType) (v : Bool) (count all : ℕ) → i < length ps → p ≡ get_or ps i p → v ≡ is_number (parameter_type_of p) → v ≡ true →
    count + numbers_left (drop i ps) ≡ all → count + 1 + numbers_left (drop (i + 1) ps) ≡ all
one_number ps i p v count all h e f t inv =
    let w : numbers_left (drop i ps) ≡ numbers_left (drop (i + 1) ps) + 1 = ap numbers_left (next_of ps i p h e) ∙ numbers_true (parameter_type_of p) (map parameter_type_of (drop (i + 1) ps)) (sym f ∙ t) in
    omega (arith, w, inv)

pub no_number : (ps : List held.ParameterType) (i : ℕ) (p : held.ParameterType) (v : Bool) (count all : ℕ) → i < length ps → p ≡ get_or ps i p → v ≡ is_number (parameter_type_of p) → v ≡ false →
    count + numbers_left (drop i ps) ≡ all → count + numbers_left (drop (i + 1) ps) ≡ all
no_number ps i p v count all h e f t inv =
    let w : numbers_left (drop i ps) ≡ numbers_left (drop (i + 1) ps) = ap numbers_left (next_of ps i p h e) ∙ numbers_false (parameter_type_of p) (map parameter_type_of (drop (i + 1) ps)) (sym f ∙ t) in
    omega (arith, w, inv)

pub numbers_ended : (ps : List held.ParameterType) (i count all : ℕ) → length ps ≤ i → count + numbers_left (drop i ps) ≡ all → count ≡ all
numbers_ended ps i count all h inv = let w : numbers_left (drop i ps) ≡ 0 = ap numbers_left (drop_all i ps h) in omega (arith, w, inv)

-- ---- string literals

pub literals_more : (s : Scope) (ns : List ℕ) (i n : ℕ) (old new all : List (List ℕ)) → i < length ns → n ≡ get_or ns i n → old ++ literals_of s (drop i ns) ≡ all →
    new ≡ old ++ (literal_of s n ++ 0 ∷ []) ∷ [] → new ++ literals_of s (drop (i + 1) ns) ≡ all
literals_more s ns i n old new all h e inv w =
    ap (λ l. l ++ literals_of s (drop (i + 1) ns)) w ∙ append_assoc old ((literal_of s n ++ 0 ∷ []) ∷ []) (literals_of s (drop (i + 1) ns))
    ∙ ap (λ l. old ++ literals_of s l) (sym (next_of ns i n h e)) ∙ inv

pub literals_ended : (s : Scope) (ns : List ℕ) (i : ℕ) (texts all : List (List ℕ)) → length ns ≤ i → texts ++ literals_of s (drop i ns) ≡ all → texts ≡ all
literals_ended s ns i texts all h inv = sym (append-nil texts) ∙ ap (λ l. texts ++ literals_of s l) (sym (drop_all i ns h)) ∙ inv

-- ---- no parameters

pub no_parameters : (ps : List held.ParameterType) → nat_eq (length ps) 0 ≡ same_parameters (map parameter_type_of ps) []
no_parameters [] = refl
no_parameters (p ∷ ps) = grind arith

-- ---- one more text

pub text_more : {T E : Type 0} (r : Result T E) (old new : List (Vec ℕ Global)) (text : Vec ℕ Global) (lit : List ℕ) → text.items ≡ lit → OnOk r (new ≡ old ++ text ∷ []) →
    OnOk r (map (λ t. t.items) new ≡ map (λ t. t.items) old ++ lit ∷ [])
text_more (Ok x) old new text lit e h = ap (λ l. map (λ t. t.items) l) h ∙ map_push (λ t. t.items) old text ∙ ap (λ l. map (λ t. t.items) old ++ l ∷ []) e
text_more (Err x) old new text lit e h = tt
