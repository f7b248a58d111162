-- Lists of parameters, as far as they are compared.
use Rattle.std.proofs.Common.{◌≡◌, ℕ, ◌+◌, ◌<◌, ◌≤◌, Bool, true, false, ◌&&◌, nat_eq, List, [], ◌∷◌, drop, get_or, length, map, sym, ap, ◌∙◌, arith}
use Rattle.std.proofs.lemmas.List.{drop_more, drop_all, length-drop}
use Rattle.typed_ast.specs.declared.types.ParameterType.{ParameterType}
use Rattle.typed_ast.specs.View.{parameter_type_of}
use Rattle.typing_spec.specs.Types.{same_parameter, same_parameters}

abbrev pub compared : List ParameterType → List ParameterType → Bool
compared ps qs = same_parameters (map parameter_type_of ps) (map parameter_type_of qs)

next_of : (xs : List ParameterType) (i : ℕ) (x : ParameterType) → i < length xs → x ≡ get_or xs i x → drop i xs ≡ x ∷ drop (i + 1) xs
next_of xs i x h e = drop_more xs i x h ∙ ap (λ y. y ∷ drop (i + 1) xs) (sym e)

both_next : (ps qs : List ParameterType) (i : ℕ) (p q : ParameterType) → i < length ps → p ≡ get_or ps i p → i < length qs → q ≡ get_or qs i q →
    compared (drop i ps) (drop i qs) ≡ (same_parameter (parameter_type_of p) (parameter_type_of q) && compared (drop (i + 1) ps) (drop (i + 1) qs))
both_next ps qs i p q h e k f = ap (λ l. compared l (drop i qs)) (next_of ps i p h e) ∙ ap (λ l. compared (p ∷ drop (i + 1) ps) l) (next_of qs i q k f)

pub next_same : (w v : Bool) (ps qs : List ParameterType) (i : ℕ) (p q : ParameterType) → i < length ps → p ≡ get_or ps i p → i < length qs → q ≡ get_or qs i q →
    v ≡ same_parameter (parameter_type_of p) (parameter_type_of q) → v ≡ true → w ≡ compared (drop i ps) (drop i qs) → w ≡ compared (drop (i + 1) ps) (drop (i + 1) qs)
next_same w v ps qs i p q h e k f g t inv = inv ∙ both_next ps qs i p q h e k f ∙ ap (λ b. b && compared (drop (i + 1) ps) (drop (i + 1) qs)) (sym g ∙ t)

pub next_other : (w v : Bool) (ps qs : List ParameterType) (i : ℕ) (p q : ParameterType) → i < length ps → p ≡ get_or ps i p → i < length qs → q ≡ get_or qs i q →
    v ≡ same_parameter (parameter_type_of p) (parameter_type_of q) → v ≡ false → w ≡ compared (drop i ps) (drop i qs) → false ≡ w
next_other w v ps qs i p q h e k f g t inv = sym (inv ∙ both_next ps qs i p q h e k f ∙ ap (λ b. b && compared (drop (i + 1) ps) (drop (i + 1) qs)) (sym g ∙ t))

pub next_none : (w : Bool) (ps qs : List ParameterType) (i : ℕ) (p : ParameterType) → i < length ps → p ≡ get_or ps i p → length qs ≤ i → w ≡ compared (drop i ps) (drop i qs) → false ≡ w
next_none w ps qs i p h e k inv =
    sym (inv ∙ ap (λ l. compared l (drop i qs)) (next_of ps i p h e) ∙ ap (λ l. compared (p ∷ drop (i + 1) ps) l) (drop_all i qs k))

no_more : (n k : ℕ) (qs : List ParameterType) → length qs + n ≡ k → compared [] qs ≡ nat_eq n k
no_more n k [] h = grind (arith, h)
no_more n k (q ∷ qs) h = grind (arith, h)

pub at_end : (w : Bool) (ps qs : List ParameterType) (i : ℕ) → i ≡ length ps → i ≤ length qs → w ≡ compared (drop i ps) (drop i qs) → nat_eq (length ps) (length qs) ≡ w
at_end w ps qs i h k inv =
    sym (inv ∙ ap (λ l. compared l (drop i qs)) (drop_all i ps (omega (arith, h))) ∙ no_more (length ps) (length qs) (drop i qs) (omega (arith, h, k, length-drop {A = ParameterType} i qs)))
