-- Which parts of a list may be constant expressions, as far as they are read.
use Rattle.std.proofs.Common.{◌≡◌, ℕ, ◌+◌, ◌<◌, ◌≤◌, List, drop, get_or, length, map, sym, ap, ◌∙◌, subst}
use Rattle.std.proofs.lemmas.List.{drop_all}
use Rattle.srcset.specs.declared.refusal.Refusal.{Refusal}
use Rattle.tree.specs.declared.declaration.Initialiser.{Initialiser}
use Rattle.tree.specs.View.{init_of, inits_of}
use Rattle.typing_spec.specs.Verdict.{Verdict, fine, broken, each}
use Rattle.typing_spec.specs.Scope.{Scope}
use Rattle.ctypes.specs.declared.types.IntType.{IntType}
use Rattle.typing_spec.specs.Initialisers.{Wanted, constant_parts, all_constant}
use Rattle.typing_expressions.specs.Refused.{IsOf}
use Rattle.typing_expressions.proofs.Verdicts.{each_left}
use Rattle.decls_declarators.proofs.Verdicts.{next_of}

-- of the parts that are left
abbrev pub left_of : Scope → IntType → Wanted → List Initialiser → Verdict (Unit {0})
left_of s t w is = all_constant s t w (inits_of (map init_of is))

each_of_fine : (v w : Verdict (Unit {0})) → v ≡ fine tt → each v w ≡ w
each_of_fine v (fine u) e = ap (λ k. each k (fine u)) e
each_of_fine v (broken vs) e = ap (λ k. each k (broken vs)) e

pub one_less : (s : Scope) (t : IntType) (w : Wanted) (is : List Initialiser) (i : ℕ) (x : Initialiser) → i < length is → x ≡ get_or is i x → left_of s t w (drop i is) ≡ left_of s t w is → constant_parts s t w (init_of x) ≡ fine tt →
    left_of s t w (drop (i + 1) is) ≡ left_of s t w is
one_less s t w is i x h g inv f = sym (each_of_fine (constant_parts s t w (init_of x)) (left_of s t w (drop (i + 1) is)) f) ∙ ap (left_of s t w) (sym (next_of is i x h g)) ∙ inv

pub none_left : (s : Scope) (t : IntType) (w : Wanted) (is : List Initialiser) (i : ℕ) → length is ≤ i → left_of s t w (drop i is) ≡ left_of s t w is → left_of s t w is ≡ fine tt
none_left s t w is i h inv = sym inv ∙ ap (left_of s t w) (drop_all i is h)

pub stops : (r : Refusal) (s : Scope) (t : IntType) (w : Wanted) (is : List Initialiser) (i : ℕ) (x : Initialiser) → i < length is → x ≡ get_or is i x → left_of s t w (drop i is) ≡ left_of s t w is → IsOf r (constant_parts s t w (init_of x)) → IsOf r (left_of s t w is)
stops r s t w is i x h g inv q = subst (λ v. IsOf r v) (ap (left_of s t w) (sym (next_of is i x h g)) ∙ inv) (each_left r (constant_parts s t w (init_of x)) (left_of s t w (drop (i + 1) is)) q)
