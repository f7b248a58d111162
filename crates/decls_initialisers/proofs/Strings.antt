-- String literals after those of a scope.
use Rattle.std.proofs.Common.{◌≡◌, ℕ, ◌+◌, ◌<◌, ◌≤◌, List, [], ◌++◌, drop, get_or, length, map, sym, ap, ◌∙◌, append_assoc, append-nil}
use Rattle.std.proofs.lemmas.List.{drop_all}
use Rattle.tree.specs.declared.declaration.Initialiser.{Initialiser}
use Rattle.tree.specs.View.{init_of, inits_of}
use Rattle.typing_spec.specs.Scope.{Scope, with_literals}
use Rattle.typing_spec.specs.Initialisers.{strings_of, strings_of_all}
use Rattle.decls_declarators.proofs.Verdicts.{next_of}

pub none_more : (s : Scope) → with_literals s [] ≡ s
none_more s = ap (λ l. record s { literals = l }) (append-nil s.literals)

some_more : (s : Scope) (a b : List ℕ) → with_literals (with_literals s a) b ≡ with_literals s (a ++ b)
some_more s a b = ap (λ l. record s { literals = l }) (append_assoc s.literals a b)

-- the literals of the parts that are left
abbrev pub left_of : List Initialiser → List ℕ
left_of is = strings_of_all (inits_of (map init_of is))

pub one_less : (s0 s next : Scope) (is : List Initialiser) (i : ℕ) (x : Initialiser) → i < length is → x ≡ get_or is i x → with_literals s (left_of (drop i is)) ≡ with_literals s0 (left_of is) →
    next ≡ with_literals s (strings_of (init_of x)) → with_literals next (left_of (drop (i + 1) is)) ≡ with_literals s0 (left_of is)
one_less s0 s next is i x h g inv n =
    ap (λ k. with_literals k (left_of (drop (i + 1) is))) n ∙ some_more s (strings_of (init_of x)) (left_of (drop (i + 1) is))
    ∙ ap (λ l. with_literals s (left_of l)) (sym (next_of is i x h g)) ∙ inv

pub none_left : (s0 s : Scope) (is : List Initialiser) (i : ℕ) → length is ≤ i → with_literals s (left_of (drop i is)) ≡ with_literals s0 (left_of is) → s ≡ with_literals s0 (left_of is)
none_left s0 s is i h inv = sym (none_more s) ∙ ap (λ l. with_literals s (left_of l)) (sym (drop_all i is h)) ∙ inv
