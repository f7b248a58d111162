-- String literals after those of a scope.
use Rattle.std.proofs.Common.{◌≡◌, ℕ, ◌+◌, ◌<◌, ◌≤◌, List, [], ◌++◌, drop, get_or, length, map, sym, ap, ◌∙◌, append_assoc, append-nil}
use Rattle.std.proofs.lemmas.List.{drop_all}
use Rattle.tree.specs.declared.expression.Expr.{Expr}
use Rattle.tree.specs.View.{tree_of, trees_of}
use Rattle.typing_spec.specs.Scope.{Scope, with_literals, strings, strings_in}
use Rattle.decls_declarators.proofs.Verdicts.{next_of}

pub none_more : (s : Scope) → with_literals s [] ≡ s
none_more s = ap (λ l. record s { literals = l }) (append-nil s.literals)

pub some_more : (s : Scope) (a b : List ℕ) → with_literals (with_literals s a) b ≡ with_literals s (a ++ b)
some_more s a b = ap (λ l. record s { literals = l }) (append_assoc s.literals a b)

-- the literals of the expressions that are left
abbrev pub left_of : List Expr → List ℕ
left_of es = strings_in (trees_of (map tree_of es))

pub one_less : (s0 s next : Scope) (es : List Expr) (i : ℕ) (e : Expr) → i < length es → e ≡ get_or es i e → with_literals s (left_of (drop i es)) ≡ with_literals s0 (left_of es) →
    next ≡ with_literals s (strings (tree_of e)) → with_literals next (left_of (drop (i + 1) es)) ≡ with_literals s0 (left_of es)
one_less s0 s next es i e h g inv n =
    ap (λ k. with_literals k (left_of (drop (i + 1) es))) n ∙ some_more s (strings (tree_of e)) (left_of (drop (i + 1) es))
    ∙ ap (λ l. with_literals s (left_of l)) (sym (next_of es i e h g)) ∙ inv

pub none_left : (s0 s : Scope) (es : List Expr) (i : ℕ) → length es ≤ i → with_literals s (left_of (drop i es)) ≡ with_literals s0 (left_of es) → s ≡ with_literals s0 (left_of es)
none_left s0 s es i h inv = sym (none_more s) ∙ ap (λ l. with_literals s (left_of l)) (sym (drop_all i es h)) ∙ inv
