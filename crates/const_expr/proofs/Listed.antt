-- Lists, as far as they are read.
use Rattle.std.proofs.Common.{◌≡◌, ℕ, ◌+◌, ◌<◌, ◌≤◌, List, ◌∷◌, drop, get_or, length, refl, sym, ap, ◌∙◌, subst}
use Rattle.std.proofs.lemmas.List.{drop_more, drop_all}
use Rattle.srcset.specs.declared.refusal.Pos.{Pos}
use Rattle.srcset.specs.declared.refusal.Refusal.{Refusal}
use Rattle.tree.specs.declared.expression.TypeSpecifier.{TypeSpecifier}
use Rattle.tree.specs.declared.expression.TypeSpecifier.TheVariants as specifier
use Rattle.typing_spec.specs.Verdict.{Verdict, fine, broken, each}
use Rattle.typing_spec.specs.Scope.{Scope}
use Rattle.typing_spec.specs.Specifiers as typed
use Rattle.typing_expressions.specs.Refused.{IsOf}
use Rattle.typing_expressions.proofs.Verdicts.{each_left}
use Rattle.const_expr.specs.Typings.{tag_of}

-- the next of a list
pub next_of : {X : Type 0} (xs : List X) (i : ℕ) (x : X) → i < length xs → x ≡ get_or xs i x → drop i xs ≡ x ∷ drop (i + 1) xs
next_of xs i x h e = drop_more xs i x h ∙ ap (λ y. y ∷ drop (i + 1) xs) (sym e)

-- ---- tags of specifiers

abbrev pub tags_of : Scope → Pos → List TypeSpecifier → Verdict (Unit {0})
tags_of s at ss = typed.tags_known s at (typed.tags_of ss)

each_of_fine : (v w : Verdict (Unit {0})) → v ≡ fine tt → each v w ≡ w
each_of_fine v (fine u) e = ap (λ k. each k (fine u)) e
each_of_fine v (broken vs) e = ap (λ k. each k (broken vs)) e

one_more : (s : Scope) (at : Pos) (x : TypeSpecifier) (rest : List TypeSpecifier) → tags_of s at (x ∷ rest) ≡ each (tag_of s at x) (tags_of s at rest)
one_more s at specifier.Const rest = sym (each_of_fine (fine tt) (tags_of s at rest) refl)
one_more s at (specifier.Word w) rest = sym (each_of_fine (fine tt) (tags_of s at rest) refl)
one_more s at (specifier.Enum t) rest = refl

next_tag : (s : Scope) (at : Pos) (ss : List TypeSpecifier) (i : ℕ) (d : TypeSpecifier) → i < length ss → tags_of s at (drop i ss) ≡ each (tag_of s at (get_or ss i d)) (tags_of s at (drop (i + 1) ss))
next_tag s at ss i d h = ap (tags_of s at) (drop_more ss i d h) ∙ one_more s at (get_or ss i d) (drop (i + 1) ss)

pub known_next : (s : Scope) (at : Pos) (ss : List TypeSpecifier) (i : ℕ) (d : TypeSpecifier) → i < length ss → tags_of s at (drop i ss) ≡ tags_of s at ss → tag_of s at (get_or ss i d) ≡ fine tt →
    tags_of s at (drop (i + 1) ss) ≡ tags_of s at ss
known_next s at ss i d h inv f = sym (each_of_fine (tag_of s at (get_or ss i d)) (tags_of s at (drop (i + 1) ss)) f) ∙ sym (next_tag s at ss i d h) ∙ inv

pub known_stops : (r : Refusal) (s : Scope) (at : Pos) (ss : List TypeSpecifier) (i : ℕ) (d : TypeSpecifier) → i < length ss → tags_of s at (drop i ss) ≡ tags_of s at ss → IsOf r (tag_of s at (get_or ss i d)) →
    IsOf r (tags_of s at ss)
known_stops r s at ss i d h inv q = subst (λ v. IsOf r v) (sym (next_tag s at ss i d h) ∙ inv) (each_left r (tag_of s at (get_or ss i d)) (tags_of s at (drop (i + 1) ss)) q)

pub known_all : (s : Scope) (at : Pos) (ss : List TypeSpecifier) (i : ℕ) → length ss ≤ i → tags_of s at (drop i ss) ≡ tags_of s at ss → tags_of s at ss ≡ fine tt
known_all s at ss i h inv = sym inv ∙ ap (tags_of s at) (drop_all i ss h)
