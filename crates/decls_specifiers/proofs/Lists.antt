-- Lists of specifiers, and the type that they name.
use Rattle.std.proofs.Common.{◌≡◌, ℕ, ◌+◌, Bool, List, [], ◌++◌, refl, sym, ap, ◌∙◌, subst, arith}
use Rattle.std.specs.Prelude.{◌||◌, Result, IfOk}
use Rattle.const_expr.specs.declared.specifiers.BaseType as held
use Rattle.const_expr.specs.Typings.{base_type_of}
use Rattle.srcset.specs.NameTable.{Texts}
use Rattle.srcset.specs.declared.refusal.Pos.{Pos}
use Rattle.srcset.specs.declared.refusal.Refusal.{Refusal}
use Rattle.tree.specs.declared.expression.TypeSpecifier.{TypeSpecifier}
use Rattle.typing_spec.specs.Verdict.{Verdict, fine, provided}
use Rattle.typing_spec.specs.Scope.{Scope}
use Rattle.typing_spec.specs.Linkage.{StorageClass, no_class, by_extern, by_static}
use Rattle.typing_spec.specs.Specifiers.{BaseType, base_type, base_or_fault, named_type, tags_known, tags_of, words_of, count, is_const}
use Rattle.typing_spec.specs.Declarations as typed
use Rattle.typing_spec.specs.Declarations.{base_in}
use Rattle.const_expr.proofs.Numbered.{base_same}
use Rattle.typing_scopes.specs.Scopes.{with_texts}
use Rattle.decls_specifiers.specs.inside.Lists.{class_before}

pub class_alone : (at : Pos) (c : StorageClass) → typed.class_of at (class_before c ++ []) ≡ fine c
class_alone at no_class = refl
class_alone at by_extern = refl
class_alone at by_static = refl

-- ---- the type, with a number of lists

none_before : (n : ℕ) → 0 + n ≡ n
none_before n = omega arith

plain_base : (s : Scope) (at : Pos) (ss : List TypeSpecifier) → base_in s at 0 ss ≡ base_type s at ss
plain_base s at ss = ap (λ n. provided (tags_known s at (tags_of ss)) (base_or_fault at (is_const ss) (named_type n (words_of ss)))) (none_before (count (tags_of ss)))

pub plain_fine : (t : Texts) (s : Scope) (at : Pos) (ss : List TypeSpecifier) (b : BaseType) → base_type s at ss ≡ fine b → base_in (with_texts t s) at 0 ss ≡ fine b
plain_fine t s at ss b e = plain_base (with_texts t s) at ss ∙ sym (base_same t s.literals s at ss) ∙ e

-- with const before
abbrev pub base_with : Scope → Pos → Bool → List TypeSpecifier → Verdict BaseType
base_with s at k ss = provided (tags_known s at (tags_of ss)) (base_or_fault at (k || is_const ss) (named_type (1 + count (tags_of ss)) (words_of ss)))

pub base_given : (t : Texts) (s : Scope) (at : Pos) (n m : ℕ) (xs ys : List TypeSpecifier) (r : Result held.BaseType Refusal) → n ≡ m → xs ≡ ys → IfOk r (λ b. base_in (with_texts t s) at n xs ≡ fine (base_type_of b)) →
    IfOk r (λ b. base_in (with_texts t s) at m ys ≡ fine (base_type_of b))
base_given t s at n m xs ys r e f h =
    subst (λ l. IfOk r (λ b. base_in (with_texts t s) at m l ≡ fine (base_type_of b))) f (subst (λ k. IfOk r (λ b. base_in (with_texts t s) at k xs ≡ fine (base_type_of b))) e h)
