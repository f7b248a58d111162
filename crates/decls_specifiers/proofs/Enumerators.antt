-- Enumerators and their lists, as far as they are read.
use Rattle.std.proofs.Common.{◌≡◌, ℕ, ℤ, pos, ◌+ℤ◌, List, ◌∷◌, Option, Some, None, refl, sym, ap, ◌∙◌}
use Rattle.srcset.specs.NameTable.{Texts}
use Rattle.srcset.specs.declared.refusal.Pos.{Pos}
use Rattle.srcset.specs.declared.refusal.Refusal.{Refusal}
use Rattle.tree.specs.Tree.{Tree, EnumeratorTree, SpecifierTree, extern_specifier, static_specifier, plain_specifier, enumerators_specifier}
use Rattle.typing_spec.specs.Verdict.{Verdict, fine}
use Rattle.std.specs.Prelude.{nat_eq, if◌then◌else◌}
use Rattle.typing_spec.specs.Scope.{Scope, built_in}
use Rattle.typing_spec.specs.Declarations as typed
use Rattle.typing_spec.specs.Declarations.{Specified, enumerators, is_fresh_tag, fresh_enumerator, built_in_at_file, value_of_enumerator, base_in}
use Rattle.typing_expressions.specs.Refused.{Tells}
use Rattle.typing_expressions.proofs.Verdicts.{tells_then}
use Rattle.typing_scopes.specs.Scopes.{with_texts}
use Rattle.decls_declarators.proofs.Verdicts.{then_fine}
use Rattle.decls_specifiers.specs.inside.Lists.{enumerator_read, behind_enumerator, list_read}

-- ---- one enumerator

named_behind : (t : Texts) (s : Scope) (value : Option Tree) (e : EnumeratorTree) (v : ℤ) → behind_enumerator (with_texts t s) (record e { value = value }) v ≡ with_texts t (behind_enumerator s (record e { value = value }) v)
named_behind t s None e v = refl
named_behind t s (Some x) e v = refl

texts_behind : (t : Texts) (s : Scope) (e : EnumeratorTree) (v : ℤ) → behind_enumerator (with_texts t s) e v ≡ with_texts t (behind_enumerator s e v)
texts_behind t s e v = named_behind t s e.value e v

abbrev behind : Scope → EnumeratorTree → List EnumeratorTree → ℤ → Verdict Scope
behind s e es v = enumerators (behind_enumerator s e v) (v +ℤ pos 1) es

pub enumerator_fine : (t : Texts) (s new : Scope) (next v m : ℤ) (e : EnumeratorTree) (es : List EnumeratorTree) → enumerator_read (with_texts t s) next e ≡ fine v → new ≡ behind_enumerator s e v → m ≡ v +ℤ pos 1 →
    enumerators (with_texts t s) next (e ∷ es) ≡ enumerators (with_texts t new) m es
enumerator_fine t s new next v m e es f g h =
    then_fine (enumerator_read (with_texts t s) next e) v (behind (with_texts t s) e es) f
    ∙ ap (λ k. enumerators k (v +ℤ pos 1) es) (texts_behind t s e v ∙ ap (with_texts t) (sym g))
    ∙ ap (λ k. enumerators (with_texts t new) k es) (sym h)

pub enumerator_told : (t : Texts) (s : Scope) (next : ℤ) (e : EnumeratorTree) (es : List EnumeratorTree) (r : Refusal) → Tells r (enumerator_read (with_texts t s) next e) → Tells r (enumerators (with_texts t s) next (e ∷ es))
enumerator_told t s next e es r h = tells_then r (enumerator_read (with_texts t s) next e) (behind (with_texts t s) e es) h

pub at_file : (s : Scope) (n : ℕ) → s.level ≡ 0 → built_in s n ≡ built_in_at_file s n
at_file s n e = ap (λ k. if nat_eq k 0 then built_in s n else None) (sym e)

-- ---- lists

pub list_fine : (s next : Scope) (at : Pos) (x : SpecifierTree) (xs : List SpecifierTree) → list_read s at x ≡ fine next → typed.with_lists s at (x ∷ xs) ≡ typed.with_lists next at xs
list_fine s next at extern_specifier xs e = then_fine (fine s) next (λ k. typed.with_lists k at xs) e
list_fine s next at static_specifier xs e = then_fine (fine s) next (λ k. typed.with_lists k at xs) e
list_fine s next at (plain_specifier t) xs e = then_fine (fine s) next (λ k. typed.with_lists k at xs) e
list_fine s next at (enumerators_specifier tag es) xs e = then_fine (typed.enumerated s at tag es) next (λ k. typed.with_lists k at xs) e

pub list_told : (s : Scope) (at : Pos) (x : SpecifierTree) (xs : List SpecifierTree) (r : Refusal) → Tells r (list_read s at x) → Tells r (typed.with_lists s at (x ∷ xs))
list_told s at extern_specifier xs r h = tells_then r (fine s) (λ k. typed.with_lists k at xs) h
list_told s at static_specifier xs r h = tells_then r (fine s) (λ k. typed.with_lists k at xs) h
list_told s at (plain_specifier t) xs r h = tells_then r (fine s) (λ k. typed.with_lists k at xs) h
list_told s at (enumerators_specifier tag es) xs r h = tells_then r (typed.enumerated s at tag es) (λ k. typed.with_lists k at xs) h
