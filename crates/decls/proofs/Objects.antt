-- Objects whose declarators have begun, and the types that their initialisers complete.
use Rattle.std.proofs.Common.{◌≡◌, ℕ, Bool, List, ◌∷◌, Option, Some, None, refl, sym, ap, ◌∙◌, subst}
use Rattle.std.specs.Option.{is_some}
use Rattle.srcset.specs.NameTable.{Texts}
use Rattle.srcset.specs.declared.refusal.Pos.{Pos}
use Rattle.srcset.specs.declared.refusal.Refusal.{Refusal}
use Rattle.tree.specs.declared.declaration.Initialiser.{Initialiser}
use Rattle.tree.specs.Tree.{Tree, Init}
use Rattle.tree.specs.Capped.{capped}
use Rattle.tree.specs.View.{option_init}
use Rattle.typing_spec.specs.Types.{ObjectType, DeclaredType, array_of, size_of_object}
use Rattle.typing_spec.specs.Verdict.{Verdict, fine, then_check}
use Rattle.typing_spec.specs.Scope.{Scope, lookup, with_literals}
use Rattle.typing_spec.specs.Specifiers.{BaseType}
use Rattle.typing_spec.specs.Initialisers.{past_init}
use Rattle.typing_spec.specs.Declarators.{declared_type, strings_in_sizes}
use Rattle.typing_spec.specs.Linkage.{StorageClass}
use Rattle.typing_spec.specs.Declarations.{Begun, begun, has_init, object_at, type_of_binding, storage_of, sized, length_from}
use Rattle.typing_expressions.specs.Refused.{Tells}
use Rattle.typing_expressions.proofs.Verdicts.{tells_then}
use Rattle.typing_scopes.specs.Scopes.{with_texts}
use Rattle.decls_declarators.proofs.Verdicts.{then_fine, then_tells}
use Rattle.decls.specs.inside.Parts.{size_given}

-- ---- declarators that have begun

pub initialised : (i : Option Initialiser) → is_some i ≡ has_init (option_init i)
initialised None = refl
initialised (Some i) = refl

abbrev made : StorageClass → Pos → ℕ → Option Init → DeclaredType → Scope → Verdict Begun
made c at n init d inner = fine (record { at = at; name = n; class = c; type = type_of_binding d (lookup inner n); what = storage_of (lookup inner n); init = init; scope = inner })

abbrev declared : Scope → StorageClass → Pos → ℕ → List (Option Tree) → Option Init → DeclaredType → Verdict Begun
declared s c at n sizes init d = then_check (object_at s.level (with_literals s (strings_in_sizes sizes)) at n c d (has_init init)) (made c at n init d)

at_object : (t : Texts) (s behind : Scope) (c : StorageClass) (at : Pos) (n : ℕ) (sizes : List (Option Tree)) (d : DeclaredType) (k l : Bool) → behind ≡ with_literals s (strings_in_sizes sizes) → k ≡ l →
    object_at s.level (with_literals (with_texts t s) (strings_in_sizes sizes)) at n c d l ≡ object_at behind.level (with_texts t behind) at n c d k
at_object t s behind c at n sizes d k l e f = ap (λ x. object_at x.level (with_texts t x) at n c d l) (sym e) ∙ ap (λ x. object_at behind.level (with_texts t behind) at n c d x) (sym f)

pub begun_object : (t : Texts) (s behind : Scope) (c : StorageClass) (b : BaseType) (at : Pos) (n : ℕ) (sizes : List (Option Tree)) (init : Option Init) (d : DeclaredType) (k : Bool) (r : Refusal) →
    declared_type (with_texts t s) at b sizes ≡ fine d → behind ≡ with_literals s (strings_in_sizes sizes) → k ≡ has_init init → Tells r (object_at behind.level (with_texts t behind) at n c d k) → Tells r (begun (with_texts t s) c b at n sizes init)
begun_object t s behind c b at n sizes init d k r e f g h =
    then_tells r (declared_type (with_texts t s) at b sizes) d (declared (with_texts t s) c at n sizes init) e
    (tells_then r (object_at s.level (with_literals (with_texts t s) (strings_in_sizes sizes)) at n c d (has_init init)) (made c at n init d)
    (subst (λ v. Tells r v) (sym (at_object t s behind c at n sizes d k (has_init init) f g)) h))

-- ---- declarators that are finished

pub size_fine : (s next : Scope) (at : Pos) (name : ℕ) (u : ObjectType) (i : Init) (n : ℕ) → length_from s at u i ≡ fine n → sized (past_init s i) at name u n ≡ fine next → size_given s at name u i ≡ fine next
size_fine s next at name u i n e f = then_fine (length_from s at u i) n (sized (past_init s i) at name u) e ∙ f

pub size_refused : (s : Scope) (at : Pos) (name : ℕ) (u : ObjectType) (i : Init) (n : ℕ) (r : Refusal) → length_from s at u i ≡ fine n → Tells r (sized (past_init s i) at name u n) → Tells r (size_given s at name u i)
size_refused s at name u i n r e h = then_tells r (length_from s at u i) n (sized (past_init s i) at name u) e h

-- the bytes of an array of `n` elements
pub sized_bytes : (n : ℕ) (u : ObjectType) (ns : List ℕ) (bytes : ℕ) → ns ≡ n ∷ u.lengths → bytes ≡ capped (size_of_object (record { element = u.element; constant = u.constant; lengths = ns })) → bytes ≡ capped (size_of_object (array_of n u))
sized_bytes n u ns bytes e h = h ∙ ap (λ l. capped (size_of_object (record { element = u.element; constant = u.constant; lengths = l }))) e
