-- The literals of the scope after a declarator are those after its initialiser.
use Rattle.std.proofs.Common.{◌≡◌, ℕ, zero, suc, List, Option, Some, None, refl, sym, ap, ◌∙◌, subst}
use Rattle.srcset.specs.declared.refusal.Pos.{Pos}
use Rattle.tree.specs.Tree.{Init}
use Rattle.typing_spec.specs.Types.{ObjectType, DeclaredType, complete, unknown_size, array_of}
use Rattle.typing_spec.specs.Verdict.{Verdict, fine, broken, then_check, provided, IfFine}
use Rattle.typing_spec.specs.Program as program
use Rattle.typing_spec.specs.Scope.{Scope, Binding, Meaning, an_object, an_array_parameter, a_function, an_enumerator, lookup, with_name}
use Rattle.typing_spec.specs.Expressions.{too_large}
use Rattle.typing_spec.specs.Initialisers.{past_init}
use Rattle.typing_spec.specs.Linkage.{StorageClass, no_class, by_extern, by_static}
use Rattle.typing_spec.specs.Declarations.{Begun, finished, finished_with, left_unknown, length_from, sized, retyped, retyped_meaning, with_storage_type}
use Rattle.typing_scopes.specs.Scopes.{with_texts}
use Rattle.typing_expressions.specs.Forms.{seen}
use Rattle.typing_declarations.specs.inside.Effects.{behind}

abbrev HasLiterals : List ℕ → Scope → Type 0
HasLiterals k s = s.literals ≡ k

unknown_kept : (level : ℕ) (class : StorageClass) (at : Pos) (s : Scope) → IfFine (HasLiterals s.literals) (left_unknown level class at s)
unknown_kept zero no_class at s = refl
unknown_kept zero by_extern at s = refl
unknown_kept zero by_static at s = tt
unknown_kept (suc level) class at s = tt

then_kept : {A : Type 0} (k : List ℕ) (v : Verdict A) (go : A → Verdict Scope) → ((a : A) → IfFine (HasLiterals k) (go a)) → IfFine (HasLiterals k) (then_check v go)
then_kept k (fine a) go h = h a
then_kept k (broken vs) go h = tt

provided_kept : (k : List ℕ) (test : Verdict (Unit {0})) (part : Verdict Scope) → IfFine (HasLiterals k) part → IfFine (HasLiterals k) (provided test part)
provided_kept k (fine u) (fine s) h = h
provided_kept k (fine u) (broken vs) h = tt
provided_kept k (broken us) part h = tt

storage_kept : (s : Scope) (m : Meaning) → (with_storage_type s m).literals ≡ s.literals
storage_kept s (an_object (program.literal n) t) = refl
storage_kept s (an_object (program.static n) t) = refl
storage_kept s (an_object (program.automatic n) t) = refl
storage_kept s (an_object (program.parameter n) t) = refl
storage_kept s (an_array_parameter n t) = refl
storage_kept s (a_function f) = refl
storage_kept s (an_enumerator v) = refl

retyped_kept : (s : Scope) (at : Pos) (t : DeclaredType) (n : ℕ) (o : Option Binding) → IfFine (HasLiterals s.literals) (retyped s at t n o)
retyped_kept s at t n None = refl
retyped_kept s at t n (Some b) =
    then_kept s.literals (retyped_meaning at t b.meaning) (λ m. fine (with_storage_type (with_name s n m b.linkage b.state) m)) (λ m. storage_kept (with_name s n m b.linkage b.state) m)

sized_kept : (s : Scope) (at : Pos) (name : ℕ) (t : ObjectType) (n : ℕ) → IfFine (HasLiterals s.literals) (sized s at name t n)
sized_kept s at name t n = provided_kept s.literals (too_large at (array_of n t)) (retyped s at (complete (array_of n t)) name (lookup s name)) (retyped_kept s at (complete (array_of n t)) name (lookup s name))

with_kept : (b : Begun) (t : DeclaredType) (o : Option Init) → IfFine (HasLiterals (behind b.scope o).literals) (finished_with b t o)
with_kept b (complete t) None = refl
with_kept b (complete t) (Some i) = refl
with_kept b (unknown_size t) None = unknown_kept b.scope.level b.class b.at b.scope
with_kept b (unknown_size t) (Some i) =
    then_kept (past_init b.scope i).literals (length_from b.scope b.at t i) (sized (past_init b.scope i) b.at b.name t) (λ n. sized_kept (past_init b.scope i) b.at b.name t n)

with_its_literals : (s : Scope) (o : Option Init) → behind s o ≡ record s { literals = (behind s o).literals }
with_its_literals s None = refl
with_its_literals s (Some i) = refl

pub behind_finished : (t : List (List ℕ)) (s next : Scope) (b : Begun) → b.scope ≡ with_texts t s → finished b ≡ fine (with_texts t next) → behind (with_texts t s) b.init ≡ seen t next.literals s
behind_finished t s next b z f =
    let k : next.literals ≡ (behind b.scope b.init).literals = subst (IfFine (HasLiterals (behind b.scope b.init).literals)) f (with_kept b b.type b.init) in
    with_its_literals (with_texts t s) b.init ∙ ap (λ l. seen t l s) (ap (λ x. (behind x b.init).literals) (sym z) ∙ sym k)
