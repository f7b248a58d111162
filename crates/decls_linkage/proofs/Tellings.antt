-- The verdict on a name that is declared again, by the verdicts on parts.
use Rattle.std.proofs.Common.{◌≡◌, ℕ, List, ◌&&◌, Option, Ok, Err, OnOk, refl, ap, ◌∙◌, sym, subst}
use Rattle.std.specs.Prelude.{Result}
use Rattle.srcset.specs.declared.code.Code.TheVariants as code
use Rattle.srcset.specs.declared.refusal.Pos.{Pos}
use Rattle.srcset.specs.declared.refusal.Refusal.{Refusal}
use Rattle.srcset.specs.declared.refusal.Refusal.TheVariants.{Memory}
use Rattle.typing_spec.specs.Verdict.{Verdict, fine, then_check, each, refuse_if, both}
use Rattle.typing_spec.specs.Program as program
use Rattle.typing_spec.specs.Scope.{Scope, Binding, BuiltIn, Meaning, an_object, an_array_parameter, a_function, an_enumerator, State, lookup, built_in, with_name}
use Rattle.typing_spec.specs.Linkage as typed
use Rattle.typing_spec.specs.Linkage.{Agreed, agreed_in, as_built_in, declared_at_file, redeclared, with_storage, clash, is_defined, compatible, composite_meaning, agreed, joined}
use Rattle.typing_expressions.specs.Refused.{IsOf, Tells}
use Rattle.typing_expressions.proofs.Verdicts.{tells_left, tells_right, tells_then, tells_of}
use Rattle.typing_scopes.specs.Scopes.{with_texts}

pub told : {A : Type 0} (r : Refusal) (v : Verdict A) → r ≡ Memory → Tells r v
told r v e = subst (λ k. Tells k v) (sym e) tt

pub on_ok : {T E P Q : Type 0} (r : Result T E) → (P → Q) → OnOk r P → OnOk r Q
on_ok (Ok x) f h = f h
on_ok (Err e) f h = tt

pub linkage_left : (at : Pos) (new : Agreed) (old : Binding) (r : Refusal) →
    IsOf r (each (refuse_if (clash old.linkage new.linkage) code.LinkageConflict at) (refuse_if (is_defined old.state && is_defined new.state) code.DefinedTwice at)) → Tells r (typed.with_linkage at new old)
linkage_left at new old r h =
    let tests = each (refuse_if (clash old.linkage new.linkage) code.LinkageConflict at) (refuse_if (is_defined old.state && is_defined new.state) code.DefinedTwice at) in
    tells_left r tests (compatible at (composite_meaning old.meaning new.meaning)) (λ u m. fine (agreed m old.linkage (joined old.state new.state))) (tells_of r tests h)

-- ---- a name declared at file scope

pub file_left : (s : Scope) (at : Pos) (n : ℕ) (new : Agreed) (b : Option BuiltIn) (r : Refusal) → b ≡ built_in s n → IsOf r (as_built_in at new b) → Tells r (declared_at_file s at n new)
file_left s at n new b r e h =
    tells_left r (as_built_in at new (built_in s n)) (then_check (redeclared at new (lookup s n)) (agreed_in s n)) (λ u x. fine x)
    (tells_of r (as_built_in at new (built_in s n)) (subst (λ k. IsOf r (as_built_in at new k)) e h))

pub file_right : (s : Scope) (at : Pos) (n : ℕ) (new : Agreed) (before : Option Binding) (r : Refusal) → before ≡ lookup s n → Tells r (redeclared at new before) → Tells r (declared_at_file s at n new)
file_right s at n new before r e h =
    tells_right r (as_built_in at new (built_in s n)) (then_check (redeclared at new (lookup s n)) (agreed_in s n)) (λ u x. fine x)
    (tells_then r (redeclared at new (lookup s n)) (agreed_in s n) (subst (λ k. Tells r (redeclared at new k)) e h))

storage_texts : (t : List (List ℕ)) (s : Scope) (state : State) (m : Meaning) → with_storage (with_texts t s) state m ≡ with_texts t (with_storage s state m)
storage_texts t s state (an_object (program.static n) u) = refl
storage_texts t s state (an_object (program.literal n) u) = refl
storage_texts t s state (an_object (program.automatic n) u) = refl
storage_texts t s state (an_object (program.parameter n) u) = refl
storage_texts t s state (an_array_parameter n u) = refl
storage_texts t s state (a_function f) = refl
storage_texts t s state (an_enumerator v) = refl

same_scope : (a b : Scope) → fine a ≡ fine b → a ≡ b
same_scope a b e = cc

agreed_texts : (t : List (List ℕ)) (s new : Scope) (n : ℕ) (a : Agreed) → agreed_in s n a ≡ fine new → agreed_in (with_texts t s) n a ≡ fine (with_texts t new)
agreed_texts t s new n a e =
    ap fine (storage_texts t (with_name s n a.meaning a.linkage a.state) a.state a.meaning)
    ∙ ap (λ k. fine (with_texts t k)) (same_scope (with_storage (with_name s n a.meaning a.linkage a.state) a.state a.meaning) new e)

pub file_fine : (t : List (List ℕ)) (s next : Scope) (at : Pos) (n : ℕ) (new a : Agreed) (b : Option BuiltIn) (before : Option Binding) → b ≡ built_in (with_texts t s) n → as_built_in at new b ≡ fine tt →
    before ≡ lookup s n → redeclared at new before ≡ fine a → agreed_in s n a ≡ fine next → declared_at_file (with_texts t s) at n new ≡ fine (with_texts t next)
file_fine t s next at n new a b before e f g h i =
    ap (λ k. both (as_built_in at new k) (then_check (redeclared at new (lookup s n)) (agreed_in (with_texts t s) n)) (λ u x. fine x)) (sym e)
    ∙ ap (λ v. both v (then_check (redeclared at new (lookup s n)) (agreed_in (with_texts t s) n)) (λ u x. fine x)) f
    ∙ ap (λ k. then_check (then_check (redeclared at new k) (agreed_in (with_texts t s) n)) (λ x. fine x)) (sym g)
    ∙ ap (λ v. then_check (then_check v (agreed_in (with_texts t s) n)) (λ x. fine x)) h
    ∙ ap (λ v. then_check v (λ x. fine x)) (agreed_texts t s next n a i)
