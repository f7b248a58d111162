-- Objects of blocks.
use Rattle.std.proofs.Common.{◌≡◌, ◌≢◌, ℕ, zero, suc, Bool, List, [], ◌∷◌, ◌++◌, length, Ok, Err, OnOk, IfErr, refl, ap, ◌∙◌, sym, subst, arith}
use Rattle.std.specs.Prelude.{Result}
use Rattle.srcset.specs.declared.refusal.Pos.{Pos}
use Rattle.srcset.specs.declared.refusal.Refusal.{Refusal}
use Rattle.typing_spec.specs.Types.{DeclaredType}
use Rattle.typing_spec.specs.Verdict.{Verdict, fine, provided}
use Rattle.typing_spec.specs.Scope.{Scope, StaticObject}
use Rattle.typing_spec.specs.Declarators.{fresh}
use Rattle.typing_spec.specs.Declarations as typed
use Rattle.typing_spec.specs.Declarations.{with_automatic, with_static, block_object, object_at}
use Rattle.typing_spec.specs.Linkage.{StorageClass, no_class, by_static, put_static, file_object, state_of_object}
use Rattle.typing_expressions.specs.Refused.{IsOf, Tells}
use Rattle.typing_expressions.proofs.Verdicts.{tells_left, tells_of}
use Rattle.typing_scopes.specs.Scopes.{with_texts}

pub next_static : (xs : List StaticObject) (x : StaticObject) → put_static xs (length xs) x ≡ xs ++ x ∷ []
next_static [] x = refl
next_static (y ∷ ys) x = ap (λ zs. y ∷ zs) (next_static ys x)

pub automatic_left : (t : List (List ℕ)) (s : Scope) (at : Pos) (n : ℕ) (d : DeclaredType) (r : Refusal) → IsOf r (fresh s at n) → Tells r (block_object (with_texts t s) at n no_class d)
automatic_left t s at n d r h = tells_left r (fresh s at n) (fine (with_automatic (with_texts t s) n d)) (λ u x. fine x) (tells_of r (fresh s at n) h)

pub static_left : (t : List (List ℕ)) (s : Scope) (at : Pos) (n : ℕ) (d : DeclaredType) (r : Refusal) → IsOf r (fresh s at n) → Tells r (block_object (with_texts t s) at n by_static d)
static_left t s at n d r h = tells_left r (fresh s at n) (fine (with_static (with_texts t s) n d)) (λ u x. fine x) (tells_of r (fresh s at n) h)
