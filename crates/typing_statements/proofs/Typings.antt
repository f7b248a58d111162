-- The typing of an expression whose string literals follow those of a scope.
use Rattle.std.proofs.Common.{◌≡◌, ℕ, List, length, sym, ap, ◌∙◌, subst}
use Rattle.std.specs.Prelude.{replicate}
use Rattle.std.proofs.lemmas.List.{length-replicate}
use Rattle.srcset.specs.declared.refusal.Refusal.{Refusal}
use Rattle.tree.specs.Tree.{Tree}
use Rattle.typing_spec.specs.Verdict.{Verdict, fine}
use Rattle.typing_spec.specs.Scope.{Scope}
use Rattle.typing_spec.specs.Expressions.{Checked, typing}
use Rattle.typing_expressions.specs.Refused.{Tells}
use Rattle.typing_expressions.specs.Numbered.{typing_at}
use Rattle.typing_scopes.specs.Scopes.{with_texts}
use Rattle.const_expr.proofs.Numbered.{typing_same}

whole : (t : List (List ℕ)) (n : ℕ) (s : Scope) (e : Tree) → n ≡ length s.literals → typing_at t n s e ≡ typing (with_texts t s) e
whole t n s e h = typing_same t (replicate n 0) s.literals s (length-replicate {A = ℕ} n 0 ∙ h) e

pub typed_fine : (t : List (List ℕ)) (n : ℕ) (l : List ℕ) (s : Scope) (e : Tree) (x : Checked) → n ≡ length l → l ≡ s.literals → typing_at t n s e ≡ fine x → typing (with_texts t s) e ≡ fine x
typed_fine t n l s e x h g f = sym (whole t n s e (h ∙ ap length g)) ∙ f

pub typed_tells : (t : List (List ℕ)) (n : ℕ) (l : List ℕ) (s : Scope) (e : Tree) (r : Refusal) → n ≡ length l → l ≡ s.literals → Tells r (typing_at t n s e) → Tells r (typing (with_texts t s) e)
typed_tells t n l s e r h g f = subst (λ v. Tells r v) (whole t n s e (h ∙ ap length g)) f
