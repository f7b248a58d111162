-- The value of a constant expression, of its parts.
use Rattle.std.proofs.Common.{◌≡◌, ℕ, List, length, sym, ap, ◌∙◌, subst}
use Rattle.std.specs.Prelude.{replicate}
use Rattle.std.proofs.lemmas.List.{length-replicate}
use Rattle.srcset.specs.NameTable.{Texts}
use Rattle.srcset.specs.Refusal.{IsFaultOfRefusal}
use Rattle.srcset.specs.declared.fault.Fault.{Fault}
use Rattle.srcset.specs.declared.refusal.Refusal.{Refusal}
use Rattle.tree.specs.Tree.{Tree}
use Rattle.typing_spec.specs.Verdict.{Verdict, fine, then_check}
use Rattle.typing_spec.specs.Scope.{Scope}
use Rattle.typing_spec.specs.Constants.{constant_form}
use Rattle.typing_spec.specs.Expressions.{Checked, Constant, typing, integer, constant_in, constant_value}
use Rattle.typing_expressions.specs.Refused.{IsOf, Tells}
use Rattle.typing_scopes.specs.Scopes.{with_texts}
use Rattle.const_expr.specs.Told.{IsFaultOfVerdict}
use Rattle.typing_expressions.specs.Numbered.{typing_at}
use Rattle.typing_expressions.proofs.Verdicts.{tells_then, tells_of}
use Rattle.const_expr.proofs.Numbered.{typing_same, form_same}

typing_whole : (t : List (List ℕ)) (n : ℕ) (s : Scope) (e : Tree) → n ≡ length s.literals → typing_at t n s e ≡ typing (with_texts t s) e
typing_whole t n s e h = typing_same t (replicate n 0) s.literals s (length-replicate {A = ℕ} n 0 ∙ h) e

form_whole : (t : List (List ℕ)) (s : Scope) (e : Tree) → constant_form s e ≡ constant_form (with_texts t s) e
form_whole t s e = form_same t s.literals s e

abbrev behind_form : List (List ℕ) → Scope → Tree → Unit {0} → Verdict Constant
behind_form t s e u = then_check (typing (with_texts t s) e) (λ x. then_check (integer x) constant_in)

abbrev of_typed : Checked → Verdict Constant
of_typed x = then_check (integer x) constant_in

formed : (t : List (List ℕ)) (s : Scope) (e : Tree) → constant_form s e ≡ fine tt → constant_value (with_texts t s) e ≡ then_check (typing (with_texts t s) e) of_typed
formed t s e h = ap (λ v. then_check v (behind_form t s e)) (sym (form_whole t s e) ∙ h)

pub value_rule : (t : List (List ℕ)) (n : ℕ) (s : Scope) (e : Tree) (x : Checked) → n ≡ length s.literals → constant_form s e ≡ fine tt → typing_at t n s e ≡ fine x →
    constant_value (with_texts t s) e ≡ then_check (integer x) constant_in
value_rule t n s e x h f g = formed t s e f ∙ ap (λ v. then_check v of_typed) (sym (typing_whole t n s e h) ∙ g)

pub value_form : (t : List (List ℕ)) (s : Scope) (e : Tree) (r : Refusal) → IsOf r (constant_form s e) → Tells r (constant_value (with_texts t s) e)
value_form t s e r h =
    tells_then r (constant_form (with_texts t s) e) (behind_form t s e) (subst (λ v. Tells r v) (form_whole t s e) (tells_of r (constant_form s e) h))

pub value_typing : (t : List (List ℕ)) (n : ℕ) (s : Scope) (e : Tree) (r : Refusal) → n ≡ length s.literals → constant_form s e ≡ fine tt → Tells r (typing_at t n s e) → Tells r (constant_value (with_texts t s) e)
value_typing t n s e r h f g =
    subst (λ v. Tells r v) (sym (formed t s e f)) (tells_then r (typing (with_texts t s) e) of_typed (subst (λ v. Tells r v) (typing_whole t n s e h) g))

pub fault_told : (fault : Fault) (texts : Texts) (v : Verdict Constant) (r : Refusal) → Tells r v → IsFaultOfRefusal fault texts r → IsFaultOfVerdict fault texts v
fault_told fault texts v r h g = record { refusal = r; refused = h; shown = g }
