-- Objects within the limit, and those that are larger.
use Rattle.std.proofs.Common.{◌≡◌, ℕ, ◌<◌, ◌≤◌, true, false, nat_lt, refl, sym, ap, ◌∙◌, subst, arith, inl}
use Rattle.srcset.specs.declared.code.Code.TheVariants as code
use Rattle.srcset.specs.declared.refusal.Pos.{Pos}
use Rattle.srcset.specs.declared.refusal.Refusal.{Refusal}
use Rattle.tree.specs.Capped.{capped}
use Rattle.typing_spec.specs.Types.{ObjectType, size_of_object}
use Rattle.typing_spec.specs.Verdict.{Verdict, fine, refuse_if, provided}
use Rattle.typing_spec.specs.Expressions.{too_large}
use Rattle.typing_expressions.specs.Refused.{Tells, refused}
use Rattle.const_expr.proofs.Sizes.{limit_of_capped}

is_over : (c x : ℕ) → c ≡ capped x → 1048576 < c → nat_lt 1048576 x ≡ true
is_over c x e h = sym (limit_of_capped c x e) ∙ grind (arith, h)

is_within : (c x : ℕ) → c ≡ capped x → c ≤ 1048576 → nat_lt 1048576 x ≡ false
is_within c x e h = sym (limit_of_capped c x e) ∙ grind (arith, h)

pub over_limit : {A : Type 0} (at : Pos) (t : ObjectType) (c : ℕ) (r : Refusal) (v : Verdict A) → c ≡ capped (size_of_object t) → 1048576 < c → r ≡ refused code.ObjectSizeLimit at → Tells r (provided (too_large at t) v)
over_limit at t c r v e h is =
    subst (λ k. Tells k (provided (too_large at t) v)) (sym is)
    (subst (λ b. Tells (refused code.ObjectSizeLimit at) (provided (refuse_if b code.ObjectSizeLimit at) v)) (sym (is_over c (size_of_object t) e h)) (inl (refl, refl)))

pub within_limit : {A : Type 0} (at : Pos) (t : ObjectType) (c : ℕ) (a : A) → c ≡ capped (size_of_object t) → c ≤ 1048576 → provided (too_large at t) (fine a) ≡ fine a
within_limit at t c a e h = ap (λ b. provided (refuse_if b code.ObjectSizeLimit at) (fine a)) (is_within c (size_of_object t) e h)
