-- The code's trees by their parts.
use Rattle.std.proofs.Common.{◌≡◌, ℕ, List, map, sym, ap, ◌∙◌, subst, rules, IfOk, IfErr}
use Rattle.std.specs.Prelude.{Result, replicate}
use Rattle.srcset.specs.declared.refusal.Pos.{Pos}
use Rattle.srcset.specs.declared.refusal.Refusal.{Refusal}
use Rattle.tree.specs.declared.expression.Expr.{Expr, the_lemmas}
use Rattle.tree.specs.declared.expression.Expr as E
use Rattle.tree.specs.declared.expression.TypeName.{TypeName}
use Rattle.tree.specs.Tree.{string, type_name}
use Rattle.tree.specs.View.{tree_of, trees_of, type_of}
use Rattle.typing_spec.specs.Verdict.{Verdict, fine}
use Rattle.typing_spec.specs.Scope.{Scope}
use Rattle.typing_spec.specs.Specifiers.{base_type}
use Rattle.typing_spec.specs.Expressions as typed
use Rattle.typing_spec.specs.Expressions.{Checked}
use Rattle.typing_expressions.specs.declared.forms.Checked as held
use Rattle.typing_expressions.specs.Refused.{IsOf, Tells}
use Rattle.typing_expressions.specs.Forms.{checked_of}
use Rattle.typing_expressions.specs.Numbered.{numbered, typing_at, named_at}
use Rattle.typing_expressions.proofs.Verdicts.{tells_left, tells_of}
use Rattle.const_expr.proofs.Numbered.{base_same}

-- ---- results

pub gives : (r : Result held.Checked Refusal) (v w : Verdict Checked) → v ≡ w → IfOk r (λ x. w ≡ fine (checked_of x)) → IfOk r (λ x. v ≡ fine (checked_of x))
gives r v w e h = subst (λ k. IfOk r (λ x. k ≡ fine (checked_of x))) (sym e) h

pub tells : (r : Result held.Checked Refusal) (v w : Verdict Checked) → v ≡ w → IfErr r (λ x. Tells x w) → IfErr r (λ x. Tells x v)
tells r v w e h = subst (λ k. IfErr r (λ x. Tells x k)) (sym e) h

-- ---- trees

sees_string : (at : Pos) (n : ℕ) → tree_of (E.StringLiteral at n) ≡ string at n
sees_string at n = search (rules, the_lemmas)

sees_type : (u : TypeName) → type_of u ≡ type_name u.specifiers.pos u.specifiers.list.items (trees_of (map tree_of u.sizes.items))
sees_type u = search (rules, the_lemmas)

pub string_rule : (t : List (List ℕ)) (n : ℕ) (s : Scope) (e : Expr) (at : Pos) (k : ℕ) → e ≡ E.StringLiteral at k → typing_at t n s (tree_of e) ≡ typing_at t n s (string at k)
string_rule t n s e at k is = ap (λ x. typing_at t n s (tree_of x)) is ∙ ap (typing_at t n s) (sees_string at k)

pub type_base : (t : List (List ℕ)) (n : ℕ) (s : Scope) (u : TypeName) (r : Refusal) → IsOf r (base_type s u.specifiers.pos u.specifiers.list.items) → Tells r (named_at t n s (type_of u))
type_base t n s u r h =
    subst (λ k. Tells r (named_at t n s k)) (sym (sees_type u))
    (tells_left r (base_type (numbered t n s) u.specifiers.pos u.specifiers.list.items) (typed.lengths_in (numbered t n s) u.specifiers.pos (trees_of (map tree_of u.sizes.items))) (typed.type_of u.specifiers.pos)
    (subst (λ v. Tells r v) (base_same t (replicate n 0) s u.specifiers.pos u.specifiers.list.items) (tells_of r (base_type s u.specifiers.pos u.specifiers.list.items) h)))
