-- The result for an expression by those for its parts, with the string literals counted.
use Rattle.std.proofs.Common.{◌≡◌, ℕ, ◌+◌, List, ◌++◌, length, sym, ap, ◌∙◌, subst, arith, Option, length-append}
use Rattle.std.specs.Prelude.{replicate}
use Rattle.std.proofs.lemmas.List.{length-replicate}
use Rattle.srcset.specs.declared.code.Code.TheVariants as code
use Rattle.srcset.specs.declared.refusal.Pos.{Pos}
use Rattle.srcset.specs.declared.refusal.Refusal.{Refusal}
use Rattle.srcset.specs.declared.refusal.Refusal.TheVariants.{Memory, At, Told}
use Rattle.tree.specs.Tree.{Tree, Trees, TypeTree, cast, conditional}
use Rattle.typing_spec.specs.Types.{ObjectType, ParameterType}
use Rattle.typing_spec.specs.Verdict.{Verdict, fine, broken, then_check, both}
use Rattle.typing_spec.specs.Scope.{Scope, strings, strings_of_type, past, past_type}
use Rattle.typing_spec.specs.Expressions as typed
use Rattle.typing_spec.specs.Expressions.{Checked, Arms, arms}
use Rattle.typing_expressions.specs.Refused.{Tells}
use Rattle.typing_expressions.specs.Numbered.{numbered, typing_at, operands_at, arguments_at, named_at, lengths_at}
use Rattle.typing_expressions.proofs.Verdicts.{tells_left, tells_right}
use Rattle.const_expr.proofs.Numbered.{both_same, more, typing_same, arguments_same, lengths_same}

counted : (n m : ℕ) (k : List ℕ) → m ≡ n + length k → length {A = ℕ} (replicate m 0) ≡ length {A = ℕ} (replicate n 0 ++ k)
counted n m k h = omega (arith, h, length-replicate {A = ℕ} m 0, length-replicate {A = ℕ} n 0, length-append {A = ℕ} (replicate n 0) k)

-- after the string literals of a preceding part
pub typing_past : (t : List (List ℕ)) (n m : ℕ) (s : Scope) (a e : Tree) → m ≡ n + length (strings a) → typing_at t m s e ≡ typed.typing (past (numbered t n s) a) e
typing_past t n m s a e h = typing_same t (replicate m 0) (replicate n 0 ++ strings a) s (counted n m (strings a) h) e

pub typing_past_type : (t : List (List ℕ)) (n m : ℕ) (s : Scope) (u : TypeTree) (e : Tree) → m ≡ n + length (strings_of_type u) → typing_at t m s e ≡ typed.typing (past_type (numbered t n s) u) e
typing_past_type t n m s u e h = typing_same t (replicate m 0) (replicate n 0 ++ strings_of_type u) s (counted n m (strings_of_type u) h) e

pub arguments_past : (t : List (List ℕ)) (n m : ℕ) (s : Scope) (a : Tree) (at : Pos) (ps : List ParameterType) (es : Trees) → m ≡ n + length (strings a) →
    arguments_at t m s at ps es ≡ typed.arguments (past (numbered t n s) a) at ps es
arguments_past t n m s a at ps es h = arguments_same t (replicate m 0) (replicate n 0 ++ strings a) s (counted n m (strings a) h) at es ps

pub lengths_past : (t : List (List ℕ)) (n m : ℕ) (s : Scope) (a : Tree) (at : Pos) (es : Trees) → m ≡ n + length (strings a) →
    lengths_at t m s at es ≡ typed.lengths_in (past (numbered t n s) a) at es
lengths_past t n m s a at es h = lengths_same t (replicate m 0) (replicate n 0 ++ strings a) s (counted n m (strings a) h) at es

-- ---- two operands

left_of : Arms → Verdict Arms → Arms
left_of d (fine a) = a
left_of d (broken vs) = d

same_arms : (a b : Arms) → fine a ≡ fine b → a ≡ b
same_arms a b e = (cc)

pub joined : {C : Type 0} (v w : Verdict Checked) (ab : Arms) (f : Checked → Checked → Verdict C) → both v w arms ≡ fine ab → both v w f ≡ f ab.first ab.second
joined (fine x) (fine y) ab f e = let k : record { first = x; second = y } ≡ ab = same_arms (record { first = x; second = y }) ab e in ap (λ (z : Arms). f z.first z.second) k
joined (fine x) (broken vs) ab f e = absurd (cc)
joined (broken us) w ab f e = absurd (cc)

pub joined_tells : {C : Type 0} (r : Refusal) (v w : Verdict Checked) (f : Checked → Checked → Verdict C) → Tells r (both v w arms) → Tells r (both v w f)
joined_tells Memory v w f h = tt
joined_tells (At c at) (fine x) (fine y) f h = absurd h
joined_tells (At c at) (fine x) (broken vs) f h = h
joined_tells (At c at) (broken us) w f h = h
joined_tells (Told c at text) v w f h = absurd h

-- ---- each form

pub operands_fine : (t : List (List ℕ)) (n m : ℕ) (s : Scope) (a b : Tree) (x y : Checked) → typing_at t n s a ≡ fine x → m ≡ n + length (strings a) → typing_at t m s b ≡ fine y →
    operands_at t n s a b ≡ fine (record { first = x; second = y })
operands_fine t n m s a b x y e h f =
    ap (λ v. both v (typed.typing (past (numbered t n s) a) b) arms) e ∙ ap (λ v. then_check v (arms x)) (sym (typing_past t n m s a b h) ∙ f)

pub pair_rule : (t : List (List ℕ)) (n : ℕ) (s : Scope) (a b : Tree) (ab : Arms) (f : Checked → Checked → Verdict Checked) → operands_at t n s a b ≡ fine ab →
    both (typing_at t n s a) (typed.typing (past (numbered t n s) a) b) f ≡ f ab.first ab.second
pair_rule t n s a b ab f e = joined (typing_at t n s a) (typed.typing (past (numbered t n s) a) b) ab f e

pub operands_left : (t : List (List ℕ)) (n : ℕ) (s : Scope) (a b : Tree) (r : Refusal) → Tells r (typing_at t n s a) → Tells r (operands_at t n s a b)
operands_left t n s a b r h = tells_left r (typed.typing (numbered t n s) a) (typed.typing (past (numbered t n s) a) b) arms h

pub operands_right : (t : List (List ℕ)) (n m : ℕ) (s : Scope) (a b : Tree) (r : Refusal) → m ≡ n + length (strings a) → Tells r (typing_at t m s b) → Tells r (operands_at t n s a b)
operands_right t n m s a b r e h =
    tells_right r (typed.typing (numbered t n s) a) (typed.typing (past (numbered t n s) a) b) arms (subst (λ v. Tells r v) (typing_past t n m s a b e) h)

pub cast_rule : (t : List (List ℕ)) (n m : ℕ) (s : Scope) (at : Pos) (u : TypeTree) (a : Tree) (k : Option ObjectType) (x : Checked) → named_at t n s u ≡ fine k → m ≡ n + length (strings_of_type u) →
    typing_at t m s a ≡ fine x → typed.typing (numbered t n s) (cast at u a) ≡ typed.cast_to at k x
cast_rule t n m s at u a k x e h f =
    ap (λ v. both v (typed.typing (past_type (numbered t n s) u) a) (typed.cast_to at)) e ∙ ap (λ v. then_check v (typed.cast_to at k)) (sym (typing_past_type t n m s u a h) ∙ f)

pub cast_right : (t : List (List ℕ)) (n m : ℕ) (s : Scope) (at : Pos) (u : TypeTree) (a : Tree) (r : Refusal) → m ≡ n + length (strings_of_type u) → Tells r (typing_at t m s a) →
    Tells r (typed.typing (numbered t n s) (cast at u a))
cast_right t n m s at u a r e h =
    tells_right r (typed.named_in (numbered t n s) u) (typed.typing (past_type (numbered t n s) u) a) (typed.cast_to at) (subst (λ v. Tells r v) (typing_past_type t n m s u a e) h)

behind : (t : List (List ℕ)) (n m : ℕ) (s : Scope) (c a b : Tree) → m ≡ n + length (strings c) →
    operands_at t m s a b ≡ both (typed.typing (past (numbered t n s) c) a) (typed.typing (past (past (numbered t n s) c) a) b) arms
behind t n m s c a b h =
    both_same (typed.typing (numbered t m s) a) (typed.typing (past (numbered t n s) c) a) (typed.typing (past (numbered t m s) a) b) (typed.typing (past (past (numbered t n s) c) a) b) arms
    (typing_past t n m s c a h)
    (typing_same t (replicate m 0 ++ strings a) ((replicate n 0 ++ strings c) ++ strings a) s (more (replicate m 0) (replicate n 0 ++ strings c) (strings a) (counted n m (strings c) h)) b)

pub conditional_rule : (t : List (List ℕ)) (n m : ℕ) (s : Scope) (at : Pos) (c a b : Tree) (x : Checked) (w : typed.Worth) (ab : Arms) → typing_at t n s c ≡ fine x →
    typed.worth code.VoidOperand at x ≡ fine w → m ≡ n + length (strings c) → operands_at t m s a b ≡ fine ab → typed.typing (numbered t n s) (conditional at c a b) ≡ typed.chosen_by at w ab
conditional_rule t n m s at c a b x w ab e g h f =
    ap (λ v. both (typed.valued code.VoidOperand at v) (both (typed.typing (past (numbered t n s) c) a) (typed.typing (past (past (numbered t n s) c) a) b) arms) (typed.chosen_by at)) e
    ∙ ap (λ v. both v (both (typed.typing (past (numbered t n s) c) a) (typed.typing (past (past (numbered t n s) c) a) b) arms) (typed.chosen_by at)) g
    ∙ ap (λ v. then_check v (typed.chosen_by at w)) (sym (behind t n m s c a b h) ∙ f)

pub conditional_test : (t : List (List ℕ)) (n : ℕ) (s : Scope) (at : Pos) (c a b : Tree) (x : Checked) (r : Refusal) → typing_at t n s c ≡ fine x →
    Tells r (typed.worth code.VoidOperand at x) → Tells r (typed.typing (numbered t n s) (conditional at c a b))
conditional_test t n s at c a b x r e h =
    tells_left r (typed.valued code.VoidOperand at (typed.typing (numbered t n s) c)) (both (typed.typing (past (numbered t n s) c) a) (typed.typing (past (past (numbered t n s) c) a) b) arms) (typed.chosen_by at)
    (subst (λ v. Tells r (typed.valued code.VoidOperand at v)) (sym e) h)

pub conditional_arms : (t : List (List ℕ)) (n m : ℕ) (s : Scope) (at : Pos) (c a b : Tree) (r : Refusal) → m ≡ n + length (strings c) → Tells r (operands_at t m s a b) →
    Tells r (typed.typing (numbered t n s) (conditional at c a b))
conditional_arms t n m s at c a b r e h =
    tells_right r (typed.valued code.VoidOperand at (typed.typing (numbered t n s) c)) (both (typed.typing (past (numbered t n s) c) a) (typed.typing (past (past (numbered t n s) c) a) b) arms) (typed.chosen_by at)
    (subst (λ v. Tells r v) (behind t n m s c a b e) h)
