-- The role of a token after an operand, against the tables of operators.
use Rattle.std.proofs.Common.{◌≡◌, length, get_or, ℕ, ◌≤◌, Bool, true, false, Option, Some, None, List, [], ◌∷◌, refl, sym, arith, subst}
use Rattle.std.specs.Prelude.{codes, nat_lt, ◌==◌, if◌then◌else◌}
use Rattle.std.specs.Map.{lookup}
use Rattle.std.specs.Str.{bytes_eq}
use Rattle.std.proofs.lemmas.Slice.Eq.{bytes_eq-Decides}
use Rattle.pp_cond.specs.declared.operators.Operator.{Operator}
use Rattle.pp_cond.specs.declared.operators.Role.{Role}
use Rattle.pp_cond.specs.declared.operators.Role.TheVariants.{Infix, Question, Colon, Close, Nothing}
use Rattle.pp_cond.specs.Condition.{Level, levels}
use Rattle.pp_cond.specs.inside.Roles.{role_of, arithmetic_role, comparison_role, bitwise_role}

-- ---- the definition's tests of a token, in terms of its role

abbrev pub at_level : ℕ → Role → Option Operator
at_level k (Infix level op) = if level == k then Some op else None
at_level k Question = None
at_level k Colon = None
at_level k Close = None
at_level k Nothing = None

abbrev pub is_question : Role → Bool
is_question Question = true
is_question _ = false

abbrev pub is_colon : Role → Bool
is_colon Colon = true
is_colon _ = false

abbrev pub is_close : Role → Bool
is_close Close = true
is_close _ = false

-- the levels are ten
abbrev pub is_low : Role → Bool
is_low (Infix level op) = nat_lt level 10
is_low _ = true

-- the operators of a level, and those of the tighter ones
abbrev pub Fits : List Level → Type 0
Fits [] = Unit {0}
Fits (l ∷ tighter) = (length tighter ≤ 9) × ((s : List ℕ) → lookup (bytes_eq s) l ≡ at_level (length tighter) (role_of s)) × Fits tighter

-- of a spelling: the operator that it is at each level, then the marks of `? :` and `)`
abbrev pub Facts : List ℕ → Type 0
Facts s =
    (lookup (bytes_eq s) (get_or levels 0 []) ≡ at_level 9 (role_of s)) ×
    (lookup (bytes_eq s) (get_or levels 1 []) ≡ at_level 8 (role_of s)) ×
    (lookup (bytes_eq s) (get_or levels 2 []) ≡ at_level 7 (role_of s)) ×
    (lookup (bytes_eq s) (get_or levels 3 []) ≡ at_level 6 (role_of s)) ×
    (lookup (bytes_eq s) (get_or levels 4 []) ≡ at_level 5 (role_of s)) ×
    (lookup (bytes_eq s) (get_or levels 5 []) ≡ at_level 4 (role_of s)) ×
    (lookup (bytes_eq s) (get_or levels 6 []) ≡ at_level 3 (role_of s)) ×
    (lookup (bytes_eq s) (get_or levels 7 []) ≡ at_level 2 (role_of s)) ×
    (lookup (bytes_eq s) (get_or levels 8 []) ≡ at_level 1 (role_of s)) ×
    (lookup (bytes_eq s) (get_or levels 9 []) ≡ at_level 0 (role_of s)) ×
    (bytes_eq s (codes "?") ≡ is_question (role_of s)) ×
    (bytes_eq s (codes ":") ≡ is_colon (role_of s)) ×
    (bytes_eq s (codes ")") ≡ is_close (role_of s)) ×
    (is_low (role_of s) ≡ true)

spelled : (P : List ℕ → Type 0) (s t : List ℕ) → P t → (bytes_eq s t ≡ false → P s) → P s
spelled P s t there apart = by (bytes_eq s t) refl
  where
    by : (b : Bool) → bytes_eq s t ≡ b → P s
    by true e = subst P (sym ((bytes_eq-Decides s t).0 e)) there
    by false e = apart e

at_star : Facts (codes "*")
unfolding role_of arithmetic_role comparison_role bitwise_role
at_star = (refl, refl, refl, refl, refl, refl, refl, refl, refl, refl, refl, refl, refl, refl)

at_slash : Facts (codes "/")
unfolding role_of arithmetic_role comparison_role bitwise_role
at_slash = (refl, refl, refl, refl, refl, refl, refl, refl, refl, refl, refl, refl, refl, refl)

at_percent : Facts (codes "%")
unfolding role_of arithmetic_role comparison_role bitwise_role
at_percent = (refl, refl, refl, refl, refl, refl, refl, refl, refl, refl, refl, refl, refl, refl)

at_plus : Facts (codes "+")
unfolding role_of arithmetic_role comparison_role bitwise_role
at_plus = (refl, refl, refl, refl, refl, refl, refl, refl, refl, refl, refl, refl, refl, refl)

at_minus : Facts (codes "-")
unfolding role_of arithmetic_role comparison_role bitwise_role
at_minus = (refl, refl, refl, refl, refl, refl, refl, refl, refl, refl, refl, refl, refl, refl)

at_shift_left : Facts (codes "<<")
unfolding role_of arithmetic_role comparison_role bitwise_role
at_shift_left = (refl, refl, refl, refl, refl, refl, refl, refl, refl, refl, refl, refl, refl, refl)

at_shift_right : Facts (codes ">>")
unfolding role_of arithmetic_role comparison_role bitwise_role
at_shift_right = (refl, refl, refl, refl, refl, refl, refl, refl, refl, refl, refl, refl, refl, refl)

at_less : Facts (codes "<")
unfolding role_of arithmetic_role comparison_role bitwise_role
at_less = (refl, refl, refl, refl, refl, refl, refl, refl, refl, refl, refl, refl, refl, refl)

at_greater : Facts (codes ">")
unfolding role_of arithmetic_role comparison_role bitwise_role
at_greater = (refl, refl, refl, refl, refl, refl, refl, refl, refl, refl, refl, refl, refl, refl)

at_less_equal : Facts (codes "<=")
unfolding role_of arithmetic_role comparison_role bitwise_role
at_less_equal = (refl, refl, refl, refl, refl, refl, refl, refl, refl, refl, refl, refl, refl, refl)

at_greater_equal : Facts (codes ">=")
unfolding role_of arithmetic_role comparison_role bitwise_role
at_greater_equal = (refl, refl, refl, refl, refl, refl, refl, refl, refl, refl, refl, refl, refl, refl)

at_equal : Facts (codes "==")
unfolding role_of arithmetic_role comparison_role bitwise_role
at_equal = (refl, refl, refl, refl, refl, refl, refl, refl, refl, refl, refl, refl, refl, refl)

at_not_equal : Facts (codes "!=")
unfolding role_of arithmetic_role comparison_role bitwise_role
at_not_equal = (refl, refl, refl, refl, refl, refl, refl, refl, refl, refl, refl, refl, refl, refl)

at_and : Facts (codes "&")
unfolding role_of arithmetic_role comparison_role bitwise_role
at_and = (refl, refl, refl, refl, refl, refl, refl, refl, refl, refl, refl, refl, refl, refl)

at_caret : Facts (codes "^")
unfolding role_of arithmetic_role comparison_role bitwise_role
at_caret = (refl, refl, refl, refl, refl, refl, refl, refl, refl, refl, refl, refl, refl, refl)

at_bar : Facts (codes "|")
unfolding role_of arithmetic_role comparison_role bitwise_role
at_bar = (refl, refl, refl, refl, refl, refl, refl, refl, refl, refl, refl, refl, refl, refl)

at_and_and : Facts (codes "&&")
unfolding role_of arithmetic_role comparison_role bitwise_role
at_and_and = (refl, refl, refl, refl, refl, refl, refl, refl, refl, refl, refl, refl, refl, refl)

at_bar_bar : Facts (codes "||")
unfolding role_of arithmetic_role comparison_role bitwise_role
at_bar_bar = (refl, refl, refl, refl, refl, refl, refl, refl, refl, refl, refl, refl, refl, refl)

at_question : Facts (codes "?")
unfolding role_of arithmetic_role comparison_role bitwise_role
at_question = (refl, refl, refl, refl, refl, refl, refl, refl, refl, refl, refl, refl, refl, refl)

at_colon : Facts (codes ":")
unfolding role_of arithmetic_role comparison_role bitwise_role
at_colon = (refl, refl, refl, refl, refl, refl, refl, refl, refl, refl, refl, refl, refl, refl)

at_close : Facts (codes ")")
unfolding role_of arithmetic_role comparison_role bitwise_role
at_close = (refl, refl, refl, refl, refl, refl, refl, refl, refl, refl, refl, refl, refl, refl)

-- a text that is none of these
none_of : (s : List ℕ) → bytes_eq s (codes "*") ≡ false → bytes_eq s (codes "/") ≡ false → bytes_eq s (codes "%") ≡ false → bytes_eq s (codes "+") ≡ false → bytes_eq s (codes "-") ≡ false → bytes_eq s (codes "<<") ≡ false → bytes_eq s (codes ">>") ≡ false → bytes_eq s (codes "<") ≡ false → bytes_eq s (codes ">") ≡ false → bytes_eq s (codes "<=") ≡ false → bytes_eq s (codes ">=") ≡ false → bytes_eq s (codes "==") ≡ false → bytes_eq s (codes "!=") ≡ false → bytes_eq s (codes "&") ≡ false → bytes_eq s (codes "^") ≡ false → bytes_eq s (codes "|") ≡ false → bytes_eq s (codes "&&") ≡ false → bytes_eq s (codes "||") ≡ false → bytes_eq s (codes "?") ≡ false → bytes_eq s (codes ":") ≡ false → bytes_eq s (codes ")") ≡ false → Facts s
unfolding role_of arithmetic_role comparison_role bitwise_role
none_of s e0 e1 e2 e3 e4 e5 e6 e7 e8 e9 e10 e11 e12 e13 e14 e15 e16 e17 e18 e19 e20 = simp (e0, e1, e2, e3, e4, e5, e6, e7, e8, e9, e10, e11, e12, e13, e14, e15, e16, e17, e18, e19, e20) (refl, refl, refl, refl, refl, refl, refl, refl, refl, refl, refl, refl, refl, refl)

pub facts : (s : List ℕ) → Facts s
facts s =
    spelled Facts s (codes "*") at_star (λ e0.
    spelled Facts s (codes "/") at_slash (λ e1.
    spelled Facts s (codes "%") at_percent (λ e2.
    spelled Facts s (codes "+") at_plus (λ e3.
    spelled Facts s (codes "-") at_minus (λ e4.
    spelled Facts s (codes "<<") at_shift_left (λ e5.
    spelled Facts s (codes ">>") at_shift_right (λ e6.
    spelled Facts s (codes "<") at_less (λ e7.
    spelled Facts s (codes ">") at_greater (λ e8.
    spelled Facts s (codes "<=") at_less_equal (λ e9.
    spelled Facts s (codes ">=") at_greater_equal (λ e10.
    spelled Facts s (codes "==") at_equal (λ e11.
    spelled Facts s (codes "!=") at_not_equal (λ e12.
    spelled Facts s (codes "&") at_and (λ e13.
    spelled Facts s (codes "^") at_caret (λ e14.
    spelled Facts s (codes "|") at_bar (λ e15.
    spelled Facts s (codes "&&") at_and_and (λ e16.
    spelled Facts s (codes "||") at_bar_bar (λ e17.
    spelled Facts s (codes "?") at_question (λ e18.
    spelled Facts s (codes ":") at_colon (λ e19.
    spelled Facts s (codes ")") at_close (λ e20.
    none_of s e0 e1 e2 e3 e4 e5 e6 e7 e8 e9 e10 e11 e12 e13 e14 e15 e16 e17 e18 e19 e20)))))))))))))))))))))

pub levels_fit : Fits levels
levels_fit = (
  omega arith,
  (λ s. (facts s).0),
  (
    omega arith,
    (λ s. (facts s).1),
    (
      omega arith,
      (λ s. (facts s).2),
      (
        omega arith,
        (λ s. (facts s).3),
        (
          omega arith,
          (λ s. (facts s).4),
          (
            omega arith,
            (λ s. (facts s).5),
            (
              omega arith,
              (λ s. (facts s).6),
              (
                omega arith,
                (λ s. (facts s).7),
                (
                  omega arith,
                  (λ s. (facts s).8),
                  (
                    omega arith,
                    (λ s. (facts s).9),
                    tt,
                  ),
                ),
              ),
            ),
          ),
        ),
      ),
    ),
  ),
)
