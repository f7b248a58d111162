-- The role of a token after an operand.
use Rattle.std.specs.Prelude.{ℕ, List, codes, if◌then◌else◌}
use Rattle.std.specs.Str.{bytes_eq}
use Rattle.ctypes.specs.declared.operators.BinOp.TheVariants.{Mul, Div, Rem, Add, Sub, Shl, Shr, Less, Greater, LessEqual, GreaterEqual, Equal, NotEqual, BitAnd, BitXor, BitOr}
use Rattle.pp_cond.specs.declared.operators.Operator.TheVariants.{OrElse, AndThen, Two}
use Rattle.pp_cond.specs.declared.operators.Role.{Role}
use Rattle.pp_cond.specs.declared.operators.Role.TheVariants.{Infix, Question, Colon, Close, Nothing}

unfoldable pub bitwise_role : List ℕ → Role
bitwise_role s =
    if bytes_eq s (codes "&") then Infix 5 (Two BitAnd) else
    if bytes_eq s (codes "^") then Infix 6 (Two BitXor) else
    if bytes_eq s (codes "|") then Infix 7 (Two BitOr) else
    if bytes_eq s (codes "&&") then Infix 8 AndThen else
    if bytes_eq s (codes "||") then Infix 9 OrElse else
    Nothing

unfoldable pub comparison_role : List ℕ → Role
comparison_role s =
    if bytes_eq s (codes "<") then Infix 3 (Two Less) else
    if bytes_eq s (codes ">") then Infix 3 (Two Greater) else
    if bytes_eq s (codes "<=") then Infix 3 (Two LessEqual) else
    if bytes_eq s (codes ">=") then Infix 3 (Two GreaterEqual) else
    if bytes_eq s (codes "==") then Infix 4 (Two Equal) else
    if bytes_eq s (codes "!=") then Infix 4 (Two NotEqual) else
    bitwise_role s

-- the level of an operator counts from the tightest
unfoldable pub arithmetic_role : List ℕ → Role
arithmetic_role s =
    if bytes_eq s (codes "*") then Infix 0 (Two Mul) else
    if bytes_eq s (codes "/") then Infix 0 (Two Div) else
    if bytes_eq s (codes "%") then Infix 0 (Two Rem) else
    if bytes_eq s (codes "+") then Infix 1 (Two Add) else
    if bytes_eq s (codes "-") then Infix 1 (Two Sub) else
    if bytes_eq s (codes "<<") then Infix 2 (Two Shl) else
    if bytes_eq s (codes ">>") then Infix 2 (Two Shr) else
    comparison_role s

unfoldable pub role_of : List ℕ → Role
role_of s =
    if bytes_eq s (codes "?") then Question else
    if bytes_eq s (codes ":") then Colon else
    if bytes_eq s (codes ")") then Close else
    arithmetic_role s

-- how loose the operators that a token ends may be: a level, 10 for `?`, which ends all operators, 11 for a token that ends `? :` too
abbrev pub bound_of : Role → ℕ
bound_of (Infix level operator) = level
bound_of Question = 10
bound_of Colon = 11
bound_of Close = 11
bound_of Nothing = 11
