-- The meaning of the tokens of a condition, once `defined` is resolved and macros are replaced (ISO/IEC 9899:2011 6.10.1p1, p4):
-- a constant expression (6.6) of integer and character constants, where each identifier left is 0.
use Rattle.std.specs.Prelude.{ℕ, zero, suc, ◌+◌, ◌*◌, ◌^◌, List, [], ◌∷◌, length, take, drop, Bool, true, false, not, ◌&&◌, ◌||◌, ◌==◌, nat_lt, Option, Some, None, Result, Ok, Err, ℤ, pos, codes, if◌then◌else◌}
use Rattle.std.specs.List.{list_any}
use Rattle.std.specs.Map.{lookup}
use Rattle.std.specs.Str.{byte, bytes_eq}
use Rattle.srcset.specs.declared.code.Code.{Code}
use Rattle.srcset.specs.declared.code.Code.TheVariants as code
use Rattle.phases.specs.declared.token.Kind.{Kind}
use Rattle.phases.specs.declared.token.Kind.TheVariants as kind
use Rattle.phases.specs.Token.{Token}
use Rattle.macros.specs.Macro.{is_identifier, is_spelled}
use Rattle.ctypes.specs.declared.operators.BinOp.TheVariants.{Mul, Div, Rem, Add, Sub, Shl, Shr, Less, Greater, LessEqual, GreaterEqual, Equal, NotEqual, BitAnd, BitXor, BitOr}
use Rattle.pp_cond.specs.declared.operators.Operator.{Operator}
use Rattle.pp_cond.specs.declared.operators.Operator.TheVariants.{OrElse, AndThen, Two}
use Rattle.pp_cond.specs.declared.operators.PrefixOperator.{PrefixOperator}
use Rattle.pp_cond.specs.declared.operators.PrefixOperator.TheVariants.{Plus, Minus, Complement, Negation}
use Rattle.lexer.specs.declared.numbers.Constant.{Constant}
use Rattle.lexer.specs.declared.numbers.Suffix.{Suffix}
use Rattle.lexer.specs.Digits.{digit_count, value_of as digits_value}
use Rattle.lexer.specs.Numbers.{base_of, unprefixed, suffix_behind}
use Rattle.lexer.specs.Literals.{character}
use Rattle.ctypes.specs.Types.{truth}
use Rattle.pp_cond.specs.Values.{Value, Condition, constant, prefix, binary, both, either, choice, value_of}

-- ---- constants

abbrev pub is_u : ℕ → Bool
is_u b = (b == byte "u") || (b == byte "U")

-- the first of intmax_t and uintmax_t that has the value (6.4.4.1p5); a decimal constant without u has the first alone
abbrev pub constant_value : Bool → Bool → ℕ → Option Value
constant_value decimal u v =
    if nat_lt v (2 ^ 63) && not u then Some (record { unsigned = false; number = pos v })
    else if nat_lt v (2 ^ 64) && (u || not decimal) then Some (record { unsigned = true; number = pos v })
    else None

abbrev pub number_with : Option Suffix → List ℕ → ℕ → List ℕ → Option Value
number_with None suffix base digits = None
number_with (Some s) suffix base digits = constant_value (base == 10) (list_any is_u suffix) (digits_value base digits)

-- an integer constant, with a suffix of long long too
abbrev pub number_value : List ℕ → Option Value
number_value text =
    let base = base_of text in
    let rest = unprefixed text in
    let count = digit_count base rest in
    number_with (suffix_behind count rest) (drop count rest) base (take count rest)

abbrev pub character_value : Result Constant Code → Option Value
character_value (Ok c) = Some (record { unsigned = false; number = pos c.value })
character_value (Err c) = None

abbrev pub value_by : Kind → List ℕ → Option Value
value_by kind.Identifier text = Some (record { unsigned = false; number = pos 0 })
value_by kind.Number text = number_value text
value_by kind.CharacterConstant text = character_value (character text)
value_by _ text = None

abbrev pub token_value : Token → Option Value
token_value x = value_by x.kind x.spelling

-- ---- operators, the loosest level first (6.5.5 to 6.5.14)

abbrev pub Level : Type 0
Level = List (List ℕ × Operator)

abbrev pub levels : List Level
levels =
    ((codes "||", OrElse) ∷ []) ∷
    ((codes "&&", AndThen) ∷ []) ∷
    ((codes "|", Two BitOr) ∷ []) ∷
    ((codes "^", Two BitXor) ∷ []) ∷
    ((codes "&", Two BitAnd) ∷ []) ∷
    ((codes "==", Two Equal) ∷ (codes "!=", Two NotEqual) ∷ []) ∷
    ((codes "<", Two Less) ∷ (codes ">", Two Greater) ∷ (codes "<=", Two LessEqual) ∷ (codes ">=", Two GreaterEqual) ∷ []) ∷
    ((codes "<<", Two Shl) ∷ (codes ">>", Two Shr) ∷ []) ∷
    ((codes "+", Two Add) ∷ (codes "-", Two Sub) ∷ []) ∷
    ((codes "*", Two Mul) ∷ (codes "/", Two Div) ∷ (codes "%", Two Rem) ∷ []) ∷ []

abbrev pub prefixes : List (List ℕ × PrefixOperator)
prefixes = (codes "+", Plus) ∷ (codes "-", Minus) ∷ (codes "~", Complement) ∷ (codes "!", Negation) ∷ []

abbrev pub joined_by : Operator → Condition → Condition → Condition
joined_by OrElse a b = either a b
joined_by AndThen a b = both a b
joined_by (Two op) a b = binary op a b

-- ---- reading: a condition at the front, and the tokens that follow it

abbrev pub Read : Type 0
Read = Option (Condition × List Token)

abbrev pub then_read : Read → (Condition → List Token → Read) → Read
then_read None go = None
then_read (Some r) go = go r.0 r.1

-- continues after a token of this spelling
abbrev pub past : List ℕ → List Token → (List Token → Read) → Read
past text [] go = None
past text (x ∷ rest) go = if is_spelled text x then go rest else None

pub data Part : Type 0 where
  -- logical-OR, followed by `? :` or not (6.5.15)
  whole : Part
  -- a level and those that are tighter
  level : (ls : List Level) → Part
  -- further operands of a level, after a left operand
  further : (l : Level) (tighter : List Level) (a : Condition) → Part
  -- a unary operator and its operand, a constant, or parentheses (6.5.1, 6.5.3)
  operand : Part

abbrev pub constant_read : Option Value → List Token → Read
constant_read None rest = None
constant_read (Some v) rest = Some (constant v, rest)

-- after a condition: `?`, a condition, `:` and a condition, or anything else
abbrev pub choice_read : Bool → Condition → Token → List Token → (List Token → Read) → Read
choice_read false c x more again = Some (c, x ∷ more)
choice_read true c x more again =
    then_read (again more) (λ a rest. past (codes ":") rest (λ rest. then_read (again rest) (λ b rest. Some (choice c a b, rest))))

abbrev pub maybe_choice : Condition → List Token → (List Token → Read) → Read
maybe_choice c [] again = Some (c, [])
maybe_choice c (x ∷ more) again = choice_read (is_spelled (codes "?") x) c x more again

-- after a left operand: an operator of the level and a right operand, and so on, or anything else
abbrev pub maybe_further : Option Operator → Condition → Token → List Token → (List Token → Read) → (Condition → List Token → Read) → Read
maybe_further None a x rest right again = Some (a, x ∷ rest)
maybe_further (Some op) a x rest right again = then_read (right rest) (λ b rest. again (joined_by op a b) rest)

abbrev pub parentheses_or_constant : Bool → Token → List Token → (List Token → Read) → Read
parentheses_or_constant true x rest inside = then_read (inside rest) (λ a rest. past (codes ")") rest (λ rest. Some (a, rest)))
parentheses_or_constant false x rest inside = constant_read (token_value x) rest

abbrev pub prefixed_or_primary : Option PrefixOperator → Token → List Token → (List Token → Read) → (List Token → Read) → Read
prefixed_or_primary (Some op) x rest again inside = then_read (again rest) (λ a rest. Some (prefix op a, rest))
prefixed_or_primary None x rest again inside = parentheses_or_constant (is_spelled (codes "(") x) x rest inside

-- the number is one of calls, and is more than it takes
unfoldable pub read : ℕ → Part → List Token → Read
read zero part xs = None
read (suc n) whole xs = then_read (read n (level levels) xs) (λ c rest. maybe_choice c rest (λ more. read n whole more))
read (suc n) (level []) xs = read n operand xs
read (suc n) (level (l ∷ tighter)) xs = then_read (read n (level tighter) xs) (λ a rest. read n (further l tighter a) rest)
read (suc n) (further l tighter a) [] = Some (a, [])
read (suc n) (further l tighter a) (x ∷ rest) =
    maybe_further (lookup (bytes_eq x.spelling) l) a x rest (λ rest. read n (level tighter) rest) (λ a rest. read n (further l tighter a) rest)
read (suc n) operand [] = None
read (suc n) operand (x ∷ rest) =
    prefixed_or_primary (lookup (bytes_eq x.spelling) prefixes) x rest (λ rest. read n operand rest) (λ rest. read n whole rest)

abbrev pub all_read : Read → Option Condition
all_read None = None
all_read (Some (c, [])) = Some c
all_read (Some (c, x ∷ xs)) = None

-- the condition that the whole list is
abbrev pub condition_of : List Token → Option Condition
condition_of xs = all_read (read (16 * (length xs + 1)) whole xs)

abbrev pub is_defined_word : Token → Bool
is_defined_word x = is_identifier x && is_spelled (codes "defined") x

abbrev pub truth_or_fault : Option ℤ → Result Bool Code
truth_or_fault None = Err code.ConditionOutOfRange
truth_or_fault (Some v) = Ok (truth v)

abbrev pub condition_truth : Option Condition → Result Bool Code
condition_truth None = Err code.NotConstantCondition
condition_truth (Some c) = truth_or_fault (value_of c)

-- whether a condition holds; a `defined` that is there was made by replacement (6.10.1p4)
unfoldable pub holds : List Token → Result Bool Code
holds xs = if list_any is_defined_word xs then Err code.DefinedMadeByMacro else condition_truth (condition_of xs)
