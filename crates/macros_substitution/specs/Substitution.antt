-- The result of substituting the arguments in a macro's replacement list (ISO/IEC 9899:2011 6.10.3.1 to 6.10.3.3): three passes,
-- first each `#`, then each other parameter, then each `##`, each from left to right.
use Rattle.std.specs.Prelude.{ℕ, zero, suc, List, [], ◌∷◌, ◌++◌, map, Bool, true, false, not, ◌&&◌, ◌||◌, nat_eq, Option, Some, None, Result, Ok, Err, if◌then◌else◌}
use Rattle.std.specs.List.{list_any, filter, flat_map}
use Rattle.std.specs.Str.{bytes_eq}
use Rattle.srcset.specs.declared.refusal.Pos.{Pos}
use Rattle.srcset.specs.declared.code.Code.{Code}
use Rattle.srcset.specs.declared.code.Code.TheVariants as code
use Rattle.phases.specs.Token.{Token}
use Rattle.macros.specs.Macro.{Parameters, Macro, is_hash, is_joint}
use Rattle.macros.specs.Definition.{names_of, parameter_among}
use Rattle.macros.specs.Operators.{stringized, pasted}

infixl 10 ◌>>=◌
abbrev pub ◌>>=◌ : {A B E : Type 0} → Result A E → (A → Result B E) → Result B E
(Ok x) >>= f = f x
(Err e) >>= f = Err e

-- ---- hide sets: the names that may not replace a token again (6.10.3.4p2)

pub record Hidden : Type 0 where
  pub token : Token
  pub hides : List (List ℕ)

abbrev pub is_hidden : List ℕ → List (List ℕ) → Bool
is_hidden name hides = list_any (bytes_eq name) hides

-- the names of both
abbrev pub common : List (List ℕ) → List (List ℕ) → List (List ℕ)
common names others = filter (λ name. is_hidden name others) names

-- the names of either: those of the first that the second has not, before those of the second
abbrev pub united : List (List ℕ) → List (List ℕ) → List (List ℕ)
united names others = filter (λ name. not (is_hidden name others)) names ++ others

-- these names hidden too
abbrev pub hiding : List (List ℕ) → List Hidden → List Hidden
hiding names xs = map (λ x. record { token = x.token; hides = united names x.hides }) xs

-- sets the mark of the first token: whether white space precedes it
abbrev pub marked : Bool → List Hidden → List Hidden
marked space [] = []
marked space (x ∷ xs) = record { token = record x.token { space_before = space }; hides = x.hides } ∷ xs

-- ---- pieces of a replacement list

pub data Piece : Type 0 where
  one : (x : Hidden) → Piece
  -- a parameter by its number, and its mark; `beside` where a `##` is directly before it or after it
  parameter : (beside space : Bool) (i : ℕ) → Piece
  -- a `##` of the replacement list
  joint : Piece
  -- an empty argument next to `##` (6.10.3.3p2), with the mark of its parameter
  placemarker : (space : Bool) → Piece

-- A replacement in progress: of which macro at which place, with which arguments.
pub record Call : Type 0 where
  pub macro : Macro
  pub at : Pos
  pub arguments : List (List Hidden)

abbrev pub parameter_of : Call → Token → Option ℕ
parameter_of call x = parameter_among (names_of call.macro.parameters) x

abbrev pub list_at : ℕ → List (List Hidden) → List Hidden
list_at i [] = []
list_at zero (xs ∷ xss) = xs
list_at (suc i) (xs ∷ xss) = list_at i xss

-- a token of the list, at the place of the name that is replaced
abbrev pub placed : Call → Token → Hidden
placed call x = record { token = record x { pos = call.at }; hides = [] }

abbrev pub token_or_parameter : Call → Token → Option ℕ → Piece
token_or_parameter call x None = one (placed call x)
token_or_parameter call x (Some i) = parameter false x.space_before i

abbrev pub piece_of : Call → Token → Piece
piece_of call x = if is_joint x then joint else token_or_parameter call x (parameter_of call x)

-- ---- first pass: `#` and the parameter after it make one token with the mark of the `#`

abbrev pub is_function_like : Option Parameters → Bool
is_function_like None = false
is_function_like (Some p) = true

abbrev pub operand_of : Call → Token → Token → Option ℕ
operand_of call x y = if is_function_like call.macro.parameters && is_hash x then parameter_of call y else None

abbrev pub string_piece : Call → Token → ℕ → Result Piece Code
string_piece call hash i =
    stringized (map (λ x. x.token) (list_at i call.arguments)) call.at
    >>= λ s. Ok (one (record { token = record s { space_before = hash.space_before }; hides = [] }))

abbrev pub in_front : Piece → Result (List Piece) Code → Result (List Piece) Code
in_front p r = r >>= λ ps. Ok (p ∷ ps)

-- the piece of the token, or the string of its operand, before the pieces of the rest, with the operand or after it
abbrev pub string_or_piece : Call → Token → Option ℕ → (Unit {0} → Result (List Piece) Code) → (Unit {0} → Result (List Piece) Code) → Result (List Piece) Code
string_or_piece call x None rest behind = in_front (piece_of call x) (rest tt)
string_or_piece call x (Some i) rest behind = string_piece call x i >>= λ s. in_front s (behind tt)

unfoldable pub strings_made : Call → List Token → Result (List Piece) Code
strings_made call [] = Ok []
strings_made call (x ∷ []) = Ok (piece_of call x ∷ [])
strings_made call (x ∷ y ∷ rest) =
    string_or_piece call x (operand_of call x y) (λ _. strings_made call (y ∷ rest)) (λ _. strings_made call rest)

-- ---- second pass: a parameter next to `##` is its argument, each other one the argument's expansion (6.10.3.1p1)

abbrev pub begins_joint : List Piece → Bool
begins_joint (joint ∷ ps) = true
begins_joint _ = false

-- each parameter with whether it is next to `##`; `after` where a `##` comes directly before
abbrev pub sides : Bool → List Piece → List Piece
sides after [] = []
sides after (parameter _ s i ∷ ps) = parameter (after || begins_joint ps) s i ∷ sides false ps
sides after (joint ∷ ps) = joint ∷ sides true ps
sides after (p ∷ ps) = p ∷ sides false ps

-- whether parameter i is somewhere not next to `##`
abbrev pub wants_full : ℕ → Piece → Bool
wants_full i (parameter beside s j) = not beside && nat_eq i j
wants_full i p = false

unfoldable pub is_expanded : ℕ → List Piece → Bool
is_expanded i ps = list_any (wants_full i) ps

abbrev pub ones : List Hidden → List Piece
ones xs = map (λ x. one x) xs

-- the argument itself, with the mark of its parameter
abbrev pub plain : Bool → List Hidden → List Piece
plain space [] = placemarker space ∷ []
plain space (x ∷ xs) = ones (marked space (x ∷ xs))

abbrev pub plain_or_full : Bool → Bool → List Hidden → List Hidden → List Piece
plain_or_full true space argument full = plain space argument
plain_or_full false space argument full = ones (marked space full)

abbrev pub argument_put : Call → List (List Hidden) → Piece → List Piece
argument_put call full (parameter beside s i) = plain_or_full beside s (list_at i call.arguments) (list_at i full)
argument_put call full p = p ∷ []

-- `full` has the expansions of the arguments that are needed
unfoldable pub arguments_put : Call → List (List Hidden) → List Piece → List Piece
arguments_put call full ps = flat_map (argument_put call full) ps

-- ---- third pass: each `##` joins the pieces on both sides, and hides the names that both hide

abbrev pub joined : Hidden → Hidden → Pos → Result Piece Code
joined left right at =
    pasted left.token right.token at >>= λ t. Ok (one (record { token = t; hides = common left.hides right.hides }))

-- a `##` after a `##` is no operand: with the piece before it it makes no token
abbrev pub join : Piece → Piece → Pos → Result Piece Code
join (one left) (one right) at = joined left right at
join (one left) (placemarker space) at = Ok (one left)
join (placemarker space) (one right) at = Ok (one (record { token = record right.token { space_before = space }; hides = right.hides }))
join (placemarker space) (placemarker other) at = Ok (placemarker space)
join left right at = Err code.PasteMakesNoToken

-- the current piece is the left operand
unfoldable pub all_joined : Piece → List Piece → Pos → Result (List Piece) Code
all_joined p [] at = Ok (p ∷ [])
all_joined p (joint ∷ q ∷ ps) at = join p q at >>= λ r. all_joined r ps at
all_joined p (q ∷ ps) at = in_front p (all_joined q ps at)

abbrev pub joints_done : List Piece → Pos → Result (List Piece) Code
joints_done [] at = Ok []
joints_done (p ∷ ps) at = all_joined p ps at

-- placemarkers are removed (6.10.3.3p3)
abbrev pub tokens_of : List Piece → List Hidden
tokens_of [] = []
tokens_of (one x ∷ ps) = x ∷ tokens_of ps
tokens_of (_ ∷ ps) = tokens_of ps

-- the second and the third pass
unfoldable pub substituted : Call → List (List Hidden) → List Piece → Result (List Hidden) Code
substituted call full pieces = joints_done (arguments_put call full pieces) call.at >>= λ ps. Ok (tokens_of ps)
