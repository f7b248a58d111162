-- The first pass over a replacement list, with the tokens of the code.
use Rattle.std.specs.Prelude.{◌≡◌, ℕ, ◌&&◌, not, nat_eq, List, [], ◌∷◌, map, drop, Bool, false, Option, Some, None, Result, Ok, Err, if◌then◌else◌}
use Rattle.srcset.specs.declared.refusal.Pos.{Pos}
use Rattle.srcset.specs.declared.refusal.Refusal.{Refusal}
use Rattle.srcset.specs.declared.refusal.Refusal.TheVariants.{Memory, At, Told}
use Rattle.srcset.specs.declared.code.Code.{Code}
use Rattle.srcset.specs.NameTable.{Texts}
use Rattle.phases.specs.Token.{Token}
use Rattle.macros.specs.Macro.{is_hash, is_joint}
use Rattle.macros.specs.Operators.{stringized}
use Rattle.macros.specs.Table.{BodyToken}
use Rattle.macros_substitution.specs.declared.piece.HiddenToken.{HiddenToken}
use Rattle.macros_substitution.specs.declared.piece.Piece.{Piece as HeldPiece}
use Rattle.macros_substitution.specs.declared.piece.Piece.TheVariants.{One, Parameter, Joint, Placemarker}
use Rattle.macros_substitution.specs.HideSets.{Sets}
use Rattle.macros_substitution.specs.Meaning.{piece_as}
use Rattle.macros_substitution.specs.Substitution.{◌>>=◌, Piece, one, parameter, joint, Call, strings_made, sides, in_front, is_function_like}
use Rattle.macros_substitution.specs.inside.Steps.{joint_held}

abbrev pub beside_held : ℕ → HeldPiece → Bool
beside_held i (One x) = false
beside_held i (Parameter beside space j) = beside && nat_eq i j
beside_held i Joint = false
beside_held i (Placemarker space) = false

abbrev pub expanded_held : ℕ → HeldPiece → Bool
expanded_held i (One x) = false
expanded_held i (Parameter beside space j) = not beside && nat_eq i j
expanded_held i Joint = false
expanded_held i (Placemarker space) = false

abbrev pub tokens_held : List HiddenToken → List Token
tokens_held xs = map (λ x. x.token) xs

-- the string literal that a `#` with this mark makes of these tokens
abbrev pub string_made : Bool → List Token → Pos → Result Piece Code
string_made space argument at = stringized argument at >>= λ s. Ok (one (record { token = record s { space_before = space }; hides = [] }))

-- the parameter that follows a `#` of a function-like macro
abbrev pub operand_in : Bool → BodyToken → List BodyToken → Option ℕ
operand_in function_like x [] = None
operand_in function_like x (y ∷ ys) = if function_like && is_hash x.token then y.parameter else None

abbrev pub joint_first : List BodyToken → Bool
joint_first [] = false
joint_first (x ∷ xs) = is_joint x.token

abbrev pub parameter_in : Bool → BodyToken → Pos → Option ℕ → Piece
parameter_in beside x at None = one (record { token = record x.token { pos = at }; hides = [] })
parameter_in beside x at (Some i) = parameter beside x.token.space_before i

-- the piece of a token that is no operand of `#`
abbrev pub piece_in : Bool → BodyToken → Pos → Piece
piece_in beside x at = if is_joint x.token then joint else parameter_in beside x at x.parameter

-- the pieces of these tokens, `after` where a `##` comes directly before
abbrev pub read : Call → Bool → List Token → Result (List Piece) Code
read call after xs = strings_made call xs >>= λ ps. Ok (sides after ps)

-- one piece is read, with the number of its tokens; or the rest is refused
abbrev pub ReadsNext : Texts → Sets → Call → Bool → List Token → Result (HeldPiece × ℕ) Refusal → Type 0
ReadsNext texts sets call after xs (Ok found) =
    read call after xs ≡ in_front (piece_as texts sets found.0) (read call (joint_held found.0) (drop found.1 xs))
ReadsNext texts sets call after xs (Err Memory) = Unit {0}
ReadsNext texts sets call after xs (Err (At code pos)) = (pos ≡ call.at) × (read call after xs ≡ Err code)
ReadsNext texts sets call after xs (Err (Told code pos text)) = ⊥

abbrev pub is_function : Call → Bool
is_function call = is_function_like call.macro.parameters
