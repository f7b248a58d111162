-- The effect of the steps of the code.
use Rattle.std.specs.List.{flat_map}
use Rattle.std.specs.Prelude.{◌≡◌, ℕ, List, [], ◌∷◌, ◌++◌, Bool, true, false, Result, Ok, Err}
use Rattle.srcset.specs.declared.refusal.Pos.{Pos}
use Rattle.srcset.specs.declared.refusal.Refusal.{Refusal}
use Rattle.srcset.specs.declared.refusal.Refusal.TheVariants.{Memory, At, Told}
use Rattle.srcset.specs.declared.code.Code.{Code}
use Rattle.srcset.specs.NameTable.{Texts}
use Rattle.phases.specs.Token.{Token}
use Rattle.macros_substitution.specs.declared.piece.HiddenToken.{HiddenToken}
use Rattle.macros_substitution.specs.declared.piece.Piece.{Piece as HeldPiece}
use Rattle.macros_substitution.specs.declared.piece.Piece.TheVariants.{One, Parameter, Joint, Placemarker}
use Rattle.macros_substitution.specs.declared.joining.Hand.{Hand}
use Rattle.macros_substitution.specs.declared.joining.Hand.TheVariants.{Nothing, Left, Joining as HandJoining}
use Rattle.macros_substitution.specs.declared.joining.Joining.{Joining}
use Rattle.macros_substitution.specs.HideSets.{Sets}
use Rattle.macros_substitution.specs.Meaning.{hidden_all, piece_as, AreIn, PieceIn}
use Rattle.macros_substitution.specs.Substitution.{◌>>=◌, Hidden, Piece, parameter, joint, list_at, plain_or_full, all_joined, joints_done, tokens_of}

-- the token with this mark, where it is the first
abbrev pub mark_if : Bool → Bool → Token → Token
mark_if true space x = record x { space_before = space }
mark_if false space x = x

-- ---- the third pass

abbrev pub joint_held : HeldPiece → Bool
joint_held (One x) = false
joint_held (Parameter beside space index) = false
joint_held Joint = true
joint_held (Placemarker space) = false

abbrev pub tokens_in : HeldPiece → List HiddenToken
tokens_in (One x) = x ∷ []
tokens_in (Parameter beside space index) = []
tokens_in Joint = []
tokens_in (Placemarker space) = []

-- the definition's piece, or its refusal at this place
abbrev pub JoinsTo : Texts → Sets → Pos → Result HeldPiece Refusal → Result Piece Code → Type 0
JoinsTo texts sets at (Ok p) answer = answer ≡ Ok (piece_as texts sets p)
JoinsTo texts sets at (Err Memory) answer = Unit {0}
JoinsTo texts sets at (Err (At code pos)) answer = (pos ≡ at) × (answer ≡ Err code)
JoinsTo texts sets at (Err (Told code pos text)) answer = ⊥

-- the result of the hand and the pieces that follow
abbrev pub resumed : Texts → Sets → Hand → List Piece → Pos → Result (List Piece) Code
resumed texts sets Nothing ps at = joints_done ps at
resumed texts sets (Left p) ps at = all_joined (piece_as texts sets p) ps at
resumed texts sets (HandJoining p) ps at = all_joined (piece_as texts sets p) (joint ∷ ps) at

-- the tokens of these pieces after those that are done
abbrev pub behind_done : List Hidden → Result (List Piece) Code → Result (List Hidden) Code
behind_done done answer = answer >>= λ ps. Ok (done ++ tokens_of ps)

-- the result of the pass, with these pieces to follow
abbrev pub going : Texts → Sets → Joining → List Piece → Pos → Result (List Hidden) Code
going texts sets j ps at = behind_done (hidden_all texts sets j.done.items) (resumed texts sets j.hand ps at)

abbrev pub HandIn : ℕ → Hand → Type 0
HandIn count Nothing = Unit {0}
HandIn count (Left p) = PieceIn count p
HandIn count (HandJoining p) = PieceIn count p

pub record JoiningIn (count : ℕ) (j : Joining) : Type 0 where
  pub done : AreIn count j.done.items
  pub hand : HandIn count j.hand

-- the pass continues after these pieces, or its result is a refusal
abbrev pub GoesOn : Texts → Sets → Pos → Joining → List Piece → Result Joining Refusal → List Piece → Type 0
GoesOn texts sets at j ps (Ok k) behind = going texts sets j (ps ++ behind) at ≡ going texts sets k behind at
GoesOn texts sets at j ps (Err Memory) behind = Unit {0}
GoesOn texts sets at j ps (Err (At code pos)) behind = (pos ≡ at) × (going texts sets j (ps ++ behind) at ≡ Err code)
GoesOn texts sets at j ps (Err (Told code pos text)) behind = ⊥

-- ---- the second pass

-- a piece with arguments and expansions in the place of a parameter
abbrev pub put_of : List (List Hidden) → List (List Hidden) → Piece → List Piece
put_of arguments full (parameter beside s i) = plain_or_full beside s (list_at i arguments) (list_at i full)
put_of arguments full p = p ∷ []

abbrev pub all_put : List (List Hidden) → List (List Hidden) → List Piece → List Piece
all_put arguments full ps = flat_map (put_of arguments full) ps
