-- The tokens, pieces and results of the code as the definitions see them, with the texts and the hide sets that their
-- numbers denote.
use Rattle.std.specs.Prelude.{◌≡◌, ℕ, ◌≤◌, ◌&&◌, nat_eq, List, [], ◌∷◌, map, Bool, true, false, Result, Ok, Err, Vec}
use Rattle.std.specs.List.{list_any}
use Rattle.std.specs.declared.alloc.Global.{Global}
use Rattle.srcset.specs.declared.refusal.Pos.{Pos}
use Rattle.srcset.specs.declared.refusal.Refusal.{Refusal}
use Rattle.srcset.specs.declared.refusal.Refusal.TheVariants.{Memory, At, Told}
use Rattle.srcset.specs.declared.code.Code.{Code}
use Rattle.srcset.specs.NameTable.{Texts}
use Rattle.macros_substitution.specs.declared.piece.HiddenToken.{HiddenToken}
use Rattle.macros_substitution.specs.declared.piece.Use.{Use}
use Rattle.macros_substitution.specs.declared.piece.Piece.{Piece as HeldPiece}
use Rattle.macros_substitution.specs.declared.piece.Piece.TheVariants.{One, Parameter, Joint, Placemarker}
use Rattle.macros_substitution.specs.HideSets.{Sets, members, spelled}
use Rattle.macros_substitution.specs.Substitution.{◌>>=◌, Hidden, Piece, one, parameter, joint, placemarker, Call, strings_made, sides, is_expanded, list_at}

-- ---- tokens

abbrev pub hidden_of : Texts → Sets → HiddenToken → Hidden
hidden_of texts sets x = record { token = x.token; hides = spelled texts (members sets x.hides) }

abbrev pub hidden_all : Texts → Sets → List HiddenToken → List Hidden
hidden_all texts sets xs = map (λ x. hidden_of texts sets x) xs

-- the tokens of each list
abbrev pub hidden_lists : Texts → Sets → List (Vec HiddenToken Global) → List (List Hidden)
hidden_lists texts sets lists = map (λ list. hidden_all texts sets list.items) lists

-- the hide sets of these tokens are among the first `count` of the table
abbrev pub AreIn : ℕ → List HiddenToken → Type 0
AreIn count [] = Unit {0}
AreIn count (x ∷ xs) = (x.hides ≤ count) × AreIn count xs

abbrev pub ListsIn : ℕ → List (Vec HiddenToken Global) → Type 0
ListsIn count [] = Unit {0}
ListsIn count (list ∷ lists) = AreIn count list.items × ListsIn count lists

-- ---- pieces

abbrev pub piece_as : Texts → Sets → HeldPiece → Piece
piece_as texts sets (One x) = one (hidden_of texts sets x)
piece_as texts sets (Parameter beside space index) = parameter beside space index
piece_as texts sets Joint = joint
piece_as texts sets (Placemarker space) = placemarker space

abbrev pub pieces_as : Texts → Sets → List HeldPiece → List Piece
pieces_as texts sets pieces = map (λ p. piece_as texts sets p) pieces

abbrev pub PieceIn : ℕ → HeldPiece → Type 0
PieceIn count (One x) = x.hides ≤ count
PieceIn count (Parameter beside space index) = Unit {0}
PieceIn count Joint = Unit {0}
PieceIn count (Placemarker space) = Unit {0}

abbrev pub PiecesIn : ℕ → List HeldPiece → Type 0
PiecesIn count [] = Unit {0}
PiecesIn count (p ∷ ps) = PieceIn count p × PiecesIn count ps

-- whether parameter i is somewhere next to `##`
abbrev pub stands_beside : ℕ → Piece → Bool
stands_beside i (parameter beside s j) = beside && nat_eq i j
stands_beside i p = false

abbrev pub is_beside : ℕ → List Piece → Bool
is_beside i ps = list_any (stands_beside i) ps

abbrev pub use_of : ℕ → List Piece → Use
use_of i ps = record { beside = is_beside i ps; expanded = is_expanded i ps }

-- ---- results

-- the first pass of a call, with its parameters by their sides
abbrev pub pieces_of : Call → Result (List Piece) Code
pieces_of call = strings_made call call.macro.body >>= λ made. Ok (sides false made)

-- the definition's result: these pieces, or the code of a refusal at this place
abbrev pub GivesPieces : Texts → Sets → Pos → Result (Vec HeldPiece Global) Refusal → Result (List Piece) Code → Type 0
GivesPieces texts sets at (Ok v) answer = answer ≡ Ok (pieces_as texts sets v.items)
GivesPieces texts sets at (Err Memory) answer = Unit {0}
GivesPieces texts sets at (Err (At code pos)) answer = (pos ≡ at) × (answer ≡ Err code)
GivesPieces texts sets at (Err (Told code pos text)) answer = ⊥

-- the same of tokens
abbrev pub GivesTokens : Texts → Sets → Pos → Result (Vec HiddenToken Global) Refusal → Result (List Hidden) Code → Type 0
GivesTokens texts sets at (Ok v) answer = answer ≡ Ok (hidden_all texts sets v.items)
GivesTokens texts sets at (Err Memory) answer = Unit {0}
GivesTokens texts sets at (Err (At code pos)) answer = (pos ≡ at) × (answer ≡ Err code)
GivesTokens texts sets at (Err (Told code pos text)) answer = ⊥

-- a call's arguments are these lists, as far as they are next to `##`
abbrev pub HasBeside : List Piece → List (List Hidden) → Call → Type 0
HasBeside pieces arguments call = (i : ℕ) → is_beside i pieces ≡ true → list_at i call.arguments ≡ list_at i arguments
