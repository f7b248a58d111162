-- A replacement list without `##`, with the tokens of the code.
use Rattle.std.specs.Prelude.{◌≡◌, ℕ, zero, suc, List, [], ◌∷◌, ◌++◌, Bool, true, false, Vec}
use Rattle.std.specs.List.{list_any, flat_map}
use Rattle.std.specs.declared.alloc.Global.{Global}
use Rattle.macros_substitution.specs.declared.piece.HiddenToken.{HiddenToken}
use Rattle.macros_substitution.specs.declared.piece.Piece.{Piece as HeldPiece}
use Rattle.macros_substitution.specs.declared.piece.Piece.TheVariants.{One, Parameter, Joint, Placemarker}
use Rattle.macros_substitution.specs.inside.Reading.{expanded_held}

-- the first token with this mark
abbrev pub marked_held : Bool → List HiddenToken → List HiddenToken
marked_held space [] = []
marked_held space (x ∷ xs) = record { token = record x.token { space_before = space }; hides = x.hides } ∷ xs

abbrev pub held_at : ℕ → List (Vec HiddenToken Global) → List HiddenToken
held_at i [] = []
held_at zero (list ∷ lists) = list.items
held_at (suc i) (list ∷ lists) = held_at i lists

abbrev pub either_held : Bool → Bool → List HiddenToken → List HiddenToken → List HiddenToken
either_held true space argument full = marked_held space argument
either_held false space argument full = marked_held space full

-- the tokens of a piece
abbrev pub put_held : List (Vec HiddenToken Global) → List (Vec HiddenToken Global) → HeldPiece → List HiddenToken
put_held arguments full (One x) = x ∷ []
put_held arguments full (Parameter beside space i) = either_held beside space (held_at i arguments) (held_at i full)
put_held arguments full Joint = []
put_held arguments full (Placemarker space) = []

abbrev pub all_held : List (Vec HiddenToken Global) → List (Vec HiddenToken Global) → List HeldPiece → List HiddenToken
all_held arguments full ps = flat_map (put_held arguments full) ps

-- the expansions that these pieces use are the same
abbrev pub KeepsUsed : List HeldPiece → List (Vec HiddenToken Global) → List (Vec HiddenToken Global) → Type 0
KeepsUsed ps old new = (i : ℕ) → list_any (expanded_held i) ps ≡ true → held_at i new ≡ held_at i old

-- a piece's tokens are appended to those that are done; the arguments that the rest uses are kept
pub record PutsPiece (arguments old new : List (Vec HiddenToken Global)) (p : HeldPiece) (rest : List HeldPiece) (before after : List HiddenToken) : Type 0 where
  pub done : after ≡ before ++ put_held arguments old p
  pub keeps : KeepsUsed rest old new
