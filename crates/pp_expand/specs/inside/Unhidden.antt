-- Tokens that hide no name.
use Rattle.std.specs.Prelude.{◌≡◌, List, map}
use Rattle.phases.specs.Token.{Token}
use Rattle.macros_substitution.specs.declared.piece.HiddenToken.{HiddenToken}

-- these tokens, and no token hides a name
abbrev pub IsUnhidden : List Token → List HiddenToken → Type 0
IsUnhidden xs hidden = hidden ≡ map (λ x. record { token = x; hides = 0 }) xs
