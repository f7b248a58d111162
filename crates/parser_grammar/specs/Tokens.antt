-- Tokens at the front of a list, and the missing part of a begun tree.
use Rattle.std.specs.Prelude.{◌≡◌, Option, None, Some, ◌⊎◌, List, ◌∷◌, ◌++◌}
use Rattle.srcset.specs.declared.refusal.Pos.{Pos}
use Rattle.lexer.specs.declared.token.Token.{Token}
use Rattle.lexer.specs.declared.token.Kind.{Kind}
use Rattle.lexer.specs.declared.token.Kind.TheVariants as kind
use Rattle.lexer.specs.declared.token.Punctuator.{Punctuator}

-- ---- spelling

-- a token that its node keeps
abbrev pub Own : Kind → Pos → List Token → List Token → Type 0
Own k at ts rest = ts ≡ record { kind = k; pos = at } ∷ rest

-- The missing part of a begun tree is where its front ends, before cut. A whole tree (None) misses nothing.
abbrev pub Missing : Option (List Token) → List Token → List Token → Type 0
Missing None ts rest = ⊥
Missing (Some cut) ts rest = (ts ≡ cut) × (rest ≡ cut)

-- a token whose place no node keeps
abbrev pub Mark : Option (List Token) → Kind → List Token → List Token → Type 0
Mark begun k ts rest = ((at : Pos) × Own k at ts rest) ⊎ Missing begun ts rest

abbrev pub Sign : Option (List Token) → Punctuator → List Token → List Token → Type 0
Sign begun p ts rest = Mark begun (kind.Punctuator p) ts rest

-- the first token is at this place
abbrev pub StartsAt : Pos → List Token → Type 0
StartsAt at ts = (k : Kind) × (rest : List Token) × Own k at ts rest

-- this token is not at the front
abbrev pub NotFront : Kind → List Token → Type 0
NotFront k ts = (at : Pos) (rest : List Token) → Own k at ts rest → ⊥

-- these tokens are a tail of the others
abbrev pub Reaches : List Token → List Token → Type 0
Reaches ts us = (before : List Token) × (ts ≡ before ++ us)
