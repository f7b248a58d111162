-- The outcome of a stream of preprocessing tokens that a lexer reads to its end.
use Rattle.std.specs.Prelude.{◌≡◌, ◌⊎◌, true, List, [], ◌++◌, None, is_some}
use Rattle.srcset.specs.declared.refusal.Refusal.{Refusal}
use Rattle.srcset.specs.declared.refusal.Refusal.TheVariants.{Memory, At, Told}
use Rattle.srcset.specs.NameTable.{Texts, KeepsNumbers}
use Rattle.phases.specs.Token.{Token}
use Rattle.lexer.specs.declared.reading.Lexer.{Lexer}
use Rattle.lexer.specs.Reading.{HasRead}
use Rattle.pp.specs.declared.stream.Pp.{Pp}
use Rattle.pp.specs.Phase4.{Phase4}
use Rattle.pp.specs.Stream.{IsRest, fault_meant}

-- the rest of phase 4, where names had the first numbers, is these tokens and no fault; names have the second ones now
abbrev pub IsWhole : (old new : Texts) → Pp → List Token → Type 0
IsWhole old new stream front =
    (texts : Texts) (whole : Phase4) → KeepsNumbers new texts → IsRest old texts stream whole → whole ≡ record { tokens = front; fault = None }

-- the lexer has read all of it
pub record ReadsAll (old new : Texts) (stream : Pp) (lexer : Lexer) : Type 0 where
  pub front : List Token
  pub read : HasRead new front lexer
  pub whole : IsWhole old new stream front

-- it ends with the fault that a refusal names
abbrev pub EndsWith : (old new : Texts) → Pp → Refusal → Type 0
EndsWith old new stream refusal =
    (texts : Texts) (whole : Phase4) → KeepsNumbers new texts → IsRest old texts stream whole → whole.fault ≡ fault_meant texts refusal

abbrev pub EndsBy : Refusal → (old new : Texts) → Pp → Type 0
EndsBy Memory old new stream = Unit {0}
EndsBy (At c at) old new stream = EndsWith old new stream (At c at)
EndsBy (Told c at n) old new stream = EndsWith old new stream (Told c at n)

-- ---- on the way

-- these tokens came, and then this is left; or no token is left, and some of a run that ends in a fault came too
abbrev pub Follows : (now texts : Texts) → Pp → List Token → Phase4 → Type 0
Follows now texts stream front whole =
    (rest : Phase4) × IsRest now texts stream rest × (rest.fault ≡ whole.fault)
    × ((front ++ rest.tokens ≡ whole.tokens) ⊎ ((rest.tokens ≡ []) × (is_some rest.fault ≡ true)))

-- a lexer has read all tokens so far
pub record ReadsSome (old now : Texts) (entry stream : Pp) (lexer : Lexer) : Type 0 where
  pub front : List Token
  pub read : HasRead now front lexer
  pub follows : (texts : Texts) (whole : Phase4) → KeepsNumbers now texts → IsRest old texts entry whole → Follows now texts stream front whole
