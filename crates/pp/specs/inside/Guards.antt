-- Files with an include guard, an #ifndef around their whole content: their effect where its macro is defined.
use Rattle.std.specs.Prelude.{◌≡◌, ◌≤◌, ◌⊎◌, ℕ, List, [], ◌∷◌, length, map, drop, Bool, true, false, Option, Some, None, codes}
use Rattle.std.specs.Borrow.{Bor}
use Rattle.phases.specs.Token.{Token}
use Rattle.macros.specs.Macro.{is_identifier, is_spelled}
use Rattle.pp.specs.declared.conditionals.BranchState.{BranchState}
use Rattle.pp.specs.declared.conditionals.Open.{Open}
use Rattle.pp.specs.Lines.{lines_with}
use Rattle.pp.specs.Groups.{Parsed, parsed, groups, role_of, is_else, with_line, in_first}
use Rattle.pp.specs.Phase4.{State, Outcome, goes, Around, is_macro, group_done, file_done, number_in, max_tokens}
use Rattle.pp.specs.Rest.{pending, nowhere, is_active, rest_done}
use Rattle.pp.specs.inside.Stepping.{line_with}

-- the lines of a file do nothing where this macro is defined
pub record AreGuarded (name : List ℕ) (tss : List (List Token)) : Type 0 where
  pub nothing : (around : Around) (ends : List ℕ) (s : State) → length s.given ≤ max_tokens → is_macro s name ≡ true
      → group_done around nowhere 0 (groups (lines_with tss ends)) s ≡ goes s

-- a file of this number that is entered here does nothing
pub record IsPassedOver (file : ℕ) (bytes : List ℕ) (s : State) : Type 0 where
  pub nothing : (around : Around) (name : List ℕ) → number_in around.texts name ≡ file
      → file_done around name bytes s ≡ goes (record s { presumed = record { from = 1; line = 1; file = file } })

-- wherever this macro is defined
abbrev pub IsGuarded : List ℕ → ℕ → List ℕ → Type 0
IsGuarded name file bytes = (s : State) → length s.given ≤ max_tokens → is_macro s name ≡ true → IsPassedOver file bytes s

-- ---- line by line

-- the macro of the guard is defined, once the line of the guard was read
abbrev pub IsDefined : Option (Bor (List ℕ)) → State → Type 0
IsDefined None s = Unit {0}
IsDefined (Some name) s = is_macro s name.now ≡ true

-- the guard that was read, if one was, stays
abbrev pub Stays : Option (Bor (List ℕ)) → Option (Bor (List ℕ)) → Type 0
Stays old new = (old ≡ None) ⊎ (new ≡ old)

-- an #ifndef of this name
pub record IsGuardLine (name : List ℕ) (ts : List Token) : Type 0 where
  pub hash : Token
  pub word : Token
  pub macro : Token
  pub tokens_are : ts ≡ hash ∷ word ∷ macro ∷ []
  pub word_is : is_spelled (codes "ifndef") word ≡ true
  pub macro_is : is_identifier macro ≡ true
  pub name_is : macro.spelling ≡ name

abbrev pub is_blank : List Token → Bool
is_blank [] = true
is_blank (x ∷ xs) = false

-- conditionals without their places
abbrev pub unplaced : List Open → List Open
unplaced os = map (λ (o : Open). record o { at = nowhere }) os

abbrev pub opened_by : List Token → BranchState → Open
opened_by ts b = record { at = nowhere; branch = b; behind_else = is_else ts }

-- The outcome is that of this rest of a file, in the same state. An empty run may precede it.
pub record Passes (around : Around) (s : State) (opened : List Open) (o : Outcome State) (p : Parsed) : Type 0 where
  pub conditionals : List Open
  pub begun : Bool
  pub opened_are : unplaced conditionals ≡ opened
  pub active : begun ≡ true → is_active conditionals ≡ true
  pub comes_to : o ≡ rest_done around conditionals (in_first (pending begun []) p) s

-- a line does nothing
abbrev pub PassesLine : Option (Bor (List ℕ)) → List Token → List Open → List Open → Type 0
PassesLine guard ts old new = (around : Around) (s : State) (end : ℕ) (p : Parsed) (o : Outcome State) → IsDefined guard s → length s.given ≤ max_tokens
    → Passes around s old o (with_line (role_of ts) (line_with ts end) p) → Passes around s new o p

-- with a guard or without
abbrev pub PassesAlways : List Token → List Open → List Open → Type 0
PassesAlways ts old new = (guard : Option (Bor (List ℕ))) → PassesLine guard ts old new

-- the lines before this one do nothing
abbrev pub PassesTo : Option (Bor (List ℕ)) → List (List Token) → ℕ → List Open → Type 0
PassesTo guard tss i opened = (around : Around) (ends : List ℕ) (s : State) → IsDefined guard s → length s.given ≤ max_tokens
    → Passes around s opened (group_done around nowhere 0 (groups (lines_with tss ends)) s) (parsed (drop i (lines_with tss ends)))
