-- The relation of the code's state to the definition's, and the result of a step of the code, given this step of the definition.
use Rattle.std.specs.Prelude.{◌≡◌, ◌⊎◌, ◌≤◌, ◌<◌, ◌||◌, ◌-◌, ◌+◌, ◌*◌, ◌++◌, ℕ, List, [], ◌∷◌, map, take, drop, slice_get, Bool, true, false, Option, Some, None, Result, Ok, Err}
use Rattle.std.specs.Borrow.{Bor}
use Rattle.std.specs.Str.{byte, is_utf8}
use Rattle.srcset.specs.declared.refusal.Pos.{Pos}
use Rattle.srcset.specs.declared.code.Code.{Code}
use Rattle.srcset.specs.declared.code.Code.TheVariants as code
use Rattle.srcset.specs.declared.refusal.Refusal.{Refusal}
use Rattle.srcset.specs.declared.refusal.Refusal.TheVariants.{Memory, At, Told}
use Rattle.srcset.specs.NameTable.{Texts}
use Rattle.phases.specs.Characters.{is_digit}
use Rattle.phases.specs.Token.{Token}
use Rattle.lexer.specs.Digits.{digit_value, value_of}
use Rattle.pp_expand.specs.Expands.{HaveFiles}
use Rattle.pp.specs.declared.conditionals.Open.{Open}
use Rattle.pp.specs.declared.run.Run.{Run}
use Rattle.pp.specs.declared.state.State.{State as Held}
use Rattle.pp.specs.declared.words.Role.{Role as Word}
use Rattle.pp.specs.declared.words.Role.TheVariants as word
use Rattle.pp.specs.Lines.{Line}
use Rattle.pp.specs.Groups.{place_of, Role, of_text, opens, divides, closes, stands_alone, Parsed}
use Rattle.pp.specs.Phase4.{Fault, is_line_number, error_text, Presumed, State, Outcome, goes, stops, Around, with_first, defined_resolved}
use Rattle.pp.specs.Held.{IsGiven, Agrees}
use Rattle.pp.specs.Left.{Stands}
use Rattle.pp.specs.Rest.{rest_done}

-- ---- lines

abbrev pub role_meant : Word → Role
role_meant word.Opens = opens
role_meant word.Divides = divides
role_meant word.Closes = closes
role_meant word.StandsAlone = stands_alone

abbrev pub line_role_meant : Option Word → Role
line_role_meant None = of_text
line_role_meant (Some w) = role_meant w

-- ---- conditionals, the innermost first

abbrev pub first_of : List Open → Option Open
first_of [] = None
first_of (o ∷ os) = Some o

abbrev pub behind_first : List Open → List Open
behind_first [] = []
behind_first (o ∷ os) = os

-- ---- places

-- a file of at most 1,048,576 bytes has no further lines
abbrev pub IsNear : Token → Type 0
IsNear x = x.pos.line ≤ 1048577

abbrev pub presumed_by : Presumed → Pos → Pos
presumed_by p at = record { file = p.file; line = at.line - p.from + p.line }

abbrev pub placed : Presumed → List Token → List Token
placed p xs = map (λ (x : Token). record x { pos = presumed_by p x.pos }) xs

-- the tokens of a line, the first marked where it follows a newline of its run
abbrev pub behind_line : Bool → List Token → List Token
behind_line later [] = []
behind_line later (x ∷ xs) = record x { space_before = later || x.space_before } ∷ xs

-- ---- states

-- it continues to the held state
pub record Goes (names : Texts) (held : Held) (o : Outcome State) : Type 0 where
  pub after : State
  pub agrees : Agrees names held after
  pub goes_is : o ≡ goes after

-- it continues to the held state, with this value
pub record Gives {Y : Type 0} (y : Y) (names : Texts) (held : Held) (o : Outcome (Y × State)) : Type 0 where
  pub after : State
  pub agrees : Agrees names held after
  pub gives_is : o ≡ goes (y, after)

-- it stops with these tokens given, and with this fault
pub record Stops {A : Type 0} (given : List Token) (c : Code) (at : Pos) (text : List ℕ) (o : Outcome A) : Type 0 where
  pub stops_is : o ≡ stops given (record { code = c; at = at; text = text })

-- with a fault whose text has this number
pub record StopsTold {A : Type 0} (given : List Token) (names : Texts) (c : Code) (at : Pos) (n : ℕ) (o : Outcome A) : Type 0 where
  pub text : List ℕ
  pub number_is : slice_get names n ≡ Some text
  pub utf8 : is_utf8 text ≡ true
  pub fault_is : Stops given c at text o

-- it continues in this way with a list of which these are the first tokens, at most this number
pub record GivesFirst (most : ℕ) (list : List Token) (names : Texts) (held : Held) (o : Outcome (List Token × State)) : Type 0 where
  pub whole : List Token
  pub gives : Gives whole names held o
  pub first_is : list ≡ take most whole

abbrev pub StopsAs : {A : Type 0} → List Token → Texts → Refusal → Outcome A → Type 0
StopsAs given names Memory o = Unit {0}
StopsAs given names (At c at) o = Stops given c at [] o
StopsAs given names (Told c at n) o = StopsTold given names c at n o

abbrev pub Answers : {A : Type 0} → List Token → Result A Refusal → Texts → Held → Outcome State → Type 0
Answers given (Ok a) names held o = Goes names held o
Answers given (Err r) names held o = StopsAs given names r o

-- the same of a query, whose result it gives
abbrev pub Asks : {Y : Type 0} → List Token → Result Y Refusal → Texts → Held → Outcome (Y × State) → Type 0
Asks given (Ok y) names held o = Gives y names held o
Asks given (Err r) names held o = StopsAs given names r o

-- where it stops, it gives nothing
abbrev pub Does : {A : Type 0} → Result A Refusal → Texts → Held → Texts → Held → (State → Outcome State) → Type 0
Does result names held names_after held_after step =
    (s : State) → Agrees names held s → Answers s.given result names_after held_after (step s)

-- ---- where it stops after a run

-- it stops with the tokens given so far, and with this fault
pub record Ends {A : Type 0} (held : ℕ) (c : Code) (at : Pos) (text : List ℕ) (o : Outcome A) : Type 0 where
  pub given : List Token
  pub given_is : IsGiven held given
  pub stops : Stops given c at text o

pub record EndsTold {A : Type 0} (held : ℕ) (names : Texts) (c : Code) (at : Pos) (n : ℕ) (o : Outcome A) : Type 0 where
  pub given : List Token
  pub given_is : IsGiven held given
  pub told : StopsTold given names c at n o

abbrev pub EndsAs : {A : Type 0} → ℕ → Texts → Refusal → Outcome A → Type 0
EndsAs held names Memory o = Unit {0}
EndsAs held names (At c at) o = Ends held c at [] o
EndsAs held names (Told c at n) o = EndsTold held names c at n o

abbrev pub EndsOrGoes : {A : Type 0} → Result A Refusal → Texts → Held → Outcome State → Type 0
EndsOrGoes (Ok a) names held o = Goes names held o
EndsOrGoes (Err r) names held o = EndsAs held.given names r o

-- ---- the lines of a file

-- the rest of a file is this, and results in this outcome
pub record Rests (names : Texts) (held : Held) (around : Around) (os : List Open) (p : Parsed) (o : Outcome State) : Type 0 where
  pub after : State
  pub agrees : Agrees names held after
  pub rests : o ≡ rest_done around os p after

abbrev pub RestsOrStops : {A : Type 0} → List Token → Result A Refusal → Texts → Held → Around → List Open → Parsed → Outcome State → Type 0
RestsOrStops given (Ok a) names held around os p o = Rests names held around os p o
RestsOrStops given (Err r) names held around os p o = StopsAs given names r o

abbrev pub StandsOrStops : {A : Type 0} → Result A Refusal → Texts → Held → Run → Around → List Open → Parsed → Outcome State → Type 0
StandsOrStops (Ok a) names held run around os p o = Stands names held run around os p o
StandsOrStops (Err r) names held run around os p o = EndsAs held.given names r o

-- ---- lines, and the queries on them

abbrev pub line_with : List Token → ℕ → Line
line_with ts end = record { tokens = ts; end = end }

abbrev pub operand_meant : Option (Bor (List ℕ) × ℕ) → Option (List ℕ × ℕ)
operand_meant None = None
operand_meant (Some o) = Some (o.0.now, o.1)

-- the first token of a list, resolved, is last; this number of tokens after it are its operand's
pub record PutsResolved (names : Texts) (held : Held) (rest old new : List Token) (skip : ℕ) : Type 0 where
  pub token : Token
  pub put : new ≡ old ++ token ∷ []
  pub file_is : token.pos ≡ place_of rest
  pub resolved : (s : State) → Agrees names held s → defined_resolved 0 s rest ≡ with_first token (defined_resolved skip s (drop 1 rest))

-- these in front of a list, where there is one
abbrev pub joined : List Token → Option (List Token) → Option (List Token)
joined ys None = None
joined ys (Some zs) = Some (ys ++ zs)

-- this number of tokens are resolved, with this list as the result; this number of further ones belong to an operand
pub record Resolves (names : Texts) (held : Held) (tokens list : List Token) (skip i : ℕ) : Type 0 where
  pub files : HaveFiles names list
  pub so_far : (s : State) → Agrees names held s → defined_resolved 0 s tokens ≡ joined list (defined_resolved skip s (drop i tokens))

-- a `defined` has no operand, which is reported at this place
abbrev pub IsUnresolved : Refusal → Texts → Held → List Token → Pos → Type 0
IsUnresolved Memory names held rest at = Unit {0}
IsUnresolved (At c p) names held rest at = (c ≡ code.NotConstantCondition) × (p ≡ at) × ((s : State) → Agrees names held s → defined_resolved 0 s rest ≡ None)
IsUnresolved (Told c p n) names held rest at = ⊥

-- ---- #line and #error

-- the number with a further digit, where it is a digit and the number is no greater than the greatest line
abbrev pub IsNextDigit : Option ℕ → ℕ → ℕ → Type 0
IsNextDigit None value b = (is_digit b ≡ false) ⊎ (2147483647 < value * 10 + digit_value b)
IsNextDigit (Some n) value b = (is_digit b ≡ true) × (n ≡ value * 10 + digit_value b) × (n ≤ 2147483647)

abbrev pub IsLineNumber : Option ℕ → List ℕ → Type 0
IsLineNumber None text = is_line_number text ≡ false
IsLineNumber (Some n) text = (is_line_number text ≡ true) × (value_of 10 text ≡ n)

abbrev pub spaced_out : Token → List ℕ
spaced_out x = byte " " ∷ x.spelling

abbrev pub error_fault : Pos → List Token → Fault
error_fault at xs = record { code = code.ErrorDirective; at = at; text = error_text xs }

abbrev pub error_done : Pos → List Token → State → Outcome State
error_done at xs s = stops s.given (error_fault at xs)
