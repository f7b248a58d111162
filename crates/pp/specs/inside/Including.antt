-- The rest of a file and of those that wait for it, where files include one another.
use Rattle.std.specs.Prelude.{◌≡◌, ◌≤◌, ◌<◌, ◌&&◌, ◌+◌, ◌-◌, ◌*◌, ℕ, zero, suc, List, [], ◌∷◌, length, slice_get, Bool, true, false, Option, Some, None, Result, Ok, Err, codes}
use Rattle.srcset.specs.declared.refusal.Refusal.{Refusal}
use Rattle.srcset.specs.Files.{Files}
use Rattle.srcset.specs.NameTable.{Texts, NumbersOnce}
use Rattle.phases.specs.Token.{Token}
use Rattle.phases.specs.declared.token.Place.TheVariants.{Start}
use Rattle.phases.specs.Text.{logical}
use Rattle.phases.specs.Lines.{scanned}
use Rattle.phases.specs.LineEnds.{line_ends}
use Rattle.macros.specs.Macro.{is_identifier, is_spelled, is_hash}
use Rattle.pp.specs.declared.files.Includer.{Includer}
use Rattle.pp.specs.declared.files.Reading.{Reading}
use Rattle.pp.specs.declared.file.OpenFile.{OpenFile}
use Rattle.pp.specs.declared.includes.Source.{Source}
use Rattle.pp.specs.declared.state.State.{State as Held}
use Rattle.pp.specs.Groups.{Parsed}
use Rattle.pp.specs.Phase4.{State, Outcome, ◌>>=◌, file_done, number_in, resumed}
use Rattle.pp.specs.Held.{Agrees}
use Rattle.pp.specs.Left.{around_with, IsReading, room_of, Left, Stands}
use Rattle.pp.specs.Rest.{rest_done}
use Rattle.pp.specs.inside.Stepping.{Goes, StopsAs, EndsAs}

-- the line is an #include
abbrev pub is_include : List Token → Bool
is_include (h ∷ x ∷ xs) = is_hash h && (is_identifier x && is_spelled (codes "include") x)
is_include _ = false

-- ---- the file that is meant

-- the number is the text's, and no other's
pub record IsNumber (names : Texts) (n : ℕ) (text : List ℕ) : Type 0 where
  pub text_is : slice_get names n ≡ Some text
  pub once : NumbersOnce names

-- this name and these bytes
pub record Means (names : Texts) (source : Source) (meant : Option (List ℕ × List ℕ)) : Type 0 where
  pub name : List ℕ
  pub meant_is : meant ≡ Some (name, source.bytes.now)
  pub number_is : IsNumber names source.name name
  pub small : length source.bytes.now ≤ 1048576

abbrev pub IsMeant : Texts → Option Source → Option (List ℕ × List ℕ) → Type 0
IsMeant names None meant = meant ≡ None
IsMeant names (Some source) meant = Means names source meant

-- the file is entered in this state, which leaves room for this number of further files
pub record Enters (files : Files) (texts : Texts) (room : ℕ) (source : Source) (s : State) (o : Outcome State) : Type 0 where
  pub further : ℕ
  pub room_is : room ≡ suc further
  pub name : List ℕ
  pub number_is : number_in texts name ≡ source.name
  pub enters : o ≡ file_done (around_with further files texts) name source.bytes.now s

abbrev pub EntersOrStops : Result Source Refusal → Texts → Files → Texts → ℕ → State → Outcome State → Type 0
EntersOrStops (Ok source) names files texts room s o = Enters files texts room source s o
EntersOrStops (Err r) names files texts room s o = StopsAs s.given names r o

-- an #include enters it, and resumes its includer
pub record Includes (names : Texts) (held : Held) (files : Files) (texts : Texts) (room : ℕ) (source : Source) (o : Outcome State) : Type 0 where
  pub after : State
  pub agrees : Agrees names held after
  pub done : Outcome State
  pub enters : Enters files texts room source after done
  pub includes : o ≡ (done >>= resumed after)

abbrev pub IncludesOrStops : List Token → Result Source Refusal → Texts → Held → Files → Texts → ℕ → Outcome State → Type 0
IncludesOrStops given (Ok source) names held files texts room o = Includes names held files texts room source o
IncludesOrStops given (Err r) names held files texts room o = StopsAs given names r o

-- the rest of the file after an #include that enters it
pub record Waits (names : Texts) (held : Held) (file : OpenFile) (files : Files) (texts : Texts) (room : ℕ) (source : Source) (p : Parsed) (o : Outcome State) : Type 0 where
  pub made : Outcome State
  pub includes : Includes names held files texts room source made
  pub waits : o ≡ (made >>= rest_done (around_with room files texts) file.conditionals p)

abbrev pub IncludedOrStops : Result Source Refusal → Texts → Held → OpenFile → Files → Texts → ℕ → Parsed → Outcome State → Type 0
IncludedOrStops (Ok source) names held file files texts room p o = Waits names held file files texts room source p o
IncludedOrStops (Err r) names held file files texts room p o = EndsAs held.given names r o

-- the line was skipped, or names a file
abbrev pub StandsOrWaits : Result (Option Source) Refusal → Texts → Held → OpenFile → Files → Texts → ℕ → Parsed → Outcome State → Type 0
StandsOrWaits (Ok None) names held file files texts room p o = Stands names held file.run (around_with room files texts) file.conditionals p o
StandsOrWaits (Ok (Some source)) names held file files texts room p o = Waits names held file files texts room source p o
StandsOrWaits (Err r) names held file files texts room p o = EndsAs held.given names r o

-- ---- the files that are open

-- no line of it is done
pub record IsFresh (r : Reading) : Type 0 where
  pub first : r.next ≡ 0
  pub begun : r.file.run.begun ≡ false
  pub tokens : r.file.run.tokens ≡ []
  pub conditionals : r.file.conditionals ≡ []
  pub reading : IsReading r

-- a file is opened at its first line
pub record IsOpened (source : Source) (r : Reading) : Type 0 where
  pub lines_are : scanned source.name source.bytes.now ≡ Ok r.lines
  pub ends_are : r.file.ends ≡ line_ends 0 Start (logical 1 source.bytes.now)
  pub fresh : IsFresh r

-- a file can be read, and there is room for it
pub record CanRead (names : Texts) (room : ℕ) (source : Source) : Type 0 where
  pub has_file : source.name < length names
  pub small : length source.bytes.now ≤ 1048576
  pub has_room : 0 < room

-- the same from another, whose run is done
pub record CanEnter (names : Texts) (room : ℕ) (file : OpenFile) (source : Source) : Type 0 where
  pub read : CanRead names room source
  pub begun : file.run.begun ≡ false
  pub tokens : file.run.tokens ≡ []

-- ---- the rest

abbrev pub LeftOrStops : {A : Type 0} → Result A Refusal → Texts → Held → Files → Texts → Reading → List Includer → Outcome State → Type 0
LeftOrStops (Ok a) names held set texts innermost is o = Left names held set texts innermost is o
LeftOrStops (Err r) names held set texts innermost is o = EndsAs held.given names r o

-- something is left, or it continues to the held state
abbrev pub LeftOrGoes : Bool → Texts → Held → Files → Texts → Reading → List Includer → Outcome State → Type 0
LeftOrGoes true names held set texts innermost is o = Left names held set texts innermost is o
LeftOrGoes false names held set texts innermost is o = Goes names held o

abbrev pub LeftOrAnswers : Result Bool Refusal → Texts → Held → Files → Texts → Reading → List Includer → Outcome State → Type 0
LeftOrAnswers (Ok more) names held set texts innermost is o = LeftOrGoes more names held set texts innermost is o
LeftOrAnswers (Err r) names held set texts innermost is o = EndsAs held.given names r o

-- ---- how much is left

-- more than the lines of all the files that may still be opened in one another
abbrev pub weight : ℕ → ℕ
weight zero = 1
weight (suc room) = 18446744073709551617 * weight room

-- the lines that are left, and the end
abbrev pub lines_left : Reading → ℕ
lines_left r = suc r.end - r.next

abbrev pub weighed : ℕ → List Includer → ℕ
weighed room [] = 0
weighed room (i ∷ is) = lines_left i.reading * weight room + weighed (suc room) is

abbrev pub size_of : Reading → List Includer → ℕ
size_of innermost is = lines_left innermost * weight (room_of is) + weighed (suc (room_of is)) is
