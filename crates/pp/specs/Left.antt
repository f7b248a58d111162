-- The rest of the files that are open, the includers with the innermost first.
use Rattle.std.specs.Prelude.{◌≡◌, ◌≤◌, ◌<◌, ◌-◌, ◌+◌, ◌++◌, ◌&&◌, not, ℕ, suc, List, [], ◌∷◌, length, drop, slice_get, Bool, true, false, Option, Some, None, Result, Ok, Err}
use Rattle.srcset.specs.NameTable.{Texts}
use Rattle.phases.specs.Token.{Token}
use Rattle.macros.specs.Table.{IsTable}
use Rattle.pp_expand.specs.declared.run_end.RunEnd.TheVariants.{Run as OfRun}
use Rattle.pp_expand.specs.Expansion as expansion
use Rattle.pp_expand.specs.Expansion.{Known, of_run, shown_answer}
use Rattle.pp_expand.specs.Pulled.{expanding}
use Rattle.pp_expand.specs.Streams.{Stream, list_left, Knows}
use Rattle.pp_expand.specs.Expands.{HaveFiles}
use Rattle.pp.specs.declared.conditionals.Open.{Open}
use Rattle.pp.specs.declared.run.Run.{Run}
use Rattle.pp.specs.declared.state.State.{State as Held}
use Rattle.pp.specs.Groups.{Parsed, is_text, role_of, in_first, parsed}
use Rattle.pp.specs.Phase4.{State, Outcome, Around, presume, ◌>>=◌, of_expansion, give, entered, max_includes}
use Rattle.pp.specs.Rest.{pending, is_active, rest_done}
use Rattle.srcset.specs.Files.{Files}
use Rattle.pp.specs.declared.files.Includer.{Includer}
use Rattle.pp.specs.declared.files.Reading.{Reading}
use Rattle.pp.specs.Lines.{lines_with}
use Rattle.pp.specs.Held.{presumed_of, Agrees}

-- the rest of a file after its run results in this outcome
pub record Stands (names : Texts) (held : Held) (run : Run) (around : Around) (os : List Open) (p : Parsed) (o : Outcome State) : Type 0 where
  pub now : State
  pub text : List Token
  pub agrees : Agrees names held now
  pub run_is : run.tokens ≡ presume now text
  pub fresh : run.begun ≡ false → text ≡ []
  pub active : run.begun ≡ true → is_active os ≡ true
  pub comes_to : o ≡ rest_done around os (in_first (pending run.begun text) p) now

-- after the tokens of a run that were given
abbrev pub with_front : List Token → Result (List Token × ℕ) expansion.Fault → Result (List Token × ℕ) expansion.Fault
with_front before (Ok a) = Ok (before ++ a.0, a.1)
with_front before (Err f) = Err f

-- the expansion of the rest of a run, with this number of replacements left
abbrev pub run_left : Known → Stream → ℕ → Result (List Token × ℕ) expansion.Fault
run_left known run left = shown_answer (expanding known (list_left known.texts run) of_run left)

-- the outcome of a run of which some tokens were given
abbrev pub run_comes : State → List Token → Result (List Token × ℕ) expansion.Fault → Outcome State
run_comes s before left = of_expansion s (with_front before left) >>= give s

-- a run that is expanded, and was not refused
pub record IsGoing (names : Texts) (run : Stream) : Type 0 where
  pub knows : Knows names run
  pub end_is : run.end ≡ OfRun
  pub not_refused : run.refused ≡ None

-- the rest of a run of which some tokens were given, and of the file after it, results in this outcome
pub record Pulling (names : Texts) (held : Held) (run : Stream) (around : Around) (os : List Open) (p : Parsed) (o : Outcome State) : Type 0 where
  pub now : State
  pub before : List Token
  pub table_is : IsTable names held.table now.macros
  pub given_is : length now.given + length before ≡ held.given
  pub presumed_is : now.presumed ≡ presumed_of held.presumed
  pub going : IsGoing names run
  pub comes_to : o ≡ (run_comes now before (run_left (record { macros = now.macros; texts = around.texts }) run held.budget) >>= λ s. rest_done around os p s)

-- where this number of further files may be open at once, nested
abbrev pub around_with : ℕ → Files → Texts → Around
around_with room files texts = record { texts = texts; enter = entered room files texts }

-- ---- the files that are open

-- the lines from the next on
abbrev pub left_of : Reading → Parsed
left_of r = parsed (drop r.next (lines_with r.lines r.file.ends))

-- a run has begun, and no text line follows
abbrev pub is_text_line : Option (List Token) → Bool
is_text_line None = false
is_text_line (Some ts) = is_text (role_of ts)

abbrev pub ends_run : Reading → Bool
ends_run r = r.file.run.begun && not (is_text_line (slice_get r.lines r.next))

pub record IsReading (r : Reading) : Type 0 where
  pub within : r.next ≤ r.end
  pub whole : r.end ≡ length r.lines
  pub bounded : r.end < 18446744073709551616

-- an includer that waits
pub record IsWaiting (names : Texts) (i : Includer) : Type 0 where
  pub begun : i.reading.file.run.begun ≡ false
  pub tokens : i.reading.file.run.tokens ≡ []
  pub has_file : i.presumed.file < length names
  pub reading : IsReading i.reading

abbrev pub AreWaiting : Texts → List Includer → Type 0
AreWaiting names [] = Unit {0}
AreWaiting names (i ∷ is) = IsWaiting names i × AreWaiting names is

-- the open files, of which at most this number wait
pub record AreStacked (names : Texts) (innermost : Reading) (is : List Includer) : Type 0 where
  pub few : length is ≤ max_includes
  pub reading : IsReading innermost
  pub waiting : AreWaiting names is

-- the run of the innermost has places, and no token before it begins
pub record AreOpen (names : Texts) (innermost : Reading) (is : List Includer) : Type 0 where
  pub stacked : AreStacked names innermost is
  pub has_files : HaveFiles names innermost.file.run.tokens
  pub idle : innermost.file.run.begun ≡ false → innermost.file.run.tokens ≡ []

-- how many further files may be opened, nested
abbrev pub room_of : List Includer → ℕ
room_of is = max_includes - length is

-- ---- the rest

-- places are presumed as they were in the includer
abbrev pub back_in : Includer → State → State
back_in i s = record s { presumed = presumed_of i.presumed }

-- an includer continues after its #include
abbrev pub goes_on : Files → Texts → ℕ → Includer → State → Outcome State
goes_on files texts room i s = rest_done (around_with room files texts) i.reading.file.conditionals (left_of i.reading) (back_in i s)

-- The includers, innermost first, continue where the file for which they wait results in this outcome and leaves this much room.
abbrev pub resumed_all : Files → Texts → ℕ → List Includer → Outcome State → Outcome State
resumed_all files texts room [] o = o
resumed_all files texts room (i ∷ is) o = resumed_all files texts (suc room) is (o >>= goes_on files texts (suc room) i)

-- the rest of the open files results in this outcome
pub record Left (names : Texts) (held : Held) (set : Files) (texts : Texts) (innermost : Reading) (is : List Includer) (o : Outcome State) : Type 0 where
  pub inner : Outcome State
  pub stands : Stands names held innermost.file.run (around_with (room_of is) set texts) innermost.file.conditionals (left_of innermost) inner
  pub whole : o ≡ resumed_all set texts (room_of is) is inner
