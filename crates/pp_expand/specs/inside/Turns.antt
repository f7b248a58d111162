-- The effect of a list's first token, as the engine finds it.
use Rattle.std.specs.Prelude.{◌≡◌, ℕ, ◌-◌, ◌<◌, ◌≤◌, List, ◌++◌, length, nat_eq, Bool, false, Option, Some, None, Result, Ok, Err, Vec, slice_get}
use Rattle.std.specs.List.{list_any}
use Rattle.std.specs.declared.alloc.Global.{Global}
use Rattle.srcset.specs.NameTable.{Texts, NumbersOnce}
use Rattle.srcset.specs.declared.refusal.Pos.{Pos}
use Rattle.srcset.specs.declared.refusal.Refusal.{Refusal}
use Rattle.srcset.specs.declared.refusal.Refusal.TheVariants.{Memory, At, Told}
use Rattle.macros.specs.Macro.{Macro}
use Rattle.macros.specs.Table.{IsMacro}
use Rattle.macros_substitution.specs.Substitution.{Hidden}
use Rattle.macros_substitution.specs.HideSets.{Sets, members, spelled}
use Rattle.macros_substitution.specs.Meaning.{hidden_of, hidden_all, hidden_lists, ListsIn}
use Rattle.macros_substitution.specs.declared.piece.HiddenToken.{HiddenToken}
use Rattle.pp_expand.specs.declared.mark.Mark.{Mark as Found}
use Rattle.pp_expand.specs.declared.mark.Mark.TheVariants as found
use Rattle.pp_expand.specs.declared.level.Level.{Level}
use Rattle.pp_expand.specs.declared.task.Task.{Task}
use Rattle.pp_expand.specs.declared.task.Step.{Step}
use Rattle.pp_expand.specs.declared.task.Step.TheVariants.{Predefined, Replaced}
use Rattle.pp_expand.specs.declared.task.Turned.{Turned}
use Rattle.pp_expand.specs.declared.task.Turned.TheVariants.{Stays, Takes}
use Rattle.pp_expand.specs.declared.task.Named.{Named}
use Rattle.pp_expand.specs.declared.task.Named.TheVariants.{Nothing, OfCompiler, Defined}
use Rattle.pp_expand.specs.Expansion.{Ending, Known, Taken, separated, Mark, opens, closes, separates, other, Replacement, Turn, stands, refused, predefined, replaced, turn_by, turn, predefined_one, replace_one}
use Rattle.pp_expand.specs.Expands.{ending_of}
use Rattle.pp_expand.specs.Pulled.{expanding}
use Rattle.pp_expand.specs.Meaning.{with_list, level_meaning}

abbrev pub mark_as : Found → Mark
mark_as found.Opens = opens
mark_as found.Closes = closes
mark_as found.Separates = separates
mark_as found.Other = other

-- ---- the macro that a token names

-- whether a name's number is among these
abbrev pub has_number : List ℕ → Option ℕ → Bool
has_number names None = false
has_number names (Some n) = list_any (nat_eq n) names

abbrev pub IsNamed : Known → Hidden → Named → Type 0
IsNamed known x Nothing = (rest : List Hidden) (ending : Ending) → turn known x rest ending ≡ stands
IsNamed known x OfCompiler = (rest : List Hidden) (ending : Ending) → turn known x rest ending ≡ predefined
IsNamed known x (Defined n definition) =
    (slice_get known.texts n ≡ Some x.token.spelling) ×
    ((macro : Macro) × (IsMacro known.texts definition.now macro × ((rest : List Hidden) (ending : Ending) → turn known x rest ending ≡ turn_by x macro macro.parameters rest ending)))

-- where it is a macro of the table, its number is its name's alone
abbrev pub IsNamedOnce : Texts → Named → Type 0
IsNamedOnce texts Nothing = Unit {0}
IsNamedOnce texts OfCompiler = Unit {0}
IsNamedOnce texts (Defined n definition) = NumbersOnce texts

-- its number is that of one of the first `count` names
abbrev pub IsNamedBelow : ℕ → Named → Type 0
IsNamedBelow count Nothing = Unit {0}
IsNamedBelow count OfCompiler = Unit {0}
IsNamedBelow count (Defined n definition) = n < count

-- ---- arguments

-- the arguments so far, the current one so far, and the rest of a call of a macro with `named` named parameters
abbrev pub gathered : Bool → ℕ → List (List Hidden) → List Hidden → Option Taken → Option (List (List Hidden) × Hidden × List Hidden)
gathered variadic named before now None = None
gathered variadic named before now (Some taken) =
    Some (before ++ separated variadic (named - length before) (now ++ taken.first) taken.more, taken.close, taken.rest)

abbrev pub GathersAs : Texts → Sets → Option (Vec (Vec HiddenToken Global) Global × HiddenToken) → List HiddenToken → Option (List (List Hidden) × Hidden × List Hidden) → Type 0
GathersAs texts sets None rest answer = answer ≡ None
GathersAs texts sets (Some a) rest answer =
    answer ≡ Some (hidden_lists texts sets a.0.items, hidden_of texts sets a.1, hidden_all texts sets rest)

abbrev pub GatheredIn : ℕ → Option (Vec (Vec HiddenToken Global) Global × HiddenToken) → Type 0
GatheredIn count None = Unit {0}
GatheredIn count (Some a) = ListsIn count a.0.items × (a.1.hides ≤ count)

-- ---- a task

-- the task, in front of a rest, is this replacement
pub record IsTask (texts : Texts) (sets : Sets) (k : Task) (rest : List HiddenToken) (r : Replacement) : Type 0 where
  pub space_is : r.name.token.space_before ≡ k.space_before
  pub at_is : r.call.at ≡ k.at
  pub arguments_are : r.call.arguments ≡ hidden_lists texts sets k.arguments.items
  pub hides_are : r.hides ≡ spelled texts (members sets k.hides)
  pub rest_is : r.rest ≡ hidden_all texts sets rest
  pub macro_is : IsMacro texts k.definition.now r.call.macro

pub record TaskIn (count : ℕ) (k : Task) : Type 0 where
  pub arguments_in : ListsIn count k.arguments.items
  pub hides_in : k.hides ≤ count
  pub few : length k.arguments.items ≤ 127

abbrev pub StepIn : ℕ → Step → Type 0
StepIn count (Predefined x) = x.hides ≤ count
StepIn count (Replaced k) = TaskIn count k

abbrev pub TurnedIn : ℕ → Turned → Type 0
TurnedIn count (Stays x) = x.hides ≤ count
TurnedIn count (Takes s) = StepIn count s

-- a macro of the table is found by a number that its name alone has
abbrev pub OnceFor : Texts → Turned → Type 0
OnceFor texts (Stays x) = Unit {0}
OnceFor texts (Takes (Predefined x)) = Unit {0}
OnceFor texts (Takes (Replaced k)) = NumbersOnce texts

-- where the token is final nothing else is taken
abbrev pub KeepsRest : Turned → List HiddenToken → List HiddenToken → Type 0
KeepsRest (Stays x) old new = new ≡ old
KeepsRest (Takes s) old new = Unit {0}

-- ---- turns

-- the replacement that a task is
abbrev pub TaskTurn : Texts → Sets → Pos → Turn → Result Task Refusal → List HiddenToken → Type 0
TaskTurn texts sets at t (Ok k) after = (r : Replacement) × (IsTask texts sets k after r × (t ≡ replaced r))
TaskTurn texts sets at t (Err Memory) after = Unit {0}
TaskTurn texts sets at t (Err (At c pos)) after = (pos ≡ at) × (t ≡ refused c)
TaskTurn texts sets at t (Err (Told c pos text)) after = ⊥

abbrev pub TurnIs : Texts → Sets → HiddenToken → List HiddenToken → Turn → Result Turned Refusal → List HiddenToken → Type 0
TurnIs texts sets x rest t (Ok (Stays y)) after = (y ≡ x) × (after ≡ rest) × (t ≡ stands)
TurnIs texts sets x rest t (Ok (Takes (Predefined y))) after = (y ≡ x) × (after ≡ rest) × (t ≡ predefined)
TurnIs texts sets x rest t (Ok (Takes (Replaced k))) after =
    (r : Replacement) × (IsTask texts sets k after r × (t ≡ replaced r))
TurnIs texts sets x rest t (Err Memory) after = Unit {0}
TurnIs texts sets x rest t (Err (At c pos)) after = (pos ≡ x.token.pos) × (t ≡ refused c)
TurnIs texts sets x rest t (Err (Told c pos text)) after = ⊥

-- a function-like name that is last in its list
abbrev pub LastIs : HiddenToken → Turn → Result Turned Refusal → Type 0
LastIs x t (Ok (Stays y)) = (y ≡ x) × (t ≡ stands)
LastIs x t (Ok (Takes s)) = ⊥
LastIs x t (Err Memory) = ⊥
LastIs x t (Err (At c pos)) = (pos ≡ x.token.pos) × (t ≡ refused c)
LastIs x t (Err (Told c pos text)) = ⊥

-- ---- the next replacement of a level

abbrev pub AdvanceIs : Known → Sets → Level → Result (Option Step) Refusal → Level → Type 0
AdvanceIs known sets l (Ok None) m =
    (left : ℕ) → level_meaning known sets l left ≡ Ok (hidden_all known.texts sets m.out.items, left)
AdvanceIs known sets l (Ok (Some (Predefined x))) m =
    (m.end ≡ l.end) × ((left : ℕ) → level_meaning known sets l left ≡ with_list (hidden_all known.texts sets m.out.items) (predefined_one known (expanding known) (hidden_of known.texts sets x) (hidden_all known.texts sets m.rest.items) (ending_of l.end) left))
AdvanceIs known sets l (Ok (Some (Replaced k))) m =
    (m.end ≡ l.end) × ((r : Replacement) × (IsTask known.texts sets k m.rest.items r × ((left : ℕ) → level_meaning known sets l left ≡ with_list (hidden_all known.texts sets m.out.items) (replace_one (expanding known) r (ending_of l.end) left))))
AdvanceIs known sets l (Err Memory) m = Unit {0}
AdvanceIs known sets l (Err (At c pos)) m = (left : ℕ) → level_meaning known sets l left ≡ Err (record { code = c; at = pos })
AdvanceIs known sets l (Err (Told c pos text)) m = ⊥

abbrev pub AdvancedIn : ℕ → Option Step → Type 0
AdvancedIn count None = Unit {0}
AdvancedIn count (Some s) = StepIn count s

-- the place of the name that is replaced
abbrev pub place_of : Step → Pos
place_of (Predefined x) = x.token.pos
place_of (Replaced k) = k.at
