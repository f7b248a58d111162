-- What a verdict promises of a program.
use Rattle.std.specs.Prelude.{◌≡◌, ◌++◌, ◌∷◌, [], ℕ, List, None, map, length, false}
use Rattle.std.specs.declared.vec.Vec.{Vec}
use Rattle.std.specs.declared.alloc.Global.{Global}
use Rattle.typing_spec.specs.Program.{Function, Program}
use Rattle.csem.specs.Store.{Tree, Store}
use Rattle.verify_logic.specs.declared.abstract_values.AbsValue.{AbsValue}
use Rattle.verify_logic.specs.declared.abstract_values.ArrayArgument.{ArrayArgument}
use Rattle.verify_logic.specs.declared.abstract_values.Fact.{Fact}
use Rattle.verify_logic.specs.States.{Frame, Summary, IsSound, AreSound, ObjectsAre, FactsAre, Known}
use Rattle.verify_logic.specs.Calls.{with_own}
use Rattle.verify_logic.specs.Statements.{Ways}
use Rattle.verify_logic.specs.Whole.{IsDefined, IsDefinedBut}
use Rattle.verify_expressions.specs.Views.{known_of, shapes_in, state_of, summary_of}
use Rattle.verify_expressions.specs.declared.stop.Wanted.{Wanted}
use Rattle.verify.specs.declared.first_objects.FirstObjects.{FirstObjects}
use Rattle.verify.specs.declared.verdict.Verdict.{Verdict}
use Rattle.verify.specs.declared.verdict.Verdict.TheVariants.{Defined, DefinedBut, Unknown}
use Rattle.verify.specs.declared.verdict.Turn.{Turn}
use Rattle.verify.specs.declared.verdict.Turn.TheVariants.{Done, More}
use Rattle.verify.specs.declared.work.Work.{Work}
use Rattle.verify.specs.declared.bodies.BodyEnd.{BodyEnd}

abbrev pub Says : Program → Verdict → Type 0
Says p Defined = IsDefined p
Says p (DefinedBut places alarms) = IsDefinedBut p places.items
Says p (Unknown at) = Unit {0}

abbrev pub texts_of : List (Vec ℕ Global) → List (List ℕ)
texts_of texts = map (λ text. text.items) texts

pub record FirstAre (f : FirstObjects) (store : Store) : Type 0 where
  pub are : ObjectsAre f.known.objects.items (shapes_in f.outer.items) store
  pub facts : FactsAre f.known.facts.items store

-- if t is object x and the last one, these facts add to what is known of it
pub record TreeFacts (t : Tree) (x : ℕ) (facts facts2 : List Fact) : Type 0 where
  pub is : (store : Store) → length store ≡ x → FactsAre facts store → FactsAre facts2 (store ++ t ∷ [])

-- this number of objects without values
abbrev pub AreFresh : List AbsValue → Type 0
AreFresh [] = Unit {0}
AreFresh (k ∷ ks) = (k.initialised ≡ false) × AreFresh ks

abbrev pub Fresh : ℕ → List AbsValue → Type 0
Fresh count ks = (length ks ≡ count) × AreFresh ks

-- the objects before the run, then those of main
pub record EntersMain (first : Known) (count : ℕ) (entry : Known) : Type 0 where
  pub own : List AbsValue
  pub fresh : Fresh count own
  pub all : entry ≡ with_own first own

-- what was shown of calls so far holds
abbrev pub IsSoundWork : Program → Work → Type 0
IsSoundWork p w = AreSound p w.listed.items (map summary_of w.summaries.items)

abbrev pub SaysTurn : Program → Turn → Type 0
SaysTurn p (Done v) = Says p v
SaysTurn p (More w) = IsSoundWork p w

-- a call of function g that passes these arrays
abbrev pub frame_in : Program → Work → List (Vec ℕ Global) → List ArrayArgument → Function → Frame
frame_in p w outer ps g = record { program = p; listed = w.listed.items; summaries = map summary_of w.summaries.items; outer = shapes_in outer; objects = g.objects; arrays = ps }

-- each end is a `return`
pub record OnlyReturns (w : Ways) : Type 0 where
  pub normal : w.normal ≡ None
  pub broken : w.broken ≡ None
  pub continued : w.continued ≡ None

-- one more object after others
pub record Adds (before : FirstObjects) (t : Tree) (after : FirstObjects) : Type 0 where
  pub adds : (store : Store) → FirstAre before store → FirstAre after (store ++ t ∷ [])

-- what was shown of a call
abbrev pub summary_by : Wanted → BodyEnd → Summary
summary_by w end = record { function = w.function; outer = shapes_in w.outer.items; arrays = w.arrays.items; entry = known_of w.entry; value = end.value; left = state_of end.state }

abbrev pub Shows : Program → Work → Wanted → BodyEnd → Type 0
Shows p work w end = IsSound p work.listed.items (summary_by w end)
