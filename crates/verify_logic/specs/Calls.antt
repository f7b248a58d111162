-- Judgements on calls of functions (ISO/IEC 9899:2011 6.5.2.2, 6.9.1).
use Rattle.std.specs.Prelude.{◌≡◌, ℕ, ℤ, pos, List, [], ◌∷◌, ◌++◌, take, Option, Some, None, Bool, true, false, Contains, nat_eq}
use Rattle.srcset.specs.declared.refusal.Pos.{Pos}
use Rattle.typing_spec.specs.Types.{ObjectType}
use Rattle.typing_spec.specs.Program.{Program}
use Rattle.csem.specs.Store.{Store, first_store}
use Rattle.csem.specs.Machine.{State}
use Rattle.csem.specs.Expressions.{Passed}
use Rattle.csem.specs.Meaning.{value_at_end, calling}
use Rattle.verify_logic.specs.declared.abstract_values.Interval.{Interval}
use Rattle.verify_logic.specs.declared.abstract_values.AbsValue.{AbsValue}
use Rattle.verify_logic.specs.declared.abstract_values.ArrayArgument.{ArrayArgument}
use Rattle.verify_logic.specs.declared.abstract_values.Fact.{Fact}
use Rattle.verify_logic.specs.States.{Known, Frame, In, ValueIs, ObjectsAre, FactsAre, Reaches, Ends, Entails}
use Rattle.verify_logic.specs.Places.{Are}
use Rattle.verify_logic.specs.Statements.{Ways}

-- the objects of a call that passes numbers in these intervals: its parameters, which are scalars, then the others
abbrev pub Entered : List Interval → List ObjectType → List AbsValue → Type 0
Entered [] [] [] = Unit {0}
Entered [] [] (k ∷ ks) = ⊥
Entered [] (t ∷ objects) [] = ⊥
Entered [] (t ∷ objects) (k ∷ ks) = (k.initialised ≡ false) × Entered [] objects ks
Entered (i ∷ is) [] ks = ⊥
Entered (i ∷ is) (t ∷ objects) [] = ⊥
Entered (i ∷ is) (t ∷ objects) (k ∷ ks) = (t.lengths ≡ []) × Entails (record { initialised = true; interval = i }) k × Entered is objects ks

-- a call of function f from this frame, with numbers in these intervals and these arrays, ends with such a value and leaves the objects in `after`
pub record CallGives (fr : Frame) (f : ℕ) (is : List Interval) (arrays : List ArrayArgument) (before : Option Known) (value : AbsValue) (after : Option Known) : Type 0 where
  pub runs : (d : ℕ) (passed : List Passed) (s : State) → Are fr is arrays passed → Reaches fr before s → Ends fr.listed (calling fr.program d f passed s) (λ v s2. ValueIs value v × Reaches fr after s2)

-- the abstract state as a call begins, for the objects before it and for its own
abbrev pub with_own : Known → List AbsValue → Known
with_own known own = record { objects = known.objects ++ own; facts = known.facts }

-- these facts hold of the first n objects
pub record HoldBelow (n : ℕ) (facts facts2 : List Fact) : Type 0 where
  pub is : (store : Store) → FactsAre facts store → FactsAre facts2 (take n store)

-- the abstract state of the first n objects
abbrev pub Cuts : ℕ → Option Known → Option Known → Type 0
Cuts n None after = after ≡ None
Cuts n (Some known) None = ⊥
Cuts n (Some known) (Some first) = (first.objects ≡ take n known.objects) × HoldBelow n known.facts first.facts

-- 6.9.1p12: the value of a call, whose use where there is none is undefined, at a place that is listed
abbrev pub CallOr : List Pos → Pos → (used : Bool) → Interval → Option ℤ → Type 0
CallOr al at used r (Some v) = In r v
CallOr al at true r None = Contains al at
CallOr al at false r None = In r (pos 0)

pub record CallValue (fr : Frame) (at : Pos) (used : Bool) (value : AbsValue) (r : Interval) : Type 0 where
  pub is : (v : Option ℤ) → ValueIs value v → CallOr fr.listed at used r v

-- how the body of function f may be left, its value, and the objects then
pub record FunctionEnds (p : Program) (f : ℕ) (w : Ways) (value : AbsValue) (left : Option Known) : Type 0 where
  pub normal : (fr : Frame) (s : State) → Reaches fr w.normal s → ValueIs value (value_at_end (nat_eq f p.main)) × Reaches fr left s
  pub broken : (fr : Frame) (s : State) → Reaches fr w.broken s → ValueIs value (value_at_end (nat_eq f p.main)) × Reaches fr left s
  pub continued : (fr : Frame) (s : State) → Reaches fr w.continued s → ValueIs value (value_at_end (nat_eq f p.main)) × Reaches fr left s
  pub returned : (fr : Frame) (v : Option ℤ) (s : State) → ValueIs w.value v → Reaches fr w.returned s → ValueIs value v × Reaches fr left s

-- the objects before the run (6.2.4p3)
pub record Begins (p : Program) (outer : List (List ℕ)) (known : Known) : Type 0 where
  pub objects : ObjectsAre known.objects outer (first_store p)
  pub facts : FactsAre known.facts (first_store p)

abbrev pub EachIn : Interval → List ℤ → Type 0
EachIn i [] = Unit {0}
EachIn i (v ∷ vs) = In i v × EachIn i vs
