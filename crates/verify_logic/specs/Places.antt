-- Judgements on places and on the parts of expressions.
use Rattle.std.specs.Prelude.{◌≡◌, ℕ, ℤ, pos, negsuc, List, [], ◌∷◌, length, Option, Some, None, true, false}
use Rattle.ctypes.specs.declared.types.IntType.{IntType}
use Rattle.ctypes.specs.Types.{truth}
use Rattle.typing_spec.specs.Program as typed
use Rattle.typing_spec.specs.Program.{Moment, Storage, Place, Arguments}
use Rattle.csem.specs.Store.{Tree, Element}
use Rattle.csem.specs.Machine.{State, designated}
use Rattle.csem.specs.Expressions.{Passed, find, pass, converted_or_none}
use Rattle.csem.specs.Meaning.{numbers_of, arrays_of, calling}
use Rattle.verify_logic.specs.declared.abstract_values.Interval.{Interval}
use Rattle.verify_logic.specs.declared.abstract_values.ArrayArgument.{ArrayArgument}
use Rattle.verify_logic.specs.States.{Known, Frame, In, ArraysAre, Reaches, Ends, Refers, SubscriptIs, shapes_of, rest_of}
use Rattle.verify_logic.specs.Judgements.{either_way}

-- a name designates object x, or a row of it after `depth` subscripts
pub record Designates (fr : Frame) (what : Storage) (x depth : ℕ) : Type 0 where
  pub is : (s : State) → s.base ≡ length fr.outer → ArraysAre fr.outer fr.arrays s.arrays → Refers fr x (rest_of (shapes_of fr) x depth) (designated fr.program what s)

-- a place lies in object x: an array of these lengths, or an element, whose subscript is in `sub` if that is known
pub record Finds (fr : Frame) (place : Place) (before : Option Known) (x : ℕ) (rest : List ℕ) (sub : Option Interval) (after : Option Known) : Type 0 where
  pub runs : (d : ℕ) (s : State) → Reaches fr before s → Ends fr.listed (find fr.program (calling fr.program d) place s) (λ r s2. (Refers fr x rest r × SubscriptIs sub r.path) × Reaches fr after s2)

-- `sub` is none, or it is the interval i of the subscript, in an array of one row
abbrev pub OneRow : List ℕ → Type 0
OneRow [] = ⊥
OneRow (n ∷ []) = Unit {0}
OneRow (n ∷ m ∷ lengths) = ⊥

abbrev pub Subscribes : Option Interval → (i : Interval) → (lengths : List ℕ) → Type 0
Subscribes None i lengths = Unit {0}
Subscribes (Some j) i lengths = (j ≡ i) × OneRow lengths

-- one that does not change the objects
pub record FindsAt (fr : Frame) (place : Place) (x : ℕ) (rest : List ℕ) : Type 0 where
  pub runs : (d : ℕ) (o : Option Known) (s : State) → Reaches fr o s → Ends fr.listed (find fr.program (calling fr.program d) place s) (λ r s2. Refers fr x rest r × Reaches fr o s2 × (s2.store ≡ s.store))

-- the objects of parameters that are numbers in the intervals
abbrev pub NumbersAre : List Interval → List Tree → Type 0
NumbersAre [] [] = Unit {0}
NumbersAre [] (t ∷ ts) = ⊥
NumbersAre (i ∷ is) [] = ⊥
NumbersAre (i ∷ is) (Element (Some v) ∷ ts) = In i v × NumbersAre is ts
NumbersAre (i ∷ is) (t ∷ ts) = ⊥

-- numbers in the intervals and these arrays are passed
pub record Are (fr : Frame) (is : List Interval) (arrays : List ArrayArgument) (passed : List Passed) : Type 0 where
  pub numbers : NumbersAre is (numbers_of passed)
  pub arrays_are : ArraysAre (shapes_of fr) arrays (arrays_of passed)

-- arguments are numbers in the intervals and these arrays
pub record Passes (fr : Frame) (arguments : Arguments) (before : Option Known) (is : List Interval) (arrays : List ArrayArgument) (after : Option Known) : Type 0 where
  pub runs : (d : ℕ) (s : State) → Reaches fr before s → Ends fr.listed (pass fr.program (calling fr.program d) arguments s) (λ passed s2. Are fr is arrays passed × Reaches fr after s2)

-- the value of `++` or `--` (6.5.2.4, 6.5.3.1)
abbrev pub step_interval : Moment → (old new : Interval) → Interval
step_interval typed.after old new = old
step_interval typed.before old new = new

-- of `?:`
pub record ConvertsOr (t : Option IntType) (i r : Interval) : Type 0 where
  pub gives : (v : ℤ) → In i v → In r (converted_or_none t v)

-- the interval of the result of `rv_getbyte`
abbrev pub got : Interval
got = record { low = negsuc 0; high = pos 255 }

-- the abstract states where a value in the interval is not zero, and where it is
pub record Splits (i : Interval) (o on off : Option Known) : Type 0 where
  pub is : (fr : Frame) (s : State) (v : ℤ) → In i v → Reaches fr o s → Reaches fr (either_way (truth v) on off) s

pub record NonZero (i : Interval) (o on : Option Known) : Type 0 where
  pub is : (fr : Frame) (s : State) (v : ℤ) → In i v → truth v ≡ true → Reaches fr o s → Reaches fr on s

pub record Zero (i : Interval) (o off : Option Known) : Type 0 where
  pub is : (fr : Frame) (s : State) (v : ℤ) → In i v → truth v ≡ false → Reaches fr o s → Reaches fr off s
