-- What is shown of first values of objects of a block, elements and rows among them (6.7.9).
use Rattle.std.specs.Prelude.{◌≡◌, ℕ, zero, suc, ◌+◌, List, ◌∷◌, Option, true}
use Rattle.ctypes.specs.declared.types.IntType.{IntType}
use Rattle.typing_spec.specs.Program.{Initialiser, Initialisers, no_initialisers}
use Rattle.csem.specs.Store.{Tree, Array, Row, no_parts, and_part, parts, Store, Reference, put}
use Rattle.csem.specs.Machine.{State}
use Rattle.csem.specs.Statements.{initialise, initialise_all}
use Rattle.csem.specs.Meaning.{calling}
use Rattle.verify_logic.specs.declared.abstract_values.Interval.{Interval}
use Rattle.verify_logic.specs.declared.abstract_values.AbsValue.{AbsValue}
use Rattle.verify_logic.specs.States.{Known, Frame, EachPart, TreeIs, Reaches, Ends, Refers, Contents, Replaces}

-- if the only fact about object x is that its elements are such values
pub record Takes (o : Option Known) (x : ℕ) (k : AbsValue) : Type 0 where
  pub contents : Contents o x k
  pub replaces : Replaces o x k o

abbrev pub full : Interval → AbsValue
full j = record { initialised = true; interval = j }

-- the object, row or element at a reference has become one with all of its values in the interval
pub record Filled (j : Interval) (rest : List ℕ) (before after : Store) (r : Reference) : Type 0 where
  pub tree : Tree
  pub is : TreeIs (full j) rest tree
  pub put_there : after ≡ put before r tree

pub record Fills (fr : Frame) (i : Initialiser) (t : IntType) (x : ℕ) (rest : List ℕ) (o : Option Known) (j : Interval) : Type 0 where
  pub runs : (d : ℕ) (r : Reference) (s : State) → Refers fr x rest r → Reaches fr o s → Ends fr.listed (initialise fr.program (calling fr.program d) i t rest r s) (λ u s2. Reaches fr o s2 × Filled j rest s.store s2.store r)

-- the first parts of a row
abbrev pub FirstParts : (Tree → Type 0) → ℕ → Row → Type 0
FirstParts P zero row = Unit {0}
FirstParts P (suc n) no_parts = ⊥
FirstParts P (suc n) (and_part t row) = P t × FirstParts P n row

-- the row at a reference, with all of its values in the interval
pub record FilledRow (j : Interval) (n : ℕ) (inner : List ℕ) (before after : Store) (r : Reference) : Type 0 where
  pub row : Row
  pub long : parts row ≡ n
  pub each : EachPart (TreeIs (full j) inner) row
  pub put_there : after ≡ put before r (Array row)

-- if the first i of n elements or rows have their values in the interval, these initialisers give the others theirs
pub record FillsAll (fr : Frame) (all : Initialisers) (t : IntType) (x n i : ℕ) (inner : List ℕ) (o : Option Known) (j j2 : Interval) : Type 0 where
  pub runs : (d m : ℕ) (r : Reference) (before : Store) (row : Row) (s : State) → i + m ≡ n → Refers fr x (n ∷ inner) r → Reaches fr o s → s.store ≡ put before r (Array row) → parts row ≡ n → FirstParts (TreeIs (full j) inner) i row →
      Ends fr.listed (initialise_all fr.program (calling fr.program d) all t m i inner r s) (λ u s2. Reaches fr o s2 × FilledRow j2 n inner before s2.store r)

-- if no initialiser is left
pub record FillsEnd (fr : Frame) (t : IntType) (x n i : ℕ) (inner : List ℕ) (o : Option Known) (j j2 : Interval) : Type 0 where
  pub rest : FillsAll fr no_initialisers t x n i inner o j j2

-- if none of them has its values yet
pub record FillsFrom (fr : Frame) (given : Initialisers) (t : IntType) (x n : ℕ) (inner : List ℕ) (o : Option Known) (j : Interval) : Type 0 where
  pub first : Interval
  pub all : FillsAll fr given t x n 0 inner o first j
