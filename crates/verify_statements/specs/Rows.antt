-- What is shown of first values of arrays of one row, element by element (6.7.9p14, p17, p21).
use Rattle.std.specs.Prelude.{◌≡◌, ℕ, ◌+◌, ◌<◌, List, [], ◌∷◌, Option}
use Rattle.ctypes.specs.declared.types.IntType.{IntType}
use Rattle.typing_spec.specs.Program.{Initialiser, Initialisers}
use Rattle.csem.specs.Store.{Reference, into}
use Rattle.csem.specs.Machine.{State}
use Rattle.csem.specs.Statements.{zeros, characters, initialise, initialise_all}
use Rattle.csem.specs.Meaning.{calling}
use Rattle.verify_logic.specs.States.{Known, Frame, Reaches, Ends, Refers, shape_of}

-- object x is an array of n elements, and r refers to it
pub record IsRow (fr : Frame) (x n : ℕ) (r : Reference) : Type 0 where
  pub shape : shape_of fr x ≡ n ∷ []
  pub refers : Refers fr x (n ∷ []) r

-- element i gets its first value
pub record ElementBegins (fr : Frame) (a : Initialiser) (x n i : ℕ) (o o2 : Option Known) : Type 0 where
  pub runs : (t : IntType) (d : ℕ) (r : Reference) (s : State) → i < n → IsRow fr x n r → Reaches fr o s → Ends fr.listed (initialise fr.program (calling fr.program d) a t [] (into r i) s) (λ u s2. Reaches fr o2 s2)

-- the elements from number i on become zero
pub record RowClears (fr : Frame) (x n i : ℕ) (o o2 : Option Known) : Type 0 where
  pub is : (m : ℕ) (r : Reference) (s : State) → i + m ≡ n → IsRow fr x n r → Reaches fr o s → Reaches fr o2 (zeros m i r s)

-- the elements from number i on get these first values
pub record RowBegins (fr : Frame) (all : Initialisers) (x n i : ℕ) (o o2 : Option Known) : Type 0 where
  pub runs : (t : IntType) (d m : ℕ) (r : Reference) (s : State) → i + m ≡ n → IsRow fr x n r → Reaches fr o s → Ends fr.listed (initialise_all fr.program (calling fr.program d) all t m i [] r s) (λ u s2. Reaches fr o2 s2)

-- the elements from number i on become these characters
pub record RowSpells (fr : Frame) (t : IntType) (text : List ℕ) (x n i : ℕ) (o o2 : Option Known) : Type 0 where
  pub is : (m : ℕ) (r : Reference) (s : State) → i + m ≡ n → IsRow fr x n r → Reaches fr o s → Reaches fr o2 (characters t m i text r s)

-- the whole array gets its first value
pub record RowFills (fr : Frame) (a : Initialiser) (t : IntType) (x n : ℕ) (o o2 : Option Known) : Type 0 where
  pub runs : (d : ℕ) (r : Reference) (s : State) → IsRow fr x n r → Reaches fr o s → Ends fr.listed (initialise fr.program (calling fr.program d) a t (n ∷ []) r s) (λ u s2. Reaches fr o2 s2)

-- the state of an array of n elements may be described in this way
pub record RowBecomes (fr : Frame) (x n : ℕ) (o o2 : Option Known) : Type 0 where
  pub is : (s : State) → shape_of fr x ≡ n ∷ [] → Reaches fr o s → Reaches fr o2 s
