-- Judgements on statements.
use Rattle.std.specs.Prelude.{◌≡◌, ℕ, ℤ, List, [], ◌∷◌, length, Option, Some, None, Bool, true, false, ◌<◌}
use Rattle.typing_spec.specs.Program.{Value, Initialiser, Statement, Statements}
use Rattle.ctypes.specs.declared.types.IntType.{IntType}
use Rattle.csem.specs.Store.{Reference}
use Rattle.csem.specs.Machine.{State}
use Rattle.csem.specs.Expressions.{evaluate_or}
use Rattle.csem.specs.Statements.{Flow, Normal, Broken, Continued, Returned, renewed, all_renewed, initialise, labels_of, execute, execute_all, execute_from}
use Rattle.csem.specs.Meaning.{calling}
use Rattle.verify_logic.specs.declared.abstract_values.AbsValue.{AbsValue}
use Rattle.verify_logic.specs.States.{Known, Frame, ValueIs, Reaches, Ends, Implies, Refers}
use Rattle.verify_logic.specs.Judgements.{either_way}
use Rattle.ctypes.specs.Types.{truth}

-- the abstract states after a statement, by how it is left (6.8.6), and the abstract value of a `return`
pub record Ways : Type 0 where
  pub normal : Option Known
  pub broken : Option Known
  pub continued : Option Known
  pub returned : Option Known
  pub value : AbsValue

abbrev pub Leaves : Frame → Ways → Flow → State → Type 0
Leaves fr w Normal s = Reaches fr w.normal s
Leaves fr w Broken s = Reaches fr w.broken s
Leaves fr w Continued s = Reaches fr w.continued s
Leaves fr w (Returned v) s = ValueIs w.value v × Reaches fr w.returned s

pub record Executes (fr : Frame) (a : Statement) (before : Option Known) (w : Ways) : Type 0 where
  pub runs : (d : ℕ) (s : State) → Reaches fr before s → Ends fr.listed (execute fr.program (calling fr.program d) fr.objects a s) (Leaves fr w)

pub record ExecutesAll (fr : Frame) (all : Statements) (before : Option Known) (w : Ways) : Type 0 where
  pub runs : (d : ℕ) (s : State) → Reaches fr before s → Ends fr.listed (execute_all fr.program (calling fr.program d) fr.objects all s) (Leaves fr w)

pub record WaysImply (w w2 : Ways) : Type 0 where
  pub normal : Implies w.normal w2.normal
  pub broken : Implies w.broken w2.broken
  pub continued : Implies w.continued w2.continued
  pub returned : (fr : Frame) (v : Option ℤ) (s : State) → ValueIs w.value v → Reaches fr w.returned s → ValueIs w2.value v × Reaches fr w2.returned s

-- these statements follow those executed so far, and all is left as `out` says
pub record Continues (fr : Frame) (so_far : Ways) (all : Statements) (out : Ways) : Type 0 where
  pub runs : (d : ℕ) (s : State) → Reaches fr so_far.normal s → Ends fr.listed (execute_all fr.program (calling fr.program d) fr.objects all s) (Leaves fr out)
  pub jumps : WaysImply (record so_far { normal = None }) out

-- this statement follows
pub record Follows (fr : Frame) (so_far : Ways) (a : Statement) (out : Ways) : Type 0 where
  pub runs : (d : ℕ) (s : State) → Reaches fr so_far.normal s → Ends fr.listed (execute fr.program (calling fr.program d) fr.objects a s) (Leaves fr out)
  pub jumps : WaysImply (record so_far { normal = None }) out

-- objects of the block begin (6.2.4p6)
pub record Renews (fr : Frame) (first count : ℕ) (before after : Option Known) : Type 0 where
  pub is : (s : State) → Reaches fr before s → Reaches fr after (all_renewed fr.objects first count s)

-- an object of the call begins
pub record RenewsOne (fr : Frame) (n : ℕ) (before after : Option Known) : Type 0 where
  pub is : (s : State) → Reaches fr before s → Reaches fr after (renewed fr.objects n s)

-- left normally alone
abbrev pub only_normal : AbsValue → Option Known → Ways
only_normal k o = record { normal = o; broken = None; continued = None; returned = None; value = k }

-- an expression that may be left out, by whether its value is not zero (6.8.5.3p2)
pub record TestsOr (fr : Frame) (e : Option Value) (before on off : Option Known) : Type 0 where
  pub runs : (d : ℕ) (s : State) → Reaches fr before s → Ends fr.listed (evaluate_or fr.program (calling fr.program d) e s) (λ v s2. Reaches fr (either_way (truth v) on off) s2)

pub record EvaluatesOr (fr : Frame) (e : Option Value) (before after : Option Known) : Type 0 where
  pub runs : (d : ℕ) (s : State) → Reaches fr before s → Ends fr.listed (evaluate_or fr.program (calling fr.program d) e s) (λ v s2. Reaches fr after s2)

-- an object, row or element within object x, of these lengths and with elements of type t, gets its first value (6.7.9)
pub record Initialises (fr : Frame) (i : Initialiser) (t : IntType) (x : ℕ) (rest : List ℕ) (before after : Option Known) : Type 0 where
  pub runs : (d : ℕ) (r : Reference) (s : State) → Refers fr x rest r → Reaches fr before s → Ends fr.listed (initialise fr.program (calling fr.program d) i t rest r s) (λ u s2. Reaches fr after s2)

-- ---- switch (6.8.4.2)

abbrev pub has_default : List (Option ℤ) → Bool
has_default [] = false
has_default (None ∷ labels) = true
has_default (Some v ∷ labels) = has_default labels

-- which labels may be jumped to: one of them, or none where there is no default
abbrev pub MayJump : List (Option ℤ) → Option ℕ → Type 0
MayJump labels None = has_default labels ≡ false
MayJump labels (Some k) = k < length labels

-- these statements of a switch are entered at a label with the abstract state before it, or follow those executed so far
pub record Enters (fr : Frame) (entry : Option Known) (so_far : Ways) (all : Statements) (out : Ways) : Type 0 where
  pub follows : Continues fr so_far all out
  pub jumped : (d : ℕ) (label : ℕ) (s : State) → label < length (labels_of all) → Reaches fr entry s → Ends fr.listed (execute_from fr.program (calling fr.program d) fr.objects (Some label) all s) (Leaves fr out)
