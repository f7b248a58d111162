-- The frames on the machine's explicit stack, and the next step.
use Rattle.std.specs.Prelude.{ℕ, ℤ, Bool, List, Option}
use Rattle.srcset.specs.declared.refusal.Pos.{Pos}
use Rattle.ctypes.specs.declared.types.IntType.{IntType}
use Rattle.ctypes.specs.declared.operators.BinOp.{BinOp}
use Rattle.tree.specs.declared.expression.PrefixOp.{PrefixOp}
use Rattle.tree.specs.declared.expression.StepOp.{StepOp}
use Rattle.typing_spec.specs.Types.{ObjectType}
use Rattle.typing_spec.specs.Program.{Callee, Moment, Place, Value, Arguments, Initialiser, Initialisers, Statement, Statements}
use Rattle.csem.specs.Store.{Reference}
use Rattle.csem.specs.Machine.{State, Ending}
use Rattle.csem.specs.Expressions.{Passed}
use Rattle.csem.specs.Statements.{Flow}

-- the result that a part of the program passes to the frame that waits for it
pub data Found : Type 0 where
  a_value : (v : ℤ) → Found
  a_place : (r : Reference) → Found
  a_flow : (flow : Flow) → Found
  initialised : Found

-- the operation after a number of ticks is spent: characters of string literal n stored, elements made zero, a function's body entered
pub data Late : Type 0 where
  puts_text : (t : IntType) (count n : ℕ) (r : Reference) → Late
  puts_zeros : (count i : ℕ) (r : Reference) → Late
  enters_body : (objects : List ObjectType) (body : Statement) → Late

-- a node, which takes the next tick; a statement has the objects of its function with it, and a switch the value that is looked for
pub data Node : Type 0 where
  place : (a : Place) → Node
  value : (e : Value) → Node
  statement : (objects : List ObjectType) (a : Statement) → Node
  initialiser : (i : Initialiser) (t : IntType) (lengths : List ℕ) (r : Reference) → Node
  element : (r : Reference) (v : ℤ) → Node
  ticking : (more : ℕ) (late : Late) → Node
  switch_block : (objects : List ObjectType) (v : ℤ) (first count : ℕ) (all : Statements) → Node
  case_test : (objects : List ObjectType) (v c : ℤ) (labels : List (Option ℤ)) (n : ℕ) (default : Option ℕ) (all : Statements) → Node

-- the next step: a node, the result of one, or a call
pub data Step : Type 0 where
  enters : (n : Node) → Step
  leaves : (x : Found) → Step
  calls : (at : Pos) (callee : Callee) (used : Bool) (passed : List Passed) → Step

-- the return target of a call: an expression, which may use its value, or the end of the run
pub data Back : Type 0 where
  to_caller : (at : Pos) (used : Bool) → Back
  to_end : Back

-- the waiting frames
pub data Frame : Type 0 where
  -- places
  indexes : (at : Pos) (index : Value) → Frame
  index_of : (at : Pos) (r : Reference) → Frame
  -- expressions
  reads : (at : Pos) → Frame
  assigns : (at : Pos) (t : IntType) (e : Value) → Frame
  stores : (at : Pos) (t : IntType) (r : Reference) → Frame
  compounds : (at : Pos) (op : BinOp) (t of : IntType) (read_at : Pos) (e : Value) → Frame
  combines : (at : Pos) (op : BinOp) (t of : IntType) (read_at : Pos) (r : Reference) → Frame
  steps : (at : Pos) (moment : Moment) (op : StepOp) (t of : IntType) (read_at : Pos) → Frame
  signs : (at : Pos) (op : PrefixOp) (t : IntType) → Frame
  right : (at : Pos) (op : BinOp) (t : IntType) (b : Value) → Frame
  applies : (at : Pos) (op : BinOp) (t : IntType) (a : ℤ) → Frame
  and_also : (b : Value) → Frame
  or_else : (b : Value) → Frame
  tells_truth : Frame
  chooses : (t : Option IntType) (a b : Value) → Frame
  converts : (t : Option IntType) → Frame
  then_value : (b : Value) → Frame
  number_passed : (at : Pos) (callee : Callee) (used : Bool) (t : IntType) (more : Arguments) (done : List Passed) → Frame
  array_passed : (at : Pos) (callee : Callee) (used : Bool) (more : Arguments) (done : List Passed) → Frame
  -- a call, with its caller's state: how many objects lived, its own from `base` on, its arrays
  returns : (back : Back) (is_main : Bool) (count base : ℕ) (arrays : List Reference) → Frame
  -- initialisers
  gives : (t : IntType) (r : Reference) → Frame
  next_part : (more : Initialisers) (t : IntType) (k i : ℕ) (lengths : List ℕ) (r : Reference) → Frame
  defined : Frame
  -- statements
  forgets : Frame
  rest : (objects : List ObjectType) (more : Statements) → Frame
  if_true : (objects : List ObjectType) (a : Statement) → Frame
  if_else : (objects : List ObjectType) (a b : Statement) → Frame
  switches : (objects : List ObjectType) (t : IntType) (first count : ℕ) (all : Statements) → Frame
  in_switch : Frame
  tests : (objects : List ObjectType) (test : Option Value) (a : Statement) (step : Option Value) → Frame
  turn : (objects : List ObjectType) (test : Option Value) (a : Statement) (step : Option Value) → Frame
  loops : (objects : List ObjectType) (test : Option Value) (a : Statement) (step : Option Value) → Frame
  for_starts : (objects : List ObjectType) (start test : Option Value) (a : Statement) (step : Option Value) → Frame
  gives_back : (t : IntType) → Frame

-- the result of a step: the waiting frames, the innermost last, the next step, and the state; or the end of the run
pub data Moved : Type 0 where
  moves : (pushed : List Frame) (step : Step) (s : State) → Moved
  halts : (e : Ending) (s : State) → Moved
