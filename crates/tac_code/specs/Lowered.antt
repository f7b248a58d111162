-- The relation of three-address code to a typed program that it simulates: the contract of lowering.
use Rattle.std.specs.Prelude.{◌≡◌, ◌≤◌, ◌<◌, ℕ, ◌+◌, ◌*◌, ◌^◌, true, List, [], map, length, slice_get, Some}
use Rattle.srcset.specs.declared.refusal.Pos.{Pos}
use Rattle.ctypes.specs.declared.types.IntType.TheVariants as ty
use Rattle.ctypes.specs.declared.operators.Undef.{Undef}
use Rattle.tree.specs.Counts.{weight_of}
use Rattle.typing_spec.specs.Types.{ObjectType, ParameterType, number, elements, size_of_object}
use Rattle.typing_spec.specs.WellTyped.{is_typed}
use Rattle.typing_spec.specs.Program as typed
use Rattle.csem.specs.Machine as machine
use Rattle.csem.specs.Machine.{Stops, Ended, Undefined, TicksUsed}
use Rattle.csem.specs.Meaning.{cstep}
use Rattle.tac_code.specs.Code.{Function, Program}
use Rattle.tac_code.specs.Run.{State, Progress, running, ended, run, start}
use Rattle.tac_code.specs.Costs.{spent_in_all, function_bytes, call_bytes}
use Rattle.tac_code.specs.declared.code.Parameter.{Parameter}
use Rattle.tac_code.specs.declared.code.Parameter.TheVariants as parameter
use Rattle.tac_code.specs.Sound.{IsSoundProgram, AreBytes, data_bytes}
use Rattle.tac_code.specs.Spans.{span, own_bytes}
use Rattle.tac_code.specs.Designated.{in_function}
use Rattle.typing_spec.specs.Units.{function_limit}
use Rattle.tree.specs.Limits.{function_node_limit}

-- the run of q on this input, after m steps
abbrev pub run_of : Program → List ℕ → ℕ → Progress
run_of q input m = run q m (start q input)

-- how an argument is passed
abbrev pub kind_of : ParameterType → Parameter
kind_of (number t) = parameter.Number
kind_of (elements t) = parameter.Array

-- at most 60 instructions of RV32IM, by the costs of its instructions, for each of n ticks, and 60 for the beginning of main
abbrev pub CostsAtMost : Program → List ℕ → (m n : ℕ) → Type 0
CostsAtMost q input m n = spent_in_all q m (start q input) ≤ 60 * n + 60

-- after m steps the run has exactly the history of the abstract machine at this state, and goes on
abbrev pub GoesOn : Program → List ℕ → (m : ℕ) → machine.State → Type 0
GoesOn q input m s = (t : State) × (run_of q input m ≡ running t) × (t.history ≡ s.history) × (t.input ≡ s.input)

-- A history has the events, and the calls that began and ended. So the calls that are open at a step are those of a beginning of the
-- abstract machine's history (`CallsAreActive`, `RunGrows`), and their weights no more than its greatest sum (`WeightsAreSeen`). Where the
-- program never ends, these m pass every number.
pub record Behaves (p : typed.Program) (q : Program) (input : List ℕ) : Type 0 where
  pub ends : (n status : ℕ) (s : machine.State) → cstep n p input ≡ Stops (Ended status) s →
      (m : ℕ) × (run_of q input m ≡ ended status s.input s.history) × CostsAtMost q input m n
  pub goes_on : (n : ℕ) (s : machine.State) → cstep n p input ≡ Stops TicksUsed s →
      (m : ℕ) × (n ≤ m) × GoesOn q input m s × CostsAtMost q input m n
  -- where it meets undefined behaviour within n ticks, the code has done all that was done before, also within the last of these ticks
  pub stops : (n : ℕ) (act : Undef) (at : Pos) (s : machine.State) → cstep n p input ≡ Stops (Undefined act at) s →
      (m : ℕ) × GoesOn q input m s × CostsAtMost q input m n

-- Function g is f's code: it has its objects, a call of it takes no more of the stack than f's weight and its span, and its code no
-- more than 128 bytes a node and 1024.
pub record IsCodeOf (f : typed.Function) (g : Function) : Type 0 where
  pub objects : g.objects ≡ f.objects
  pub parameters : g.parameters ≡ map kind_of f.type.parameters
  pub result : g.result ≡ f.type.result
  pub within_weight : call_bytes g ≤ f.weight
  pub within_span : call_bytes g ≤ span f
  pub code : function_bytes g ≤ 128 * f.nodes + 1024

-- the postcondition of lowering
pub record IsLowered (p : typed.Program) (q : Program) : Type 0 where
  pub sound : IsSoundProgram q
  pub behaves : (input : List ℕ) → AreBytes input → Behaves p q input
  pub literals : q.literals ≡ p.literals
  pub statics : q.statics ≡ p.statics
  pub main : q.main ≡ p.main
  pub count : length q.functions ≡ length p.functions
  pub each : (k : ℕ) (f : typed.Function) (g : Function) → slice_get p.functions k ≡ Some f → slice_get q.functions k ≡ Some g → IsCodeOf f g

-- ---- the premises of lowering

-- its weight is that of its nodes and objects, its nodes are within their limit, no object is without bytes, and each name in it is defined
pub record FunctionIsChecked (p : typed.Program) (f : typed.Function) : Type 0 where
  pub weight : f.weight ≡ weight_of f.nodes (own_bytes f)
  pub nodes : f.nodes ≤ function_node_limit
  pub sized : (n : ℕ) (o : ObjectType) → slice_get f.objects n ≡ Some o → 0 < size_of_object o
  pub defined : in_function p f ≡ true

-- the facts that the checker is to establish of a program
pub record IsChecked (p : typed.Program) : Type 0 where
  pub well_typed : is_typed p ≡ true
  pub main_takes_nothing : (f : typed.Function) → slice_get p.functions p.main ≡ Some f → f.type.parameters ≡ []
  pub main_gives_int : (f : typed.Function) → slice_get p.functions p.main ≡ Some f → f.type.result ≡ Some ty.Int
  pub each : (k : ℕ) (f : typed.Function) → slice_get p.functions k ≡ Some f → FunctionIsChecked p f
  pub literals : (n : ℕ) (text : List ℕ) → slice_get p.literals n ≡ Some text → AreBytes text
  pub few : length p.functions ≤ function_limit
  pub small : data_bytes p.literals p.statics ≤ 2 ^ 24
