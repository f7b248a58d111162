-- How the results of the code agree with the steps of the definition.
use Rattle.std.specs.Prelude.{◌≡◌, ℕ, List, ◌++◌, map, ℤ, pos, negsuc, nat_lt, Option, Some, None, Result, Ok, Err}
use Rattle.typing_spec.specs.Program as typed
use Rattle.typing_spec.specs.Operators.{operated}
use Rattle.ctypes.specs.Types.{converted}
use Rattle.typed_ast.specs.View.{program_of, moment_of}
use Rattle.csem.specs.Store.{Reference}
use Rattle.csem.specs.Expressions.{step_operation, step_value}
use Rattle.csem.specs.History.{Entry}
use Rattle.csem.specs.Machine.{State, Run, Goes, Stops, Ended, Undefined, choose, then_do, computed_at, read, write}
use Rattle.interp_store.specs.declared.stop.Stop.{Stop}
use Rattle.interp_store.specs.declared.stop.Stop.TheVariants as stop
use Rattle.interp_store.specs.declared.scene.Scene.{Scene}
use Rattle.interp_store.specs.declared.machine.Machine.{Machine}
use Rattle.interp_store.specs.declared.frames.Compound.{Compound}
use Rattle.interp_store.specs.declared.frames.Stepping.{Stepping}
use Rattle.interp_store.specs.declared.frames.Step.{Step}
use Rattle.interp_store.specs.View.{store_of, reference_of}
use Rattle.interp_store.specs.layer.Frames as on
use Rattle.interp_store.specs.layer.Frames.{Moved, moves, halts}
use Rattle.interp_store.specs.layer.Views.{kept_of, step_of}

-- the rest of a state, apart from the store: the clock, the input left and the history are not the code's
pub record Outside : Type 0 where
  pub clock : ℕ
  pub input : List ℕ
  pub history : List Entry

abbrev pub state_in : Scene → Outside → State
state_in s o = record {
  clock = o.clock;
  store = store_of s.store;
  base = s.base;
  arrays = map reference_of s.arrays.items;
  input = o.input;
  history = o.history;
}

-- the code's result of a part of a run, which ends with this state
abbrev pub Runs : {A B : Type 0} → (A → B) → Run B → Result A Stop → State → Type 0
Runs view run (Ok a) s = run ≡ Goes (view a) s
Runs view run (Err stop.Memory) s = Unit {0}
Runs view run (Err (stop.Ended n)) s = run ≡ Stops (Ended n) s
Runs view run (Err (stop.Undefined act at)) s = run ≡ Stops (Undefined act at) s

-- numbers are themselves
abbrev pub number : ℤ → ℤ
number v = v

-- the number of an element or row of an array of n, if the subscript is one of it
abbrev pub index_in : ℤ → ℕ → Option ℕ
index_in (pos i) n = choose (nat_lt i n) (Some i) None
index_in (negsuc i) n = None

-- ---- assignments that read their element

abbrev pub combined : typed.Program → Compound → Reference → ℤ → State → Run ℤ
combined p c r v s = then_do (read c.read_at r s) (λ old s.
    then_do (computed_at c.at (operated c.op c.of old v) s) (λ w s. write p c.at r (converted c.ty w) s))

abbrev pub stepped : typed.Program → Stepping → Reference → State → Run ℤ
stepped p c r s = then_do (read c.read_at r s) (λ old s.
    then_do (computed_at c.at (operated (step_operation c.op) c.of old (pos 1)) s) (λ w s.
    then_do (write p c.at r (converted c.ty w) s) (λ new s. Goes (step_value (moment_of c.moment) old new) s)))

-- ---- steps

-- on top of the frames that wait
abbrev pub onto : List on.Frame → Moved → Moved
onto fs (moves pushed step s) = moves (fs ++ pushed) step s
onto fs (halts e s) = halts e s

-- the code's result of a step, which ends with these frames and this state
abbrev pub Agrees : Moved → Result Step Stop → List on.Frame → State → Type 0
Agrees moved (Ok x) gs s = moved ≡ moves gs (step_of x) s
Agrees moved (Err stop.Memory) gs s = Unit {0}
Agrees moved (Err (stop.Ended n)) gs s = moved ≡ halts (Ended n) s
Agrees moved (Err (stop.Undefined act at)) gs s = moved ≡ halts (Undefined act at) s

abbrev pub frames_of : Machine → List on.Frame
frames_of m = map kept_of m.stack.items

-- the machine takes this step
abbrev pub Takes : (typed.Program → State → Moved) → Machine → Result Step Stop → Machine → Type 0
Takes step old result new = (o : Outside) →
    Agrees (onto (frames_of old) (step (program_of old.program.now) (state_in old.scene o))) result (frames_of new) (state_in new.scene o)
