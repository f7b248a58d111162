-- What is shown of loops (6.8.5).
use Rattle.std.specs.Prelude.{ℕ, ℤ, Option}
use Rattle.typing_spec.specs.Program.{Value, Statement}
use Rattle.csem.specs.Machine.{State}
use Rattle.csem.specs.Expressions.{evaluate_or}
use Rattle.csem.specs.Statements.{execute, turns}
use Rattle.csem.specs.Meaning.{calling}
use Rattle.verify_logic.specs.States.{Known, Frame, ValueIs, Reaches, Ends, Implies}
use Rattle.verify_logic.specs.Statements.{Ways, Leaves}

-- a loop that begins with its test, for any number of iterations
pub record Loops (fr : Frame) (test step : Option Value) (a : Statement) (before : Option Known) (w : Ways) : Type 0 where
  pub runs : (d n : ℕ) (s : State) → Reaches fr before s →
      Ends fr.listed (turns n (evaluate_or fr.program (calling fr.program d) test) (execute fr.program (calling fr.program d) fr.objects a) (evaluate_or fr.program (calling fr.program d) step) s) (Leaves fr w)

-- a loop whose next iteration begins in the state that is normal in so_far, and which was left by its test or by a break in the state that is broken there
pub record Unrolls (fr : Frame) (test step : Option Value) (a : Statement) (so_far out : Ways) : Type 0 where
  pub loops : Loops fr test step a so_far.normal out
  pub left : Implies so_far.broken out.normal
  pub returned : (fr2 : Frame) (v : Option ℤ) (s : State) → ValueIs so_far.value v → Reaches fr2 so_far.returned s → ValueIs out.value v × Reaches fr2 out.returned s

-- its next iteration
pub record Turns (fr : Frame) (test step : Option Value) (a : Statement) (so_far next : Ways) : Type 0 where
  pub leads : (out : Ways) → Unrolls fr test step a next out → Unrolls fr test step a so_far out

-- its first iterations
pub record Leads (fr : Frame) (test step : Option Value) (a : Statement) (before : Option Known) (so_far : Ways) : Type 0 where
  pub leads : (out : Ways) → Unrolls fr test step a so_far out → Loops fr test step a before out
