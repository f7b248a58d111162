-- What is observable of the abstract machine, from its run.
use Rattle.std.proofs.Common.{◌≡◌, ℕ, suc, List, [], ℤ, Option, Some, refl, ap}
use Rattle.std.specs.Prelude.{slice_get}
use Rattle.typing_spec.specs.Program.{Function, Program}
use Rattle.csem.specs.Machine.{Run, Goes, Stops, TicksUsed, then_do}
use Rattle.csem.specs.Meaning.{cstep, calling, call_defined, start, end_with, ending_of, last_of, answer}

stops : (r : Run (Option ℤ)) → then_do r end_with ≡ Stops (ending_of (then_do r end_with)) (last_of (then_do r end_with))
stops (Goes v s) = refl
stops (Stops e s) = refl

-- a whole run always stops
pub run_stops : (n : ℕ) (p : Program) (input : List ℕ) → cstep n p input ≡ Stops (ending_of (cstep n p input)) (last_of (cstep n p input))
run_stops n p input = stops (calling p (suc n) p.main [] (start n p input))

-- with no tick main does not begin
pub no_ticks : (p : Program) (input : List ℕ) (g : Function) → slice_get p.functions p.main ≡ Some g → (answer 0 p input).ending ≡ TicksUsed
no_ticks p input g there = ap (λ (o : Option Function). ending_of (then_do (call_defined p (calling p 0) o p.main [] (start 0 p input)) end_with)) there
