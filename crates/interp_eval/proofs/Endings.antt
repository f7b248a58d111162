-- No part of an expression ends the program.
use Rattle.std.proofs.Common.{ℤ, pos, negsuc, [], Option, Some, None, subst}
use Rattle.std.specs.Prelude.{Bool, true, false, Result, Ok, Err, IfErr, length, nat_lt, ⊤}
use Rattle.srcset.specs.declared.refusal.Pos.{Pos}
use Rattle.ctypes.specs.declared.operators.Undef.{Undef}
use Rattle.ctypes.specs.declared.operators.Undef.TheVariants.{U5, U7}
use Rattle.ctypes.specs.Types.{converted}
use Rattle.typing_spec.specs.Program as typed
use Rattle.typing_spec.specs.Operators.{operated}
use Rattle.csem.specs.Store.{Reference, into, tree_at, length_of, value_at}
use Rattle.csem.specs.Expressions.{step_operation}
use Rattle.csem.specs.Machine as machine
use Rattle.csem.specs.Machine.{State, Run, Goes, Stops, then_do, choose, computed_at, value_or_undefined, undefined, stored, subscripted, read, write}
use Rattle.interp_store.specs.declared.stop.Stop.{Stop}
use Rattle.interp_store.specs.declared.stop.Stop.TheVariants as stop
use Rattle.interp_store.specs.declared.frames.Compound.{Compound}
use Rattle.interp_store.specs.declared.frames.Stepping.{Stepping}
use Rattle.interp_store.specs.declared.scene.Scene.{Scene}
use Rattle.interp_store.specs.layer.Agrees.{Outside, Runs, state_in, combined, stepped}
use Rattle.interp_eval.specs.layer.Comes.{GoesOn}

-- the program does not end in this way
abbrev Spares : machine.Ending → Type 0
Spares (machine.Ended n) = ⊥
Spares (machine.Undefined act at) = ⊤
Spares machine.TicksUsed = ⊤

-- nor in this part of a run
abbrev pub Stays : {A : Type 0} → Run A → Type 0
Stays (Goes a s) = ⊤
Stays (Stops e s) = Spares e

-- so its result in the code does not say so
pub stays : {A B : Type 0} (view : A → B) (run : Run B) (r : Result A Stop) (s : State) → Stays run → Runs view run r s → IfErr r GoesOn
stays view run (Ok a) s k e = tt
stays view run (Err stop.Memory) s k e = tt
stays view run (Err (stop.Ended n)) s k e = let P : Run _ → Type 0 = λ r. Stays r in subst P e k
stays view run (Err (stop.Undefined act at)) s k e = tt

nowhere : Outside
nowhere = record { clock = 0; input = []; history = [] }

-- nor where the code begins and ends with these scenes
pub stays_for : {A B : Type 0} (view : A → B) (part : State → Run B) (r : Result A Stop) (before later : Scene) → ((s : State) → Stays (part s)) →
    ((o : Outside) → Runs view (part (state_in before o)) r (state_in later o)) → IfErr r GoesOn
stays_for view part r before later k runs = stays view (part (state_in before nowhere)) r (state_in later nowhere) (k (state_in before nowhere)) (runs nowhere)

stays_then : {A B : Type 0} (r : Run A) (next : A → State → Run B) → Stays r → ((a : A) (s : State) → Stays (next a s)) → Stays (then_do r next)
stays_then (Goes a s) next k h = h a s
stays_then (Stops e s) next k h = k

pub stays_computed : (at : Pos) (r : Result ℤ Undef) (s : State) → Stays (computed_at at r s)
stays_computed at (Ok v) s = tt
stays_computed at (Err act) s = tt

stays_value : (at : Pos) (v : Option ℤ) (s : State) → Stays (value_or_undefined at v s)
stays_value at None s = tt
stays_value at (Some v) s = tt

pub stays_read : (at : Pos) (r : Reference) (s : State) → Stays (read at r s)
stays_read at r s = stays_value at (value_at s.store r) s

stays_chosen : {A : Type 0} (b : Bool) (x y : Run A) → Stays x → Stays y → Stays (choose b x y)
stays_chosen true x y k h = k
stays_chosen false x y k h = h

pub stays_subscripted : (at : Pos) (r : Reference) (v : ℤ) (s : State) → Stays (subscripted at r v s)
stays_subscripted at r (pos i) s = stays_chosen (nat_lt i (length_of (tree_at s.store r))) (Goes (into r i) s) (undefined U5 at s) tt tt
stays_subscripted at r (negsuc i) s = tt

pub stays_element : (at : Pos) (r : Reference) (v : ℤ) (s : State) → Stays (then_do (subscripted at r v s) (λ r s. read at r s))
stays_element at r v s = stays_then (subscripted at r v s) _ (stays_subscripted at r v s) (λ r s. stays_read at r s)

pub stays_written : (p : typed.Program) (at : Pos) (r : Reference) (v : ℤ) (s : State) → Stays (write p at r v s)
stays_written p at r v s = stays_chosen (nat_lt r.object (length p.literals)) (undefined U7 at s) (Goes v (stored r v s)) tt tt

pub stays_combined : (p : typed.Program) (c : Compound) (r : Reference) (v : ℤ) (s : State) → Stays (combined p c r v s)
stays_combined p c r v s = stays_then (read c.read_at r s) _ (stays_read c.read_at r s)
    (λ old s. stays_then (computed_at c.at (operated c.op c.of old v) s) _ (stays_computed c.at (operated c.op c.of old v) s) (λ w s. stays_written p c.at r (converted c.ty w) s))

pub stays_stepped : (p : typed.Program) (c : Stepping) (r : Reference) (s : State) → Stays (stepped p c r s)
stays_stepped p c r s = stays_then (read c.read_at r s) _ (stays_read c.read_at r s)
    (λ old s. stays_then (computed_at c.at (operated (step_operation c.op) c.of old (pos 1)) s) _ (stays_computed c.at (operated (step_operation c.op) c.of old (pos 1)) s)
    (λ w s. stays_then (write p c.at r (converted c.ty w) s) _ (stays_written p c.at r (converted c.ty w) s) (λ new s. tt)))
