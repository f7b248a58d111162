-- The values of expressions (ISO/IEC 9899:2011 6.5), each with its side effects: operands and arguments from left to right, side
-- effects at once. Entering a node takes a tick. A void expression gives 0, which nothing uses.
use Rattle.std.specs.Prelude.{ℕ, List, [], ◌∷◌, Option, Some, None, Bool, true, false, ℤ, pos, negsuc}
use Rattle.srcset.specs.declared.refusal.Pos.{Pos}
use Rattle.ctypes.specs.declared.types.IntType.{IntType}
use Rattle.ctypes.specs.declared.operators.BinOp.{BinOp}
use Rattle.ctypes.specs.declared.operators.BinOp.TheVariants.{Add, Sub}
use Rattle.ctypes.specs.declared.operators.Undef.TheVariants.{U8}
use Rattle.ctypes.specs.Types.{truth, of_truth, modulo, converted}
use Rattle.tree.specs.declared.expression.StepOp.{StepOp}
use Rattle.tree.specs.declared.expression.StepOp.TheVariants.{Increment, Decrement}
use Rattle.csem_events.specs.Events.{Got, GotEnd, Put}
use Rattle.typing_spec.specs.Operators.{operated, sign_of}
use Rattle.typing_spec.specs.Program as typed
use Rattle.typing_spec.specs.Program.{Callee, Moment, Place, Value, Arguments, Program}
use Rattle.csem.specs.Store.{Reference}
use Rattle.csem.specs.History.{Did}
use Rattle.csem.specs.Machine.{State, Ended, Run, Goes, Stops, then_do, choose, tick, undefined, computed_at, designated, subscripted, read, write}

-- ---- calls (6.5.2.2)

-- the value that a call passes for a parameter: a number, or a reference to an array
pub data Passed : Type 0 where
  Number : (v : ℤ) → Passed
  Referred : (array : Reference) → Passed

-- the semantics of a call of a function with these arguments; it may end without a value
abbrev pub Calling : Type 0
Calling = (f : ℕ) → List Passed → State → Run (Option ℤ)

-- 6.9.1p12: to use the value of a call that ended without one is undefined, at the called name
abbrev pub call_value : (used : Bool) → Pos → Option ℤ → State → Run ℤ
call_value used at (Some v) s = Goes v s
call_value true at None s = undefined U8 at s
call_value false at None s = Goes (pos 0) s

-- the built-in functions: the next byte of the input, or -1 at its end; the low 8 bits are put; the run ends with the low 8 bits
abbrev pub get_byte : List ℕ → State → Run ℤ
get_byte [] s = Goes (negsuc 0) (record s { history = Did GotEnd ∷ s.history })
get_byte (b ∷ more) s = Goes (pos b) (record s { input = more; history = Did (Got b) ∷ s.history })

abbrev pub put_byte : ℤ → State → Run ℤ
put_byte v s = Goes (pos 0) (record s { history = Did (Put (modulo 8 v)) ∷ s.history })

abbrev pub first_number : List Passed → ℤ
first_number [] = pos 0
first_number (Number v ∷ more) = v
first_number (Referred r ∷ more) = pos 0

abbrev pub call_of : Calling → Pos → Callee → (used : Bool) → List Passed → State → Run ℤ
call_of call at (typed.function f) used passed s = then_do (call f passed s) (λ v s. call_value used at v s)
call_of call at typed.get_byte used passed s = get_byte s.input s
call_of call at typed.put_byte used passed s = put_byte (first_number passed) s
call_of call at typed.exit used passed s = Stops (Ended (modulo 8 (first_number passed))) s
-- never evaluated
call_of call at (typed.missing name) used passed s = Goes (pos 0) s

-- ---- parts

-- the place in the source of an element that is read: its name or its `[`
abbrev pub position_of : Place → Pos
position_of (typed.named at what) = at
position_of (typed.element at array index) = at

-- 6.5.2.4, 6.5.3.1
abbrev pub step_operation : StepOp → BinOp
step_operation Increment = Add
step_operation Decrement = Sub

abbrev pub step_value : Moment → (old new : ℤ) → ℤ
step_value typed.after old new = old
step_value typed.before old new = new

-- of `?:`, where it is not void
abbrev pub converted_or_none : Option IntType → ℤ → ℤ
converted_or_none None v = pos 0
converted_or_none (Some t) v = converted t v

module _ (p : Program) (call : Calling) where
  abbrev mutual
    -- the reference that an lvalue or an array gives (6.3.2.1, 6.5.1, 6.5.2.1)
    pub find : Place → State → Run Reference
    find (typed.named at what) s = tick s (λ s. Goes (designated p what s) s)
    find (typed.element at array index) s =
        tick s (λ s. then_do (find array s) (λ r s. then_do (evaluate index s) (λ v s. subscripted at r v s)))

    pub evaluate : Value → State → Run ℤ
    -- constants and values of elements (6.5.1, 6.3.2.1p2)
    evaluate (typed.constant t v) s = tick s (λ s. Goes v s)
    evaluate (typed.read t place) s = then_do (find place s) (λ r s. read (position_of place) r s)
    -- assignment (6.5.16): the element is found first; a compound one reads it after the right operand
    evaluate (typed.assigned at t place e) s =
        tick s (λ s. then_do (find place s) (λ r s. then_do (evaluate e s) (λ v s. write p at r (converted t v) s)))
    evaluate (typed.compound at op t of place e) s = tick s (λ s.
        then_do (find place s) (λ r s.
        then_do (evaluate e s) (λ v s.
        then_do (read (position_of place) r s) (λ old s.
        then_do (computed_at at (operated op of old v) s) (λ w s. write p at r (converted t w) s)))))
    -- `++` and `--` (6.5.2.4, 6.5.3.1)
    evaluate (typed.stepped at moment op t of place) s = tick s (λ s.
        then_do (find place s) (λ r s.
        then_do (read (position_of place) r s) (λ old s.
        then_do (computed_at at (operated (step_operation op) of old (pos 1)) s) (λ w s.
        then_do (write p at r (converted t w) s) (λ new s. Goes (step_value moment old new) s)))))
    -- arithmetic (6.5.3.3, 6.5.5 to 6.5.12)
    evaluate (typed.unary at op t e) s = tick s (λ s. then_do (evaluate e s) (λ v s. computed_at at (sign_of op t v) s))
    evaluate (typed.binary at op t a b) s =
        tick s (λ s. then_do (evaluate a s) (λ v s. then_do (evaluate b s) (λ w s. computed_at at (operated op t v w) s)))
    -- `&&`, `||`, `?:`, comma: an operand that is not needed is not evaluated (6.5.13p4, 6.5.14p4, 6.5.15p4, 6.5.17p2)
    evaluate (typed.both_true a b) s = tick s (λ s. then_do (evaluate a s) (λ v s.
        choose (truth v) (then_do (evaluate b s) (λ w s. Goes (of_truth (truth w)) s)) (Goes (pos 0) s)))
    evaluate (typed.one_true a b) s = tick s (λ s. then_do (evaluate a s) (λ v s.
        choose (truth v) (Goes (pos 1) s) (then_do (evaluate b s) (λ w s. Goes (of_truth (truth w)) s))))
    evaluate (typed.chosen t c a b) s = tick s (λ s. then_do (evaluate c s) (λ v s.
        then_do (choose (truth v) (evaluate a s) (evaluate b s)) (λ w s. Goes (converted_or_none t w) s)))
    evaluate (typed.sequence a b) s = tick s (λ s. then_do (evaluate a s) (λ v s. evaluate b s))
    -- casts (6.5.4, 6.3.2.2)
    evaluate (typed.cast t e) s = tick s (λ s. then_do (evaluate e s) (λ v s. Goes (converted t v) s))
    evaluate (typed.discarded e) s = tick s (λ s. then_do (evaluate e s) (λ v s. Goes (pos 0) s))
    -- calls (6.5.2.2p4, p10): each argument is converted to its parameter's type
    evaluate (typed.call at callee result used arguments) s =
        tick s (λ s. then_do (pass arguments s) (λ passed s. call_of call at callee used passed s))

    pub pass : Arguments → State → Run (List Passed)
    pass typed.no_arguments s = Goes [] s
    pass (typed.and_number t e more) s =
        then_do (evaluate e s) (λ v s. then_do (pass more s) (λ passed s. Goes (Number (converted t v) ∷ passed) s))
    pass (typed.and_array array more) s =
        then_do (find array s) (λ r s. then_do (pass more s) (λ passed s. Goes (Referred r ∷ passed) s))

  -- an expression that may be left out: a loop without a test goes on (6.8.5.3p2)
  abbrev pub evaluate_or : Option Value → State → Run ℤ
  evaluate_or None s = Goes (pos 1) s
  evaluate_or (Some e) s = evaluate e s
