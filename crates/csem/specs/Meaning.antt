-- The behaviour of a program (ISO/IEC 9899:2011 5.1.2.3, 6.5.2.2, 6.9.1), with a clock of n ticks.
use Rattle.std.specs.Prelude.{ℕ, zero, suc, List, [], ◌∷◌, ◌++◌, map, take, drop, reverse, length, Option, Some, None, Bool, true, false, ℤ, pos, nat_eq, slice_get, option_map}
use Rattle.ctypes.specs.Types.{modulo}
use Rattle.csem_events.specs.Events.{Event, written}
use Rattle.typing_spec.specs.Types.{ObjectType}
use Rattle.typing_spec.specs.Program.{Function, Program}
use Rattle.csem.specs.Store.{Tree, Element, Reference, indeterminate, first_store}
use Rattle.csem.specs.History.{Entered, Left, trace_of, weight_in, greatest_sum}
use Rattle.csem.specs.Machine.{State, Ending, Ended, TicksUsed, Run, Goes, Stops, then_do, ticks}
use Rattle.csem.specs.Expressions.{Passed, Number, Referred, Calling}
use Rattle.csem.specs.Statements.{Flow, Normal, Broken, Continued, Returned, execute}

-- ---- calls of functions (6.5.2.2p4, 6.9.1)

-- the parameters that are numbers are objects with the values of their arguments, the others refer to arrays (6.9.1p9, p10)
abbrev pub numbers_of : List Passed → List Tree
numbers_of [] = []
numbers_of (Number v ∷ more) = Element (Some v) ∷ numbers_of more
numbers_of (Referred r ∷ more) = numbers_of more

abbrev pub arrays_of : List Passed → List Reference
arrays_of [] = []
arrays_of (Number v ∷ more) = arrays_of more
arrays_of (Referred r ∷ more) = r ∷ arrays_of more

-- the objects of a call: these parameters, then the others
abbrev pub objects_of : List ObjectType → List Passed → List Tree
objects_of objects passed = numbers_of passed ++ map indeterminate (drop (length (numbers_of passed)) objects)

-- the word to which a number's type extends it (two's complement, 32 bits)
abbrev pub word_of : ℤ → ℕ
word_of v = modulo 32 v

abbrev pub words_of : List Passed → List (Option ℕ)
words_of [] = []
words_of (Number v ∷ more) = Some (word_of v) ∷ words_of more
words_of (Referred r ∷ more) = None ∷ words_of more

abbrev pub enter : ℕ → Function → List Passed → State → State
enter f g passed s = record s {
  store = s.store ++ objects_of g.objects passed;
  base = length s.store;
  arrays = arrays_of passed;
  history = Entered f (words_of passed) ∷ s.history;
}

-- with a call its objects end, and the caller goes on with its own (6.2.4p6)
abbrev pub leave : (caller : State) → (result : Option ℤ) → State → State
leave caller result s = record s {
  store = take (length caller.store) s.store;
  base = caller.base;
  arrays = caller.arrays;
  history = Left (option_map word_of result) ∷ s.history;
}

-- the end of main's body returns 0, as in a hosted program (5.1.2.2.3p1), that of another function nothing (6.9.1p12)
abbrev pub value_at_end : (is_main : Bool) → Option ℤ
value_at_end true = Some (pos 0)
value_at_end false = None

abbrev pub value_left : (is_main : Bool) → Flow → Option ℤ
value_left is_main Normal = value_at_end is_main
value_left is_main Broken = value_at_end is_main
value_left is_main Continued = value_at_end is_main
value_left is_main (Returned v) = v

-- a call enters the definition, each parameter and the body
abbrev pub body_of : Program → Calling → Function → State → Run Flow
body_of p call g s = then_do (ticks (suc (length g.type.parameters)) s) (λ u s. execute p call g.objects g.body s)

abbrev pub call_defined : Program → Calling → Option Function → Calling
call_defined p call None f passed s = Goes None s
call_defined p call (Some g) f passed s =
    then_do (body_of p call g (enter f g passed s)) (λ flow s2.
    Goes (value_left (nat_eq f p.main) flow) (leave s (value_left (nat_eq f p.main) flow) s2))

-- calls at most n deep: each takes a tick, so that as many as the clock has ticks and one are enough
abbrev pub calling : Program → ℕ → Calling
calling p zero f passed s = Stops TicksUsed s
calling p (suc n) f passed s = call_defined p (calling p n) (slice_get p.functions f) f passed s

-- ---- the run (5.1.2.2.1, 5.1.2.2.3)

-- before main is called
abbrev pub start : ℕ → Program → List ℕ → State
start n p input = record { clock = n; store = first_store p; base = 0; arrays = []; input = input; history = [] }

-- the status is the low 8 bits of main's value
abbrev pub status_of : Option ℤ → ℕ
status_of None = 0
status_of (Some v) = modulo 8 v

abbrev pub end_with : Option ℤ → State → Run (Option ℤ)
end_with v s = Stops (Ended (status_of v)) s

-- the run of p on this input with a clock of n
abbrev pub cstep : ℕ → Program → List ℕ → Run (Option ℤ)
cstep n p input = then_do (calling p (suc n) p.main [] (start n p input)) end_with

-- ---- the observable behaviour of a run

abbrev pub ending_of : Run (Option ℤ) → Ending
ending_of (Goes v s) = TicksUsed
ending_of (Stops e s) = e

abbrev pub last_of : {A : Type 0} → Run A → State
last_of (Goes v s) = s
last_of (Stops e s) = s

-- how it ended, its events in order, the bytes written, the input left, and the greatest sum of the weights of the calls active at one time
pub record Answer : Type 0 where
  pub ending : Ending
  pub trace : List Event
  pub output : List ℕ
  pub input_left : List ℕ
  pub greatest : ℕ

abbrev pub answer_of : Program → Run (Option ℤ) → Answer
answer_of p r = record {
  ending = ending_of r;
  trace = reverse (trace_of (last_of r).history);
  output = written (trace_of (last_of r).history);
  input_left = (last_of r).input;
  greatest = greatest_sum (weight_in p) (last_of r).history;
}

-- the behaviour of p on this input with a clock of n
abbrev pub answer : ℕ → Program → List ℕ → Answer
answer n p input = answer_of p (cstep n p input)
