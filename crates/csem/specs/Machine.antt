-- The state of the abstract machine (ISO/IEC 9899:2011 5.1.2.3), its clock, and its operations on the store.
use Rattle.std.specs.Prelude.{ℕ, zero, suc, ◌+◌, List, length, Option, Some, None, Bool, true, false, ℤ, pos, negsuc, nat_lt, slice_get, Result, Ok, Err}
use Rattle.srcset.specs.declared.refusal.Pos.{Pos}
use Rattle.ctypes.specs.declared.operators.Undef.{Undef}
use Rattle.ctypes.specs.declared.operators.Undef.TheVariants.{U5, U6, U7}
use Rattle.typing_spec.specs.Program as typed
use Rattle.typing_spec.specs.Program.{Storage, Program}
use Rattle.csem.specs.Store.{Store, Reference, whole, into, tree_at, length_of, value_at, set_value}
use Rattle.csem.specs.History.{Entry}

-- the point of a run: the ticks that its clock has left, the objects that live (those of the present call from number `base` on), the arrays that the array
-- parameters of the present call refer to, the input left, and the history, the newest entry first
pub record State : Type 0 where
  pub clock : ℕ
  pub store : Store
  pub base : ℕ
  pub arrays : List Reference
  pub input : List ℕ
  pub history : List Entry

-- how a run ends: with a status, at undefined behaviour, or because the clock has no tick left
pub data Ending : Type 0 where
  Ended : (status : ℕ) → Ending
  Undefined : (act : Undef) (at : Pos) → Ending
  TicksUsed : Ending

-- a part of the run gives something and the run goes on, or the run stops in it
pub data Run (A : Type 0) : Type 0 where
  Goes : A → State → Run A
  Stops : Ending → State → Run A

-- and then
abbrev pub then_do : {A B : Type 0} → Run A → (A → State → Run B) → Run B
then_do (Goes a s) go = go a s
then_do (Stops e s) go = Stops e s

abbrev pub choose : {A : Type 0} → Bool → A → A → A
choose true a b = a
choose false a b = b

-- ---- the clock

abbrev pub tick_of : {A : Type 0} → ℕ → State → (State → Run A) → Run A
tick_of zero s go = Stops TicksUsed s
tick_of (suc n) s go = go (record s { clock = n })

-- one tick, and then
abbrev pub tick : {A : Type 0} → State → (State → Run A) → Run A
tick s go = tick_of s.clock s go

abbrev pub ticks : ℕ → State → Run (Unit {0})
ticks zero s = Goes tt s
ticks (suc n) s = tick s (λ s. ticks n s)

-- ---- undefined behaviour (4p2): the first one ends the run, at its place

abbrev pub undefined : {A : Type 0} → Undef → Pos → State → Run A
undefined act at s = Stops (Undefined act at) s

-- an operation's value, or the undefined behaviour that it is, at its operator
abbrev pub computed_at : Pos → Result ℤ Undef → State → Run ℤ
computed_at at (Ok v) s = Goes v s
computed_at at (Err act) s = undefined act at s

-- ---- objects

abbrev pub or_first : Option Reference → Reference
or_first None = whole 0
or_first (Some r) = r

-- the object that a name or a string literal designates (6.5.1p2, p4)
abbrev pub designated : Program → Storage → State → Reference
designated p (typed.literal n) s = whole n
designated p (typed.static n) s = whole (length p.literals + n)
designated p (typed.automatic n) s = whole (s.base + n)
designated p (typed.parameter n) s = or_first (slice_get s.arrays n)

-- the element or row v of the array at r (6.5.2.1p2); outside it is undefined, at the `[` (6.5.6p8)
abbrev pub subscripted : Pos → Reference → ℤ → State → Run Reference
subscripted at r (pos i) s = choose (nat_lt i (length_of (tree_at s.store r))) (Goes (into r i) s) (undefined U5 at s)
subscripted at r (negsuc i) s = undefined U5 at s

-- the value of the element at r; an indeterminate one is undefined, at the name or the `[` (6.3.2.1p2 says so of whole automatic
-- objects; here it is so of elements too)
abbrev pub value_or_undefined : Pos → Option ℤ → State → Run ℤ
value_or_undefined at None s = undefined U6 at s
value_or_undefined at (Some v) s = Goes v s

abbrev pub read : Pos → Reference → State → Run ℤ
read at r s = value_or_undefined at (value_at s.store r) s

-- the element at r becomes v (6.5.16p3); in a string literal that is undefined, at the operator (6.4.5p7)
abbrev pub stored : Reference → ℤ → State → State
stored r v s = record s { store = set_value s.store r v }

abbrev pub write : Program → Pos → Reference → ℤ → State → Run ℤ
write p at r v s = choose (nat_lt r.object (length p.literals)) (undefined U7 at s) (Goes v (stored r v s))
