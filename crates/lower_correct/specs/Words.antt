-- The words that calls pass and return, in three-address code of a typed program: those of the history are those of the temporaries.
use Rattle.std.specs.Prelude.{◌≡◌, ℕ, true, pos, List, [], ◌∷◌, Option, Some, None, slice_get}
use Rattle.ctypes.specs.declared.types.IntType.{IntType}
use Rattle.ctypes.specs.Types.{converted}
use Rattle.typing_spec.specs.Types.{ParameterType, number, elements}
use Rattle.typing_spec.specs.WellTyped.{is_typed}
use Rattle.typing_spec.specs.Program as typed
use Rattle.csem.specs.History.{Entry, Entered, Left}
use Rattle.csem.specs.Meaning.{word_of}
use Rattle.tac_code.specs.declared.code.Instruction.TheVariants as instruction
use Rattle.tac_code.specs.Code.{Program}
use Rattle.tac_code.specs.Run.{State, Progress, running, ended, stuck, word, instruction_at, step}
use Rattle.tac_code.specs.Lowered.{IsLowered}

-- the word of a value of t: that of the value which it represents
abbrev pub IsWordOf : IntType → ℕ → Type 0
IsWordOf t w = word_of (converted t (pos w)) ≡ w

-- ---- arguments

-- of a number a word of its type, of an array none
abbrev pub IsPassed : ParameterType → Option ℕ → Type 0
IsPassed (number t) None = ⊥
IsPassed (number t) (Some w) = IsWordOf t w
IsPassed (elements o) x = x ≡ None

-- one for each parameter
abbrev pub ArePassed : List ParameterType → List (Option ℕ) → Type 0
ArePassed [] words = words ≡ []
ArePassed (t ∷ more) [] = ⊥
ArePassed (t ∷ more) (x ∷ words) = IsPassed t x × ArePassed more words

-- A call of function g adds to the history that it began, with words for its parameters; the word of each number is that of the temporary of its number, before
-- the call.
abbrev pub PassesWords : (f : typed.Function) (g : ℕ) (t u : State) → Type 0
PassesWords f g t u =
    (words : List (Option ℕ)) × (u.history ≡ Entered g words ∷ t.history) × ArePassed f.type.parameters words
    × ((i w : ℕ) → slice_get words i ≡ Some (Some w) → t.temporaries i ≡ Some (word w))

abbrev pub CallsPassWords : Type 0
CallsPassWords = (p : typed.Program) (q : Program) → is_typed p ≡ true → IsLowered p q
    → (t u : State) (g : ℕ) (f : typed.Function) → instruction_at q t ≡ Some (instruction.Call g) → step q t ≡ running u → slice_get p.functions g ≡ Some f
    → PassesWords f g t u

-- ---- results

-- a function that returns no number returns nothing; another one a word of its type, or nothing, where its end is reached (6.9.1p12)
abbrev pub IsReturned : Option IntType → Option ℕ → Type 0
IsReturned None result = result ≡ None
IsReturned (Some t) None = Unit {0}
IsReturned (Some t) (Some w) = IsWordOf t w

-- The return from a call adds to the history that it ended, with its result; if this is a word, temporary 0 had it.
abbrev pub LeavesWord : (f : typed.Function) (t : State) (history : List Entry) → Type 0
LeavesWord f t history =
    (result : Option ℕ) × (history ≡ Left result ∷ t.history) × IsReturned f.type.result result
    × ((w : ℕ) → result ≡ Some w → t.temporaries 0 ≡ Some (word w))

-- the return from the first call ends the run
abbrev pub ReturnsWord : (f : typed.Function) (t : State) → Progress → Type 0
ReturnsWord f t (running u) = LeavesWord f t u.history
ReturnsWord f t (ended status input history) = LeavesWord f t history
ReturnsWord f t stuck = Unit {0}

abbrev pub ReturnsPassWords : Type 0
ReturnsPassWords = (p : typed.Program) (q : Program) → IsLowered p q
    → (t : State) (f : typed.Function) → instruction_at q t ≡ Some instruction.Return → slice_get p.functions t.call.function ≡ Some f
    → ReturnsWord f t (step q t)
