-- Functions as they are written, before the program that they are part of is there.
use Rattle.std.specs.Prelude.{◌≡◌, ℕ, suc, Bool, max, List, length, map, Option, Some, None, slice_get, nat_eq}
use Rattle.typing_spec.specs.Program as typed
use Rattle.tac_code.specs.declared.code.Instruction.{Instruction}
use Rattle.tac_code.specs.declared.code.Instruction.TheVariants as instruction
use Rattle.tac_code.specs.Code.{Function, Program, function_at}
use Rattle.tac_code.specs.Lowered.{kind_of}
use Rattle.lower_correct.specs.Code.{One}
use Rattle.lower_correct.specs.Bodies.{Stands, Idles, Closes, temporary_in, temporary_to, temporary_at, most, slots_of, IsFunctionFor, IsCodeFor}

-- how many parameters the function of a number has
abbrev pub parameters_if : Option typed.Function → ℕ
parameters_if None = 0
parameters_if (Some f) = length f.type.parameters

abbrev pub parameters_at : List typed.Function → ℕ → ℕ
parameters_at functions f = parameters_if (slice_get functions f)

-- how many temporaries an instruction needs, where functions have these numbers of parameters
abbrev pub temporaries_with : (ℕ → ℕ) → Instruction → ℕ
temporaries_with count (instruction.Move g x) = max (temporary_to g) (temporary_in x)
temporaries_with count (instruction.Compute o r g x y) = max (temporary_to g) (max (temporary_in x) (temporary_in y))
temporaries_with count (instruction.Convert t g x) = max (temporary_to g) (temporary_in x)
temporaries_with count (instruction.Load t g a) = max (temporary_to g) (temporary_at a)
temporaries_with count (instruction.Store t x a) = max (temporary_in x) (temporary_at a)
temporaries_with count (instruction.Address g a) = max (temporary_to g) (temporary_at a)
temporaries_with count (instruction.Part g x y size) = max (temporary_to g) (max (temporary_in x) (temporary_in y))
temporaries_with count (instruction.Element t g x y) = max (temporary_to g) (max (temporary_in x) (temporary_in y))
temporaries_with count (instruction.Branch c r x y to) = max (temporary_in x) (temporary_in y)
temporaries_with count (instruction.Call f) = max 1 (count f)
temporaries_with count instruction.PutByte = 1
temporaries_with count instruction.GetByte = 1
temporaries_with count instruction.Exit = 1
temporaries_with count instruction.Return = 1
temporaries_with count i = 0

-- the code of a function: its ticks at entry, its body, its end and its Return
pub record IsBodyOf (p : typed.Program) (is_main : Bool) (f : typed.Function) (code : List Instruction) : Type 0 where
  pub start : ℕ
  pub end : ℕ
  pub back : ℕ
  pub idles : Idles code (suc (length f.type.parameters)) 0 start
  pub body : Stands code p f f.body end end back start end
  pub closes : Closes code is_main end back
  pub leaves : One code instruction.Return back (length code)

pub record IsFunctionWith (p : typed.Program) (is_main : Bool) (f : typed.Function) (g : Function) : Type 0 where
  pub code : IsBodyOf p is_main f g.code
  pub objects : g.objects ≡ f.objects
  pub parameters : g.parameters ≡ map kind_of f.type.parameters
  pub result : g.result ≡ f.type.result
  pub temporaries : g.temporaries ≡ most (temporaries_with (parameters_at p.functions)) g.code
  pub kept : g.kept ≡ most slots_of g.code

-- ---- laws

-- it is code in each program whose functions have as many parameters
abbrev pub FunctionIsCode : Type 0
FunctionIsCode = (p : typed.Program) (q : Program) → ((n : ℕ) → length (function_at q n).parameters ≡ parameters_at p.functions n)
    → (is_main : Bool) (f : typed.Function) (g : Function) → IsFunctionWith p is_main f g → IsFunctionFor p q is_main f g

-- so functions that were made one by one are the code of a program
abbrev pub FunctionsAreCode : Type 0
FunctionsAreCode = (p : typed.Program) (q : Program) → q.literals ≡ p.literals → q.statics ≡ p.statics → q.main ≡ p.main → length q.functions ≡ length p.functions
    → ((n : ℕ) (f : typed.Function) (g : Function) → slice_get p.functions n ≡ Some f → slice_get q.functions n ≡ Some g → IsFunctionWith p (nat_eq n p.main) f g)
    → IsCodeFor p q
