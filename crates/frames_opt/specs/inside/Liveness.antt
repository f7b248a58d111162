-- Which temporaries an instruction reads and writes.
use Rattle.std.specs.Prelude.{ℕ, ◌==◌, ◌&&◌, ◌||◌, Bool, true, false, Option, Some, None}
use Rattle.frames_code.specs.declared.code.Operand.{Operand}
use Rattle.frames_code.specs.declared.code.Operand.TheVariants as operand
use Rattle.frames_code.specs.declared.code.Target.{Target}
use Rattle.frames_code.specs.declared.code.Target.TheVariants as target
use Rattle.frames_code.specs.declared.code.Location.{Location}
use Rattle.frames_code.specs.declared.code.Location.TheVariants as location
use Rattle.frames_code.specs.declared.code.Instruction.{Instruction}
use Rattle.frames_code.specs.declared.code.Instruction.TheVariants as instruction
use Rattle.frames_opt.specs.declared.statuses.Status.{Status}
use Rattle.frames_opt.specs.declared.statuses.Status.TheVariants as status

abbrev pub names : ℕ → Operand → Bool
names k (operand.Temporary j) = j == k
names k (operand.Cell c) = false
names k (operand.Constant v) = false
names k (operand.Argument j) = false

abbrev pub is_through : ℕ → Location → Bool
is_through k (location.Statics o) = false
is_through k (location.Frame o) = false
is_through k (location.At x) = names k x
is_through k (location.Indexed b y size) = names k y

-- as an index alone
abbrev pub is_by : ℕ → Location → Bool
is_by k (location.Statics o) = false
is_by k (location.Frame o) = false
is_by k (location.At x) = false
is_by k (location.Indexed b y size) = names k y

-- an access at a reference does not want it, where the temporary holds the index in its place
abbrev pub wants : Status → ℕ → Location → Bool
wants status.Same k l = is_through k l
wants status.Dead k l = is_through k l
wants (status.Index b size) k l = is_by k l

-- it reads what the old code has in temporary k, where the new code's is as told; a call, a byte put or got, and an exit count as reading all, and a
-- return reads the result, if the function has one
abbrev pub reads : (gives : Bool) → Status → ℕ → Instruction → Bool
reads gives z k instruction.Nothing = false
reads gives z k (instruction.Move d x) = names k x
reads gives z k (instruction.Compute o d x y) = names k x || names k y
reads gives z k (instruction.Convert c d x) = names k x
reads gives z k (instruction.Load w d l) = wants z k l
reads gives z k (instruction.Store w x l) = names k x || wants z k l
reads gives z k (instruction.Address d l) = is_through k l
reads gives z k (instruction.Element d x y size) = names k x || names k y
reads gives z k (instruction.Jump to) = false
reads gives z k (instruction.Branch t x y to) = names k x || names k y
reads gives z k (instruction.Call f) = true
reads gives z k instruction.PutByte = true
reads gives z k instruction.GetByte = true
reads gives z k instruction.Exit = true
reads gives z k instruction.Return = gives && (k == 0)

abbrev pub temporary_of : Target → Option ℕ
temporary_of (target.Temporary k) = Some k
temporary_of (target.Cell c) = None

abbrev pub written : Instruction → Option ℕ
written instruction.Nothing = None
written (instruction.Move d x) = temporary_of d
written (instruction.Compute o d x y) = temporary_of d
written (instruction.Convert c d x) = temporary_of d
written (instruction.Load w d l) = temporary_of d
written (instruction.Store w x l) = None
written (instruction.Address d l) = temporary_of d
written (instruction.Element d x y size) = temporary_of d
written (instruction.Jump to) = None
written (instruction.Branch t x y to) = None
written (instruction.Call f) = None
written instruction.PutByte = None
written instruction.GetByte = None
written instruction.Exit = None
written instruction.Return = None

abbrev pub is_number : ℕ → Option ℕ → Bool
is_number k None = false
is_number k (Some j) = j == k

abbrev pub is_written : ℕ → Instruction → Bool
is_written k x = is_number k (written x)
