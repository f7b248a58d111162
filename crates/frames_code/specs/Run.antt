-- The semantics of flat code, by a count of steps. A read of a value that was never set is stuck, and a stuck run promises nothing.
use Rattle.std.specs.Prelude.{ℕ, zero, suc, ◌+◌, ◌-◌, ◌*◌, ◌/◌, ◌%◌, ◌^◌, ◌==◌, ◌&&◌, nat_le, nat_lt, Bool, true, false, not, if◌then◌else◌, List, [], ◌∷◌, map, length, slice_get, Option, Some, None}
use Rattle.rv32.specs.Words.{sign_extended}
use Rattle.rv32.specs.Arithmetic.{compare_of, operate_of, one_if}
use Rattle.csem_events.specs.Events.{Event, Got, GotEnd, Put}
use Rattle.frames_code.specs.declared.code.Operand.{Operand}
use Rattle.frames_code.specs.declared.code.Operand.TheVariants as operand
use Rattle.frames_code.specs.declared.code.Target.{Target}
use Rattle.frames_code.specs.declared.code.Target.TheVariants as target
use Rattle.frames_code.specs.declared.code.Width.{Width}
use Rattle.frames_code.specs.declared.code.Width.TheVariants as width
use Rattle.frames_code.specs.declared.code.Base.{Base}
use Rattle.frames_code.specs.declared.code.Base.TheVariants as base
use Rattle.frames_code.specs.declared.code.Location.{Location}
use Rattle.frames_code.specs.declared.code.Location.TheVariants as location
use Rattle.frames_code.specs.declared.code.Operation.{Operation}
use Rattle.frames_code.specs.declared.code.Operation.TheVariants as operation
use Rattle.frames_code.specs.declared.code.Conversion.{Conversion}
use Rattle.frames_code.specs.declared.code.Conversion.TheVariants as conversion
use Rattle.frames_code.specs.declared.code.Instruction.{Instruction}
use Rattle.frames_code.specs.declared.code.Instruction.TheVariants as instruction
use Rattle.frames_code.specs.Code.{Function, Program, area_home, frame_bytes}

-- a word below 2^32; or a reference: the statics by the number 0, a frame by how many bytes of the stack lie from its
-- start on; and the number of bytes from the start of the statics or of the frame up to its target. So the target of a
-- reference does not depend on which calls are active.
pub data Value : Type 0 where
  word : (w : ℕ) → Value
  reference : (list offset : ℕ) → Value

-- none where nothing was stored yet
abbrev pub Values : Type 0
Values = ℕ → Option Value

abbrev pub Bytes : Type 0
Bytes = ℕ → Option ℕ

abbrev pub unset : {A : Type 0} → ℕ → Option A
unset k = None

abbrev pub with_at : {A : Type 0} → (ℕ → Option A) → ℕ → A → ℕ → Option A
with_at m k x j = if j == k then Some x else m j

-- a call: its function, the number of the instruction where it continues, its words, and the bytes of its arrays, by how many
-- bytes lie from the frame's start up to them
pub record Frame : Type 0 where
  pub function : ℕ
  pub at : ℕ
  pub cells : Values
  pub area : Bytes

-- the call that runs, its temporaries and its arguments from the ninth on; the calls that wait, the newest first; the
-- statics, the input left, and the history of events, the newest first
pub record State : Type 0 where
  pub frame : Frame
  pub temporaries : Values
  pub arguments : Values
  pub waiting : List Frame
  pub statics : Bytes
  pub input : List ℕ
  pub trace : List Event

pub data Progress : Type 0 where
  running : (s : State) → Progress
  ended : (status : ℕ) (input : List ℕ) (trace : List Event) → Progress
  stuck : Progress

-- the calls that are active, the newest first
abbrev pub active : State → List ℕ
active s = map (λ f. f.function) (s.frame ∷ s.waiting)

infixl 10 ◌>>=◌
abbrev pub ◌>>=◌ : {A : Type 0} → Option A → (A → Progress) → Progress
None >>= go = stuck
(Some x) >>= go = go x

abbrev pub word_of : Value → Option ℕ
word_of (word w) = Some w
word_of (reference l o) = None

abbrev pub word_in : Option Value → Option ℕ
word_in None = None
word_in (Some v) = word_of v

pub record Reference : Type 0 where
  pub list : ℕ
  pub offset : ℕ

abbrev pub reference_of : Value → Option Reference
reference_of (word w) = None
reference_of (reference l o) = Some (record { list = l; offset = o })

abbrev pub reference_in : Option Value → Option Reference
reference_in None = None
reference_in (Some v) = reference_of v

-- ---- operands and targets

abbrev pub value : State → Operand → Option Value
value s (operand.Temporary k) = s.temporaries k
value s (operand.Cell c) = s.frame.cells c
value s (operand.Constant v) = Some (word v)
value s (operand.Argument k) = s.arguments k

abbrev pub word_at : State → Operand → Option ℕ
word_at s x = word_in (value s x)

-- on to the next instruction. Arguments are there for the instructions that a function begins with, which move them or do nothing
abbrev pub next : State → State
next s = record s { frame = record s.frame { at = s.frame.at + 1 }; arguments = unset }

abbrev pub set : Target → Value → State → State
set (target.Temporary k) v s = record s { temporaries = with_at s.temporaries k v }
set (target.Cell c) v s = record s { frame = record s.frame { cells = with_at s.frame.cells c v } }

abbrev pub gives : Target → State → Value → Progress
gives d s v = running (set d v (next s))

abbrev pub gives_word : Target → State → ℕ → Progress
gives_word d s w = gives d s (word w)

-- ---- operations

abbrev pub operate : Operation → ℕ → ℕ → ℕ
operate (operation.Machine o) a b = operate_of o a b
operate operation.Equal a b = one_if (a == b)
operate operation.NotEqual a b = one_if (not (a == b))

abbrev pub converted : Conversion → ℕ → ℕ
converted conversion.ToByte a = a % 2 ^ 8
converted conversion.ToSignedByte a = sign_extended 7 (a % 2 ^ 8)
converted conversion.ToHalf a = a % 2 ^ 16
converted conversion.ToSignedHalf a = sign_extended 15 (a % 2 ^ 16)
converted conversion.ToTruth a = one_if (not (a == 0))

-- ---- bytes

abbrev pub size_of : Width → ℕ
size_of width.Byte = 1
size_of width.SignedByte = 1
size_of width.Half = 2
size_of width.SignedHalf = 2
size_of width.Word = 4

abbrev pub joined : Option ℕ → Option ℕ → ℕ → Option ℕ
joined None high n = None
joined (Some low) None n = None
joined (Some low) (Some high) n = Some (low + high * 2 ^ n)

abbrev pub half_in : Bytes → ℕ → Option ℕ
half_in b o = joined (b o) (b (o + 1)) 8

abbrev pub extended : ℕ → Option ℕ → Option ℕ
extended k None = None
extended k (Some v) = Some (sign_extended k v)

abbrev pub element_in : Width → Bytes → ℕ → Option ℕ
element_in width.Byte b o = b o
element_in width.SignedByte b o = extended 7 (b o)
element_in width.Half b o = half_in b o
element_in width.SignedHalf b o = extended 15 (half_in b o)
element_in width.Word b o = joined (half_in b o) (half_in b (o + 2)) 16

abbrev pub with_half : Bytes → ℕ → ℕ → Bytes
with_half b o v = with_at (with_at b o (v % 2 ^ 8)) (o + 1) (v / 2 ^ 8 % 2 ^ 8)

abbrev pub with_element : Width → Bytes → ℕ → ℕ → Bytes
with_element width.Byte b o v = with_at b o (v % 2 ^ 8)
with_element width.SignedByte b o v = with_at b o (v % 2 ^ 8)
with_element width.Half b o v = with_half b o v
with_element width.SignedHalf b o v = with_half b o v
with_element width.Word b o v = with_half (with_half b o v) (o + 2) (v / 2 ^ 16)

-- ---- lists of bytes

abbrev pub function_at : Program → ℕ → Function
function_at p f = or_none (slice_get p.functions f)
  where
    or_none : Option Function → Function
    or_none None = record { code = []; cells = 0; resident = 0; area = 0; outgoing = 0; gives = false }
    or_none (Some g) = g

abbrev pub bytes_of : Program → List Frame → ℕ
bytes_of p [] = 0
bytes_of p (f ∷ fs) = frame_bytes (function_at p f.function) + bytes_of p fs

-- a frame over the frames that wait
abbrev pub name_of : Program → Frame → List Frame → ℕ
name_of p f fs = frame_bytes (function_at p f.function) + bytes_of p fs

-- the bytes of a list, the offset of the first, and the one past the last
pub record Memory : Type 0 where
  pub bytes : Bytes
  pub first : ℕ
  pub past : ℕ

-- the arrays of a frame
abbrev pub arrays : Function → Bytes → Memory
arrays f b = record { bytes = b; first = area_home f; past = area_home f + f.area }

abbrev pub memory_among : Program → List Frame → ℕ → Option Memory
memory_among p [] l = None
memory_among p (f ∷ fs) l =
    if name_of p f fs == l then Some (arrays (function_at p f.function) f.area) else memory_among p fs l

abbrev pub memory : Program → State → ℕ → Option Memory
memory p s zero = Some (record { bytes = s.statics; first = 0; past = length p.statics })
memory p s (suc l) = memory_among p (s.frame ∷ s.waiting) (suc l)

abbrev pub changed_among : Program → List Frame → ℕ → Bytes → List Frame
changed_among p [] l b = []
changed_among p (f ∷ fs) l b =
    if name_of p f fs == l then record f { area = b } ∷ fs else f ∷ changed_among p fs l b

abbrev pub with_frames : State → List Frame → State
with_frames s [] = s
with_frames s (f ∷ fs) = record s { frame = f; waiting = fs }

abbrev pub with_memory : Program → State → ℕ → Bytes → State
with_memory p s zero b = record s { statics = b }
with_memory p s (suc l) b = with_frames s (changed_among p (s.frame ∷ s.waiting) (suc l) b)

-- an element lies within its list, at a multiple of its size
abbrev pub fits : Width → ℕ → Memory → Bool
fits w o m = (o % size_of w == 0) && (nat_le m.first o && nat_le (o + size_of w) m.past)

abbrev pub base_of : Program → State → Base → Reference
base_of p s (base.Statics o) = record { list = 0; offset = o }
base_of p s (base.Frame o) = record { list = name_of p s.frame s.waiting; offset = area_home (function_at p s.frame.function) + o }

-- a number of elements further on
abbrev pub indexed : Reference → ℕ → Option ℕ → Option Reference
indexed r size None = None
indexed r size (Some n) = Some (record { list = r.list; offset = r.offset + n * size })

abbrev pub place : Program → State → Location → Option Reference
place p s (location.Statics o) = Some (record { list = 0; offset = o })
place p s (location.Frame o) =
    Some (record { list = name_of p s.frame s.waiting; offset = area_home (function_at p s.frame.function) + o })
place p s (location.At x) = reference_in (value s x)
place p s (location.Indexed b y size) = indexed (base_of p s b) size (word_at s y)

abbrev pub loaded : Program → State → Width → Target → Reference → Progress
loaded p s w d r =
    memory p s r.list >>= λ m. if fits w r.offset m then element_in w m.bytes r.offset >>= gives_word d s else stuck

abbrev pub stored : Program → State → Width → ℕ → Reference → Progress
stored p s w v r =
    memory p s r.list >>= λ m. if fits w r.offset m then running (with_memory p (next s) r.list (with_element w m.bytes r.offset v)) else stuck

-- ---- calls

-- those that a call finds in registers, and those that it finds in the frame of its caller
abbrev pub below_eight : Values → Values
below_eight temporaries k = if nat_lt k 8 then temporaries k else None

abbrev pub from_eight : Values → Values
from_eight temporaries k = if nat_lt k 8 then None else temporaries k

-- all temporaries but the result are lost in a call
abbrev pub result_alone : Option Value → Values
result_alone v k = if k == 0 then v else None

abbrev pub entered : State → ℕ → State
entered s f = record s {
  frame = record { function = f; at = 0; cells = unset; area = unset };
  temporaries = below_eight s.temporaries;
  arguments = from_eight s.temporaries;
  waiting = record s.frame { at = s.frame.at + 1 } ∷ s.waiting;
}

-- a function without a result passes none (6.8.6.4)
abbrev pub result_if : Bool → Option Value → Option Value
result_if true v = v
result_if false v = None

-- what the call that runs passes to its caller
abbrev pub result_of : Program → State → Option Value
result_of p s = result_if (function_at p s.frame.function).gives (s.temporaries 0)

-- main's result is the status (5.1.2.2.3)
abbrev pub returned : State → (result : Option Value) → List Frame → Progress
returned s v [] = word_in v >>= λ w. ended (w % 2 ^ 8) s.input s.trace
returned s v (f ∷ fs) = running (record s { frame = f; temporaries = result_alone v; arguments = unset; waiting = fs })

abbrev pub got : State → List ℕ → Progress
got s [] = running (record (next s) { temporaries = result_alone (Some (word (2 ^ 32 - 1))); trace = GotEnd ∷ s.trace })
got s (b ∷ rest) = running (record (next s) { temporaries = result_alone (Some (word b)); input = rest; trace = Got b ∷ s.trace })

abbrev pub put : State → ℕ → Progress
put s v = running (record (next s) { temporaries = unset; trace = Put (v % 2 ^ 8) ∷ s.trace })

-- ---- steps

abbrev pub goes_to : State → ℕ → State
goes_to s to = record s { frame = record s.frame { at = to }; arguments = unset }

-- arguments stay
abbrev pub past : State → State
past s = record s { frame = record s.frame { at = s.frame.at + 1 } }

abbrev pub act : Program → State → Instruction → Progress
act p s instruction.Nothing = running (past s)
act p s (instruction.Move d x) = value s x >>= λ v. running (set d v (past s))
act p s (instruction.Compute o d x y) = word_at s x >>= λ a. word_at s y >>= λ b. gives_word d s (operate o a b)
act p s (instruction.Convert c d x) = word_at s x >>= λ a. gives_word d s (converted c a)
act p s (instruction.Load w d l) = place p s l >>= loaded p s w d
act p s (instruction.Store w x l) = word_at s x >>= λ a. place p s l >>= stored p s w a
act p s (instruction.Address d l) = place p s l >>= λ r. gives d s (reference r.list r.offset)
act p s (instruction.Element d x y size) =
    reference_in (value s x) >>= λ r. word_at s y >>= λ n. gives d s (reference r.list (r.offset + n * size))
act p s (instruction.Jump to) = running (goes_to s to)
act p s (instruction.Branch t x y to) =
    word_at s x >>= λ a. word_at s y >>= λ b. running (if compare_of t a b then goes_to s to else next s)
act p s (instruction.Call f) = running (entered s f)
act p s instruction.PutByte = word_at s (operand.Temporary 0) >>= put s
act p s instruction.GetByte = got s s.input
act p s instruction.Exit = word_at s (operand.Temporary 0) >>= λ v. ended (v % 2 ^ 8) s.input s.trace
act p s instruction.Return = returned s (result_of p s) s.waiting

unfoldable pub step : Program → State → Progress
step p s = slice_get (function_at p s.frame.function).code s.frame.at >>= act p s

abbrev pub goes_on : Progress → (State → Progress) → Progress
goes_on (running s) go = go s
goes_on (ended status input trace) go = ended status input trace
goes_on stuck go = stuck

-- n steps
abbrev pub run : Program → ℕ → State → Progress
run p zero s = running s
run p (suc n) s = goes_on (step p s) (run p n)

abbrev pub start : Program → List ℕ → State
start p input = record {
  frame = record { function = p.main; at = 0; cells = unset; area = unset };
  temporaries = unset;
  arguments = unset;
  waiting = [];
  statics = slice_get p.statics;
  input = input;
  trace = [];
}
