-- The relation of a state of flat code to one of three-address code.
use Rattle.std.specs.Prelude.{◌≡◌, ◌≤◌, ◌<◌, ℕ, ◌+◌, ◌*◌, ◌^◌, Bool, true, not, List, [], ◌∷◌, ◌++◌, map, length, slice_get, Option, Some, None, ℤ}
use Rattle.ctypes.specs.declared.types.IntType.{IntType}
use Rattle.ctypes.specs.declared.types.IntType.TheVariants as ty
use Rattle.ctypes.specs.Types.{bytes_of}
use Rattle.typing_spec.specs.Types.{ObjectType, elements_in, size_of_object}
use Rattle.typing_spec.specs.Program.{Static}
use Rattle.typing_spec.specs.Units.{in_words}
use Rattle.csem.specs.Store.{Tree, Element, Array, Row, no_parts, and_part, Store, Reference, whole, at_path, value_at, parts}
use Rattle.csem.specs.History.{trace_of}
use Rattle.tac_code.specs.Code as tac
use Rattle.tac_code.specs.Code.{scalar_type}
use Rattle.tac_code.specs.Costs.{array_parameters}
use Rattle.tac_code.specs.Run as tac_run
use Rattle.tac_code.specs.Run.{word_for, open_calls}
use Rattle.tac_code.specs.Sound.{AreBytes, static_bytes}
use Rattle.frames_code.specs.Code as flat
use Rattle.frames_code.specs.Code.{frame_bytes, area_home}
use Rattle.frames_code.specs.Run as flat_run
use Rattle.frames_code.specs.Run.{Bytes, Memory, Frame, memory, element_in}
use Rattle.frames.specs.Layout.{is_scalar, bytes_of_array, layout_of, starts_of}
use Rattle.frames.specs.Translated.{width_of, flat_function}
use Rattle.frames.specs.Laws.{cell}

-- ---- places of objects

-- an object: whether it is in bytes; the list of these, how many of them precede it; its type
pub record Spot : Type 0 where
  pub in_bytes : Bool
  pub list : ℕ
  pub offset : ℕ
  pub type : ObjectType

-- the objects that are consecutive in a list, and how many bytes each takes
pub record Piece : Type 0 where
  pub in_bytes : Bool
  pub size : ℕ
  pub type : ObjectType

abbrev pub spot_of : ℕ → ℕ → Piece → Spot
spot_of list offset p = record { in_bytes = p.in_bytes; list = list; offset = offset; type = p.type }

abbrev pub spots_from : (list offset : ℕ) → List Piece → List Spot
spots_from list offset [] = []
spots_from list offset (p ∷ ps) = spot_of list offset p ∷ spots_from list (offset + p.size) ps

abbrev pub literal_piece : List ℕ → Piece
literal_piece text = record { in_bytes = true; size = in_words (length text); type = record { element = ty.Char; constant = true; lengths = length text ∷ [] } }

-- an object that is only declared has no bytes
abbrev pub static_piece : Static → Piece
static_piece o = record { in_bytes = o.defined; size = static_bytes o.defined (size_of_object o.type); type = o.type }

-- one that is no array has a word of the frame
abbrev pub own_piece : ObjectType → Piece
own_piece t = record { in_bytes = not (is_scalar t.lengths); size = bytes_of_array t; type = t }

abbrev pub function_for : tac.Program → ℕ → flat.Function
function_for q f = flat_function (starts_of q) (tac.function_at q f)

-- the bytes of the frames of these functions
abbrev pub stack_bytes : tac.Program → List ℕ → ℕ
stack_bytes q [] = 0
stack_bytes q (f ∷ fs) = frame_bytes (function_for q f) + stack_bytes q fs

-- of the objects that live where these functions' calls are open, the innermost first: the literals and the statics after 16 bytes, then those of the calls
abbrev pub spots : tac.Program → List ℕ → List Spot
spots q [] = spots_from 0 16 (map literal_piece q.literals ++ map static_piece q.statics)
spots q (f ∷ fs) =
    spots q fs ++ spots_from (stack_bytes q (f ∷ fs)) (area_home (function_for q f)) (map own_piece (tac.function_at q f).objects)

-- ---- the targets of references

-- how many elements precede the part that the subscripts name
abbrev pub elements_before : (lengths path : List ℕ) → ℕ
elements_before [] path = 0
elements_before (n ∷ lengths) [] = 0
elements_before (n ∷ lengths) (i ∷ path) = i * elements_in lengths + elements_before lengths path

abbrev pub IsPath : (lengths path : List ℕ) → Type 0
IsPath lengths [] = Unit {0}
IsPath [] (i ∷ path) = ⊥
IsPath (n ∷ lengths) (i ∷ path) = (i < n) × IsPath lengths path

abbrev pub offset_at : Spot → List ℕ → ℕ
offset_at x path = x.offset + bytes_of x.type.element * elements_before x.type.lengths path

abbrev pub list_in : Option Spot → ℕ
list_in None = 0
list_in (Some x) = x.list

abbrev pub offset_in : Option Spot → List ℕ → ℕ
offset_in None path = 0
offset_in (Some x) path = offset_at x path

-- a value as flat code has it: of a reference the list and the offset
abbrev pub shown : List Spot → tac_run.Value → flat_run.Value
shown xs (tac_run.word w) = flat_run.word w
shown xs (tac_run.reference r) = flat_run.reference (list_in (slice_get xs r.object)) (offset_in (slice_get xs r.object) r.path)

-- the object is in bytes, and has the part
pub record Leads (xs : List Spot) (r : Reference) : Type 0 where
  pub spot : Spot
  pub spot_is : slice_get xs r.object ≡ Some spot
  pub in_bytes : spot.in_bytes ≡ true
  pub path : IsPath spot.type.lengths r.path

abbrev pub Good : List Spot → tac_run.Value → Type 0
Good xs (tac_run.word w) = w < 2 ^ 32
Good xs (tac_run.reference r) = Leads xs r

-- a value is good, and shown here
abbrev pub Shows : List Spot → tac_run.Value → Option flat_run.Value → Type 0
Shows xs v place = Good xs v × (place ≡ Some (shown xs v))

abbrev pub AllShow : List Spot → tac_run.Values → flat_run.Values → Type 0
AllShow xs values places = (k : ℕ) (v : tac_run.Value) → values k ≡ Some v → Shows xs v (places k)

-- ---- frames

-- the words of a call, whose first object has this number; the moves of its parameters come before its code
pub record FrameHolds (q : tac.Program) (xs : List Spot) (first : ℕ) (c : tac_run.Call) (f : Frame) (store : Store) : Type 0 where
  pub function : f.function ≡ c.function
  pub at : f.at ≡ length (tac.function_at q c.function).parameters + c.at
  pub base : c.base ≡ first
  pub kept : (k : ℕ) (v : tac_run.Value) → c.kept k ≡ Some v → Shows xs v (f.cells ((layout_of (tac.function_at q c.function)).slots + k))
  pub few : length c.arrays ≡ array_parameters (tac.function_at q c.function).parameters
  pub arrays : (n : ℕ) (r : Reference) → slice_get c.arrays n ≡ Some r
      → Shows xs (tac_run.reference r) (f.cells ((layout_of (tac.function_at q c.function)).references + n))
  pub objects : (n : ℕ) (t : IntType) (v : ℤ) → scalar_type (slice_get (tac.function_at q c.function).objects n) ≡ Some t → value_at store (whole (c.base + n)) ≡ Some v
      → f.cells (cell (tac.function_at q c.function) n) ≡ Some (flat_run.word (word_for v))

-- the calls that are open, each over those before it
abbrev pub FramesHold : tac.Program → List tac_run.Call → List Frame → Store → Type 0
FramesHold q [] [] store = Unit {0}
FramesHold q [] (f ∷ fs) store = ⊥
FramesHold q (c ∷ cs) [] store = ⊥
FramesHold q (c ∷ cs) (f ∷ fs) store =
    FrameHolds q (spots q (map (λ x. x.function) (c ∷ cs))) (length (spots q (map (λ x. x.function) cs))) c f store × FramesHold q cs fs store

-- ---- bytes

abbrev pub IsElement : Tree → Type 0
IsElement (Element v) = Unit {0}
IsElement (Array row) = ⊥

abbrev pub EachPart : (Tree → Type 0) → Row → Type 0
EachPart P no_parts = Unit {0}
EachPart P (and_part t row) = P t × EachPart P row

abbrev pub IsArrayOf : ℕ → (Tree → Type 0) → Tree → Type 0
IsArrayOf n P (Element v) = ⊥
IsArrayOf n P (Array row) = (parts row ≡ n) × EachPart P row

abbrev pub Shaped : List ℕ → Tree → Type 0
Shaped [] t = IsElement t
Shaped (n ∷ lengths) t = IsArrayOf n (Shaped lengths) t

-- each element that has a value has the bytes of it
abbrev pub ElementsInPlace : Spot → Tree → Bytes → Type 0
ElementsInPlace x tree bytes = (path : List ℕ) (v : ℤ) → at_path (Some tree) path ≡ Some (Element (Some v))
    → element_in (width_of x.type.element) bytes (offset_at x path) ≡ Some (word_for v)

-- an object in the list that contains it
pub record InPlace (x : Spot) (o : Option Tree) (m : Option Memory) : Type 0 where
  pub tree : Tree
  pub tree_is : o ≡ Some tree
  pub shaped : Shaped x.type.lengths tree
  pub list : Memory
  pub list_is : m ≡ Some list
  pub first : list.first ≤ x.offset
  pub past : x.offset + size_of_object x.type ≤ list.past
  pub elements : ElementsInPlace x tree list.bytes

abbrev pub AllInPlace : List Spot → Store → (ℕ → Option Memory) → Type 0
AllInPlace xs store lists = (n : ℕ) (x : Spot) → slice_get xs n ≡ Some x → x.in_bytes ≡ true → InPlace x (slice_get store n) (lists x.list)

-- ---- states

-- The arguments of flat code are no part of the match: only the moves at a function's beginning read them.
pub record Matched (q : tac.Program) (f : flat.Program) (t : tac_run.State) (s : flat_run.State) : Type 0 where
  pub frames : FramesHold q (t.call ∷ t.waiting) (s.frame ∷ s.waiting) t.store
  pub temporaries : AllShow (spots q (open_calls t)) t.temporaries s.temporaries
  pub count : length t.store ≡ length (spots q (open_calls t))
  pub in_place : AllInPlace (spots q (open_calls t)) t.store (memory f s)
  pub input : s.input ≡ t.input
  pub bytes : AreBytes t.input
  pub trace : s.trace ≡ trace_of t.history

-- the same was done; a stuck run promises nothing
abbrev pub Alike : tac.Program → flat.Program → tac_run.Progress → flat_run.Progress → Type 0
Alike q f tac_run.stuck r = Unit {0}
Alike q f (tac_run.running t) (flat_run.running s) = Matched q f t s
Alike q f (tac_run.running t) (flat_run.ended status input trace) = ⊥
Alike q f (tac_run.running t) flat_run.stuck = ⊥
Alike q f (tac_run.ended status input history) (flat_run.running s) = ⊥
Alike q f (tac_run.ended status input history) (flat_run.ended status2 input2 trace) = (status2 ≡ status) × (input2 ≡ input) × (trace ≡ trace_of history)
Alike q f (tac_run.ended status input history) flat_run.stuck = ⊥
