-- No two objects that live at one time share a word or byte, so that a store to one leaves the others; and three-address code
-- computes on words the same as flat code.
use Rattle.std.specs.Prelude.{◌≡◌, ◌<◌, ◌≤◌, ℕ, ◌+◌, ◌^◌, List, length, slice_get, Some, None}
use Rattle.ctypes.specs.declared.types.IntType.{IntType}
use Rattle.ctypes.specs.declared.types.IntType.TheVariants as ty
use Rattle.typing_spec.specs.Types.{ObjectType, size_of_object}
use Rattle.tac_code.specs.Code.{Function, scalar_type, Program}
use Rattle.tac_code.specs.Costs.{array_parameters}
use Rattle.tac_code.specs.declared.code.Reading.{Reading}
use Rattle.tac_code.specs.declared.code.Operation.{Operation}
use Rattle.tac_code.specs.declared.code.Comparison.{Comparison}
use Rattle.tac_code.specs.Run as three_address
use Rattle.tac_code.specs.Run.{word_for, number_of}
use Rattle.frames_code.specs.declared.code.Conversion.TheVariants as conversion
use Rattle.rv32.specs.Arithmetic.{compare_of}
use Rattle.frames_code.specs.Run as flat
use Rattle.frames.specs.Translated.{operation_of, test_of}
use Rattle.frames.specs.Layout.{layout_of, cells_of, bytes_in, cell_in, offset_in, starts_from, start_in}
use Rattle.typing_spec.specs.Program.{Static}
use Rattle.tac_code.specs.Sound.{data_bytes}
use Rattle.frames.specs.Data.{data_of}
use Rattle.frames.specs.Sizes.{literal_bytes, statics_bytes}

-- the word of object n, and the first byte of array n
abbrev pub cell : Function → ℕ → ℕ
cell f n = cell_in (slice_get (layout_of f).homes n)

abbrev pub offset : Function → ℕ → ℕ
offset f n = offset_in (slice_get (layout_of f).homes n)

-- objects that are no arrays have words of their own, in their order
abbrev pub WordsAreApart : Type 0
WordsAreApart = (f : Function) (n m : ℕ) (t u : IntType) → n < m → scalar_type (slice_get f.objects n) ≡ Some t
    → scalar_type (slice_get f.objects m) ≡ Some u → cell f n < cell f m

-- before those of the references, which come before those of the slots
abbrev pub WordsComeFirst : Type 0
WordsComeFirst = (f : Function) (n : ℕ) (t : IntType) → scalar_type (slice_get f.objects n) ≡ Some t → cell f n < (layout_of f).references

abbrev pub ReferencesComeNext : Type 0
ReferencesComeNext = (f : Function) (n : ℕ) → n < array_parameters f.parameters → (layout_of f).references + n < (layout_of f).slots

abbrev pub SlotsComeLast : Type 0
SlotsComeLast = (f : Function) (k : ℕ) → k < f.kept → (layout_of f).slots + k < cells_of f

-- an array ends before the next one begins, and within the bytes that there are
abbrev pub ArraysAreApart : Type 0
ArraysAreApart = (f : Function) (n m : ℕ) (t u : ObjectType) → n < m → slice_get f.objects n ≡ Some t → scalar_type (Some t) ≡ None
    → slice_get f.objects m ≡ Some u → scalar_type (Some u) ≡ None → offset f n + size_of_object t ≤ offset f m

abbrev pub ArraysAreInside : Type 0
ArraysAreInside = (f : Function) (n : ℕ) (t : ObjectType) → slice_get f.objects n ≡ Some t → scalar_type (Some t) ≡ None
    → offset f n + size_of_object t ≤ bytes_in f.objects

-- of objects of these sizes one after the other, each ends before a later one begins
abbrev pub StartsAreApart : Type 0
StartsAreApart = (first : ℕ) (sizes : List ℕ) (n m size : ℕ) → n < m → m < length sizes → slice_get sizes n ≡ Some size
    → start_in (slice_get (starts_from first sizes) n) + size ≤ start_in (slice_get (starts_from first sizes) m)

-- ---- words

-- an operation that is defined gives the word that the machine's gives
abbrev pub OperationsAgree : Type 0
OperationsAgree = (o : Operation) (r : Reading) (a b w : ℕ) → a < 2 ^ 32 → b < 2 ^ 32 → three_address.operate o r a b ≡ Some w
    → w ≡ flat.operate (operation_of o r) a b

abbrev pub ComparisonsAgree : Type 0
ComparisonsAgree = (c : Comparison) (r : Reading) (a b : ℕ) → a < 2 ^ 32 → b < 2 ^ 32 → three_address.holds c r a b ≡ compare_of (test_of c r) a b

-- the word that a conversion to a type leaves, and the one that flat code's conversion gives; those to types of 32 bits are moves
pub record ConversionsAgree : Type 0 where
  pub to_truth : (a : ℕ) → word_for (number_of ty.Bool a) ≡ flat.converted conversion.ToTruth a
  pub to_char : (a : ℕ) → word_for (number_of ty.Char a) ≡ flat.converted conversion.ToByte a
  pub to_signed_char : (a : ℕ) → word_for (number_of ty.SChar a) ≡ flat.converted conversion.ToSignedByte a
  pub to_unsigned_char : (a : ℕ) → word_for (number_of ty.UChar a) ≡ flat.converted conversion.ToByte a
  pub to_short : (a : ℕ) → word_for (number_of ty.Short a) ≡ flat.converted conversion.ToSignedHalf a
  pub to_unsigned_short : (a : ℕ) → word_for (number_of ty.UShort a) ≡ flat.converted conversion.ToHalf a
  pub to_int : (a : ℕ) → a < 2 ^ 32 → word_for (number_of ty.Int a) ≡ a
  pub to_unsigned_int : (a : ℕ) → a < 2 ^ 32 → word_for (number_of ty.UInt a) ≡ a
  pub to_long : (a : ℕ) → a < 2 ^ 32 → word_for (number_of ty.Long a) ≡ a
  pub to_unsigned_long : (a : ℕ) → a < 2 ^ 32 → word_for (number_of ty.ULong a) ≡ a

-- the bytes of the data are those of the literals and of the statics
abbrev pub DataBytesAre : Type 0
DataBytesAre = (ls : List (List ℕ)) (os : List Static) → data_bytes ls os ≡ literal_bytes ls + statics_bytes os

-- the data begin with 16 bytes
abbrev pub DataHaveTheirSize : Type 0
DataHaveTheirSize = (p : Program) → length (data_of p) ≡ 16 + (literal_bytes p.literals + statics_bytes p.statics)
