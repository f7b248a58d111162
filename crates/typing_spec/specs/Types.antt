-- Types of objects and functions, their sizes, and which are compatible (ISO/IEC 9899:2011 6.2.5, 6.2.7, 6.5.3.4).
use Rattle.std.specs.Prelude.{ℕ, ◌*◌, Bool, true, false, ◌&&◌, List, [], ◌∷◌, Option, Some, None, nat_eq, if◌then◌else◌}
use Rattle.ctypes.specs.declared.types.IntType.{IntType}
use Rattle.ctypes.specs.declared.types.IntType.TheVariants as ty
use Rattle.ctypes.specs.declared.types.IntType.TheVariants.{Char, SChar, UChar, Short, UShort, Int, UInt, Long, ULong}
use Rattle.ctypes.specs.Types.{bytes_of}

-- the type of an object (6.2.5p20): that of its elements, whether these are const (6.7.3p9), and the length of each array, the
-- outermost first; an object that is no array is its only element
pub record ObjectType : Type 0 where
  pub element : IntType
  pub constant : Bool
  pub lengths : List ℕ

-- the same, or an array of unknown size (6.2.5p22) whose elements are such objects
pub data DeclaredType : Type 0 where
  complete : (type : ObjectType) → DeclaredType
  unknown_size : (element : ObjectType) → DeclaredType

-- a parameter as a function's type has it (6.7.6.3p7, p15): a number without its qualifiers, or a reference to an array's elements
pub data ParameterType : Type 0 where
  number : (ty : IntType) → ParameterType
  elements : (element : ObjectType) → ParameterType

-- a function's type (6.2.5p20); a result of no type is void, and it may be const (6.7.6.3p15)
pub record FunctionType : Type 0 where
  pub result : Option IntType
  pub constant : Bool
  pub parameters : List ParameterType

-- ---- sizes (6.5.3.4)

-- how many elements an array of these lengths has
abbrev pub elements_in : List ℕ → ℕ
elements_in [] = 1
elements_in (n ∷ lengths) = n * elements_in lengths

abbrev pub size_of_object : ObjectType → ℕ
size_of_object t = bytes_of t.element * elements_in t.lengths

-- an array parameter is a reference, whose size is this profile's
abbrev pub size_of_parameter : ParameterType → ℕ
size_of_parameter (number t) = bytes_of t
size_of_parameter (elements t) = 4

-- ---- the same types, which are the compatible ones (6.2.7p1, 6.7.3p10, 6.7.6.2p6, 6.7.6.3p15)

abbrev pub same_truth : Bool → Bool → Bool
same_truth true true = true
same_truth false false = true
same_truth true false = false
same_truth false true = false

-- the types in some order: char is none of signed char and unsigned char (6.2.5p15)
abbrev pub place_of : IntType → ℕ
place_of ty.Bool = 0
place_of Char = 1
place_of SChar = 2
place_of UChar = 3
place_of Short = 4
place_of UShort = 5
place_of Int = 6
place_of UInt = 7
place_of Long = 8
place_of ULong = 9

abbrev pub same_type : IntType → IntType → Bool
same_type a b = nat_eq (place_of a) (place_of b)

abbrev pub same_lengths : List ℕ → List ℕ → Bool
same_lengths [] [] = true
same_lengths (m ∷ ms) (n ∷ ns) = nat_eq m n && same_lengths ms ns
same_lengths [] (n ∷ ns) = false
same_lengths (m ∷ ms) [] = false

-- the same but for const
abbrev pub alike : ObjectType → ObjectType → Bool
alike a b = same_type a.element b.element && same_lengths a.lengths b.lengths

abbrev pub same_object : ObjectType → ObjectType → Bool
same_object a b = alike a b && same_truth a.constant b.constant

abbrev pub same_parameter : ParameterType → ParameterType → Bool
same_parameter (number a) (number b) = same_type a b
same_parameter (elements a) (elements b) = same_object a b
same_parameter (number a) (elements b) = false
same_parameter (elements a) (number b) = false

abbrev pub same_parameters : List ParameterType → List ParameterType → Bool
same_parameters [] [] = true
same_parameters (p ∷ ps) (q ∷ qs) = same_parameter p q && same_parameters ps qs
same_parameters [] (q ∷ qs) = false
same_parameters (p ∷ ps) [] = false

abbrev pub same_result : Option IntType → Option IntType → Bool
same_result None None = true
same_result (Some a) (Some b) = same_type a b
same_result None (Some b) = false
same_result (Some a) None = false

abbrev pub same_function : FunctionType → FunctionType → Bool
same_function f g = same_result f.result g.result && (same_truth f.constant g.constant && same_parameters f.parameters g.parameters)

-- ---- the composite type (6.2.7p3), where the types are compatible: a known size is kept

-- an array of `n` such objects
abbrev pub array_of : ℕ → ObjectType → ObjectType
array_of n t = record { element = t.element; constant = t.constant; lengths = n ∷ t.lengths }

-- the elements of an array; a number has none
abbrev pub inner_type : IntType → Bool → List ℕ → Option ObjectType
inner_type t c [] = None
inner_type t c (n ∷ lengths) = Some (record { element = t; constant = c; lengths = lengths })

abbrev pub element_type : ObjectType → Option ObjectType
element_type t = inner_type t.element t.constant t.lengths

abbrev pub fits_unknown : Option ObjectType → ObjectType → ObjectType → Option DeclaredType
fits_unknown None element t = None
fits_unknown (Some e) element t = if same_object e element then Some (complete t) else None

abbrev pub composite : DeclaredType → DeclaredType → Option DeclaredType
composite (complete a) (complete b) = if same_object a b then Some (complete a) else None
composite (complete a) (unknown_size b) = fits_unknown (element_type a) b a
composite (unknown_size a) (complete b) = fits_unknown (element_type b) a b
composite (unknown_size a) (unknown_size b) = if same_object a b then Some (unknown_size a) else None
