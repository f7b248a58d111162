-- Where the reference is that an lvalue or an array gives, in three-address code (ISO/IEC 9899:2011 6.3.2.1, 6.5.2.1).
use Rattle.std.specs.Prelude.{ℕ, Bool, true, false, not, Option, Some, None}
use Rattle.ctypes.specs.declared.types.IntType.{IntType}
use Rattle.ctypes.specs.declared.types.IntType.TheVariants as ty
use Rattle.typing_spec.specs.Types.{DeclaredType, complete, unknown_size, size_of_object}
use Rattle.typing_spec.specs.Program as typed
use Rattle.typing_spec.specs.Program.{Storage, Place, Function, Program}
use Rattle.typing_spec.specs.Nodes.{type_of_place}
use Rattle.tac_code.specs.declared.code.Operand.TheVariants as operand
use Rattle.tac_code.specs.declared.code.Target.{Target}
use Rattle.tac_code.specs.declared.code.Target.TheVariants as target
use Rattle.tac_code.specs.declared.code.Place.{Place as Spot}
use Rattle.tac_code.specs.declared.code.Place.TheVariants as place
use Rattle.lower_correct.specs.Values.{pending, free_temporary, free_kept, Mode, Nowhere, To, If}

-- the bytes of an element or a row
abbrev pub size_of_type : Option DeclaredType → ℕ
size_of_type None = 0
size_of_type (Some (complete t)) = size_of_object t
size_of_type (Some (unknown_size t)) = 0

abbrev pub size_of_place : Program → Function → Place → ℕ
size_of_place p f a = size_of_type (type_of_place p f a)

-- over a call in a slot, else in a temporary
abbrev pub target_for : Bool → ℕ → ℕ → Target
target_for true t k = target.Kept k
target_for false t k = target.Temporary t

-- a name needs no operand
abbrev pub named_spot : Storage → Spot
named_spot (typed.literal n) = place.Literal n
named_spot (typed.static n) = place.Static n
named_spot (typed.automatic n) = place.Array n
named_spot (typed.parameter n) = place.At (operand.Parameter n)

-- the code evaluated after it contains a call, or not; t and k are the first temporary and the first slot that are free
abbrev pub found : Place → (has_calls : Bool) → ℕ → ℕ → Spot
found (typed.named at what) c t k = named_spot what
found (typed.element at array index) c t k = place.At (pending c t k)

-- the first temporary, and slot, that are free in addition to it
abbrev pub free_temporary_at : Spot → ℕ → ℕ
free_temporary_at (place.Literal n) t = t
free_temporary_at (place.Static n) t = t
free_temporary_at (place.Array n) t = t
free_temporary_at (place.Element n i u) t = t
free_temporary_at (place.At o) t = free_temporary o t

abbrev pub free_kept_at : Spot → ℕ → ℕ
free_kept_at (place.Literal n) k = k
free_kept_at (place.Static n) k = k
free_kept_at (place.Array n) k = k
free_kept_at (place.Element n i u) k = k
free_kept_at (place.At o) k = free_kept o k

-- a store takes the low bytes (but _Bool, 6.3.1.2), so that a value that is not used afterwards needs no conversion
abbrev pub is_truth : IntType → Bool
is_truth ty.Bool = true
is_truth t = false

abbrev pub cuts : IntType → Mode → Bool
cuts t Nowhere = not (is_truth t)
cuts t (To g) = false
cuts t (If sense to) = false
