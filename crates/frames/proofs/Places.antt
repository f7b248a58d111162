-- Where the layout has objects: within the frame.
use Rattle.std.proofs.Common.{◌≡◌, ℕ, zero, suc, ◌+◌, ◌-◌, ◌*◌, ◌/◌, ◌<◌, ◌≤◌, List, [], ◌∷◌, Bool, true, false, Option, Some, None, refl, sym, ap, subst, zero-add, arith}
use Rattle.std.specs.Prelude.{slice_get}
use Rattle.ctypes.specs.declared.types.IntType.{IntType}
use Rattle.ctypes.specs.declared.types.IntType.TheVariants as ty
use Rattle.ctypes.specs.Types.{bytes_of}
use Rattle.typing_spec.specs.Types.{ObjectType, elements_in, size_of_object}
use Rattle.typing_spec.specs.Units.{in_words, bytes_of_objects}
use Rattle.frames_code.specs.Code.{frame_bytes}
use Rattle.tac_code.specs.Code.{Function, type_if_scalar, scalar_type}
use Rattle.tac_code.specs.Costs.{array_parameters, call_bytes}
use Rattle.frames.specs.declared.layout.Home.{Home}
use Rattle.frames.specs.declared.layout.Home.TheVariants as home
use Rattle.frames.specs.Layout.{is_scalar, home_for, words_for, bytes_for, words_of, bytes_of_array, homes_from, words_in, bytes_in, Starts, starts_from, start_in}
use Rattle.frames.specs.Translated.{flat_function}

-- ---- bytes of the frame

of_lengths : (e : IntType) (ls : List ℕ) → 4 * words_for (is_scalar ls) + bytes_for (is_scalar ls) (bytes_of e * elements_in ls) ≡ in_words (bytes_of e * elements_in ls)
of_lengths e (n ∷ ls) = zero-add (in_words (bytes_of e * elements_in (n ∷ ls)))
of_lengths ty.Bool [] = refl
of_lengths ty.Char [] = refl
of_lengths ty.SChar [] = refl
of_lengths ty.UChar [] = refl
of_lengths ty.Short [] = refl
of_lengths ty.UShort [] = refl
of_lengths ty.Int [] = refl
of_lengths ty.UInt [] = refl
of_lengths ty.Long [] = refl
of_lengths ty.ULong [] = refl

pub of_object : (t : ObjectType) → 4 * words_of t + bytes_of_array t ≡ in_words (size_of_object t)
of_object t = of_lengths t.element t.lengths

two_sums : (a b c d e f : ℕ) → 4 * a + b ≡ e → 4 * c + d ≡ f → 4 * (a + c) + (b + d) ≡ e + f
two_sums a b c d e f h k = omega arith

pub of_objects : (ts : List ObjectType) → 4 * words_in ts + bytes_in ts ≡ bytes_of_objects ts
of_objects [] = refl
of_objects (t ∷ ts) = two_sums (words_of t) (bytes_of_array t) (words_in ts) (bytes_in ts) (in_words (size_of_object t)) (bytes_of_objects ts) (of_object t) (of_objects ts)

in_all : (t w r k a b : ℕ) → 4 * w + a ≡ b → 4 * t + 4 + 4 * (w + r + k) + a + 4 + 15 ≡ 4 * t + (8 + (4 * k + (4 * r + b))) + 15
in_all t w r k a b e = omega arith

-- a frame has the number of bytes that a call of three-address code is defined to take
pub frame_is_call : (s : Starts) (f : Function) → frame_bytes (flat_function s f) ≡ call_bytes f
frame_is_call s f =
    ap (λ n. n / 16 * 16) (in_all (f.temporaries - 8) (words_in f.objects) (array_parameters f.parameters) f.kept (bytes_in f.objects) (bytes_of_objects f.objects) (of_objects f.objects))

-- ---- homes

pub record IsCell (h : Option Home) (low high : ℕ) : Type 0 where
  pub number : ℕ
  pub is : h ≡ Some (home.Cell number)
  pub above : low ≤ number
  pub below : number < high

pub record IsBytes (h : Option Home) (low high size : ℕ) : Type 0 where
  pub offset : ℕ
  pub is : h ≡ Some (home.Array offset)
  pub above : low ≤ offset
  pub below : offset + in_words size ≤ high

pub scalar_lengths : (ls : List ℕ) (e t : IntType) → type_if_scalar ls e ≡ Some t → is_scalar ls ≡ true
scalar_lengths [] e t h = refl
scalar_lengths (n ∷ ls) e t h = absurd (let x : ⊥ = cc in x)

pub array_lengths : (ls : List ℕ) (e : IntType) → type_if_scalar ls e ≡ None → is_scalar ls ≡ false
array_lengths [] e h = absurd (let x : ⊥ = cc in x)
array_lengths (n ∷ ls) e h = refl

cell_here : (b : Bool) (c o w : ℕ) → b ≡ true → IsCell (Some (home_for b c o)) c (c + (words_for b + w))
cell_here true c o w e = record { number = c; is = refl; above = omega arith; below = omega arith }
cell_here false c o w e = absurd (let x : ⊥ = cc in x)

pub cell_of_scalar : (ts : List ObjectType) (c o n : ℕ) (t : IntType) → scalar_type (slice_get ts n) ≡ Some t → IsCell (slice_get (homes_from c o ts) n) c (c + words_in ts)
cell_of_scalar [] c o n t e = absurd (let x : ⊥ = cc in x)
cell_of_scalar (u ∷ ts) c o zero t e = cell_here (is_scalar u.lengths) c o (words_in ts) (scalar_lengths u.lengths u.element t e)
cell_of_scalar (u ∷ ts) c o (suc n) t e =
    let more = cell_of_scalar ts (c + words_of u) (o + bytes_of_array u) n t e in
    record { number = more.number; is = more.is; above = omega (arith, more.above); below = omega (arith, more.below) }

bytes_here : (b : Bool) (c o size w : ℕ) → b ≡ false → IsBytes (Some (home_for b c o)) o (o + (bytes_for b size + w)) size
bytes_here true c o size w e = absurd (let x : ⊥ = cc in x)
bytes_here false c o size w e = record { offset = o; is = refl; above = omega arith; below = omega arith }

pub bytes_of_one : (ts : List ObjectType) (c o n : ℕ) (t : ObjectType) → slice_get ts n ≡ Some t → scalar_type (Some t) ≡ None → IsBytes (slice_get (homes_from c o ts) n) o (o + bytes_in ts) (size_of_object t)
bytes_of_one [] c o n t e a = absurd (let x : ⊥ = cc in x)
bytes_of_one (u ∷ ts) c o zero t e a =
    let same : u ≡ t = cc in
    subst (λ x. IsBytes (Some (home_for (is_scalar u.lengths) c o)) o (o + bytes_in (u ∷ ts)) (size_of_object x)) same
    (bytes_here (is_scalar u.lengths) c o (size_of_object u) (bytes_in ts) (array_lengths u.lengths u.element (subst (λ x. scalar_type (Some x) ≡ None) (sym same) a)))
bytes_of_one (u ∷ ts) c o (suc n) t e a =
    let more = bytes_of_one ts (c + words_of u) (o + bytes_of_array u) n t e a in
    record { offset = more.offset; is = more.is; above = omega (arith, more.above); below = omega (arith, more.below) }

-- ---- the statics

abbrev pub total : List ℕ → ℕ
total [] = 0
total (n ∷ sizes) = n + total sizes

pub start_within : (sizes : List ℕ) (o n : ℕ) → start_in (slice_get (starts_from o sizes) n) ≤ o + total sizes
start_within [] o n = omega arith
start_within (x ∷ sizes) o zero = omega arith
start_within (x ∷ sizes) o (suc n) = omega (arith, start_within sizes (o + x) n)
