-- Objects, references and slots that live at one time lie apart.
use Rattle.std.proofs.Common.{◌≡◌, ℕ, zero, suc, ◌+◌, ◌*◌, ◌/◌, ◌<◌, ◌≤◌, List, [], ◌∷◌, length, true, false, Some, None, ap, ◌∙◌, arith}
use Rattle.std.specs.Prelude.{slice_get}
use Rattle.ctypes.specs.declared.types.IntType.{IntType}
use Rattle.typing_spec.specs.Types.{ObjectType, size_of_object}
use Rattle.typing_spec.specs.Units.{in_words}
use Rattle.tac_code.specs.Code.{scalar_type}
use Rattle.frames.specs.Layout.{is_scalar, home_for, words_for, bytes_for, words_of, bytes_of_array, homes_from, cell_in, offset_in, starts_from, start_in}
use Rattle.frames.specs.Laws.{WordsAreApart, WordsComeFirst, ReferencesComeNext, SlotsComeLast, ArraysAreApart, ArraysAreInside, StartsAreApart}
use Rattle.frames.proofs.Elements.{same_some}
use Rattle.frames.proofs.Places.{scalar_lengths, array_lengths, cell_of_scalar, bytes_of_one}

cells_apart : (ts : List ObjectType) (c o n m : ℕ) (t u : IntType) → n < m → scalar_type (slice_get ts n) ≡ Some t → scalar_type (slice_get ts m) ≡ Some u → cell_in (slice_get (homes_from c o ts) n) < cell_in (slice_get (homes_from c o ts) m)
cells_apart [] c o n m t u lt e g = absurd (let x : ⊥ = cc in x)
cells_apart (x ∷ ts) c o n zero t u lt e g = absurd (omega (arith, lt))
cells_apart (x ∷ ts) c o zero (suc m) t u lt e g =
    let scalar : is_scalar x.lengths ≡ true = scalar_lengths x.lengths x.element t e in
    let here : cell_in (Some (home_for (is_scalar x.lengths) c o)) ≡ c = ap (λ b. cell_in (Some (home_for b c o))) scalar in
    let one : words_of x ≡ 1 = ap words_for scalar in
    let later = cell_of_scalar ts (c + words_of x) (o + bytes_of_array x) m u g in
    let there : cell_in (slice_get (homes_from (c + words_of x) (o + bytes_of_array x) ts) m) ≡ later.number = ap cell_in later.is in
    omega (arith, here, one, there, later.above)
cells_apart (x ∷ ts) c o (suc n) (suc m) t u lt e g = cells_apart ts (c + words_of x) (o + bytes_of_array x) n m t u (omega (arith, lt)) e g

pub words_are_apart : WordsAreApart
words_are_apart f n m t u lt e g = cells_apart f.objects 0 0 n m t u lt e g

pub words_come_first : WordsComeFirst
words_come_first f n t e =
    let c = cell_of_scalar f.objects 0 0 n t e in
    let here : cell_in (slice_get (homes_from 0 0 f.objects) n) ≡ c.number = ap cell_in c.is in
    omega (arith, here, c.below)

pub references_come_next : ReferencesComeNext
references_come_next f n lt = omega (arith, lt)

pub slots_come_last : SlotsComeLast
slots_come_last f k lt = omega (arith, lt)

within_words : (n : ℕ) → n ≤ (n + 3) / 4 * 4
within_words n = omega arith

offsets_apart : (ts : List ObjectType) (c o n m : ℕ) (t u : ObjectType) → n < m → slice_get ts n ≡ Some t → scalar_type (Some t) ≡ None → slice_get ts m ≡ Some u → scalar_type (Some u) ≡ None → offset_in (slice_get (homes_from c o ts) n) + size_of_object t ≤ offset_in (slice_get (homes_from c o ts) m)
offsets_apart [] c o n m t u lt e a g b = absurd (let x : ⊥ = cc in x)
offsets_apart (x ∷ ts) c o n zero t u lt e a g b = absurd (omega (arith, lt))
offsets_apart (x ∷ ts) c o zero (suc m) t u lt e a g b =
    let same : x ≡ t = same_some x t e in
    let array : is_scalar x.lengths ≡ false = array_lengths x.lengths x.element (ap (λ y. scalar_type (Some y)) same ∙ a) in
    let here : offset_in (Some (home_for (is_scalar x.lengths) c o)) ≡ o = ap (λ y. offset_in (Some (home_for y c o))) array in
    let bytes : bytes_of_array x ≡ in_words (size_of_object x) = ap (λ y. bytes_for y (size_of_object x)) array in
    let size : size_of_object x ≡ size_of_object t = ap size_of_object same in
    let later = bytes_of_one ts (c + words_of x) (o + bytes_of_array x) m u g b in
    let there : offset_in (slice_get (homes_from (c + words_of x) (o + bytes_of_array x) ts) m) ≡ later.offset = ap offset_in later.is in
    omega (arith, here, bytes, size, within_words (size_of_object x), there, later.above)
offsets_apart (x ∷ ts) c o (suc n) (suc m) t u lt e a g b = offsets_apart ts (c + words_of x) (o + bytes_of_array x) n m t u (omega (arith, lt)) e a g b

pub arrays_are_apart : ArraysAreApart
arrays_are_apart f n m t u lt e a g b = offsets_apart f.objects 0 0 n m t u lt e a g b

pub arrays_are_inside : ArraysAreInside
arrays_are_inside f n t e a =
    let b = bytes_of_one f.objects 0 0 n t e a in
    let here : offset_in (slice_get (homes_from 0 0 f.objects) n) ≡ b.offset = ap offset_in b.is in
    omega (arith, here, b.below, within_words (size_of_object t))

first_start : (o : ℕ) (sizes : List ℕ) (m : ℕ) → m < length sizes → o ≤ start_in (slice_get (starts_from o sizes) m)
first_start o [] m lt = absurd (omega (arith, lt))
first_start o (x ∷ sizes) zero lt = omega arith
first_start o (x ∷ sizes) (suc m) lt = omega (arith, first_start (o + x) sizes m (omega (arith, lt)))

pub starts_are_apart : StartsAreApart
starts_are_apart o [] n m size lt within e = absurd (omega (arith, within))
starts_are_apart o (x ∷ sizes) n zero size lt within e = absurd (omega (arith, lt))
starts_are_apart o (x ∷ sizes) zero (suc m) size lt within e =
    let same : x ≡ size = same_some x size e in
    omega (arith, same, first_start (o + x) sizes m (omega (arith, within)))
starts_are_apart o (x ∷ sizes) (suc n) (suc m) size lt within e = starts_are_apart (o + x) sizes n m size (omega (arith, lt)) (omega (arith, within)) e
