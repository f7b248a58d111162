-- Elements that are read and written.
use Rattle.std.proofs.Common.{◌≡◌, ◌⊎◌, inl, inr, ⊎_elim, ℕ, zero, suc, ◌+◌, ◌*◌, ◌%◌, ◌^◌, ◌<◌, ◌≤◌, List, [], ◌∷◌, Option, Some, None, true, refl, sym, ap, ◌∙◌, subst, arith}
use Rattle.std.specs.Prelude.{◌==◌, ◌&&◌, nat_le, ℤ}
use Rattle.std.proofs.lemmas.Bool.{le-leb}
use Rattle.std.proofs.lemmas.Bool.Decides.{nat_tests}
use Rattle.ctypes.specs.declared.types.IntType.{IntType}
use Rattle.ctypes.specs.declared.types.IntType.TheVariants as ty
use Rattle.ctypes.specs.Types.{bytes_of}
use Rattle.typing_spec.specs.Types.{elements_in, size_of_object, same_type, place_of}
use Rattle.csem.specs.Store.{Tree, Element, Array, at_path, value_of, put_at}
use Rattle.csem.proofs.Writes.{other_part_stays, written_is_read}
use Rattle.tac_code.specs.Run.{word_for, held_by, is_type, is_element}
use Rattle.frames_code.specs.Run.{Bytes, Memory, size_of, fits, element_in, with_element}
use Rattle.frames.specs.Translated.{width_of}
use Rattle.frames.proofs.Narrow.{conversions_agree}
use Rattle.frames_correct.specs.Matched.{Spot, ElementsInPlace, Shaped, elements_before, IsPath, offset_at}
use Rattle.frames_correct.proofs.Lists.{same_some}
use Rattle.frames_correct.proofs.Trees.{behind, reached, behind_element, element_before_all, same_or_apart, AreApart, put_shaped}
use Rattle.frames_correct.proofs.Bytes.{size_is, element_off, element_back}

-- ---- types

pub type_from : ℕ → IntType
type_from zero = ty.Bool
type_from (suc zero) = ty.Char
type_from (suc (suc zero)) = ty.SChar
type_from (suc (suc (suc zero))) = ty.UChar
type_from (suc (suc (suc (suc zero)))) = ty.Short
type_from (suc (suc (suc (suc (suc zero))))) = ty.UShort
type_from (suc (suc (suc (suc (suc (suc zero)))))) = ty.Int
type_from (suc (suc (suc (suc (suc (suc (suc zero))))))) = ty.UInt
type_from (suc (suc (suc (suc (suc (suc (suc (suc zero)))))))) = ty.Long
type_from (suc (suc (suc (suc (suc (suc (suc (suc (suc n))))))))) = ty.ULong

type_back : (t : IntType) → type_from (place_of t) ≡ t
unfolding type_from
type_back ty.Bool = refl
type_back ty.Char = refl
type_back ty.SChar = refl
type_back ty.UChar = refl
type_back ty.Short = refl
type_back ty.UShort = refl
type_back ty.Int = refl
type_back ty.UInt = refl
type_back ty.Long = refl
type_back ty.ULong = refl

pub same_type_is : (a b : IntType) → same_type a b ≡ true → a ≡ b
same_type_is a b e = let same : place_of a ≡ place_of b = grind (arith, nat_tests) in sym (type_back a) ∙ (ap type_from same ∙ type_back b)

pub type_known : (t u : IntType) (o : Option IntType) → o ≡ Some u → is_type t o ≡ true → t ≡ u
type_known t u o e h = same_type_is t u (ap (is_type t) (sym e) ∙ h)

-- ---- places of elements in a list

data_sizes : (t : IntType) → (bytes_of t ≡ 1) ⊎ ((bytes_of t ≡ 2) ⊎ (bytes_of t ≡ 4))
data_sizes ty.Bool = inl refl
data_sizes ty.Char = inl refl
data_sizes ty.SChar = inl refl
data_sizes ty.UChar = inl refl
data_sizes ty.Short = inr (inl refl)
data_sizes ty.UShort = inr (inl refl)
data_sizes ty.Int = inr (inr refl)
data_sizes ty.UInt = inr (inr refl)
data_sizes ty.Long = inr (inr refl)
data_sizes ty.ULong = inr (inr refl)

of_size : (b o e n : ℕ) → (b ≡ 1) ⊎ ((b ≡ 2) ⊎ (b ≡ 4)) → o % 4 ≡ 0 → e < n → ((o + b * e) % b ≡ 0) × (o + b * e + b ≤ o + b * n)
of_size b o e n (inl h) a lt = subst (λ k. ((o + k * e) % k ≡ 0) × (o + k * e + k ≤ o + k * n)) (sym h) (omega (arith, a), omega (arith, lt))
of_size b o e n (inr (inl h)) a lt = subst (λ k. ((o + k * e) % k ≡ 0) × (o + k * e + k ≤ o + k * n)) (sym h) (omega (arith, a), omega (arith, lt))
of_size b o e n (inr (inr h)) a lt = subst (λ k. ((o + k * e) % k ≡ 0) × (o + k * e + k ≤ o + k * n)) (sym h) (omega (arith, a), omega (arith, lt))

-- an element of the object, within its bytes
pub record IsElementOf (x : Spot) (path : List ℕ) : Type 0 where
  pub within : IsPath x.type.lengths path
  pub last : behind x.type.lengths path ≡ []
  pub aligned : offset_at x path % bytes_of x.type.element ≡ 0
  pub room : offset_at x path + bytes_of x.type.element ≤ x.offset + size_of_object x.type

pub element_of : (x : Spot) (tree : Tree) (path : List ℕ) (v : Option ℤ) → x.offset % 4 ≡ 0 → Shaped x.type.lengths tree → at_path (Some tree) path ≡ Some (Element v) → IsElementOf x path
element_of x tree path v a shaped e =
    let reach = reached x.type.lengths tree path (Element v) shaped e in
    let last = behind_element x.type.lengths path v reach.shaped in
    let lt = element_before_all x.type.lengths path reach.within last in
    let both = of_size (bytes_of x.type.element) x.offset (elements_before x.type.lengths path) (elements_in x.type.lengths) (data_sizes x.type.element) a lt in
    record { within = reach.within; last = last; aligned = both.0; room = both.1 }

pub element_fits : (x : Spot) (path : List ℕ) (list : Memory) → IsElementOf x path → list.first ≤ x.offset → x.offset + size_of_object x.type ≤ list.past → fits (width_of x.type.element) (offset_at x path) list ≡ true
element_fits x path list h first past =
    let o = offset_at x path in
    let size : size_of (width_of x.type.element) ≡ bytes_of x.type.element = size_is x.type.element in
    let zero : o % size_of (width_of x.type.element) ≡ 0 = ap (λ k. o % k) size ∙ h.aligned in
    let one : (o % size_of (width_of x.type.element) == 0) ≡ true = ap (λ k. k == 0) zero in
    let two : nat_le list.first o ≡ true = le-leb list.first o (omega (arith, first)) in
    let three : nat_le (o + size_of (width_of x.type.element)) list.past ≡ true = le-leb (o + size_of (width_of x.type.element)) list.past (omega (arith, size, h.room, past)) in
    ap (λ b. b && (nat_le list.first o && nat_le (o + size_of (width_of x.type.element)) list.past)) one ∙ (ap (λ b. b && nat_le (o + size_of (width_of x.type.element)) list.past) two ∙ three)

pub value_there : (o : Option Tree) (v : ℤ) → value_of o ≡ Some v → o ≡ Some (Element (Some v))
value_there None v e = absurd (let z : ⊥ = cc in z)
value_there (Some (Element w)) v e = ap (λ z. Some (Element z)) e
value_there (Some (Array row)) v e = absurd (let z : ⊥ = cc in z)

pub record AnElement (o : Option Tree) : Type 0 where
  pub old : Option ℤ
  pub is : o ≡ Some (Element old)

pub element_there : (o : Option Tree) → is_element o ≡ true → AnElement o
element_there None e = absurd (let z : ⊥ = cc in z)
element_there (Some (Element v)) e = record { old = v; is = refl }
element_there (Some (Array row)) e = absurd (let z : ⊥ = cc in z)

-- ---- an element in a tree

pub put_read : (tree : Tree) (path : List ℕ) (old new : Tree) → at_path (Some tree) path ≡ Some old → at_path (Some (put_at path new tree)) path ≡ Some new
put_read tree path old new e = written_is_read (tree ∷ []) (record { object = 0; path = path }) old new e

pub put_apart : (lengths path path2 : List ℕ) (tree new : Tree) → AreApart lengths path path2 → at_path (Some (put_at path new tree)) path2 ≡ at_path (Some tree) path2
put_apart lengths path path2 tree new a = other_part_stays (tree ∷ []) (record { object = 0; path = path }) (record { object = 0; path = path2 }) new a.part

-- the places of two elements
apart_bytes : (o b m n : ℕ) → (m < n) ⊎ (n < m) → (o + b * n + b ≤ o + b * m) ⊎ (o + b * m + b ≤ o + b * n)
apart_bytes o b m n (inl lt) = inr (let h : b * m + b ≤ b * n = times m n lt in omega (arith, h))
  where
    times : (m n : ℕ) → m < n → b * m + b ≤ b * n
    times m n lt = let e : b * suc m ≤ b * n = grind arith in let f : b * suc m ≡ b * m + b = grind arith in omega (arith, e, f)
apart_bytes o b m n (inr lt) = inl (let h : b * n + b ≤ b * m = times n m lt in omega (arith, h))
  where
    times : (m n : ℕ) → m < n → b * m + b ≤ b * n
    times m n lt = let e : b * suc m ≤ b * n = grind arith in let f : b * suc m ≡ b * m + b = grind arith in omega (arith, e, f)

-- the object with the element, in the list with its bytes
pub put_lies : (x : Spot) (tree : Tree) (bytes : Bytes) (path : List ℕ) (old : Option ℤ) (v : ℤ) (w : ℕ) → x.offset % 4 ≡ 0 → Shaped x.type.lengths tree → ElementsInPlace x tree bytes → at_path (Some tree) path ≡ Some (Element old) → w < 2 ^ 32 → held_by x.type.element w ≡ Some v
    → ElementsInPlace x (put_at path (Element (Some v)) tree) (with_element (width_of x.type.element) bytes (offset_at x path) w)
put_lies x tree bytes path old v w a shaped in_place e small held path2 v2 e2 =
    let here = element_of x tree path old a shaped e in
    let there = element_of x (put_at path (Element (Some v)) tree) path2 (Some v2) a (put_shaped x.type.lengths tree path old (Some v) shaped e) e2 in
    by_case (same_or_apart x.type.lengths path path2 here.within here.last there.within there.last)
  where
    by_case : (path ≡ path2) ⊎ AreApart x.type.lengths path path2 → element_in (width_of x.type.element) (with_element (width_of x.type.element) bytes (offset_at x path) w) (offset_at x path2) ≡ Some (word_for v2)
    by_case (inl same) =
        let read : at_path (Some (put_at path (Element (Some v)) tree)) path ≡ Some (Element (Some v)) = put_read tree path (Element old) (Element (Some v)) e in
        let again : at_path (Some (put_at path (Element (Some v)) tree)) path ≡ Some (Element (Some v2)) = ap (at_path (Some (put_at path (Element (Some v)) tree))) same ∙ e2 in
        let values : Some v ≡ Some v2 = ap value_of (sym read ∙ again) in
        ap (λ p. element_in (width_of x.type.element) (with_element (width_of x.type.element) bytes (offset_at x path) w) (offset_at x p)) (sym same)
        ∙ (element_back conversions_agree x.type.element bytes (offset_at x path) w v small held ∙ ap (λ z. Some (word_for z)) (same_some v v2 values))
    by_case (inr apart) =
        let before : at_path (Some tree) path2 ≡ Some (Element (Some v2)) = sym (put_apart x.type.lengths path path2 tree (Element (Some v)) apart) ∙ e2 in
        let far = apart_bytes x.offset (bytes_of x.type.element) (elements_before x.type.lengths path) (elements_before x.type.lengths path2) apart.apart in
        let size = size_is x.type.element in
        element_off (width_of x.type.element) (width_of x.type.element) bytes (offset_at x path) w (offset_at x path2) (⊎_elim (λ h. inl (omega (arith, h, size))) (λ h. inr (omega (arith, h, size))) far)
        ∙ in_place path2 v2 before

-- another object in the list stays
pub other_lies : (x y : Spot) (tree : Tree) (bytes : Bytes) (o w : ℕ) → y.offset % 4 ≡ 0 → Shaped y.type.lengths tree → ElementsInPlace y tree bytes → (o + bytes_of x.type.element ≤ y.offset) ⊎ (y.offset + size_of_object y.type ≤ o)
    → ElementsInPlace y tree (with_element (width_of x.type.element) bytes o w)
other_lies x y tree bytes o w a shaped in_place far path v e =
    let here = element_of y tree path (Some v) a shaped e in
    let size = size_is x.type.element in
    let size_y = size_is y.type.element in
    element_off (width_of x.type.element) (width_of y.type.element) bytes o w (offset_at y path) (⊎_elim (λ h. inr (omega (arith, h, size))) (λ h. inl (omega (arith, h, size_y, here.room))) far)
    ∙ in_place path v e
