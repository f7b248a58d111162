-- The places of objects: apart from each other, and at multiples of 4.
use Rattle.std.proofs.Common.{◌≡◌, ◌⊎◌, inl, inr, ⊎_elim, ℕ, zero, suc, ◌+◌, ◌%◌, ◌<◌, ◌≤◌, List, [], ◌∷◌, ◌++◌, length, map, Option, Some, Bool, true, false, refl, sym, ap, ◌∙◌, subst, arith}
use Rattle.std.specs.Prelude.{slice_get, not}
use Rattle.typing_spec.specs.Types.{ObjectType, size_of_object}
use Rattle.typing_spec.specs.Units.{in_words}
use Rattle.frames_code.specs.Code.{Function, area_home, frame_bytes}
use Rattle.tac_code.specs.Code.{Program, function_at}
use Rattle.tac_code.specs.Sound.{static_bytes}
use Rattle.frames.specs.Layout.{is_scalar, bytes_for, bytes_of_array, homes_from, bytes_in}
use Rattle.frames.specs.Layout as layout
use Rattle.frames_correct.specs.Matched.{Spot, Piece, spot_of, spots_from, literal_piece, static_piece, own_piece, function_for, stack_bytes, spots}
use Rattle.frames_correct.proofs.Lists.{same_some, get_right, IsBehind, get_in_both, some_below, from_map}

-- ---- consecutive pieces

abbrev pub all_bytes : List Piece → ℕ
all_bytes [] = 0
all_bytes (p ∷ ps) = p.size + all_bytes ps

pub record Placed (list first : ℕ) (ps : List Piece) (n : ℕ) (x : Spot) : Type 0 where
  pub piece : Piece
  pub piece_is : slice_get ps n ≡ Some piece
  pub offset : ℕ
  pub is : spot_of list offset piece ≡ x
  pub above : first ≤ offset
  pub below : offset + piece.size ≤ first + all_bytes ps

pub placed : (list first : ℕ) (ps : List Piece) (n : ℕ) (x : Spot) → slice_get (spots_from list first ps) n ≡ Some x → Placed list first ps n x
placed list first [] n x e = absurd (let z : ⊥ = cc in z)
placed list first (p ∷ ps) zero x e =
    record { piece = p; piece_is = refl; offset = first; is = same_some (spot_of list first p) x e; above = omega arith; below = omega arith }
placed list first (p ∷ ps) (suc n) x e =
    let more = placed list (first + p.size) ps n x e in
    record { piece = more.piece; piece_is = more.piece_is; offset = more.offset; is = more.is; above = omega (arith, more.above); below = omega (arith, more.below) }

pub length_spots : (list first : ℕ) (ps : List Piece) → length (spots_from list first ps) ≡ length ps
length_spots list first [] = refl
length_spots list first (p ∷ ps) = ap suc (length_spots list (first + p.size) ps)

-- each has the bytes that its object needs, a multiple of 4
pub record IsRoomy (p : Piece) : Type 0 where
  pub aligned : p.size % 4 ≡ 0
  pub room : p.in_bytes ≡ true → size_of_object p.type ≤ p.size

abbrev pub AreRoomy : List Piece → Type 0
AreRoomy ps = (n : ℕ) (p : Piece) → slice_get ps n ≡ Some p → IsRoomy p

tail_roomy : (p : Piece) (ps : List Piece) → AreRoomy (p ∷ ps) → AreRoomy ps
tail_roomy p ps h n x e = h (suc n) x e

sum_aligned : (a b : ℕ) → a % 4 ≡ 0 → b % 4 ≡ 0 → (a + b) % 4 ≡ 0
sum_aligned a b h k = omega (arith, h, k)

pub aligned_from : (list first : ℕ) (ps : List Piece) → first % 4 ≡ 0 → AreRoomy ps → (n : ℕ) (x : Spot) → slice_get (spots_from list first ps) n ≡ Some x → x.offset % 4 ≡ 0
aligned_from list first [] a h n x e = absurd (let z : ⊥ = cc in z)
aligned_from list first (p ∷ ps) a h zero x e = ap (λ (y : Spot). y.offset % 4) (sym (same_some (spot_of list first p) x e)) ∙ a
aligned_from list first (p ∷ ps) a h (suc n) x e =
    aligned_from list (first + p.size) ps (sum_aligned first p.size a (h 0 p refl).aligned) (tail_roomy p ps h) n x e

-- one ends before a later one
abbrev pub IsBefore : Spot → Spot → Type 0
IsBefore x y = x.in_bytes ≡ true → y.in_bytes ≡ true → x.list ≡ y.list → x.offset + size_of_object x.type ≤ y.offset

first_before : (list first : ℕ) (p : Piece) (x y : Spot) → IsRoomy p → spot_of list first p ≡ x → first + p.size ≤ y.offset → IsBefore x y
first_before list first p x y h e le bx by same =
    let offset : first ≡ x.offset = ap (λ (z : Spot). z.offset) e in
    let size : size_of_object p.type ≡ size_of_object x.type = ap (λ (z : Spot). size_of_object z.type) e in
    let room = h.room (ap (λ (z : Spot). z.in_bytes) e ∙ bx) in
    omega (arith, offset, size, room, le)

pub apart_from : (list first : ℕ) (ps : List Piece) → AreRoomy ps → (n m : ℕ) (x y : Spot) → n < m → slice_get (spots_from list first ps) n ≡ Some x → slice_get (spots_from list first ps) m ≡ Some y → IsBefore x y
apart_from list first [] h n m x y lt ex ey = absurd (let z : ⊥ = cc in z)
apart_from list first (p ∷ ps) h n zero x y lt ex ey = absurd (omega (arith, lt))
apart_from list first (p ∷ ps) h zero (suc m) x y lt ex ey =
    let later = placed list (first + p.size) ps m y ey in
    let offset : later.offset ≡ y.offset = ap (λ (z : Spot). z.offset) later.is in
    first_before list first p x y (h 0 p refl) (same_some (spot_of list first p) x ex) (omega (arith, later.above, offset))
apart_from list first (p ∷ ps) h (suc n) (suc m) x y lt ex ey =
    apart_from list (first + p.size) ps (tail_roomy p ps h) n m x y (omega (arith, lt)) ex ey

-- ---- the pieces of a program

in_words_aligned : (n : ℕ) → in_words n % 4 ≡ 0
in_words_aligned n = omega arith

in_words_room : (n : ℕ) → n ≤ in_words n
in_words_room n = omega arith

literal_roomy : (text : List ℕ) → IsRoomy (literal_piece text)
literal_roomy text = record { aligned = in_words_aligned (length text); room = λ e. omega (arith, in_words_room (length text)) }

static_roomy_if : (b : Bool) (t : ObjectType) → IsRoomy (record { in_bytes = b; size = static_bytes b (size_of_object t); type = t })
static_roomy_if true t = record { aligned = in_words_aligned (size_of_object t); room = λ e. in_words_room (size_of_object t) }
static_roomy_if false t = record { aligned = refl; room = λ e. absurd (let z : ⊥ = cc in z) }

own_roomy_if : (b : Bool) (t : ObjectType) → IsRoomy (record { in_bytes = not b; size = bytes_for b (size_of_object t); type = t })
own_roomy_if true t = record { aligned = refl; room = λ e. absurd (let z : ⊥ = cc in z) }
own_roomy_if false t = record { aligned = in_words_aligned (size_of_object t); room = λ e. in_words_room (size_of_object t) }

roomy_map : {A : Type 0} (f : A → Piece) (xs : List A) → ((x : A) → IsRoomy (f x)) → AreRoomy (map f xs)
roomy_map f xs each n p e = let m = from_map f xs n p e in subst IsRoomy m.is (each m.from)

pub first_roomy : (q : Program) → AreRoomy (map literal_piece q.literals ++ map static_piece q.statics)
first_roomy q n p e = ⊎_elim (roomy_map literal_piece q.literals literal_roomy n p) (λ (b : IsBehind (map literal_piece q.literals) (map static_piece q.statics) n p). roomy_map static_piece q.statics (λ o. static_roomy_if o.defined o.type) b.number p b.is)
    (get_in_both (map literal_piece q.literals) (map static_piece q.statics) n p e)

pub own_roomy : (ts : List ObjectType) → AreRoomy (map own_piece ts)
own_roomy ts = roomy_map own_piece ts (λ t. own_roomy_if (is_scalar t.lengths) t)

area_aligned : (f : Function) → area_home f % 4 ≡ 0
area_aligned f = omega arith

pub frame_some : (f : Function) → 0 < frame_bytes f
frame_some f = omega arith

-- ---- all that live

pub record Orderly (bound : ℕ) (xs : List Spot) : Type 0 where
  pub low : (n : ℕ) (x : Spot) → slice_get xs n ≡ Some x → x.list ≤ bound
  pub aligned : (n : ℕ) (x : Spot) → slice_get xs n ≡ Some x → x.offset % 4 ≡ 0
  pub apart : (n m : ℕ) (x y : Spot) → n < m → slice_get xs n ≡ Some x → slice_get xs m ≡ Some y → IsBefore x y

pub in_list : (list first : ℕ) (ps : List Piece) (n : ℕ) (x : Spot) → slice_get (spots_from list first ps) n ≡ Some x → list ≡ x.list
in_list list first ps n x e = ap (λ (z : Spot). z.list) (placed list first ps n x e).is

-- later ones in a list of their own
orderly_more : (bound list first : ℕ) (xs : List Spot) (ps : List Piece) → Orderly bound xs → bound < list → first % 4 ≡ 0 → AreRoomy ps → Orderly list (xs ++ spots_from list first ps)
orderly_more bound list first xs ps o lt a h = record {
  low = λ n x e. ⊎_elim (λ l. omega (arith, lt, o.low n x l)) (λ (b : IsBehind xs (spots_from list first ps) n x). omega (arith, in_list list first ps b.number x b.is)) (get_in_both xs (spots_from list first ps) n x e);
  aligned = λ n x e. ⊎_elim (λ l. o.aligned n x l) (λ (b : IsBehind xs (spots_from list first ps) n x). aligned_from list first ps a h b.number x b.is) (get_in_both xs (spots_from list first ps) n x e);
  apart = λ n m x y below ex ey. pairs n m x y below (get_in_both xs (spots_from list first ps) n x ex) (get_in_both xs (spots_from list first ps) m y ey);
}
  where
    pairs : (n m : ℕ) (x y : Spot) → n < m → (slice_get xs n ≡ Some x) ⊎ IsBehind xs (spots_from list first ps) n x → (slice_get xs m ≡ Some y) ⊎ IsBehind xs (spots_from list first ps) m y → IsBefore x y
    pairs n m x y below (inl ex) (inl ey) = o.apart n m x y below ex ey
    pairs n m x y below (inl ex) (inr b) = λ bx by same. absurd (omega (arith, same, o.low n x ex, in_list list first ps b.number y b.is, lt))
    pairs n m x y below (inr b) (inl ey) = absurd (omega (arith, below, b.sum, some_below xs m y ey))
    pairs n m x y below (inr b) (inr c) = apart_from list first ps h b.number c.number x y (omega (arith, below, b.sum, c.sum)) b.is c.is

pub orderly : (q : Program) (fs : List ℕ) → Orderly (stack_bytes q fs) (spots q fs)
orderly q [] =
    let ps = map literal_piece q.literals ++ map static_piece q.statics in
    record {
      low = λ n x e. omega (arith, in_list 0 16 ps n x e);
      aligned = λ n x e. aligned_from 0 16 ps refl (first_roomy q) n x e;
      apart = λ n m x y lt ex ey. apart_from 0 16 ps (first_roomy q) n m x y lt ex ey;
    }
orderly q (f ∷ fs) =
    orderly_more (stack_bytes q fs) (stack_bytes q (f ∷ fs)) (area_home (function_for q f)) (spots q fs) (map own_piece (function_at q f).objects) (orderly q fs)
    (omega (arith, frame_some (function_for q f))) (area_aligned (function_for q f)) (own_roomy (function_at q f).objects)

-- ---- the objects of a call

pub record IsOwn (list first : ℕ) (t : ObjectType) (o : Option Spot) : Type 0 where
  pub spot : Spot
  pub is : o ≡ Some spot
  pub list_is : spot.list ≡ list
  pub type_is : spot.type ≡ t
  pub in_bytes : spot.in_bytes ≡ not (is_scalar t.lengths)
  pub above : first ≤ spot.offset

own_at : (list first : ℕ) (ts : List ObjectType) (n : ℕ) (t : ObjectType) → slice_get ts n ≡ Some t → IsOwn list first t (slice_get (spots_from list first (map own_piece ts)) n)
own_at list first [] n t e = absurd (let z : ⊥ = cc in z)
own_at list first (u ∷ ts) zero t e =
    let same : u ≡ t = same_some u t e in
    record { spot = spot_of list first (own_piece u); is = refl; list_is = refl; type_is = same; in_bytes = ap (λ (z : ObjectType). not (is_scalar z.lengths)) same; above = omega arith }
own_at list first (u ∷ ts) (suc n) t e =
    let more = own_at list (first + bytes_of_array u) ts n t e in
    record { spot = more.spot; is = more.is; list_is = more.list_is; type_is = more.type_is; in_bytes = more.in_bytes; above = omega (arith, more.above) }

pub own_spot : (q : Program) (f : ℕ) (fs : List ℕ) (n : ℕ) (t : ObjectType) → slice_get (function_at q f).objects n ≡ Some t
    → IsOwn (stack_bytes q (f ∷ fs)) (area_home (function_for q f)) t (slice_get (spots q (f ∷ fs)) (length (spots q fs) + n))
own_spot q f fs n t e =
    let own = spots_from (stack_bytes q (f ∷ fs)) (area_home (function_for q f)) (map own_piece (function_at q f).objects) in
    subst (IsOwn (stack_bytes q (f ∷ fs)) (area_home (function_for q f)) t) (sym (get_right (spots q fs) own n))
    (own_at (stack_bytes q (f ∷ fs)) (area_home (function_for q f)) (function_at q f).objects n t e)

-- an array's offset is that of its home
pub own_offset : (list a c o : ℕ) (ts : List ObjectType) (n : ℕ) (t : ObjectType) (x : Spot) → slice_get ts n ≡ Some t → is_scalar t.lengths ≡ false → slice_get (spots_from list (a + o) (map own_piece ts)) n ≡ Some x
    → x.offset ≡ a + layout.offset_in (slice_get (homes_from c o ts) n)
own_offset list a c o [] n t x e s ex = absurd (let z : ⊥ = cc in z)
own_offset list a c o (u ∷ ts) zero t x e s ex =
    let same : u ≡ t = same_some u t e in
    let is : is_scalar u.lengths ≡ false = ap (λ (z : ObjectType). is_scalar z.lengths) same ∙ s in
    let offset : a + o ≡ x.offset = ap (λ (z : Spot). z.offset) (same_some (spot_of list (a + o) (own_piece u)) x ex) in
    sym offset ∙ ap (λ k. a + k) (sym (ap (λ b. layout.offset_in (Some (layout.home_for b c o))) is))
own_offset list a c o (u ∷ ts) (suc n) t x e s ex =
    let sum : a + o + bytes_of_array u ≡ a + (o + bytes_of_array u) = omega arith in
    own_offset list a (c + layout.words_of u) (o + bytes_of_array u) ts n t x e s (ap (λ k. slice_get (spots_from list k (map own_piece ts)) n) (sym sum) ∙ ex)
