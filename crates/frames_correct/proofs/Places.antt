-- The addresses of places, and the types of the objects there.
use Rattle.std.proofs.Common.{◌≡◌, ℕ, zero, suc, ◌+◌, ◌*◌, List, [], ◌∷◌, ◌++◌, length, map, Bool, Option, Some, None, true, false, refl, sym, ap, ◌∙◌, subst, arith}
use Rattle.std.specs.Prelude.{slice_get, not, option_map, if◌then◌else◌}
use Rattle.ctypes.specs.declared.types.IntType.{IntType}
use Rattle.ctypes.specs.declared.types.IntType.TheVariants as ty
use Rattle.ctypes.specs.Types.{bytes_of}
use Rattle.typing_spec.specs.Types.{ObjectType}
use Rattle.typing_spec.specs.Program.{Static}
use Rattle.typing_spec.specs.Units.{in_words}
use Rattle.csem.specs.Store.{Reference, whole}
use Rattle.tac_code.specs.declared.code.Place.{Place}
use Rattle.tac_code.specs.declared.code.Place.TheVariants as place
use Rattle.tac_code.specs.Code.{Program, Function, function_at, scalar_type}
use Rattle.tac_code.specs.Run.{State, Call, reference_to, element_types, element_type, array_if, is_type, path_of, element_of, own, own_type, open_calls}
use Rattle.tac_code.specs.Sound.{PlaceFits}
use Rattle.frames_code.specs.Code as flat_code
use Rattle.frames_code.specs.Code.{area_home}
use Rattle.frames_code.specs.Run as flat
use Rattle.frames_code.specs.Run.{name_of}
use Rattle.frames.specs.Sizes.{literal_sizes, static_sizes, literal_bytes}
use Rattle.frames.specs.Layout.{is_scalar, layout_of, starts_from, starts_of, start_in}
use Rattle.frames.specs.Layout as layout
use Rattle.frames.specs.Translated.{location_of}
use Rattle.frames.proofs.Places.{array_lengths}
use Rattle.frames_correct.specs.Matched.{Spot, Piece, Matched, Leads, spot_of, spots_from, literal_piece, static_piece, own_piece, function_for, stack_bytes, spots, elements_before, offset_at, list_in, offset_in}
use Rattle.frames_correct.proofs.Lists.{same_some, some_below, get_left, get_right, get_map, map_both, got_below}
use Rattle.frames_correct.proofs.Spots.{own_spot, own_offset}
use Rattle.frames_correct.proofs.Frames.{functions_of}
use Rattle.frames_correct.proofs.Values.{gave, reference_shows}
use Rattle.frames_correct.proofs.Elements.{path_found}
use Rattle.frames_correct.proofs.Ground.{IsMadeOf, name_is, function_is}

-- ---- literals and statics

pub first_stays : (q : Program) (fs : List ℕ) (n : ℕ) (x : Spot) → slice_get (spots q []) n ≡ Some x → slice_get (spots q fs) n ≡ Some x
first_stays q [] n x e = e
first_stays q (f ∷ fs) n x e = get_left (spots q fs) (spots_from (stack_bytes q (f ∷ fs)) (area_home (function_for q f)) (map own_piece (function_at q f).objects)) n x (first_stays q fs n x e)

literal_spot : (ls : List (List ℕ)) (more : List Piece) (o n : ℕ) (text : List ℕ) → slice_get ls n ≡ Some text → slice_get (spots_from 0 o (map literal_piece ls ++ more)) n ≡ Some (spot_of 0 (start_in (slice_get (starts_from o (literal_sizes ls)) n)) (literal_piece text))
literal_spot [] more o n text e = absurd (let z : ⊥ = cc in z)
literal_spot (x ∷ ls) more o zero text e = ap (λ z. Some (spot_of 0 o (literal_piece z))) (same_some x text e)
literal_spot (x ∷ ls) more o (suc n) text e = literal_spot ls more (o + in_words (length x)) n text e

static_spot : (os : List Static) (o n : ℕ) (x : Static) → slice_get os n ≡ Some x → slice_get (spots_from 0 o (map static_piece os)) n ≡ Some (spot_of 0 (start_in (slice_get (starts_from o (static_sizes os)) n)) (static_piece x))
static_spot [] o n x e = absurd (let z : ⊥ = cc in z)
static_spot (y ∷ os) o zero x e = ap (λ z. Some (spot_of 0 o (static_piece z))) (same_some y x e)
static_spot (y ∷ os) o (suc n) x e = static_spot os (o + (static_piece y).size) n x e

behind_literals : (ls : List (List ℕ)) (more : List Piece) (o n : ℕ) → slice_get (spots_from 0 o (map literal_piece ls ++ more)) (length ls + n) ≡ slice_get (spots_from 0 (o + literal_bytes ls) more) n
behind_literals [] more o n = ap (slice_get (spots_from 0 o more)) (let e : 0 + n ≡ n = omega arith in e) ∙ ap (λ k. slice_get (spots_from 0 k more) n) (let e : o ≡ o + 0 = omega arith in e)
behind_literals (x ∷ ls) more o n =
    ap (slice_get (spots_from 0 o (map literal_piece (x ∷ ls) ++ more))) (let e : suc (length ls) + n ≡ suc (length ls + n) = omega arith in e)
    ∙ (behind_literals ls more (o + in_words (length x)) n ∙ ap (λ k. slice_get (spots_from 0 k more) n) (let e : o + in_words (length x) + literal_bytes ls ≡ o + (in_words (length x) + literal_bytes ls) = omega arith in e))

pub literal_at : (q : Program) (n : ℕ) (text : List ℕ) → slice_get q.literals n ≡ Some text → slice_get (spots q []) n ≡ Some (spot_of 0 (start_in (slice_get (starts_of q).literals n)) (literal_piece text))
literal_at q n text e = literal_spot q.literals (map static_piece q.statics) 16 n text e

pub static_at : (q : Program) (n : ℕ) (x : Static) → slice_get q.statics n ≡ Some x → slice_get (spots q []) (length q.literals + n) ≡ Some (spot_of 0 (start_in (slice_get (starts_of q).statics n)) (static_piece x))
static_at q n x e = behind_literals q.literals (map static_piece q.statics) 16 n ∙ static_spot q.statics (16 + literal_bytes q.literals) n x e

-- ---- types of elements

abbrev kind_of : Spot → IntType
kind_of x = x.type.element

element_from : (list o : ℕ) (ps : List Piece) → map kind_of (spots_from list o ps) ≡ map (λ p. p.type.element) ps
element_from list o [] = refl
element_from list o (p ∷ ps) = ap (λ z. p.type.element ∷ z) (element_from list (o + p.size) ps)

twice : {A B C : Type 0} (g : B → C) (h : A → B) (xs : List A) → map g (map h xs) ≡ map (λ x. g (h x)) xs
twice g h [] = refl
twice g h (x ∷ xs) = ap (λ z. g (h x) ∷ z) (twice g h xs)

pub types_are : (q : Program) (cs : List Call) → map kind_of (spots q (functions_of cs)) ≡ element_types q cs
types_are q [] =
    element_from 0 16 (map literal_piece q.literals ++ map static_piece q.statics)
    ∙ (map_both (λ (p : Piece). p.type.element) (map literal_piece q.literals) (map static_piece q.statics)
    ∙ (ap (λ z. z ++ map (λ (p : Piece). p.type.element) (map static_piece q.statics)) (twice (λ (p : Piece). p.type.element) literal_piece q.literals)
    ∙ ap (λ z. map (λ text. ty.Char) q.literals ++ z) (twice (λ (p : Piece). p.type.element) static_piece q.statics)))
types_are q (c ∷ cs) =
    let ps = map own_piece (function_at q c.function).objects in
    let own = spots_from (stack_bytes q (functions_of (c ∷ cs))) (area_home (function_for q c.function)) ps in
    map_both kind_of (spots q (functions_of cs)) own
    ∙ (ap (λ z. z ++ map kind_of own) (types_are q cs)
    ∙ ap (λ z. element_types q cs ++ z) (element_from (stack_bytes q (functions_of (c ∷ cs))) (area_home (function_for q c.function)) ps ∙ twice (λ (p : Piece). p.type.element) own_piece (function_at q c.function).objects))

pub type_is : (q : Program) (t : State) (r : Reference) (x : Spot) → slice_get (spots q (open_calls t)) r.object ≡ Some x → element_type q t r ≡ Some x.type.element
type_is q t r x e =
    ap (λ z. slice_get z r.object) (sym (types_are q (t.call ∷ t.waiting))) ∙ get_map kind_of (spots q (open_calls t)) r.object x e

-- ---- places

pub none_before : (ls : List ℕ) → elements_before ls [] ≡ 0
none_before [] = refl
none_before (n ∷ ls) = refl

whole_offset : (x : Spot) → offset_at x [] ≡ x.offset
whole_offset x = ap (λ k. x.offset + bytes_of x.type.element * k) (none_before x.type.lengths) ∙ zero_more x.offset (bytes_of x.type.element)
  where
    zero_more : (o b : ℕ) → o + b * 0 ≡ o
    zero_more o b = omega arith

module _ (q : Program) (f : flat_code.Program) (g : IsMadeOf q f) (t : State) (s : flat.State) (m : Matched q f t s) where
  abbrev pub xs : List Spot
  xs = spots q (open_calls t)

  abbrev pub the : Function
  the = function_at q t.call.function

  pub record PlaceThere (l : Place) (r : Reference) : Type 0 where
    pub leads : Leads xs r
    pub is : flat.place f s (location_of (starts_of q) (layout_of the) l) ≡ Some (record { list = list_in (slice_get xs r.object); offset = offset_in (slice_get xs r.object) r.path })

  whole_there : (l : Place) (n : ℕ) (x : Spot) → slice_get xs n ≡ Some x → x.in_bytes ≡ true → flat.place f s (location_of (starts_of q) (layout_of the) l) ≡ Some (record { list = x.list; offset = x.offset }) → PlaceThere l (whole n)
  whole_there l n x e b h = record {
    leads = record { spot = x; spot_is = e; in_bytes = b; path = tt };
    is = h ∙ (ap (λ k. Some (record { list = x.list; offset = k })) (sym (whole_offset x)) ∙ ap (λ (o : Option Spot). Some (record { list = list_in o; offset = offset_in o [] })) (sym e));
  }

  array_there : (n : ℕ) (r : Reference) → PlaceFits q the (place.Array n) → reference_to q t (place.Array n) ≡ Some r → PlaceThere (place.Array n) r
  array_there n r fit e =
      let got = got_below the.objects n fit.0 in
      let now : array_if None (Some got.element) (own t n) ≡ Some r = ap (λ o. array_if o (Some got.element) (own t n)) (sym fit.1) ∙ (ap (λ o. array_if (scalar_type (own_type q t n)) o (own t n)) (sym got.is) ∙ e) in
      let same : own t n ≡ r = same_some (own t n) r now in
      let mine = own_spot q t.call.function (functions_of t.waiting) n got.element got.is in
      let here : slice_get xs (t.call.base + n) ≡ Some mine.spot = ap (λ b. slice_get xs (b + n)) m.frames.0.base ∙ mine.is in
      let array : is_scalar got.element.lengths ≡ false = array_lengths got.element.lengths got.element.element (ap scalar_type (sym got.is) ∙ fit.1) in
      let in_bytes : mine.spot.in_bytes ≡ true = mine.in_bytes ∙ ap not array in
      let home = area_home (function_for q t.call.function) in
      let own_list = spots_from (stack_bytes q (open_calls t)) home (map own_piece the.objects) in
      let in_own : slice_get own_list n ≡ Some mine.spot = sym (get_right (spots q (functions_of t.waiting)) own_list n) ∙ mine.is in
      let start : home ≡ home + 0 = omega arith in
      let offset = own_offset (stack_bytes q (open_calls t)) home 0 0 the.objects n got.element mine.spot got.is array (ap (λ k. slice_get (spots_from (stack_bytes q (open_calls t)) k (map own_piece the.objects)) n) (sym start) ∙ in_own) in
      subst (PlaceThere (place.Array n)) same
      (whole_there (place.Array n) (t.call.base + n) mine.spot here in_bytes
      (ap (λ k. Some (record { list = k; offset = area_home (flat.function_at f s.frame.function) + layout.offset_in (slice_get (layout_of the).homes n) })) (name_is q f g t s m ∙ sym mine.list_is)
      ∙ (ap (λ (h : flat_code.Function). Some (record { list = mine.spot.list; offset = area_home h + layout.offset_in (slice_get (layout_of the).homes n) })) (function_is q f g t s m)
      ∙ ap (λ k. Some (record { list = mine.spot.list; offset = k })) (sym offset))))

  array_fits : (n i : ℕ) (e : IntType) → PlaceFits q the (place.Element n i e) → PlaceFits q the (place.Array n)
  array_fits n i e fit = (some_below the.objects n fit.0 fit.1, ap scalar_type fit.1 ∙ fit.2)

  array_is : (n i : ℕ) (e : IntType) → PlaceFits q the (place.Element n i e) → reference_to q t (place.Array n) ≡ Some (own t n)
  array_is n i e fit = ap (λ o. array_if (scalar_type o) o (own t n)) fit.1 ∙ ap (λ o. array_if o (Some fit.0) (own t n)) fit.2

  where_so : {A : Type 0} (b : Bool) (o : Option A) (r : A) → (if b then o else None) ≡ Some r → o ≡ Some r
  where_so true o r e = e
  where_so false o r e = absurd (let z : ⊥ = cc in z)

  by_number : (h o p b n k : ℕ) → h + o ≡ p + b * 0 → n ≡ k → h + (o + k * b) ≡ p + b * n
  by_number h o p b n k e same = let s : k * b ≡ b * k = grind arith in let d : b * n ≡ b * k = ap (λ z. b * z) same in omega (arith, e, s, d)

  element_there : (n i : ℕ) (e : IntType) (r : Reference) → PlaceFits q the (place.Element n i e) → reference_to q t (place.Element n i e) ≡ Some r → PlaceThere (place.Element n i e) r
  element_there n i e r fit er =
      let whole_one = array_there n (own t n) (array_fits n i e fit) (array_is n i e fit) in
      let x = whole_one.leads.spot in
      let here : slice_get xs (t.call.base + n) ≡ Some x = whole_one.leads.spot_is in
      let mine = own_spot q t.call.function (functions_of t.waiting) n fit.0 fit.1 in
      let one : mine.spot ≡ x = same_some mine.spot x (sym mine.is ∙ (ap (λ b. slice_get xs (b + n)) (sym m.frames.0.base) ∙ here)) in
      let kind : e ≡ x.type.element = fit.4 ∙ (ap (λ (z : ObjectType). z.element) (sym mine.type_is) ∙ ap (λ (z : Spot). z.type.element) one) in
      let in_place = m.in_place (t.call.base + n) x here whole_one.leads.in_bytes in
      let at : element_of (t.call.base + n) (Some in_place.tree) i ≡ Some r =
      ap (λ o. element_of (t.call.base + n) o i) (sym in_place.tree_is) ∙ where_so (is_type e (option_map (λ (o : ObjectType). o.element) (own_type q t n))) (element_of (t.call.base + n) (slice_get t.store (t.call.base + n)) i) r er in
      let g = gave (λ path. record { object = t.call.base + n; path = path }) (path_of in_place.tree i) r at in
      let found = path_found x.type.lengths in_place.tree i g.from in_place.shaped g.from_is in
      subst (PlaceThere (place.Element n i e)) g.is (record {
        leads = record { spot = x; spot_is = here; in_bytes = whole_one.leads.in_bytes; path = found.within };
        is = reached_at n i e x g.from here kind found.number whole_one.is;
      })
    where
      reached_at : (n i : ℕ) (e : IntType) (x : Spot) (path : List ℕ) → slice_get xs (t.call.base + n) ≡ Some x → e ≡ x.type.element → elements_before x.type.lengths path ≡ i
          → flat.place f s (location_of (starts_of q) (layout_of the) (place.Array n)) ≡ Some (record { list = list_in (slice_get xs (t.call.base + n)); offset = offset_in (slice_get xs (t.call.base + n)) [] })
          → flat.place f s (location_of (starts_of q) (layout_of the) (place.Element n i e)) ≡ Some (record { list = list_in (slice_get xs (t.call.base + n)); offset = offset_in (slice_get xs (t.call.base + n)) path })
      reached_at n i e x path here kind number is =
          let home = area_home (flat.function_at f s.frame.function) in
          let off = layout.offset_in (slice_get (layout_of the).homes n) in
          let start = same_some (record { list = name_of f s.frame s.waiting; offset = home + off }) (record { list = list_in (slice_get xs (t.call.base + n)); offset = offset_in (slice_get xs (t.call.base + n)) [] }) is in
          let list : name_of f s.frame s.waiting ≡ list_in (slice_get xs (t.call.base + n)) = ap (λ (z : flat.Reference). z.list) start in
          let offset : home + off ≡ offset_at x [] = ap (λ (z : flat.Reference). z.offset) start ∙ ap (λ o. offset_in o []) here in
          let first : home + off ≡ x.offset + bytes_of x.type.element * 0 = offset ∙ ap (λ k. x.offset + bytes_of x.type.element * k) (none_before x.type.lengths) in
          let sum : home + (off + i * bytes_of x.type.element) ≡ offset_at x path = by_number home off x.offset (bytes_of x.type.element) (elements_before x.type.lengths path) i first number in
          let there : home + (off + i * bytes_of e) ≡ offset_in (slice_get xs (t.call.base + n)) path = ap (λ u. home + (off + i * bytes_of u)) kind ∙ (sum ∙ ap (λ o. offset_in o path) (sym here)) in
          ap (λ l. Some (record { list = l; offset = home + (off + i * bytes_of e) })) list ∙ ap (λ o. Some (record { list = list_in (slice_get xs (t.call.base + n)); offset = o })) there

  literal_there : (n : ℕ) (r : Reference) → PlaceFits q the (place.Literal n) → Some (whole n) ≡ Some r → PlaceThere (place.Literal n) r
  literal_there n r fit e =
      let got = got_below q.literals n fit in
      let x = spot_of 0 (start_in (slice_get (starts_of q).literals n)) (literal_piece got.element) in
      subst (PlaceThere (place.Literal n)) (same_some (whole n) r e)
      (whole_there (place.Literal n) n x (first_stays q (open_calls t) n x (literal_at q n got.element got.is)) refl refl)

  static_there : (n : ℕ) (r : Reference) → PlaceFits q the (place.Static n) → Some (whole (length q.literals + n)) ≡ Some r → PlaceThere (place.Static n) r
  static_there n r fit e =
      let x = spot_of 0 (start_in (slice_get (starts_of q).statics n)) (static_piece fit.0) in
      subst (PlaceThere (place.Static n)) (same_some (whole (length q.literals + n)) r e)
      (whole_there (place.Static n) (length q.literals + n) x (first_stays q (open_calls t) (length q.literals + n) x (static_at q n fit.0 fit.1)) fit.2 refl)

  pub place_there : (l : Place) (r : Reference) → PlaceFits q the l → reference_to q t l ≡ Some r → PlaceThere l r
  place_there (place.Literal n) r fit e = literal_there n r fit e
  place_there (place.Static n) r fit e = static_there n r fit e
  place_there (place.Array n) r fit e = array_there n r fit e
  place_there (place.Element n i k) r fit e = element_there n i k r fit e
  place_there (place.At x) r fit e = let h = reference_shows q f t s m x r fit e in record { leads = h.leads; is = h.is }
