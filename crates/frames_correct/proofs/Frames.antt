-- The frames of the open calls, after a change of the store or of bytes.
use Rattle.std.proofs.Common.{◌≡◌, ℕ, ◌+◌, List, [], ◌∷◌, ◌++◌, length, map, Option, Some, None, Bool, true, false, refl, sym, ap, ◌∙◌, subst, eqb}
use Rattle.std.specs.Prelude.{slice_get, not}
use Rattle.ctypes.specs.declared.types.IntType.{IntType}
use Rattle.typing_spec.specs.Types.{ObjectType}
use Rattle.csem.specs.Store.{Tree, Store, Reference, value_of}
use Rattle.tac_code.specs.Code.{Program, function_at, scalar_type, type_if_scalar as tac_type}
use Rattle.tac_code.specs.Run.{Call, reference}
use Rattle.frames_code.specs.Code as flat
use Rattle.frames_code.specs.Run as flat_run
use Rattle.frames_code.specs.Run.{Bytes, Frame, Memory, name_of, bytes_of, changed_among}
use Rattle.frames.specs.Layout.{is_scalar}
use Rattle.frames_correct.specs.Matched.{Spot, FrameHolds, FramesHold, InPlace, AllInPlace, Leads, shown, function_for, stack_bytes, spots, spots_from, own_piece, list_in, offset_in}
use Rattle.frames_correct.proofs.Lists.{same_some, bool_cases, get_left}
use Rattle.frames_correct.proofs.Spots.{own_spot}

abbrev pub functions_of : List Call → List ℕ
functions_of cs = map (λ c. c.function) cs

-- an object that is no array
pub record IsScalarIn (ts : List ObjectType) (n : ℕ) (t : IntType) : Type 0 where
  pub object : ObjectType
  pub object_is : slice_get ts n ≡ Some object
  pub scalar : is_scalar object.lengths ≡ true
  pub element : object.element ≡ t

pub scalar_in : (ts : List ObjectType) (n : ℕ) (t : IntType) → scalar_type (slice_get ts n) ≡ Some t → IsScalarIn ts n t
scalar_in ts n t e = by_object (slice_get ts n) refl e
  where
    by_lengths : (u : ObjectType) (ls : List ℕ) → u.lengths ≡ ls → slice_get ts n ≡ Some u → scalar_type (Some u) ≡ Some t → IsScalarIn ts n t
    by_lengths u [] el g h =
        let is : scalar_type (Some u) ≡ Some u.element = ap (λ ls. tac_type ls u.element) el in
        record { object = u; object_is = g; scalar = ap is_scalar el; element = same_some u.element t (sym is ∙ h) }
    by_lengths u (m ∷ ls) el g h =
        let is : scalar_type (Some u) ≡ None = ap (λ ls. tac_type ls u.element) el in
        absurd (let x : None ≡ Some t = sym is ∙ h in let y : ⊥ = cc in y)

    by_object : (o : Option ObjectType) → slice_get ts n ≡ o → scalar_type o ≡ Some t → IsScalarIn ts n t
    by_object None g h = absurd (let y : ⊥ = cc in y)
    by_object (Some u) g h = by_lengths u u.lengths refl g h

-- where it has its spot, out of bytes
pub record HasSpot (xs : List Spot) (n : ℕ) (b : Bool) : Type 0 where
  pub spot : Spot
  pub is : slice_get xs n ≡ Some spot
  pub in_bytes : spot.in_bytes ≡ b

pub scalar_spot : (q : Program) (f : ℕ) (fs : List ℕ) (n : ℕ) (t : IntType) → scalar_type (slice_get (function_at q f).objects n) ≡ Some t → HasSpot (spots q (f ∷ fs)) (length (spots q fs) + n) false
scalar_spot q f fs n t e =
    let s = scalar_in (function_at q f).objects n t e in
    let own = own_spot q f fs n s.object s.object_is in
    record { spot = own.spot; is = own.is; in_bytes = own.in_bytes ∙ ap not s.scalar }

-- objects out of bytes stay
abbrev pub WordsStay : List Spot → Store → Store → Type 0
WordsStay xs store store2 = (n : ℕ) (x : Spot) → slice_get xs n ≡ Some x → x.in_bytes ≡ false → slice_get store2 n ≡ slice_get store n

pub frame_stays : (q : Program) (c : Call) (cs : List Call) (f : Frame) (store store2 : Store) → WordsStay (spots q (functions_of (c ∷ cs))) store store2
    → FrameHolds q (spots q (functions_of (c ∷ cs))) (length (spots q (functions_of cs))) c f store → FrameHolds q (spots q (functions_of (c ∷ cs))) (length (spots q (functions_of cs))) c f store2
frame_stays q c cs f store store2 stay h = record {
  function = h.function;
  at = h.at;
  base = h.base;
  kept = h.kept;
  few = h.few;
  arrays = h.arrays;
  objects = λ n t v et ev.
      let spot = scalar_spot q c.function (functions_of cs) n t et in
      let there : slice_get store2 (c.base + n) ≡ slice_get store (c.base + n) = ap (λ b. slice_get store2 (b + n)) h.base ∙ (stay (length (spots q (functions_of cs)) + n) spot.spot spot.is spot.in_bytes ∙ ap (λ b. slice_get store (b + n)) (sym h.base)) in
      h.objects n t v et (ap value_of (sym there) ∙ ev);
}

pub frames_stay : (q : Program) (cs : List Call) (fs : List Frame) (store store2 : Store) → WordsStay (spots q (functions_of cs)) store store2 → FramesHold q cs fs store → FramesHold q cs fs store2
frames_stay q [] [] store store2 stay h = tt
frames_stay q [] (f ∷ fs) store store2 stay h = absurd h
frames_stay q (c ∷ cs) [] store store2 stay h = absurd h
frames_stay q (c ∷ cs) (f ∷ fs) store store2 stay h = (
  frame_stays q c cs f store store2 stay h.0,
  frames_stay q cs fs store store2 (λ n x e out. stay n x (get_left (spots q (functions_of cs)) (spots_from (stack_bytes q (functions_of (c ∷ cs))) (flat.area_home (function_for q c.function)) (map own_piece (function_at q c.function).objects)) n x e) out) h.1,
)

-- the words stay where bytes change
pub frame_put : (q : Program) (xs : List Spot) (first : ℕ) (c : Call) (f : Frame) (store : Store) (b : Bytes) → FrameHolds q xs first c f store → FrameHolds q xs first c (record f { area = b }) store
frame_put q xs first c f store b h = record { function = h.function; at = h.at; base = h.base; kept = h.kept; few = h.few; arrays = h.arrays; objects = h.objects }

pub frames_put : (q : Program) (p : flat.Program) (cs : List Call) (fs : List Frame) (store : Store) (l : ℕ) (b : Bytes) → FramesHold q cs fs store → FramesHold q cs (changed_among p fs l b) store
frames_put q p [] [] store l b h = tt
frames_put q p [] (f ∷ fs) store l b h = absurd h
frames_put q p (c ∷ cs) [] store l b h = absurd h
frames_put q p (c ∷ cs) (f ∷ fs) store l b h = by_name (frames_put q p cs fs store l b h.1)
  where
    by_name : FramesHold q cs (changed_among p fs l b) store → FramesHold q (c ∷ cs) (changed_among p (f ∷ fs) l b) store
    by_name more =
        bool_cases (eqb (name_of p f fs) l)
        (λ t.
        let e : changed_among p (f ∷ fs) l b ≡ record f { area = b } ∷ fs = rw t refl in
        let new : FramesHold q (c ∷ cs) (record f { area = b } ∷ fs) store = (frame_put q _ _ c f store b h.0, h.1) in
        subst (λ gs. FramesHold q (c ∷ cs) gs store) (sym e) new)
        (λ t.
        let e : changed_among p (f ∷ fs) l b ≡ f ∷ changed_among p fs l b = rw t refl in
        let new : FramesHold q (c ∷ cs) (f ∷ changed_among p fs l b) store = (h.0, more) in
        subst (λ gs. FramesHold q (c ∷ cs) gs store) (sym e) new)

-- ---- the functions and names of frames

pub functions_same : (q : Program) (cs : List Call) (fs : List Frame) (store : Store) → FramesHold q cs fs store → map (λ f. f.function) fs ≡ functions_of cs
functions_same q [] [] store h = refl
functions_same q [] (f ∷ fs) store h = absurd h
functions_same q (c ∷ cs) [] store h = absurd h
functions_same q (c ∷ cs) (f ∷ fs) store h = ap (λ g. g ∷ map (λ f. f.function) fs) h.0.function ∙ ap (λ gs. c.function ∷ gs) (functions_same q cs fs store h.1)

-- ---- objects in bytes, where stores and lists agree

pub lies_by : (x : Spot) (o o2 : Option Tree) (m m2 : Option Memory) → o2 ≡ o → m2 ≡ m → InPlace x o m → InPlace x o2 m2
lies_by x o o2 m m2 eo em h = record { tree = h.tree; tree_is = eo ∙ h.tree_is; shaped = h.shaped; list = h.list; list_is = em ∙ h.list_is; first = h.first; past = h.past; elements = h.elements }

pub all_lie_by : (xs : List Spot) (store store2 : Store) (lists lists2 : ℕ → Option Memory) → ((n : ℕ) (x : Spot) → slice_get xs n ≡ Some x → x.in_bytes ≡ true → slice_get store2 n ≡ slice_get store n) → ((l : ℕ) → lists2 l ≡ lists l) → AllInPlace xs store lists → AllInPlace xs store2 lists2
all_lie_by xs store store2 lists lists2 same each h n x e b = lies_by x (slice_get store n) (slice_get store2 n) (lists x.list) (lists2 x.list) (same n x e b) (each x.list) (h n x e b)

-- ---- values where one more call is open

pub leads_more : (xs ys : List Spot) (r : Reference) → Leads xs r → Leads (xs ++ ys) r
leads_more xs ys r h = record { spot = h.spot; spot_is = get_left xs ys r.object h.spot h.spot_is; in_bytes = h.in_bytes; path = h.path }

pub shown_more : (xs ys : List Spot) (r : Reference) → Leads xs r → shown (xs ++ ys) (reference r) ≡ shown xs (reference r)
shown_more xs ys r h =
    let one = get_left xs ys r.object h.spot h.spot_is in
    ap (λ o. flat_run.reference (list_in o) (offset_in o r.path)) (one ∙ sym h.spot_is)
