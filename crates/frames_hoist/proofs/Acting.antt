-- Each step of a program whose constants were hoisted is that of the program.
use Rattle.std.proofs.Common.{◌≡◌, ◌≤◌, ◌<◌, ◌⊎◌, inl, inr, ⊎_elim, ℕ, zero, suc, ◌+◌, ◌-◌, ◌*◌, ◌%◌, ◌^◌, List, [], ◌∷◌, length, Option, Some, None, Bool, true, false, refl, sym, ap, ◌∙◌, subst, arith}
use Rattle.std.specs.Prelude.{◌==◌, ◌&&◌, if◌then◌else◌, nat_le, slice_get}
use Rattle.std.proofs.lemmas.Bool.{eqb-true, eqb-false, ne_eqb, leb-true}
use Rattle.rv32.specs.Arithmetic.{compare_of}
use Rattle.frames_code.specs.declared.code.Operand.{Operand}
use Rattle.frames_code.specs.declared.code.Operand.TheVariants as operand
use Rattle.frames_code.specs.declared.code.Target.{Target}
use Rattle.frames_code.specs.declared.code.Target.TheVariants as target
use Rattle.frames_code.specs.declared.code.Width.{Width}
use Rattle.frames_code.specs.declared.code.Width.TheVariants as width
use Rattle.frames_code.specs.declared.code.Base.{Base}
use Rattle.frames_code.specs.declared.code.Base.TheVariants as array_base
use Rattle.frames_code.specs.declared.code.Location.{Location}
use Rattle.frames_code.specs.declared.code.Location.TheVariants as location
use Rattle.frames_code.specs.declared.code.Instruction.{Instruction}
use Rattle.frames_code.specs.declared.code.Instruction.TheVariants as instruction
use Rattle.frames_code.specs.Code.{Program, area_home, frame_bytes}
use Rattle.frames_code.specs.Run.{Value, Values, Bytes, Frame, State, Reference, Memory, Progress, running, ended, stuck, word, reference, value, word_at, word_in, reference_in, set, with_at, unset, next, past, goes_to, place, base_of, indexed, size_of, arrays, memory, memory_among, changed_among, with_frames, with_memory, with_element, element_in, fits, gives, gives_word, operate, converted, loaded, stored, put, got, returned, entered, result_alone, result_of, below_eight, act, function_at, bytes_of, name_of, ◌>>=◌}
use Rattle.frames_code.proofs.Results.{result_same}
use Rattle.frames_hoist.specs.declared.homes.Home.{Home}
use Rattle.frames_hoist.specs.declared.homes.Home.TheVariants as home_of
use Rattle.frames_hoist.specs.layer.Hoisting.{survives_calls, put_in, is_straight, from_pool, with_pool}
use Rattle.frames_hoist.proofs.Agreeing.{Outside, WordOutside, TemporaryOutside, holds, PlacesAgree, OperandOutside, TargetOutside, BaseOutside, LocationOutside, IsOutside, LeadsAlike, AreAlike, first_or, rest_of, under, over, AllAgree, Agree, Match, match_bind, match_if, word_below, reference_below, indexed_below, value_below, plain_below}

-- ---- the places of constants

some_word : (a b : ℕ) → Some a ≡ Some b → Some (word a) ≡ Some (word b)
some_word a b h = cc

before : (a b n : ℕ) → a < n → n ≡ suc b → (a ≡ b → ⊥) → a < b
before a b n lt e ne = omega (arith, lt, e, ne)

-- values among which constants have places from `base` on
module _ (base : ℕ) (pool : List ℕ) (values : Values) where
  abbrev with_place : ℕ → Value → Values
  with_place n v = with_at values (base + n) v

  -- other values stay where a constant is put into its place
  others_stay : (n constant : ℕ) → slice_get pool n ≡ Some constant → (j : ℕ) → Outside base pool j → with_place n (word constant) j ≡ values j
  others_stay n constant there j out =
      let other : (j == base + n) ≡ false = ne_eqb j (base + n) (λ g. out n constant there g) in
      ap (λ b. if b then Some (word constant) else values j) other

  -- constants stay where another value is set
  constants_stay : (c : ℕ) (v : Value) → Outside base pool c → (i w : ℕ) → slice_get pool i ≡ Some w → with_at values c v (base + i) ≡ values (base + i)
  constants_stay c v out i w e =
      let other : (base + i == c) ≡ false = ne_eqb (base + i) c (λ g. out i w e (sym g)) in
      ap (λ b. if b then Some v else values (base + i)) other

  -- one constant more is there
  one_more : (n constant : ℕ) → slice_get pool n ≡ Some constant → ((i w : ℕ) → i < n → slice_get pool i ≡ Some w → values (base + i) ≡ Some (word w))
      → (i w : ℕ) → i < suc n → slice_get pool i ≡ Some w → with_place n (word constant) (base + i) ≡ Some (word w)
  one_more n constant there was i w lt e = on (base + i == base + n) refl
    where
      on : (b : Bool) → (base + i == base + n) ≡ b → (if base + i == base + n then Some (word constant) else values (base + i)) ≡ Some (word w)
      on true h =
          let g = eqb-true (base + i) (base + n) h in
          let same_place : i ≡ n = omega (arith, g) in
          let both : Some constant ≡ Some w = sym there ∙ (ap (slice_get pool) (sym same_place) ∙ e) in
          ap (λ b. if b then Some (word constant) else values (base + i)) h ∙ some_word constant w both
      on false h =
          let apart = eqb-false (base + i) (base + n) h in
          let less : i < n = before i n (suc n) lt refl (λ g. apart (ap (λ m. base + m) g)) in
          ap (λ b. if b then Some (word constant) else values (base + i)) h ∙ was i w less e

abbrev words_with : Home → ℕ → Value → Values → Values
words_with (home_of.Words b) n v d = with_at d (b + n) v
words_with (home_of.Temporaries b) n v d = d

abbrev temporaries_with : Home → ℕ → Value → Values → Values
temporaries_with (home_of.Words b) n v us = us
temporaries_with (home_of.Temporaries b) n v us = with_at us (b + n) v

set_is : (h : Home) (n : ℕ) (v : Value) (d us : Values) (ds : List Values) (s : State) → set (put_in h n) v (over d us ds s) ≡ over (words_with h n v d) (temporaries_with h n v us) ds s
set_is (home_of.Words b) n v d us ds s = refl
set_is (home_of.Temporaries b) n v d us ds s = refl

put_agrees : (h : Home) (pool : List ℕ) (n constant : ℕ) (c d ts us : Values) → slice_get pool n ≡ Some constant → PlacesAgree h pool n c d ts us
    → PlacesAgree h pool (suc n) c (words_with h n (word constant) d) ts (temporaries_with h n (word constant) us)
put_agrees (home_of.Words b) pool n constant c d ts us there agree = record {
  same = λ j out. others_stay b pool d n constant there j out ∙ agree.same j out;
  temporaries = agree.temporaries;
  words = one_more b pool d n constant there agree.words;
}
put_agrees (home_of.Temporaries b) pool n constant c d ts us there agree = record {
  same = agree.same;
  temporaries = λ j out. others_stay b pool us n constant there j out ∙ agree.temporaries j out;
  words = one_more b pool us n constant there agree.words;
}

constants_with_word : (h : Home) (pool : List ℕ) (c : ℕ) (v : Value) (d us : Values) → WordOutside h pool c → (i w : ℕ) → slice_get pool i ≡ Some w → holds h (with_at d c v) us i ≡ holds h d us i
constants_with_word (home_of.Words b) pool c v d us out i w e = constants_stay b pool d c v out i w e
constants_with_word (home_of.Temporaries b) pool c v d us out i w e = refl

constants_with_temporary : (h : Home) (pool : List ℕ) (c : ℕ) (v : Value) (d us : Values) → TemporaryOutside h pool c → (i w : ℕ) → slice_get pool i ≡ Some w → holds h d (with_at us c v) i ≡ holds h d us i
constants_with_temporary (home_of.Words b) pool c v d us out i w e = refl
constants_with_temporary (home_of.Temporaries b) pool c v d us out i w e = constants_stay b pool us c v out i w e

word_set : (h : Home) (pool : List ℕ) (n k : ℕ) (v : Value) (c d ts us : Values) → WordOutside h pool k → PlacesAgree h pool n c d ts us → PlacesAgree h pool n (with_at c k v) (with_at d k v) ts us
word_set h pool n k v c d ts us out agree = record {
  same = λ j o. ap (λ (m : Option Value). if j == k then Some v else m) (agree.same j o);
  temporaries = agree.temporaries;
  words = λ i w lt e. constants_with_word h pool k v d us out i w e ∙ agree.words i w lt e;
}

temporary_set : (h : Home) (pool : List ℕ) (n k : ℕ) (v : Value) (c d ts us : Values) → TemporaryOutside h pool k → PlacesAgree h pool n c d ts us → PlacesAgree h pool n c d (with_at ts k v) (with_at us k v)
temporary_set h pool n k v c d ts us out agree = record {
  same = agree.same;
  temporaries = λ j o. ap (λ (m : Option Value). if j == k then Some v else m) (agree.temporaries j o);
  words = λ i w lt e. constants_with_temporary h pool k v d us out i w e ∙ agree.words i w lt e;
}

-- ---- calls

pub none_lost : (h : Home) (pool : List ℕ) → survives_calls h ≡ true → (j : ℕ) → TemporaryOutside h pool j
none_lost (home_of.Words b) pool e j = tt
none_lost (home_of.Temporaries b) pool e j = absurd (let z : ⊥ = cc in z)

-- other temporaries
calls_agree : (h : Home) (pool : List ℕ) (n : ℕ) (c d ts us vs ws : Values) → survives_calls h ≡ true → ((j : ℕ) → ws j ≡ vs j) → PlacesAgree h pool n c d ts us → PlacesAgree h pool n c d vs ws
calls_agree (home_of.Words b) pool n c d ts us vs ws e alike agree = record { same = agree.same; temporaries = λ j out. alike j; words = agree.words }
calls_agree (home_of.Temporaries b) pool n c d ts us vs ws e alike agree = absurd (let z : ⊥ = cc in z)

-- a function begins with none of its constants
pub begins_agree : (h : Home) (pool : List ℕ) (n : ℕ) (ts us : Values) → n ≡ 0 → ((j : ℕ) → us j ≡ ts j) → PlacesAgree h pool n unset unset ts us
begins_agree h pool n ts us none alike = record {
  same = λ j out. refl;
  temporaries = λ j out. alike j;
  words = λ i w lt e. absurd (omega (arith, none, lt));
}

-- ---- memory

-- the same, or one without a place for an element
abbrev MemoryAlike : Option Memory → Option Memory → Type 0
MemoryAlike None o = Unit {0}
MemoryAlike (Some m) o = (o ≡ Some m) ⊎ ((w : Width) (k : ℕ) → fits w k m ≡ false)

some_bytes : (w : Width) → 1 ≤ size_of w
some_bytes width.Byte = omega arith
some_bytes width.SignedByte = omega arith
some_bytes width.Half = omega arith
some_bytes width.SignedHalf = omega arith
some_bytes width.Word = omega arith

none_between : (a b : ℕ) (x y : Bool) → (a ≤ b → y ≡ true → ⊥) → (x ≡ true → a ≤ b) → (x && y) ≡ false
none_between a b false y none le = refl
none_between a b true false none le = refl
none_between a b true true none le = absurd (none (le refl) refl)

and_none : (x y : Bool) → y ≡ false → (x && y) ≡ false
and_none true y e = e
and_none false y e = refl

none_fits : (w : Width) (k : ℕ) (m : Memory) → m.first ≡ m.past → fits w k m ≡ false
none_fits w k m e =
    and_none (k % size_of w == 0) (nat_le m.first k && nat_le (k + size_of w) m.past)
    (none_between m.first k (nat_le m.first k) (nat_le (k + size_of w) m.past)
    (λ le more. let a : k + size_of w ≤ m.past = leb-true (k + size_of w) m.past more in let b = some_bytes w in absurd (omega (arith, le, a, b, e)))
    (λ x. leb-true m.first k x))

abbrev area_memory : (first size : ℕ) → Bytes → Memory
area_memory first size b = record { bytes = b; first = first; past = first + size }

abbrev statics_memory : Bytes → List ℕ → Memory
statics_memory b xs = record { bytes = b; first = 0; past = length xs }

abbrev reference_to : (list offset : ℕ) → Reference
reference_to list offset = record { list = list; offset = offset }

choose_alike : (b : Bool) (m m2 : Memory) (o o2 : Option Memory) → MemoryAlike (Some m) (Some m2) → MemoryAlike o o2 → MemoryAlike (if b then Some m else o) (if b then Some m2 else o2)
choose_alike true m m2 o o2 h g = h
choose_alike false m m2 o o2 h g = g

module _ (p q : Program) (home : ℕ → Home) (pool : ℕ → List ℕ) (fill : ℕ → ℕ → ℕ) (r : AreAlike p q home pool fill) where
  bytes_under : (fs : List Frame) (ds : List Values) → bytes_of q (under fs ds) ≡ bytes_of p fs
  bytes_under [] ds = refl
  bytes_under (f ∷ fs) ds =
      ap (λ n. n + bytes_of q (under fs (rest_of ds))) (r.frames f.function) ∙ ap (λ n. frame_bytes (function_at p f.function) + n) (bytes_under fs (rest_of ds))

  name_under : (f : Frame) (fs : List Frame) (d : Values) (ds : List Values) → name_of q (record f { cells = d }) (under fs ds) ≡ name_of p f fs
  name_under f fs d ds = bytes_under (f ∷ fs) (d ∷ ds)

  arrays_alike : (k : ℕ) (b : Bytes) → MemoryAlike (Some (arrays (function_at p k) b)) (Some (arrays (function_at q k) b))
  arrays_alike k b =
      ⊎_elim
      (λ e. inr (λ w j. none_fits w j (arrays (function_at p k) b) (let g : area_home (function_at p k) ≡ area_home (function_at p k) + (function_at p k).area = omega (arith, e) in g)))
      (λ e. inl (ap (λ n. Some (area_memory n (function_at q k).area b)) e ∙ ap (λ n. Some (area_memory (area_home (function_at p k)) n b)) (r.areas k)))
      (r.arrays k)

  among_alike : (fs : List Frame) (ds : List Values) (l : ℕ) → MemoryAlike (memory_among p fs l) (memory_among q (under fs ds) l)
  among_alike [] ds l = tt
  among_alike (f ∷ fs) ds l =
      let same = name_under f fs (first_or f.cells ds) (rest_of ds) in
      subst (λ n. MemoryAlike (memory_among p (f ∷ fs) l) (if n == l then Some (arrays (function_at q f.function) f.area) else memory_among q (under fs (rest_of ds)) l)) (sym same)
      (choose_alike (name_of p f fs == l) (arrays (function_at p f.function) f.area) (arrays (function_at q f.function) f.area) (memory_among p fs l) (memory_among q (under fs (rest_of ds)) l)
      (arrays_alike f.function f.area) (among_alike fs (rest_of ds) l))

  pub memory_alike : (s : State) (d us : Values) (ds : List Values) (l : ℕ) → MemoryAlike (memory p s l) (memory q (over d us ds s) l)
  memory_alike s d us ds zero = inl (ap (λ (xs : List ℕ). Some (statics_memory s.statics xs)) r.statics)
  memory_alike s d us ds (suc l) = among_alike (s.frame ∷ s.waiting) (d ∷ ds) (suc l)

  choose_under : (b : Bool) (us vs : List Frame) (xs ys : List Frame) (ds : List Values) → us ≡ under xs ds → vs ≡ under ys ds → (if b then us else vs) ≡ under (if b then xs else ys) ds
  choose_under true us vs xs ys ds h g = h
  choose_under false us vs xs ys ds h g = g

  changed_under : (fs : List Frame) (ds : List Values) (l : ℕ) (b : Bytes) → changed_among q (under fs ds) l b ≡ under (changed_among p fs l b) ds
  changed_under [] ds l b = refl
  changed_under (f ∷ fs) ds l b =
      let g : Frame = record f { cells = first_or f.cells ds } in
      ap (λ n. if n == l then record g { area = b } ∷ under fs (rest_of ds) else g ∷ changed_among q (under fs (rest_of ds)) l b) (name_under f fs (first_or f.cells ds) (rest_of ds))
      ∙ choose_under (name_of p f fs == l) (record g { area = b } ∷ under fs (rest_of ds)) (g ∷ changed_among q (under fs (rest_of ds)) l b) (record f { area = b } ∷ fs) (f ∷ changed_among p fs l b) ds
      refl (ap (λ (gs : List Frame). g ∷ gs) (changed_under fs (rest_of ds) l b))

  frames_put : (s : State) (d us : Values) (ds : List Values) (fs : List Frame) → with_frames (over d us ds s) (under fs (d ∷ ds)) ≡ over d us ds (with_frames s fs)
  frames_put s d us ds [] = refl
  frames_put s d us ds (f ∷ fs) = refl

  memory_put : (s : State) (d us : Values) (ds : List Values) (l : ℕ) (b : Bytes) → with_memory q (over d us ds s) l b ≡ over d us ds (with_memory p s l b)
  memory_put s d us ds zero b = refl
  memory_put s d us ds (suc l) b =
      ap (with_frames (over d us ds s)) (changed_under (s.frame ∷ s.waiting) (d ∷ ds) (suc l) b) ∙ frames_put s d us ds (changed_among p (s.frame ∷ s.waiting) (suc l) b)

  -- ---- agreement

  abbrev Agrees : State → (d us : Values) → List Values → Type 0
  Agrees = Agree home pool fill

  abbrev Matches : Progress → Progress → Type 0
  Matches = Match home pool fill

  all_changed : (fs : List Frame) (ds : List Values) (l : ℕ) (b : Bytes) → AllAgree home pool fill fs ds → AllAgree home pool fill (changed_among p fs l b) ds
  all_changed [] ds l b h = tt
  all_changed (f ∷ fs) ds l b h = on (name_of p f fs == l) (all_changed fs (rest_of ds) l b h.3)
    where
      on : (c : Bool) → AllAgree home pool fill (changed_among p fs l b) (rest_of ds) → AllAgree home pool fill (if c then record f { area = b } ∷ fs else f ∷ changed_among p fs l b) ds
      on true more = h
      on false more = (h.0, h.1, h.2, more)

  agree_put : (s : State) (d us : Values) (ds : List Values) (l : ℕ) (b : Bytes) → Agrees s d us ds → Agrees (with_memory p s l b) d us ds
  agree_put s d us ds zero b agree = record { frame = agree.frame; waiting = agree.waiting }
  agree_put s d us ds (suc l) b agree = on (name_of p s.frame s.waiting == suc l)
    where
      on : (c : Bool) → Agrees (with_frames s (if c then record s.frame { area = b } ∷ s.waiting else s.frame ∷ changed_among p s.waiting (suc l) b)) d us ds
      on true = record { frame = agree.frame; waiting = agree.waiting }
      on false = record { frame = agree.frame; waiting = all_changed s.waiting ds (suc l) b agree.waiting }

  -- ---- an instruction that stays, but for constants that come from their places

  module _ (s : State) (d us : Values) (ds : List Values) (agree : Agrees s d us ds) where
    abbrev t : State
    t = over d us ds s

    abbrev k : ℕ
    k = s.frame.function

    abbrev i : ℕ
    i = s.frame.at

    abbrev Next : Type 0
    Next = fill k (i + 1) ≡ fill k i

    abbrev Places : ℕ → (c d ts us : Values) → Type 0
    Places = PlacesAgree (home k) (pool k)

    places_next : Next → Places (fill k (i + 1)) s.frame.cells d s.temporaries us
    places_next e = subst (λ n. Places n s.frame.cells d s.temporaries us) (sym e) agree.frame

    next_agrees : Next → Agrees (next s) d us ds
    next_agrees e = record { frame = places_next e; waiting = agree.waiting }

    past_agrees : Next → Agrees (past s) d us ds
    past_agrees e = record { frame = places_next e; waiting = agree.waiting }

    temporary_next : Next → (j : ℕ) (v : Value) → TemporaryOutside (home k) (pool k) j → Places (fill k (i + 1)) s.frame.cells d (with_at s.temporaries j v) (with_at us j v)
    temporary_next e j v out = temporary_set (home k) (pool k) (fill k (i + 1)) j v s.frame.cells d s.temporaries us out (places_next e)

    word_next : Next → (c : ℕ) (v : Value) → WordOutside (home k) (pool k) c → Places (fill k (i + 1)) (with_at s.frame.cells c v) (with_at d c v) s.temporaries us
    word_next e c v out = word_set (home k) (pool k) (fill k (i + 1)) c v s.frame.cells d s.temporaries us out (places_next e)

    gives_match : Next → (g : Target) (v : Value) → TargetOutside (home k) (pool k) g → Matches (gives g s v) (gives g t v)
    gives_match e (target.Temporary j) v out = record { words = d; temporaries = with_at us j v; others = ds; is = refl; agree = record { frame = temporary_next e j v out; waiting = agree.waiting } }
    gives_match e (target.Cell c) v out = record { words = with_at d c v; temporaries = us; others = ds; is = refl; agree = record { frame = word_next e c v out; waiting = agree.waiting } }

    move_match : Next → (g : Target) (v : Value) → TargetOutside (home k) (pool k) g → Matches (running (set g v (past s))) (running (set g v (past t)))
    move_match e (target.Temporary j) v out = record { words = d; temporaries = with_at us j v; others = ds; is = refl; agree = record { frame = temporary_next e j v out; waiting = agree.waiting } }
    move_match e (target.Cell c) v out = record { words = with_at d c v; temporaries = us; others = ds; is = refl; agree = record { frame = word_next e c v out; waiting = agree.waiting } }

    loaded_on : Next → (w : Width) (g : Target) (offset : ℕ) → TargetOutside (home k) (pool k) g → (o o2 : Option Memory) → MemoryAlike o o2
        → Matches (o >>= λ m. if fits w offset m then element_in w m.bytes offset >>= gives_word g s else stuck) (o2 >>= λ m. if fits w offset m then element_in w m.bytes offset >>= gives_word g t else stuck)
    loaded_on e w g offset out None o2 h = tt
    loaded_on e w g offset out (Some m) o2 h =
        ⊎_elim
        (λ same. subst (λ z. Matches (if fits w offset m then element_in w m.bytes offset >>= gives_word g s else stuck) (z >>= λ m. if fits w offset m then element_in w m.bytes offset >>= gives_word g t else stuck)) (sym same)
        (match_if home pool fill (fits w offset m) (element_in w m.bytes offset >>= gives_word g s) (element_in w m.bytes offset >>= gives_word g t)
        (match_bind home pool fill (element_in w m.bytes offset) (element_in w m.bytes offset) (gives_word g s) (gives_word g t) (λ n a. a) (λ n. gives_match e g (word n) out))))
        (λ none. subst (λ b. Matches (if b then element_in w m.bytes offset >>= gives_word g s else stuck) (o2 >>= λ m. if fits w offset m then element_in w m.bytes offset >>= gives_word g t else stuck)) (sym (none w offset)) tt)
        h

    put_match : Next → (l : ℕ) (b : Bytes) → Matches (running (with_memory p (next s) l b)) (running (with_memory q (next t) l b))
    put_match e l b = record { words = d; temporaries = us; others = ds; is = ap running (memory_put (next s) d us ds l b); agree = agree_put (next s) d us ds l b (next_agrees e) }

    stored_on : Next → (w : Width) (n l offset : ℕ) → (o o2 : Option Memory) → MemoryAlike o o2
        → Matches (o >>= λ m. if fits w offset m then running (with_memory p (next s) l (with_element w m.bytes offset n)) else stuck) (o2 >>= λ m. if fits w offset m then running (with_memory q (next t) l (with_element w m.bytes offset n)) else stuck)
    stored_on e w n l offset None o2 h = tt
    stored_on e w n l offset (Some m) o2 h =
        ⊎_elim
        (λ same. subst (λ z. Matches (if fits w offset m then running (with_memory p (next s) l (with_element w m.bytes offset n)) else stuck) (z >>= λ m. if fits w offset m then running (with_memory q (next t) l (with_element w m.bytes offset n)) else stuck)) (sym same)
        (match_if home pool fill (fits w offset m) (running (with_memory p (next s) l (with_element w m.bytes offset n))) (running (with_memory q (next t) l (with_element w m.bytes offset n)))
        (put_match e l (with_element w m.bytes offset n))))
        (λ none. subst (λ b. Matches (if b then running (with_memory p (next s) l (with_element w m.bytes offset n)) else stuck) (o2 >>= λ m. if fits w offset m then running (with_memory q (next t) l (with_element w m.bytes offset n)) else stuck)) (sym (none w offset)) tt)
        h

    base_same : (b : Base) → BaseOutside (function_at p k) (function_at q k) b → base_of q t b ≡ base_of p s b
    base_same (array_base.Statics o) out = refl
    base_same (array_base.Frame o) out =
        ap (λ n. reference_to n (area_home (function_at q k) + o)) (name_under s.frame s.waiting d ds)
        ∙ ap (λ n. reference_to (name_of p s.frame s.waiting) (n + o)) out

    -- the result, where temporary 0 is no place of a constant
    pub result_is : TemporaryOutside (home k) (pool k) 0 → result_of q t ≡ result_of p s
    result_is out = result_same (function_at p k).gives (function_at q k).gives (s.temporaries 0) (us 0) (r.results k) (λ has. agree.frame.temporaries 0 out)

    module _ (read : List ℕ) (held : (read ≡ []) ⊎ ((read ≡ pool k) × (fill k i ≡ length (pool k)))) where
      abbrev from : Operand → Operand
      from = from_pool (home k) read

      below : (x : Operand) → OperandOutside (home k) (pool k) x → (v : Value) → value s x ≡ Some v → value t (from x) ≡ Some v
      below = value_below (home k) (pool k) read (fill k i) held s d us ds agree.frame

      plain : (x : Operand) → OperandOutside (home k) (pool k) x → (v : Value) → value s x ≡ Some v → value t x ≡ Some v
      plain = plain_below (home k) (pool k) read (fill k i) held s d us ds agree.frame

      word_at_below : (x : Operand) → OperandOutside (home k) (pool k) x → (w : ℕ) → word_at s x ≡ Some w → word_at t (from x) ≡ Some w
      word_at_below x out = word_below (value s x) (value t (from x)) (below x out)

      plain_word : (x : Operand) → OperandOutside (home k) (pool k) x → (w : ℕ) → word_at s x ≡ Some w → word_at t x ≡ Some w
      plain_word x out = word_below (value s x) (value t x) (plain x out)

      plain_reference : (x : Operand) → OperandOutside (home k) (pool k) x → (w : Reference) → reference_in (value s x) ≡ Some w → reference_in (value t x) ≡ Some w
      plain_reference x out = reference_below (value s x) (value t x) (plain x out)

      place_below : (l : Location) → LocationOutside (home k) (pool k) (function_at p k) (function_at q k) l → (w : Reference) → place p s l ≡ Some w → place q t l ≡ Some w
      place_below (location.Statics o) out w e = e
      place_below (location.Frame o) out w e =
          ap (λ n. Some (reference_to n (area_home (function_at q k) + o))) (name_under s.frame s.waiting d ds)
          ∙ (ap (λ n. Some (reference_to (name_of p s.frame s.waiting) (n + o))) out ∙ e)
      place_below (location.At x) out w e = plain_reference x out w e
      place_below (location.Indexed b y size) out w e =
          ap (λ r. indexed r size (word_at t y)) (base_same b out.0) ∙ indexed_below (base_of p s b) size (word_at s y) (word_at t y) (plain_word y out.1) w e

      returned_match : (m n : Option Value) → n ≡ m → (ws : List Frame) (vs : List Values) → AllAgree home pool fill ws vs → Matches (returned s m ws) (returned t n (under ws vs))
      returned_match m n same [] vs h =
          match_bind home pool fill (word_in m) (word_in n) (λ v. ended (v % 2 ^ 8) s.input s.trace) (λ v. ended (v % 2 ^ 8) s.input s.trace) (λ v e. ap word_in same ∙ e) (λ v. refl)
      returned_match m n same (f ∷ fs) vs h = record {
        words = first_or f.cells vs;
        temporaries = result_alone n;
        others = rest_of vs;
        is = refl;
        agree = record {
          frame = calls_agree (home f.function) (pool f.function) (fill f.function f.at) f.cells (first_or f.cells vs) unset unset (result_alone m) (result_alone n) h.2
              (λ j. ap (λ v. result_alone v j) same) h.0;
          waiting = h.3;
        };
      }

      -- other temporaries after an instruction that loses them
      lost_match : Next → survives_calls (home k) ≡ true → (vs : Values) → Places (fill k (i + 1)) s.frame.cells d vs vs
      lost_match e kept vs = calls_agree (home k) (pool k) (fill k (i + 1)) s.frame.cells d s.temporaries us vs vs kept (λ j. refl) (places_next e)

      put_byte_match : Next → survives_calls (home k) ≡ true → (v : ℕ) → Matches (put s v) (put t v)
      put_byte_match e kept v = record { words = d; temporaries = unset; others = ds; is = refl; agree = record { frame = lost_match e kept unset; waiting = agree.waiting } }

      got_match : Next → survives_calls (home k) ≡ true → (input : List ℕ) → Matches (got s input) (got t input)
      got_match e kept [] =
          let left : Values = result_alone (Some (word (2 ^ 32 - 1))) in
          record { words = d; temporaries = left; others = ds; is = refl; agree = record { frame = lost_match e kept left; waiting = agree.waiting } }
      got_match e kept (b ∷ more) =
          let left : Values = result_alone (Some (word b)) in
          record { words = d; temporaries = left; others = ds; is = refl; agree = record { frame = lost_match e kept left; waiting = agree.waiting } }

      jumps : (to : ℕ) → fill k to ≡ fill k i → Matches (running (goes_to s to)) (running (goes_to t to))
      jumps to e = record {
        words = d;
        temporaries = us;
        others = ds;
        is = refl;
        agree = record { frame = subst (λ n. Places n s.frame.cells d s.temporaries us) (sym e) agree.frame; waiting = agree.waiting };
      }

      branched : Next → (c : Bool) (to : ℕ) → fill k to ≡ fill k i → Matches (running (if c then goes_to s to else next s)) (running (if c then goes_to t to else next t))
      branched e true to h = jumps to h
      branched e false to h = record { words = d; temporaries = us; others = ds; is = refl; agree = next_agrees e }

      -- where the function calls, all temporaries are the same
      enters : Next → (f : ℕ) → survives_calls (home k) ≡ true → fill k i ≡ length (pool k) → Matches (running (entered s f)) (running (entered t f))
      enters e f kept full = subst (λ (vs : Values). Matches (running (entered s f)) (running (entered (over d vs ds s) f))) (sym same) (record {
        words = unset;
        temporaries = below_eight s.temporaries;
        others = d ∷ ds;
        is = refl;
        agree = record {
          frame = begins_agree (home f) (pool f) (fill f 0) (below_eight s.temporaries) (below_eight s.temporaries) (r.starts f) (λ j. refl);
          waiting = (lost_match e kept unset, e ∙ full, kept, agree.waiting);
        };
      })
        where
          same : us ≡ s.temporaries
          same = let each : (j : ℕ) → us j ≡ s.temporaries j = λ j. agree.frame.temporaries j (none_lost (home k) (pool k) kept j) in λ n j. each j n

      pub reads_alike : (x : Instruction) → IsOutside (home k) (pool k) (function_at p k) (function_at q k) x → Next → LeadsAlike (fill k) (fill k i) x → (is_straight x ≡ true) ⊎ (fill k i ≡ length (pool k))
          → Matches (act p s x) (act q t (with_pool (home k) read x))
      reads_alike instruction.Nothing out e leads whole = record { words = d; temporaries = us; others = ds; is = refl; agree = past_agrees e }
      reads_alike (instruction.Move g x) out e leads whole =
          match_bind home pool fill (value s x) (value t (from x)) (λ v. running (set g v (past s))) (λ v. running (set g v (past t))) (below x out.1) (λ v. move_match e g v out.0)
      reads_alike (instruction.Compute o g x y) out e leads whole =
          match_bind home pool fill (word_at s x) (word_at t (from x)) (λ m. word_at s y >>= λ n. gives_word g s (operate o m n)) (λ m. word_at t (from y) >>= λ n. gives_word g t (operate o m n)) (word_at_below x out.1)
          (λ m. match_bind home pool fill (word_at s y) (word_at t (from y)) (λ n. gives_word g s (operate o m n)) (λ n. gives_word g t (operate o m n)) (word_at_below y out.2)
          (λ n. gives_match e g (word (operate o m n)) out.0))
      reads_alike (instruction.Convert c g x) out e leads whole =
          match_bind home pool fill (word_at s x) (word_at t x) (λ m. gives_word g s (converted c m)) (λ m. gives_word g t (converted c m)) (plain_word x out.1) (λ m. gives_match e g (word (converted c m)) out.0)
      reads_alike (instruction.Load w g l) out e leads whole =
          match_bind home pool fill (place p s l) (place q t l) (loaded p s w g) (loaded q t w g) (place_below l out.1)
          (λ v. loaded_on e w g v.offset out.0 (memory p s v.list) (memory q t v.list) (memory_alike s d us ds v.list))
      reads_alike (instruction.Store w x l) out e leads whole =
          match_bind home pool fill (word_at s x) (word_at t (from x)) (λ n. place p s l >>= stored p s w n) (λ n. place q t l >>= stored q t w n) (word_at_below x out.0)
          (λ n. match_bind home pool fill (place p s l) (place q t l) (stored p s w n) (stored q t w n) (place_below l out.1)
          (λ v. stored_on e w n v.list v.offset (memory p s v.list) (memory q t v.list) (memory_alike s d us ds v.list)))
      reads_alike (instruction.Address g l) out e leads whole =
          match_bind home pool fill (place p s l) (place q t l) (λ v. gives g s (reference v.list v.offset)) (λ v. gives g t (reference v.list v.offset)) (place_below l out.1)
          (λ v. gives_match e g (reference v.list v.offset) out.0)
      reads_alike (instruction.Element g x y size) out e leads whole =
          match_bind home pool fill (reference_in (value s x)) (reference_in (value t x)) (λ m. word_at s y >>= λ n. gives g s (reference m.list (m.offset + n * size)))
          (λ m. word_at t y >>= λ n. gives g t (reference m.list (m.offset + n * size))) (plain_reference x out.1)
          (λ m. match_bind home pool fill (word_at s y) (word_at t y) (λ n. gives g s (reference m.list (m.offset + n * size))) (λ n. gives g t (reference m.list (m.offset + n * size))) (plain_word y out.2)
          (λ n. gives_match e g (reference m.list (m.offset + n * size)) out.0))
      reads_alike (instruction.Jump to) out e leads whole = jumps to leads
      reads_alike (instruction.Branch c x y to) out e leads whole =
          match_bind home pool fill (word_at s x) (word_at t (from x)) (λ m. word_at s y >>= λ n. running (if compare_of c m n then goes_to s to else next s))
          (λ m. word_at t (from y) >>= λ n. running (if compare_of c m n then goes_to t to else next t)) (word_at_below x out.0)
          (λ m. match_bind home pool fill (word_at s y) (word_at t (from y)) (λ n. running (if compare_of c m n then goes_to s to else next s)) (λ n. running (if compare_of c m n then goes_to t to else next t))
          (word_at_below y out.1) (λ n. branched e (compare_of c m n) to leads))
      reads_alike (instruction.Call f) out e leads whole = enters e f out (⊎_elim (λ no. absurd (let z : ⊥ = cc in z)) (λ h. h) whole)
      reads_alike instruction.PutByte out e leads whole =
          match_bind home pool fill (word_at s (operand.Temporary 0)) (word_at t (operand.Temporary 0)) (put s) (put t) (plain_word (operand.Temporary 0) (none_lost (home k) (pool k) out 0)) (put_byte_match e out)
      reads_alike instruction.GetByte out e leads whole = got_match e out s.input
      reads_alike instruction.Exit out e leads whole =
          match_bind home pool fill (word_at s (operand.Temporary 0)) (word_at t (operand.Temporary 0)) (λ v. ended (v % 2 ^ 8) s.input s.trace) (λ v. ended (v % 2 ^ 8) s.input s.trace) (plain_word (operand.Temporary 0) out) (λ v. refl)
      reads_alike instruction.Return out e leads whole = returned_match (result_of p s) (result_of q t) (result_is out) s.waiting ds agree.waiting

    -- ---- a constant put into its place, where the program does nothing

    pub puts_alike : (constant : ℕ) → slice_get (pool k) (fill k i) ≡ Some constant → fill k (i + 1) ≡ suc (fill k i)
        → Matches (act p s instruction.Nothing) (act q t (instruction.Move (put_in (home k) (fill k i)) (operand.Constant constant)))
    puts_alike constant there more = record {
      words = words_with (home k) (fill k i) (word constant) d;
      temporaries = temporaries_with (home k) (fill k i) (word constant) us;
      others = ds;
      is = ap running (set_is (home k) (fill k i) (word constant) d us ds (past s));
      agree = record {
        frame = subst (λ n. Places n s.frame.cells (words_with (home k) (fill k i) (word constant) d) s.temporaries (temporaries_with (home k) (fill k i) (word constant) us)) (sym more)
            (put_agrees (home k) (pool k) (fill k i) constant s.frame.cells d s.temporaries us there agree.frame);
        waiting = agree.waiting;
      };
    }
