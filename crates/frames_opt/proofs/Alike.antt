-- An instruction does the same where only temporaries differ that are dead, or that keep an index.
use Rattle.std.proofs.Common.{◌≡◌, ℕ, zero, suc, ◌+◌, List, [], ◌∷◌, length, Option, Some, None, Bool, true, false, refl, sym, ap, ◌∙◌, subst}
use Rattle.std.specs.Prelude.{◌==◌, ◌&&◌, ◌||◌, if◌then◌else◌}
use Rattle.std.proofs.lemmas.Bool.{eqb-true, eqb-false, eq-eqb, ne_eqb}
use Rattle.frames_code.specs.declared.code.Operand.{Operand}
use Rattle.frames_code.specs.declared.code.Operand.TheVariants as operand
use Rattle.frames_code.specs.declared.code.Target.{Target}
use Rattle.frames_code.specs.declared.code.Target.TheVariants as target
use Rattle.frames_code.specs.declared.code.Width.{Width}
use Rattle.frames_code.specs.declared.code.Base.{Base}
use Rattle.frames_code.specs.declared.code.Base.TheVariants as base
use Rattle.frames_code.specs.declared.code.Location.{Location}
use Rattle.frames_code.specs.declared.code.Location.TheVariants as location
use Rattle.frames_code.specs.declared.code.Instruction.{Instruction}
use Rattle.frames_code.specs.Code.{Function, Program, area_home, frame_bytes}
use Rattle.frames_code.specs.Run.{Value, Values, Bytes, Frame, State, Reference, Memory, Progress, running, ended, stuck, word, value, word_at, word_in, reference_in, set, with_at, unset, next, past, place, base_of, indexed, arrays, memory, memory_among, changed_among, with_frames, with_memory, with_element, element_in, fits, gives, gives_word, loaded, stored, function_at, bytes_of, name_of, ◌>>=◌}
use Rattle.frames_opt.specs.declared.statuses.Status.{Status}
use Rattle.frames_opt.specs.declared.statuses.Status.TheVariants as status
use Rattle.frames_opt.specs.inside.Liveness.{names, is_through, reads, temporary_of, written, is_number, is_written}
use Rattle.frames_opt.specs.inside.Sweep.{is_same, is_same_base, accepts}
use Rattle.frames_opt.proofs.Acts.{base_at, name_in, home_in, not_true}

-- ---- the same functions but for their code

abbrev pub with_code : Function → List Instruction → Function
with_code f code = record { code = code; cells = f.cells; resident = f.resident; area = f.area; outgoing = f.outgoing; gives = f.gives }

pub record Sized (p q : Program) : Type 0 where
  pub at : (k : ℕ) → function_at q k ≡ with_code (function_at p k) (function_at q k).code
  pub statics : q.statics ≡ p.statics

-- other temporaries and arguments
abbrev pub over : Values → Values → State → State
over u a s = record s { temporaries = u; arguments = a }

abbrev statics_memory : Bytes → List ℕ → Memory
statics_memory b xs = record { bytes = b; first = 0; past = length xs }

abbrev reference_to : (list offset : ℕ) → Reference
reference_to list offset = record { list = list; offset = offset }

module _ (p q : Program) (r : Sized p q) where
  bytes_at : (k : ℕ) → frame_bytes (function_at q k) ≡ frame_bytes (function_at p k)
  bytes_at k = ap frame_bytes (r.at k)

  home_at : (k : ℕ) → area_home (function_at q k) ≡ area_home (function_at p k)
  home_at k = ap area_home (r.at k)

  pub gives_at : (k : ℕ) → (function_at q k).gives ≡ (function_at p k).gives
  gives_at k = ap (λ (f : Function). f.gives) (r.at k)

  arrays_at : (k : ℕ) (b : Bytes) → arrays (function_at q k) b ≡ arrays (function_at p k) b
  arrays_at k b = ap (λ f. arrays f b) (r.at k)

  bytes_same : (fs : List Frame) → bytes_of q fs ≡ bytes_of p fs
  bytes_same [] = refl
  bytes_same (f ∷ fs) = ap (λ n. n + bytes_of q fs) (bytes_at f.function) ∙ ap (λ n. frame_bytes (function_at p f.function) + n) (bytes_same fs)

  name_same : (f : Frame) (fs : List Frame) → name_of q f fs ≡ name_of p f fs
  name_same f fs = bytes_same (f ∷ fs)

  memory_in : (fs : List Frame) (l : ℕ) → memory_among q fs l ≡ memory_among p fs l
  memory_in [] l = refl
  memory_in (f ∷ fs) l =
      ap (λ n. if n == l then Some (arrays (function_at q f.function) f.area) else memory_among q fs l) (name_same f fs)
      ∙ ap (λ (m : Memory). if name_of p f fs == l then Some m else memory_among q fs l) (arrays_at f.function f.area)
      ∙ ap (λ (m : Option Memory). if name_of p f fs == l then Some (arrays (function_at p f.function) f.area) else m) (memory_in fs l)

  memory_same : (s : State) (u a : Values) (l : ℕ) → memory q (over u a s) l ≡ memory p s l
  memory_same s u a zero = ap (λ (xs : List ℕ). Some (statics_memory s.statics xs)) r.statics
  memory_same s u a (suc l) = memory_in (s.frame ∷ s.waiting) (suc l)

  changed_in : (fs : List Frame) (l : ℕ) (b : Bytes) → changed_among q fs l b ≡ changed_among p fs l b
  changed_in [] l b = refl
  changed_in (f ∷ fs) l b =
      ap (λ n. if n == l then record f { area = b } ∷ fs else f ∷ changed_among q fs l b) (name_same f fs)
      ∙ ap (λ (gs : List Frame). if name_of p f fs == l then record f { area = b } ∷ fs else f ∷ gs) (changed_in fs l b)

  frames_put : (s : State) (u a : Values) (fs : List Frame) → with_frames (over u a s) fs ≡ over u a (with_frames s fs)
  frames_put s u a [] = refl
  frames_put s u a (f ∷ fs) = refl

  memory_put : (s : State) (u a : Values) (l : ℕ) (b : Bytes) → with_memory q (over u a s) l b ≡ over u a (with_memory p s l b)
  memory_put s u a zero b = refl
  memory_put s u a (suc l) b = ap (with_frames (over u a s)) (changed_in (s.frame ∷ s.waiting) (suc l) b) ∙ frames_put s u a (changed_among p (s.frame ∷ s.waiting) (suc l) b)

-- ---- tests

pub same_some : {A : Type 0} (x y : A) → Some x ≡ Some y → x ≡ y
same_some x y e = cc

no_some : (j : ℕ) (o : Option ℕ) → o ≡ Some j → o ≡ None → ⊥
no_some j o e g = let x : ⊥ = cc in x

none_some : {A : Type 0} (v : A) → None ≡ Some v → ⊥
none_some v e = let x : ⊥ = cc in x

pub or_left : (a b : Bool) → a ≡ true → (a || b) ≡ true
or_left a b e = rw e refl

pub or_right : (a b : Bool) → b ≡ true → (a || b) ≡ true
or_right true b e = refl
or_right false b e = e

abbrev IsNo : Bool → Type 0
IsNo true = ⊥
IsNo false = Unit {0}

pub left_true : (a b : Bool) → (a && b) ≡ true → a ≡ true
left_true true b e = refl
left_true false b e = absurd (subst IsNo e tt)

pub right_true : (a b : Bool) → (a && b) ≡ true → b ≡ true
right_true true b e = e
right_true false b e = absurd (subst IsNo e tt)

pub not_both : (b : Bool) → b ≡ true → b ≡ false → ⊥
not_both b e g = subst IsNo (sym g ∙ e) tt

-- ---- states that differ in temporaries that are dead, or that keep an index

-- what a temporary of the new code holds beside that of the old code, where the frame has a name, and its arrays begin `home` bytes above its start
abbrev pub Beside : (name home : ℕ) → Status → (m n : Option Value) → Type 0
Beside name home status.Same m n = n ≡ m
Beside name home status.Dead m n = Unit {0}
Beside name home (status.Index b size) m n = reference_in m ≡ indexed (base_at name home b) size (word_in n)

pub same_is : (z : Status) → is_same z ≡ true → z ≡ status.Same
same_is status.Same e = refl
same_is status.Dead e = absurd (not_true e)
same_is (status.Index b size) e = absurd (not_true e)

module _ (name home : ℕ) where
  pub same_if : (z : Status) (m n : Option Value) → is_same z ≡ true → Beside name home z m n → n ≡ m
  same_if status.Same m n e h = h
  same_if status.Dead m n e h = absurd (not_true e)
  same_if (status.Index b size) m n e h = absurd (not_true e)

  base_if : (b c : Base) → is_same_base b c ≡ true → c ≡ b
  base_if (base.Statics o) (base.Statics u) e = ap base.Statics (sym (eqb-true o u e))
  base_if (base.Statics o) (base.Frame u) e = absurd (not_true e)
  base_if (base.Frame o) (base.Statics u) e = absurd (not_true e)
  base_if (base.Frame o) (base.Frame u) e = ap base.Frame (sym (eqb-true o u e))

  pub accepted : (y z : Status) (m n : Option Value) → accepts y z ≡ true → Beside name home z m n → Beside name home y m n
  accepted status.Dead z m n e h = tt
  accepted status.Same status.Same m n e h = h
  accepted status.Same status.Dead m n e h = absurd (not_true e)
  accepted status.Same (status.Index c width) m n e h = absurd (not_true e)
  accepted (status.Index b size) status.Same m n e h = absurd (not_true e)
  accepted (status.Index b size) status.Dead m n e h = absurd (not_true e)
  accepted (status.Index b size) (status.Index c width) m n e h =
      let one : c ≡ b = base_if b c (left_true (is_same_base b c) (size == width) e) in
      let two : width ≡ size = sym (eqb-true size width (right_true (is_same_base b c) (size == width) e)) in
      h ∙ (ap (λ d. indexed (base_at name home d) width (word_in n)) one ∙ ap (λ w. indexed (base_at name home b) w (word_in n)) two)

pub record Agree (name home : ℕ) (status : ℕ → Status) (s : State) (u a : Values) : Type 0 where
  pub temporaries : (k : ℕ) → Beside name home (status k) (s.temporaries k) (u k)
  pub arguments : (k : ℕ) (v : Value) → s.arguments k ≡ Some v → a k ≡ Some v

-- a temporary that the next instruction reads, in a function that has a result or not, is the same
pub same_where_read : (has : Bool) (name home : ℕ) (y : Instruction) (here : ℕ → Status) (s : State) (u a : Values) → ((k : ℕ) → reads has (here k) k y ≡ true → is_same (here k) ≡ true) → Agree name home here s u a
    → (k : ℕ) → reads has (here k) k y ≡ true → u k ≡ s.temporaries k
same_where_read has name home y here s u a same agree k e = same_if name home (here k) (s.temporaries k) (u k) (same k e) (agree.temporaries k)

-- the second has gone on from the first, where it goes on
pub record Goes (p : Program) (status : ℕ → Status) (s : State) (z : Progress) : Type 0 where
  pub others : Values
  pub given : Values
  pub is : z ≡ running (over others given s)
  pub agree : Agree (name_in p s) (home_in p s) status s others given

abbrev pub Match : Program → (State → ℕ → Status) → Progress → Progress → Type 0
Match p now (running s) z = Goes p (now s) s z
Match p now (ended status input trace) z = z ≡ ended status input trace
Match p now stuck z = Unit {0}

module _ (p : Program) (now : State → ℕ → Status) where
  pub match_bind : {A : Type 0} (o o2 : Option A) (go go2 : A → Progress) → ((x : A) → o ≡ Some x → o2 ≡ Some x) → ((x : A) → Match p now (go x) (go2 x)) → Match p now (o >>= go) (o2 >>= go2)
  match_bind None o2 go go2 below each = tt
  match_bind (Some x) o2 go go2 below each = subst (λ m. Match p now (go x) (m >>= go2)) (sym (below x refl)) (each x)

  pub match_left : {A : Type 0} (o : Option A) (go : A → Progress) (z : Progress) → ((x : A) → o ≡ Some x → Match p now (go x) z) → Match p now (o >>= go) z
  match_left None go z each = tt
  match_left (Some x) go z each = each x refl

  pub match_if : (t : Bool) (x x2 : Progress) → Match p now x x2 → Match p now (if t then x else stuck) (if t then x2 else stuck)
  match_if true x x2 m = m
  match_if false x x2 m = tt

word_below : (o o2 : Option Value) → ((v : Value) → o ≡ Some v → o2 ≡ Some v) → (w : ℕ) → word_in o ≡ Some w → word_in o2 ≡ Some w
word_below None o2 below w e = absurd (let x : ⊥ = cc in x)
word_below (Some v) o2 below w e = ap word_in (below v refl) ∙ e

reference_below : (o o2 : Option Value) → ((v : Value) → o ≡ Some v → o2 ≡ Some v) → (w : Reference) → reference_in o ≡ Some w → reference_in o2 ≡ Some w
reference_below None o2 below w e = absurd (let x : ⊥ = cc in x)
reference_below (Some v) o2 below w e = ap reference_in (below v refl) ∙ e

indexed_below : (r : Reference) (size : ℕ) (o o2 : Option ℕ) → ((n : ℕ) → o ≡ Some n → o2 ≡ Some n) → (w : Reference) → indexed r size o ≡ Some w → indexed r size o2 ≡ Some w
indexed_below r size None o2 below w e = absurd (let x : ⊥ = cc in x)
indexed_below r size (Some n) o2 below w e = ap (indexed r size) (below n refl) ∙ e

module _ (p q : Program) (r : Sized p q) (s : State) where
  module _ (u a : Values) (args : (k : ℕ) (v : Value) → s.arguments k ≡ Some v → a k ≡ Some v) where
    abbrev t : State
    t = over u a s

    -- the temporaries that an operand names are the same
    abbrev Reads : (ℕ → Bool) → Type 0
    Reads f = (k : ℕ) → f k ≡ true → u k ≡ s.temporaries k

    pub value_below : (x : Operand) → Reads (λ k. names k x) → (v : Value) → value s x ≡ Some v → value t x ≡ Some v
    value_below (operand.Temporary k) same v e = same k (eq-eqb k k refl) ∙ e
    value_below (operand.Cell c) same v e = e
    value_below (operand.Constant w) same v e = e
    value_below (operand.Argument k) same v e = args k v e

    pub word_at_below : (x : Operand) → Reads (λ k. names k x) → (w : ℕ) → word_at s x ≡ Some w → word_at t x ≡ Some w
    word_at_below x same = word_below (value s x) (value t x) (value_below x same)

    pub reference_at_below : (x : Operand) → Reads (λ k. names k x) → (w : Reference) → reference_in (value s x) ≡ Some w → reference_in (value t x) ≡ Some w
    reference_at_below x same = reference_below (value s x) (value t x) (value_below x same)

    base_same : (b : Base) → base_of q t b ≡ base_of p s b
    base_same (base.Statics o) = refl
    base_same (base.Frame o) =
        ap (λ n. reference_to n (area_home (function_at q s.frame.function) + o)) (name_same p q r s.frame s.waiting)
        ∙ ap (λ n. reference_to (name_of p s.frame s.waiting) (n + o)) (home_at p q r s.frame.function)

    -- by its name and where its arrays begin
    pub base_is : (b : Base) → base_of q t b ≡ base_at (name_in p s) (home_in p s) b
    base_is (base.Statics o) = refl
    base_is (base.Frame o) = base_same (base.Frame o)

    pub place_below : (l : Location) → Reads (λ k. is_through k l) → (w : Reference) → place p s l ≡ Some w → place q t l ≡ Some w
    place_below (location.Statics o) same w e = e
    place_below (location.Frame o) same w e =
        ap (λ n. Some (reference_to n (area_home (function_at q s.frame.function) + o))) (name_same p q r s.frame s.waiting)
        ∙ (ap (λ n. Some (reference_to (name_of p s.frame s.waiting) (n + o))) (home_at p q r s.frame.function) ∙ e)
    place_below (location.At x) same w e = reference_at_below x same w e
    place_below (location.Indexed b y size) same w e =
        ap (λ r. indexed r size (word_at t y)) (base_same b) ∙ indexed_below (base_of p s b) size (word_at s y) (word_at t y) (word_at_below y same) w e

-- ---- the bytes of a list are written

module _ (p : Program) where
  pub bytes_changed : (fs : List Frame) (l : ℕ) (b : Bytes) → bytes_of p (changed_among p fs l b) ≡ bytes_of p fs
  bytes_changed [] l b = refl
  bytes_changed (f ∷ fs) l b = on (bytes_changed fs l b) (name_of p f fs == l)
    where
      on : bytes_of p (changed_among p fs l b) ≡ bytes_of p fs → (t : Bool) → bytes_of p (if t then record f { area = b } ∷ fs else f ∷ changed_among p fs l b) ≡ bytes_of p (f ∷ fs)
      on later true = refl
      on later false = ap (λ n. frame_bytes (function_at p f.function) + n) later

  -- a state by what is in front and behind
  abbrev put_in : State → Bool → ℕ → Bytes → State
  put_in s c l b = with_frames s (if c then record s.frame { area = b } ∷ s.waiting else s.frame ∷ changed_among p s.waiting (suc l) b)

  pub put_function : (s : State) (l : ℕ) (b : Bytes) → (with_memory p s l b).frame.function ≡ s.frame.function
  put_function s zero b = refl
  put_function s (suc l) b = on (name_of p s.frame s.waiting == suc l)
    where
      on : (c : Bool) → (put_in s c l b).frame.function ≡ s.frame.function
      on true = refl
      on false = refl

  pub put_at : (s : State) (l : ℕ) (b : Bytes) → (with_memory p s l b).frame.at ≡ s.frame.at
  put_at s zero b = refl
  put_at s (suc l) b = on (name_of p s.frame s.waiting == suc l)
    where
      on : (c : Bool) → (put_in s c l b).frame.at ≡ s.frame.at
      on true = refl
      on false = refl

  pub put_temporaries : (s : State) (l : ℕ) (b : Bytes) → (with_memory p s l b).temporaries ≡ s.temporaries
  put_temporaries s zero b = refl
  put_temporaries s (suc l) b = on (name_of p s.frame s.waiting == suc l)
    where
      on : (c : Bool) → (put_in s c l b).temporaries ≡ s.temporaries
      on true = refl
      on false = refl

  pub put_arguments : (s : State) (l : ℕ) (b : Bytes) → (with_memory p s l b).arguments ≡ s.arguments
  put_arguments s zero b = refl
  put_arguments s (suc l) b = on (name_of p s.frame s.waiting == suc l)
    where
      on : (c : Bool) → (put_in s c l b).arguments ≡ s.arguments
      on true = refl
      on false = refl

  pub put_name : (s : State) (l : ℕ) (b : Bytes) → name_in p (with_memory p s l b) ≡ name_in p s
  put_name s zero b = refl
  put_name s (suc l) b = on (name_of p s.frame s.waiting == suc l)
    where
      on : (c : Bool) → name_in p (put_in s c l b) ≡ name_in p s
      on true = refl
      on false = ap (λ n. frame_bytes (function_at p s.frame.function) + n) (bytes_changed s.waiting (suc l) b)

  pub put_home : (s : State) (l : ℕ) (b : Bytes) → home_in p (with_memory p s l b) ≡ home_in p s
  put_home s l b = ap (λ k. area_home (function_at p k)) (put_function s l b)

-- ---- an instruction that goes on to the next

module _ (p q : Program) (r : Sized p q) (now : State → ℕ → Status) (s : State) (u a : Values) (y : Instruction) (here there : ℕ → Status)
    (stays : (k : ℕ) → is_written k y ≡ false → accepts (there k) (here k) ≡ true) (agree : Agree (name_in p s) (home_in p s) here s u a)
    (behind : (s2 : State) → s2.frame.function ≡ s.frame.function → s2.frame.at ≡ s.frame.at + 1 → now s2 ≡ there) where
  abbrev t2 : State
  t2 = over u a s

  abbrev name : ℕ
  name = name_in p s

  abbrev home : ℕ
  home = home_in p s

  -- a temporary that is not written
  kept_agrees : (k : ℕ) → is_written k y ≡ false → Beside name home (there k) (s.temporaries k) (u k)
  kept_agrees k w = accepted name home (there k) (here k) (s.temporaries k) (u k) (stays k w) (agree.temporaries k)

  pub none_written : written y ≡ None → (k : ℕ) → Beside name home (there k) (s.temporaries k) (u k)
  none_written w k = kept_agrees k (ap (is_number k) w)

  goes : (s2 : State) (z : Progress) → s2.frame.function ≡ s.frame.function → s2.frame.at ≡ s.frame.at + 1 → Goes p there s2 z → Goes p (now s2) s2 z
  goes s2 z f e g = subst (λ d. Goes p d s2 z) (sym (behind s2 f e)) g

  -- ---- temporary j gets another value in the second

  put_agrees : (j : ℕ) (v : Value) (u2 : Values) → written y ≡ Some j → Beside name home (there j) (Some v) (u2 j) → ((k : ℕ) → (k == j) ≡ false → u2 k ≡ u k)
      → (k : ℕ) → Beside name home (there k) (with_at s.temporaries j v k) (u2 k)
  put_agrees j v u2 w put same k = on (k == j) refl
    where
      on : (b : Bool) → (k == j) ≡ b → Beside name home (there k) (if k == j then Some v else s.temporaries k) (u2 k)
      on true e = rw e (subst (λ i. Beside name home (there i) (Some v) (u2 i)) (sym (eqb-true k j e)) put)
      on false e =
          let other : is_written k y ≡ false = ap (is_number k) w ∙ ne_eqb j k (λ g. eqb-false k j e (sym g)) in
          rw e (subst (λ m. Beside name home (there k) (s.temporaries k) m) (sym (same k e)) (kept_agrees k other))

  -- ---- an instruction that stays: what it writes is the same

  module _ (fresh : (j : ℕ) → written y ≡ Some j → accepts (there j) status.Same ≡ true) where
    written_agrees : (j : ℕ) (v : Value) → written y ≡ Some j → (k : ℕ) → Beside name home (there k) (with_at s.temporaries j v k) (with_at u j v k)
    written_agrees j v w =
        let here_too : with_at u j v j ≡ Some v = ap (λ (b : Bool). if b then Some v else u j) (eq-eqb j j refl) in
        put_agrees j v (with_at u j v) w (accepted name home (there j) status.Same (Some v) (with_at u j v j) (fresh j w) here_too)
        (λ k e. ap (λ (b : Bool). if b then Some v else u k) e)

    pub gives_match : (d : Target) (v : Value) → written y ≡ temporary_of d → Goes p (now (set d v (next s))) (set d v (next s)) (gives d t2 v)
    gives_match (target.Temporary j) v w =
        goes (set (target.Temporary j) v (next s)) (gives (target.Temporary j) t2 v) refl refl
        (record { others = with_at u j v; given = unset; is = refl; agree = record { temporaries = written_agrees j v w; arguments = λ k v2 e. e } })
    gives_match (target.Cell c) v w =
        goes (set (target.Cell c) v (next s)) (gives (target.Cell c) t2 v) refl refl
        (record { others = u; given = unset; is = refl; agree = record { temporaries = none_written w; arguments = λ k v2 e. e } })

    pub move_match : (d : Target) (v : Value) → written y ≡ temporary_of d → Goes p (now (set d v (past s))) (set d v (past s)) (running (set d v (past t2)))
    move_match (target.Temporary j) v w =
        goes (set (target.Temporary j) v (past s)) (running (set (target.Temporary j) v (past t2))) refl refl
        (record { others = with_at u j v; given = a; is = refl; agree = record { temporaries = written_agrees j v w; arguments = agree.arguments } })
    move_match (target.Cell c) v w =
        goes (set (target.Cell c) v (past s)) (running (set (target.Cell c) v (past t2))) refl refl
        (record { others = u; given = a; is = refl; agree = record { temporaries = none_written w; arguments = agree.arguments } })

    pub loaded_match : (w : Width) (d : Target) (v : Reference) → written y ≡ temporary_of d → Match p now (loaded p s w d v) (loaded q t2 w d v)
    loaded_match w d v wr =
        match_bind p now (memory p s v.list) (memory q t2 v.list)
        (λ m. if fits w v.offset m then element_in w m.bytes v.offset >>= gives_word d s else stuck)
        (λ m. if fits w v.offset m then element_in w m.bytes v.offset >>= gives_word d t2 else stuck)
        (λ m e. memory_same p q r s u a v.list ∙ e)
        (λ m. match_if p now (fits w v.offset m) (element_in w m.bytes v.offset >>= gives_word d s) (element_in w m.bytes v.offset >>= gives_word d t2)
        (match_bind p now (element_in w m.bytes v.offset) (element_in w m.bytes v.offset) (gives_word d s) (gives_word d t2) (λ k e. e) (λ k. gives_match d (word k) wr)))

  moved_beside : (name2 home2 : ℕ) (m : Values) → name2 ≡ name → home2 ≡ home → m ≡ s.temporaries → ((k : ℕ) → Beside name home (there k) (s.temporaries k) (u k)) → (k : ℕ) → Beside name2 home2 (there k) (m k) (u k)
  moved_beside name2 home2 m en eh em f k =
      subst (λ x. Beside x home2 (there k) (m k) (u k)) (sym en)
      (subst (λ x. Beside name x (there k) (m k) (u k)) (sym eh) (subst (λ (x : Values). Beside name home (there k) (x k) (u k)) (sym em) (f k)))

  memory_match : (l : ℕ) (b : Bytes) → written y ≡ None → Goes p (now (with_memory p (next s) l b)) (with_memory p (next s) l b) (running (with_memory q (next t2) l b))
  memory_match l b w =
      let s2 = with_memory p (next s) l b in
      goes s2 (running (with_memory q (next t2) l b)) (put_function p (next s) l b) (put_at p (next s) l b)
      (record {
        others = u;
        given = unset;
        is = ap running (memory_put p q r (next s) u unset l b);
        agree = record {
          temporaries = moved_beside (name_in p s2) (home_in p s2) s2.temporaries (put_name p (next s) l b) (put_home p (next s) l b) (put_temporaries p (next s) l b) (none_written w);
          arguments = subst (λ (m : Values). (k : ℕ) (v : Value) → m k ≡ Some v → unset k ≡ Some v) (sym (put_arguments p (next s) l b)) (λ k v e. e);
        };
      })

  pub stored_match : (w : Width) (n : ℕ) (v : Reference) → written y ≡ None → Match p now (stored p s w n v) (stored q t2 w n v)
  stored_match w n v wr =
      match_bind p now (memory p s v.list) (memory q t2 v.list)
      (λ m. if fits w v.offset m then running (with_memory p (next s) v.list (with_element w m.bytes v.offset n)) else stuck)
      (λ m. if fits w v.offset m then running (with_memory q (next t2) v.list (with_element w m.bytes v.offset n)) else stuck)
      (λ m e. memory_same p q r s u a v.list ∙ e)
      (λ m. match_if p now (fits w v.offset m) (running (with_memory p (next s) v.list (with_element w m.bytes v.offset n))) (running (with_memory q (next t2) v.list (with_element w m.bytes v.offset n)))
      (memory_match v.list (with_element w m.bytes v.offset n) wr))

  -- ---- an instruction that is left out: the temporary that it writes may be what it was

  module _ (j : ℕ) (w : written y ≡ Some j) where
    dropped_agrees : (v : Value) → Beside name home (there j) (Some v) (u j) → (k : ℕ) → Beside name home (there k) (with_at s.temporaries j v k) (u k)
    dropped_agrees v put = put_agrees j v u w put (λ k e. refl)

    pub gives_dropped : (d : Target) (v : Value) → written y ≡ temporary_of d → Beside name home (there j) (Some v) (u j) → Goes p (now (set d v (next s))) (set d v (next s)) (running (past t2))
    gives_dropped (target.Temporary i) v e put =
        let same : i ≡ j = same_some i j (sym e ∙ w) in
        goes (set (target.Temporary i) v (next s)) (running (past t2)) refl refl
        (record {
          others = u;
          given = a;
          is = refl;
          agree = record {
            temporaries = subst (λ x. (k : ℕ) → Beside name home (there k) (with_at s.temporaries x v k) (u k)) (sym same) (dropped_agrees v put);
            arguments = λ k v2 g. absurd (none_some v2 g);
          };
        })
    gives_dropped (target.Cell c) v e put = absurd (no_some j (written y) w e)

    pub move_dropped : (d : Target) (v : Value) → written y ≡ temporary_of d → Beside name home (there j) (Some v) (u j) → Goes p (now (set d v (past s))) (set d v (past s)) (running (past t2))
    move_dropped (target.Temporary i) v e put =
        let same : i ≡ j = same_some i j (sym e ∙ w) in
        goes (set (target.Temporary i) v (past s)) (running (past t2)) refl refl
        (record {
          others = u;
          given = a;
          is = refl;
          agree = record { temporaries = subst (λ x. (k : ℕ) → Beside name home (there k) (with_at s.temporaries x v k) (u k)) (sym same) (dropped_agrees v put); arguments = agree.arguments };
        })
    move_dropped (target.Cell c) v e put = absurd (no_some j (written y) w e)
