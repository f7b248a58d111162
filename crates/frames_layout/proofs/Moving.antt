-- An instruction acts the same on a state whose calls are at other places, and which has more arguments left.
use Rattle.std.proofs.Common.{◌≡◌, ℕ, zero, suc, ◌+◌, ◌*◌, ◌%◌, ◌^◌, List, [], ◌∷◌, Option, Some, None, Bool, true, false, refl, sym, ap, ◌∙◌, subst}
use Rattle.std.specs.Prelude.{◌==◌, if◌then◌else◌}
use Rattle.frames_code.specs.declared.code.Operand.{Operand}
use Rattle.frames_code.specs.declared.code.Operand.TheVariants as operand
use Rattle.frames_code.specs.declared.code.Target.{Target}
use Rattle.frames_code.specs.declared.code.Target.TheVariants as target
use Rattle.frames_code.specs.declared.code.Width.{Width}
use Rattle.frames_code.specs.declared.code.Base.{Base}
use Rattle.frames_code.specs.declared.code.Base.TheVariants as base
use Rattle.frames_code.specs.declared.code.Location.{Location}
use Rattle.frames_code.specs.declared.code.Location.TheVariants as location
use Rattle.frames_code.specs.declared.code.Instruction.{Instruction}
use Rattle.frames_code.specs.declared.code.Instruction.TheVariants as instruction
use Rattle.frames_code.specs.Code.{Program, area_home, frame_bytes}
use Rattle.frames_code.specs.Run.{Value, Values, Bytes, Frame, State, Reference, Memory, Progress, running, ended, stuck, word, reference, value, word_at, word_in, reference_in, set, next, past, place, base_of, indexed, arrays, memory, memory_among, changed_among, with_frames, with_memory, with_element, element_in, fits, gives, gives_word, operate, converted, loaded, stored, put, got, function_at, bytes_of, name_of, act, ◌>>=◌}

-- another place, other arguments, other calls that wait
abbrev pub over : ℕ → Values → List Frame → State → State
over j a ws s = record s { frame = record s.frame { at = j }; arguments = a; waiting = ws }

-- what the one has, the other has
abbrev pub More : Values → Values → Type 0
More a b = (k : ℕ) (v : Value) → a k ≡ Some v → b k ≡ Some v

-- the same calls, each at a place that belongs to the other's, in a function of this number
abbrev pub Waits : (ℕ → ℕ → ℕ → Type 0) → List Frame → List Frame → Type 0
Waits Q [] [] = Unit {0}
Waits Q [] (g ∷ gs) = ⊥
Waits Q (f ∷ fs) [] = ⊥
Waits Q (f ∷ fs) (g ∷ gs) = (g ≡ record f { at = g.at }) × (Q f.function f.at g.at × Waits Q fs gs)

-- an instruction that the next one follows
abbrev pub IsStraight : Instruction → Type 0
IsStraight instruction.Nothing = Unit {0}
IsStraight (instruction.Move d x) = Unit {0}
IsStraight (instruction.Compute o d x y) = Unit {0}
IsStraight (instruction.Convert c d x) = Unit {0}
IsStraight (instruction.Load w d l) = Unit {0}
IsStraight (instruction.Store w x l) = Unit {0}
IsStraight (instruction.Address d l) = Unit {0}
IsStraight (instruction.Element d x y size) = Unit {0}
IsStraight (instruction.Jump to) = ⊥
IsStraight (instruction.Branch c x y to) = ⊥
IsStraight (instruction.Call f) = ⊥
IsStraight instruction.PutByte = Unit {0}
IsStraight instruction.GetByte = Unit {0}
IsStraight instruction.Exit = ⊥
IsStraight instruction.Return = ⊥

pub same_some : {A : Type 0} (x y : A) → Some x ≡ Some y → x ≡ y
same_some x y e = cc

none_some : {A : Type 0} (x : A) → None ≡ Some x → ⊥
none_some x e = let z : ⊥ = cc in z

word_below : (o o2 : Option Value) → ((v : Value) → o ≡ Some v → o2 ≡ Some v) → (w : ℕ) → word_in o ≡ Some w → word_in o2 ≡ Some w
word_below None o2 more w e = absurd (none_some w e)
word_below (Some v) o2 more w e = ap word_in (more v refl) ∙ e

reference_below : (o o2 : Option Value) → ((v : Value) → o ≡ Some v → o2 ≡ Some v) → (r : Reference) → reference_in o ≡ Some r → reference_in o2 ≡ Some r
reference_below None o2 more r e = absurd (none_some r e)
reference_below (Some v) o2 more r e = ap reference_in (more v refl) ∙ e

indexed_below : (r : Reference) (size : ℕ) (o o2 : Option ℕ) → ((n : ℕ) → o ≡ Some n → o2 ≡ Some n) → (x : Reference) → indexed r size o ≡ Some x → indexed r size o2 ≡ Some x
indexed_below r size None o2 more x e = absurd (none_some x e)
indexed_below r size (Some n) o2 more x e = ap (indexed r size) (more n refl) ∙ e

module _ (p : Program) (Q : ℕ → ℕ → ℕ → Type 0) where
  -- after a step the other is at place j of the same function
  pub record Moved (j : ℕ) (s : State) (z : Progress) : Type 0 where
    pub given : Values
    pub calls : List Frame
    pub is : z ≡ running (over j given calls s)
    pub more : More s.arguments given
    pub waits : Waits Q s.waiting calls

  abbrev pub Becomes : ℕ → Progress → Progress → Type 0
  Becomes j (running s) z = Moved j s z
  Becomes j (ended status input trace) z = z ≡ ended status input trace
  Becomes j stuck z = Unit {0}

  bind_becomes : {A : Type 0} (j : ℕ) (o o2 : Option A) (go go2 : A → Progress) → ((v : A) → o ≡ Some v → o2 ≡ Some v) → ((v : A) → Becomes j (go v) (go2 v)) → Becomes j (o >>= go) (o2 >>= go2)
  bind_becomes j None o2 go go2 more each = tt
  bind_becomes j (Some v) o2 go go2 more each = subst (λ y. Becomes j (go v) (y >>= go2)) (sym (more v refl)) (each v)

  if_becomes : (j : ℕ) (b : Bool) (x y x2 y2 : Progress) → Becomes j x x2 → Becomes j y y2 → Becomes j (if b then x else y) (if b then x2 else y2)
  if_becomes j true x y x2 y2 one two = one
  if_becomes j false x y x2 y2 one two = two

  -- ---- lists of calls

  bytes_alike : (fs gs : List Frame) → Waits Q fs gs → bytes_of p gs ≡ bytes_of p fs
  bytes_alike [] [] w = refl
  bytes_alike [] (g ∷ gs) w = absurd w
  bytes_alike (f ∷ fs) [] w = absurd w
  bytes_alike (f ∷ fs) (g ∷ gs) w =
      ap (λ (h : Frame). frame_bytes (function_at p h.function) + bytes_of p gs) w.0 ∙ ap (λ n. frame_bytes (function_at p f.function) + n) (bytes_alike fs gs w.1.1)

  name_alike : (f : Frame) (j : ℕ) (fs gs : List Frame) → Waits Q fs gs → name_of p (record f { at = j }) gs ≡ name_of p f fs
  name_alike f j fs gs w = ap (λ n. frame_bytes (function_at p f.function) + n) (bytes_alike fs gs w)

  memory_in : (f : Frame) (j : ℕ) (fs gs : List Frame) (l : ℕ) → Waits Q fs gs → memory_among p gs l ≡ memory_among p fs l → memory_among p (record f { at = j } ∷ gs) l ≡ memory_among p (f ∷ fs) l
  memory_in f j fs gs l w more =
      ap (λ n. if n == l then Some (arrays (function_at p f.function) f.area) else memory_among p gs l) (name_alike f j fs gs w)
      ∙ ap (λ (m : Option Memory). if name_of p f fs == l then Some (arrays (function_at p f.function) f.area) else m) more

  memory_among_alike : (fs gs : List Frame) (l : ℕ) → Waits Q fs gs → memory_among p gs l ≡ memory_among p fs l
  memory_among_alike [] [] l w = refl
  memory_among_alike [] (g ∷ gs) l w = absurd w
  memory_among_alike (f ∷ fs) [] l w = absurd w
  memory_among_alike (f ∷ fs) (g ∷ gs) l w =
      ap (λ (h : Frame). memory_among p (h ∷ gs) l) w.0 ∙ memory_in f g.at fs gs l w.1.1 (memory_among_alike fs gs l w.1.1)

  changed_alike : (fs gs : List Frame) (l : ℕ) (b : Bytes) → Waits Q fs gs → Waits Q (changed_among p fs l b) (changed_among p gs l b)
  changed_alike [] [] l b w = tt
  changed_alike [] (g ∷ gs) l b w = absurd w
  changed_alike (f ∷ fs) [] l b w = absurd w
  changed_alike (f ∷ fs) (g ∷ gs) l b w =
      subst (λ n. Waits Q (changed_among p (f ∷ fs) l b) (if n == l then record g { area = b } ∷ gs else g ∷ changed_among p gs l b)) (sym name)
      (on (changed_alike fs gs l b w.1.1) (name_of p f fs == l))
    where
      name : name_of p g gs ≡ name_of p f fs
      name = ap (λ (h : Frame). name_of p h gs) w.0 ∙ name_alike f g.at fs gs w.1.1

      on : Waits Q (changed_among p fs l b) (changed_among p gs l b) → (t : Bool)
          → Waits Q (if t then record f { area = b } ∷ fs else f ∷ changed_among p fs l b) (if t then record g { area = b } ∷ gs else g ∷ changed_among p gs l b)
      on later true = (ap (λ (h : Frame). record h { area = b }) w.0, (w.1.0, w.1.1))
      on later false = (w.0, (w.1.0, later))

  -- ---- a state and the other

  module _ (s : State) (j : ℕ) (a : Values) (ws : List Frame) (more : More s.arguments a) (waits : Waits Q s.waiting ws) where
    abbrev t : State
    t = over j a ws s

    value_more : (x : Operand) (v : Value) → value s x ≡ Some v → value t x ≡ Some v
    value_more (operand.Temporary k) v e = e
    value_more (operand.Cell c) v e = e
    value_more (operand.Constant w) v e = e
    value_more (operand.Argument k) v e = more k v e

    pub word_more : (x : Operand) (w : ℕ) → word_at s x ≡ Some w → word_at t x ≡ Some w
    word_more x w e = word_below (value s x) (value t x) (value_more x) w e

    reference_more : (x : Operand) (r : Reference) → reference_in (value s x) ≡ Some r → reference_in (value t x) ≡ Some r
    reference_more x r e = reference_below (value s x) (value t x) (value_more x) r e

    name_same : name_of p t.frame t.waiting ≡ name_of p s.frame s.waiting
    name_same = name_alike s.frame j s.waiting ws waits

    base_same : (b : Base) → base_of p t b ≡ base_of p s b
    base_same (base.Statics o) = refl
    base_same (base.Frame o) = ap (λ n. spot n (area_home (function_at p s.frame.function) + o)) name_same
      where
        spot : (list offset : ℕ) → Reference
        spot list offset = record { list = list; offset = offset }

    place_more : (l : Location) (r : Reference) → place p s l ≡ Some r → place p t l ≡ Some r
    place_more (location.Statics o) r e = e
    place_more (location.Frame o) r e = ap (λ n. Some (spot n (area_home (function_at p s.frame.function) + o))) name_same ∙ e
      where
        spot : (list offset : ℕ) → Reference
        spot list offset = record { list = list; offset = offset }
    place_more (location.At x) r e = reference_more x r e
    place_more (location.Indexed b y size) r e =
        ap (λ z. indexed z size (word_at t y)) (base_same b) ∙ indexed_below (base_of p s b) size (word_at s y) (word_at t y) (word_more y) r e

    memory_same : (l : ℕ) → memory p t l ≡ memory p s l
    memory_same zero = refl
    memory_same (suc l) = memory_in s.frame j s.waiting ws (suc l) waits (memory_among_alike s.waiting ws (suc l) waits)

    memory_more : (l : ℕ) (m : Memory) → memory p s l ≡ Some m → memory p t l ≡ Some m
    memory_more l m e = memory_same l ∙ e

    -- ---- what an instruction gives

    set_next : (d : Target) (v : Value) → Moved (j + 1) (set d v (next s)) (running (set d v (next t)))
    set_next (target.Temporary k) v = record { given = (next t).arguments; calls = ws; is = refl; more = λ i u e. e; waits = waits }
    set_next (target.Cell c) v = record { given = (next t).arguments; calls = ws; is = refl; more = λ i u e. e; waits = waits }

    set_past : (d : Target) (v : Value) → Moved (j + 1) (set d v (past s)) (running (set d v (past t)))
    set_past (target.Temporary k) v = record { given = a; calls = ws; is = refl; more = more; waits = waits }
    set_past (target.Cell c) v = record { given = a; calls = ws; is = refl; more = more; waits = waits }

    loaded_becomes : (w : Width) (d : Target) (r : Reference) → Becomes (j + 1) (loaded p s w d r) (loaded p t w d r)
    loaded_becomes w d r =
        bind_becomes (j + 1) (memory p s r.list) (memory p t r.list)
        (λ m. if fits w r.offset m then element_in w m.bytes r.offset >>= gives_word d s else stuck) (λ m. if fits w r.offset m then element_in w m.bytes r.offset >>= gives_word d t else stuck)
        (memory_more r.list)
        (λ m. if_becomes (j + 1) (fits w r.offset m) (element_in w m.bytes r.offset >>= gives_word d s) stuck (element_in w m.bytes r.offset >>= gives_word d t) stuck
        (bind_becomes (j + 1) (element_in w m.bytes r.offset) (element_in w m.bytes r.offset) (gives_word d s) (gives_word d t) (λ v e. e) (λ v. set_next d (word v))) tt)

    memory_put : (l : ℕ) (b : Bytes) → Moved (j + 1) (with_memory p (next s) l b) (running (with_memory p (next t) l b))
    memory_put zero b = record { given = (next t).arguments; calls = ws; is = refl; more = λ i u e. e; waits = waits }
    memory_put (suc l) b =
        subst (λ n. Moved (j + 1) (with_memory p (next s) (suc l) b) (running (with_frames (next t) (if n == suc l then record (next t).frame { area = b } ∷ ws else (next t).frame ∷ changed_among p ws (suc l) b)))) (sym name_same)
        (on (name_of p s.frame s.waiting == suc l))
      where
        on : (h : Bool) → Moved (j + 1) (with_frames (next s) (if h then record (next s).frame { area = b } ∷ s.waiting else (next s).frame ∷ changed_among p s.waiting (suc l) b))
            (running (with_frames (next t) (if h then record (next t).frame { area = b } ∷ ws else (next t).frame ∷ changed_among p ws (suc l) b)))
        on true = record { given = (next t).arguments; calls = ws; is = refl; more = λ i u e. e; waits = waits }
        on false = record { given = (next t).arguments; calls = changed_among p ws (suc l) b; is = refl; more = λ i u e. e; waits = changed_alike s.waiting ws (suc l) b waits }

    stored_becomes : (w : Width) (v : ℕ) (r : Reference) → Becomes (j + 1) (stored p s w v r) (stored p t w v r)
    stored_becomes w v r =
        bind_becomes (j + 1) (memory p s r.list) (memory p t r.list)
        (λ m. if fits w r.offset m then running (with_memory p (next s) r.list (with_element w m.bytes r.offset v)) else stuck)
        (λ m. if fits w r.offset m then running (with_memory p (next t) r.list (with_element w m.bytes r.offset v)) else stuck)
        (memory_more r.list)
        (λ m. if_becomes (j + 1) (fits w r.offset m) (running (with_memory p (next s) r.list (with_element w m.bytes r.offset v))) stuck
        (running (with_memory p (next t) r.list (with_element w m.bytes r.offset v))) stuck
        (memory_put r.list (with_element w m.bytes r.offset v)) tt)

    got_becomes : (input : List ℕ) → Becomes (j + 1) (got s input) (got t input)
    got_becomes [] = record { given = (next t).arguments; calls = ws; is = refl; more = λ i u e. e; waits = waits }
    got_becomes (b ∷ rest) = record { given = (next t).arguments; calls = ws; is = refl; more = λ i u e. e; waits = waits }

    pub straight_becomes : (x : Instruction) → IsStraight x → Becomes (j + 1) (act p s x) (act p t x)
    straight_becomes instruction.Nothing is = record { given = a; calls = ws; is = refl; more = more; waits = waits }
    straight_becomes (instruction.Move d x) is =
        bind_becomes (j + 1) (value s x) (value t x) (λ v. running (set d v (past s))) (λ v. running (set d v (past t))) (value_more x) (λ v. set_past d v)
    straight_becomes (instruction.Compute o d x y) is =
        bind_becomes (j + 1) (word_at s x) (word_at t x) (λ u. word_at s y >>= λ v. gives_word d s (operate o u v)) (λ u. word_at t y >>= λ v. gives_word d t (operate o u v)) (word_more x)
        (λ u. bind_becomes (j + 1) (word_at s y) (word_at t y) (λ v. gives_word d s (operate o u v)) (λ v. gives_word d t (operate o u v)) (word_more y) (λ v. set_next d (word (operate o u v))))
    straight_becomes (instruction.Convert c d x) is =
        bind_becomes (j + 1) (word_at s x) (word_at t x) (λ u. gives_word d s (converted c u)) (λ u. gives_word d t (converted c u)) (word_more x) (λ u. set_next d (word (converted c u)))
    straight_becomes (instruction.Load w d l) is =
        bind_becomes (j + 1) (place p s l) (place p t l) (loaded p s w d) (loaded p t w d) (place_more l) (λ r. loaded_becomes w d r)
    straight_becomes (instruction.Store w x l) is =
        bind_becomes (j + 1) (word_at s x) (word_at t x) (λ u. place p s l >>= stored p s w u) (λ u. place p t l >>= stored p t w u) (word_more x)
        (λ u. bind_becomes (j + 1) (place p s l) (place p t l) (stored p s w u) (stored p t w u) (place_more l) (λ r. stored_becomes w u r))
    straight_becomes (instruction.Address d l) is =
        bind_becomes (j + 1) (place p s l) (place p t l) (λ r. gives d s (reference r.list r.offset)) (λ r. gives d t (reference r.list r.offset)) (place_more l)
        (λ r. set_next d (reference r.list r.offset))
    straight_becomes (instruction.Element d x y size) is =
        bind_becomes (j + 1) (reference_in (value s x)) (reference_in (value t x)) (λ r. word_at s y >>= λ n. gives d s (reference r.list (r.offset + n * size)))
        (λ r. word_at t y >>= λ n. gives d t (reference r.list (r.offset + n * size))) (reference_more x)
        (λ r. bind_becomes (j + 1) (word_at s y) (word_at t y) (λ n. gives d s (reference r.list (r.offset + n * size))) (λ n. gives d t (reference r.list (r.offset + n * size))) (word_more y)
        (λ n. set_next d (reference r.list (r.offset + n * size))))
    straight_becomes (instruction.Jump to) is = absurd is
    straight_becomes (instruction.Branch c x y to) is = absurd is
    straight_becomes (instruction.Call f) is = absurd is
    straight_becomes instruction.PutByte is =
        bind_becomes (j + 1) (word_at s (operand.Temporary 0)) (word_at t (operand.Temporary 0)) (put s) (put t) (word_more (operand.Temporary 0))
        (λ v. record { given = (next t).arguments; calls = ws; is = refl; more = λ i u e. e; waits = waits })
    straight_becomes instruction.GetByte is = got_becomes s.input
    straight_becomes instruction.Exit is = absurd is
    straight_becomes instruction.Return is = absurd is
