-- States of a program and of one whose constants were hoisted: they differ in the words of frames and the temporaries that hold constants.
use Rattle.std.proofs.Common.{◌≡◌, ◌≤◌, ◌<◌, ◌⊎◌, ⊎_elim, ℕ, zero, suc, ◌+◌, ◌*◌, List, [], ◌∷◌, length, Option, Some, None, Bool, true, false, refl, sym, ap, ◌∙◌, subst, arith}
use Rattle.std.specs.Prelude.{◌==◌, if◌then◌else◌, slice_get}
use Rattle.std.proofs.lemmas.Bool.{eqb-true}
use Rattle.frames_code.specs.declared.code.Operand.{Operand}
use Rattle.frames_code.specs.declared.code.Operand.TheVariants as operand
use Rattle.frames_code.specs.declared.code.Target.{Target}
use Rattle.frames_code.specs.declared.code.Target.TheVariants as target
use Rattle.frames_code.specs.declared.code.Base.{Base}
use Rattle.frames_code.specs.declared.code.Base.TheVariants as array_base
use Rattle.frames_code.specs.declared.code.Location.{Location}
use Rattle.frames_code.specs.declared.code.Location.TheVariants as location
use Rattle.frames_code.specs.declared.code.Instruction.{Instruction}
use Rattle.frames_code.specs.declared.code.Instruction.TheVariants as instruction
use Rattle.frames_code.specs.Code.{Function, Program, area_home, frame_bytes}
use Rattle.frames_code.specs.Costs.{entry_cost, entry_cost_of}
use Rattle.frames_code.specs.Run.{Value, Values, Frame, State, Reference, Progress, running, ended, stuck, word, value, word_in, reference_in, indexed, unset, function_at, ◌>>=◌}
use Rattle.frames_hoist.specs.declared.homes.Home.{Home}
use Rattle.frames_hoist.specs.declared.homes.Home.TheVariants as home_of
use Rattle.frames_hoist.specs.layer.Hoisting.{survives_calls, held_in, put_in, is_straight, word_for, from_pool, with_pool}

-- ---- the places that hold constants

-- number j, of a word or a temporary, is none of those from `base` on that hold constants
abbrev pub Outside : ℕ → List ℕ → ℕ → Type 0
Outside base pool j = (i w : ℕ) → slice_get pool i ≡ Some w → j ≡ base + i → ⊥

abbrev pub WordOutside : Home → List ℕ → ℕ → Type 0
WordOutside (home_of.Words b) pool j = Outside b pool j
WordOutside (home_of.Temporaries b) pool j = Unit {0}

abbrev pub TemporaryOutside : Home → List ℕ → ℕ → Type 0
TemporaryOutside (home_of.Words b) pool j = Unit {0}
TemporaryOutside (home_of.Temporaries b) pool j = Outside b pool j

-- what place i holds, where these are the words of the frame and the temporaries
abbrev pub holds : Home → (words temporaries : Values) → ℕ → Option Value
holds (home_of.Words b) d us i = d (b + i)
holds (home_of.Temporaries b) d us i = us (b + i)

-- words c of the frame and temporaries ts are those of the first, d and us those of the second, where the first n constants are in their places
pub record PlacesAgree (h : Home) (pool : List ℕ) (n : ℕ) (c d ts us : Values) : Type 0 where
  pub same : (j : ℕ) → WordOutside h pool j → d j ≡ c j
  pub temporaries : (j : ℕ) → TemporaryOutside h pool j → us j ≡ ts j
  pub words : (i w : ℕ) → i < n → slice_get pool i ≡ Some w → holds h d us i ≡ Some (word w)

-- the operand names no place that holds a constant
abbrev pub OperandOutside : Home → List ℕ → Operand → Type 0
OperandOutside h pool (operand.Temporary k) = TemporaryOutside h pool k
OperandOutside h pool (operand.Cell c) = WordOutside h pool c
OperandOutside h pool (operand.Constant v) = Unit {0}
OperandOutside h pool (operand.Argument k) = Unit {0}

abbrev pub TargetOutside : Home → List ℕ → Target → Type 0
TargetOutside h pool (target.Temporary k) = TemporaryOutside h pool k
TargetOutside h pool (target.Cell c) = WordOutside h pool c

-- nor does it name the arrays of the frame, unless they begin at the same place
abbrev pub BaseOutside : (f g : Function) → Base → Type 0
BaseOutside f g (array_base.Statics o) = Unit {0}
BaseOutside f g (array_base.Frame o) = area_home g ≡ area_home f

abbrev pub LocationOutside : Home → List ℕ → (f g : Function) → Location → Type 0
LocationOutside h pool f g (location.Statics o) = Unit {0}
LocationOutside h pool f g (location.Frame o) = area_home g ≡ area_home f
LocationOutside h pool f g (location.At x) = OperandOutside h pool x
LocationOutside h pool f g (location.Indexed b y size) = BaseOutside f g b × OperandOutside h pool y

-- nor does a call lose one of them
abbrev pub IsOutside : Home → List ℕ → (f g : Function) → Instruction → Type 0
IsOutside h pool f g instruction.Nothing = Unit {0}
IsOutside h pool f g (instruction.Move d x) = TargetOutside h pool d × OperandOutside h pool x
IsOutside h pool f g (instruction.Compute o d x y) = TargetOutside h pool d × OperandOutside h pool x × OperandOutside h pool y
IsOutside h pool f g (instruction.Convert c d x) = TargetOutside h pool d × OperandOutside h pool x
IsOutside h pool f g (instruction.Load w d l) = TargetOutside h pool d × LocationOutside h pool f g l
IsOutside h pool f g (instruction.Store w x l) = OperandOutside h pool x × LocationOutside h pool f g l
IsOutside h pool f g (instruction.Address d l) = TargetOutside h pool d × LocationOutside h pool f g l
IsOutside h pool f g (instruction.Element d x y size) = TargetOutside h pool d × OperandOutside h pool x × OperandOutside h pool y
IsOutside h pool f g (instruction.Jump to) = Unit {0}
IsOutside h pool f g (instruction.Branch t x y to) = OperandOutside h pool x × OperandOutside h pool y
IsOutside h pool f g (instruction.Call k) = survives_calls h ≡ true
IsOutside h pool f g instruction.PutByte = survives_calls h ≡ true
IsOutside h pool f g instruction.GetByte = survives_calls h ≡ true
IsOutside h pool f g instruction.Exit = TemporaryOutside h pool 0
IsOutside h pool f g instruction.Return = TemporaryOutside h pool 0

-- the instructions to which a jump of this one leads have as many constants before them
abbrev pub LeadsAlike : (fill : ℕ → ℕ) → ℕ → Instruction → Type 0
LeadsAlike fill n instruction.Nothing = Unit {0}
LeadsAlike fill n (instruction.Move d x) = Unit {0}
LeadsAlike fill n (instruction.Compute o d x y) = Unit {0}
LeadsAlike fill n (instruction.Convert c d x) = Unit {0}
LeadsAlike fill n (instruction.Load w d l) = Unit {0}
LeadsAlike fill n (instruction.Store w x l) = Unit {0}
LeadsAlike fill n (instruction.Address d l) = Unit {0}
LeadsAlike fill n (instruction.Element d x y size) = Unit {0}
LeadsAlike fill n (instruction.Jump to) = fill to ≡ n
LeadsAlike fill n (instruction.Branch t x y to) = fill to ≡ n
LeadsAlike fill n (instruction.Call k) = Unit {0}
LeadsAlike fill n instruction.PutByte = Unit {0}
LeadsAlike fill n instruction.GetByte = Unit {0}
LeadsAlike fill n instruction.Exit = Unit {0}
LeadsAlike fill n instruction.Return = Unit {0}

-- ---- the two programs

-- one constant more is put into its place
pub record PutsOne (h : Home) (pool : List ℕ) (fill : ℕ → ℕ) (i : ℕ) (x y : Instruction) : Type 0 where
  pub was : x ≡ instruction.Nothing
  pub constant : ℕ
  pub there : slice_get pool (fill i) ≡ Some constant
  pub is : y ≡ instruction.Move (put_in h (fill i)) (operand.Constant constant)
  pub more : fill (i + 1) ≡ suc (fill i)

-- the constants of `read` come from their places
pub record Reads (h : Home) (pool : List ℕ) (fill : ℕ → ℕ) (f g : Function) (i : ℕ) (x y : Instruction) : Type 0 where
  pub read : List ℕ
  pub held : (read ≡ []) ⊎ ((read ≡ pool) × (fill i ≡ length pool))
  pub is : y ≡ with_pool h read x
  pub outside : IsOutside h pool f g x
  pub after : fill (i + 1) ≡ fill i
  pub leads : LeadsAlike fill (fill i) x
  pub whole : (is_straight x ≡ true) ⊎ (fill i ≡ length pool)

-- instruction i, which is x in the first
pub record Position (h : Home) (pool : List ℕ) (fill : ℕ → ℕ) (f g : Function) (i : ℕ) (x : Instruction) : Type 0 where
  pub done : Instruction
  pub is : slice_get g.code i ≡ Some done
  pub by : PutsOne h pool fill i x done ⊎ Reads h pool fill f g i x done

pub record AreAlike (p q : Program) (home : ℕ → Home) (pool : ℕ → List ℕ) (fill : ℕ → ℕ → ℕ) : Type 0 where
  pub statics : q.statics ≡ p.statics
  pub main : q.main ≡ p.main
  pub frames : (k : ℕ) → frame_bytes (function_at q k) ≡ frame_bytes (function_at p k)
  pub areas : (k : ℕ) → (function_at q k).area ≡ (function_at p k).area
  pub results : (k : ℕ) → (function_at q k).gives ≡ (function_at p k).gives
  pub arrays : (k : ℕ) → ((function_at p k).area ≡ 0) ⊎ (area_home (function_at q k) ≡ area_home (function_at p k))
  pub starts : (k : ℕ) → fill k 0 ≡ 0
  pub paid : (k : ℕ) → entry_cost_of (function_at q k) + 6 * length (pool k) ≤ entry_cost
  pub count : (k : ℕ) → length (function_at q k).code ≡ length (function_at p k).code
  pub few : (k i : ℕ) → fill k i ≤ length (pool k)
  pub each : (k i : ℕ) (x : Instruction) → slice_get (function_at p k).code i ≡ Some x → Position (home k) (pool k) (fill k) (function_at p k) (function_at q k) i x

-- ---- the states

abbrev pub first_or : Values → List Values → Values
first_or c [] = c
first_or c (d ∷ ds) = d

abbrev pub rest_of : List Values → List Values
rest_of [] = []
rest_of (d ∷ ds) = ds

-- other words in each waiting frame
abbrev pub under : List Frame → List Values → List Frame
under [] ds = []
under (f ∷ fs) ds = record f { cells = first_or f.cells ds } ∷ under fs (rest_of ds)

abbrev pub over : (words temporaries : Values) → List Values → State → State
over d us ds s = record s { frame = record s.frame { cells = d }; temporaries = us; waiting = under s.waiting ds }

module _ (home : ℕ → Home) (pool : ℕ → List ℕ) (fill : ℕ → ℕ → ℕ) where
  abbrev pub FrameAgrees : Frame → (d ts us : Values) → Type 0
  FrameAgrees f d ts us = PlacesAgree (home f.function) (pool f.function) (fill f.function f.at) f.cells d ts us

  -- a frame that waits has all its constants, and none in a temporary
  abbrev pub AllAgree : List Frame → List Values → Type 0
  AllAgree [] ds = Unit {0}
  AllAgree (f ∷ fs) ds =
      FrameAgrees f (first_or f.cells ds) unset unset × (fill f.function f.at ≡ length (pool f.function)) × (survives_calls (home f.function) ≡ true) × AllAgree fs (rest_of ds)

  pub record Agree (s : State) (d us : Values) (ds : List Values) : Type 0 where
    pub frame : FrameAgrees s.frame d s.temporaries us
    pub waiting : AllAgree s.waiting ds

  -- the second has gone on from the first, where it goes on
  pub record Goes (s : State) (z : Progress) : Type 0 where
    pub words : Values
    pub temporaries : Values
    pub others : List Values
    pub is : z ≡ running (over words temporaries others s)
    pub agree : Agree s words temporaries others

  abbrev pub Match : Progress → Progress → Type 0
  Match (running s) z = Goes s z
  Match (ended status input trace) z = z ≡ ended status input trace
  Match stuck z = Unit {0}

  pub match_bind : {A : Type 0} (o o2 : Option A) (go go2 : A → Progress) → ((x : A) → o ≡ Some x → o2 ≡ Some x) → ((x : A) → Match (go x) (go2 x)) → Match (o >>= go) (o2 >>= go2)
  match_bind None o2 go go2 below each = tt
  match_bind (Some x) o2 go go2 below each = subst (λ m. Match (go x) (m >>= go2)) (sym (below x refl)) (each x)

  pub match_if : (t : Bool) (x x2 : Progress) → Match x x2 → Match (if t then x else stuck) (if t then x2 else stuck)
  match_if true x x2 m = m
  match_if false x x2 m = tt

-- ---- constants are where they are read

module _ (d us : Values) (s : State) (ds : List Values) where
  abbrev second : Operand → Option Value
  second = value (over d us ds s)

  value_held : (h : Home) (n : ℕ) → second (held_in h n) ≡ holds h d us n
  value_held (home_of.Words b) n = refl
  value_held (home_of.Temporaries b) n = refl

  word_found : (h : Home) (n : ℕ) (pool : List ℕ) (v : ℕ) → ((i w : ℕ) → slice_get pool i ≡ Some w → holds h d us (n + i) ≡ Some (word w)) → second (word_for h n pool v) ≡ Some (word v)
  word_found h n [] v at = refl
  word_found h n (w ∷ pool) v at = on (w == v) refl (word_found h (n + 1) pool v later)
    where
      here : second (held_in h n) ≡ Some (word w)
      here = let e : n + 0 ≡ n = omega arith in value_held h n ∙ (ap (holds h d us) (sym e) ∙ at 0 w refl)

      later : (i u : ℕ) → slice_get pool i ≡ Some u → holds h d us (n + 1 + i) ≡ Some (word u)
      later i u e = let g : n + 1 + i ≡ n + suc i = omega arith in ap (holds h d us) g ∙ at (suc i) u e

      on : (b : Bool) → (w == v) ≡ b → second (word_for h (n + 1) pool v) ≡ Some (word v) → second (if w == v then held_in h n else word_for h (n + 1) pool v) ≡ Some (word v)
      on true e further =
          let same : w ≡ v = eqb-true w v e in
          ap (λ b. second (if b then held_in h n else word_for h (n + 1) pool v)) e ∙ (here ∙ ap (λ n. Some (word n)) same)
      on false e further =
          ap (λ b. second (if b then held_in h n else word_for h (n + 1) pool v)) e ∙ further

pub word_below : (o o2 : Option Value) → ((v : Value) → o ≡ Some v → o2 ≡ Some v) → (w : ℕ) → word_in o ≡ Some w → word_in o2 ≡ Some w
word_below None o2 below w e = absurd (let x : ⊥ = cc in x)
word_below (Some v) o2 below w e = ap word_in (below v refl) ∙ e

pub reference_below : (o o2 : Option Value) → ((v : Value) → o ≡ Some v → o2 ≡ Some v) → (w : Reference) → reference_in o ≡ Some w → reference_in o2 ≡ Some w
reference_below None o2 below w e = absurd (let x : ⊥ = cc in x)
reference_below (Some v) o2 below w e = ap reference_in (below v refl) ∙ e

pub indexed_below : (r : Reference) (size : ℕ) (o o2 : Option ℕ) → ((n : ℕ) → o ≡ Some n → o2 ≡ Some n) → (w : Reference) → indexed r size o ≡ Some w → indexed r size o2 ≡ Some w
indexed_below r size None o2 below w e = absurd (let x : ⊥ = cc in x)
indexed_below r size (Some n) o2 below w e = ap (indexed r size) (below n refl) ∙ e

-- what is read: as much as is in the places
module _ (h : Home) (pool read : List ℕ) (n : ℕ) (all : (read ≡ []) ⊎ ((read ≡ pool) × (n ≡ length pool))) (s : State) (d us : Values) (ds : List Values) (agree : PlacesAgree h pool n s.frame.cells d s.temporaries us) where
  no_item : (i w : ℕ) → slice_get [] i ≡ Some w → ⊥
  no_item i w e = cc

  inside : (xs : List ℕ) (i w : ℕ) → slice_get xs i ≡ Some w → i < length xs
  inside [] i w e = absurd (no_item i w e)
  inside (x ∷ xs) zero w e = omega arith
  inside (x ∷ xs) (suc i) w e = let lt = inside xs i w e in omega (arith, lt)

  read_there : (i w : ℕ) → slice_get read i ≡ Some w → holds h d us (0 + i) ≡ Some (word w)
  read_there i w e =
      ⊎_elim
      (λ none. absurd (no_item i w (ap (λ xs. slice_get xs i) (sym none) ∙ e)))
      (λ whole.
      let there : slice_get pool i ≡ Some w = ap (λ xs. slice_get xs i) (sym whole.0) ∙ e in
      let lt = inside pool i w there in
      let same : 0 + i ≡ i = omega arith in
      ap (holds h d us) same ∙ agree.words i w (omega (arith, lt, whole.1)) there)
      all

  pub value_below : (x : Operand) → OperandOutside h pool x → (v : Value) → value s x ≡ Some v → value (over d us ds s) (from_pool h read x) ≡ Some v
  value_below (operand.Temporary k) out v e = agree.temporaries k out ∙ e
  value_below (operand.Cell c) out v e = agree.same c out ∙ e
  value_below (operand.Constant w) out v e = word_found d us s ds h 0 read w read_there ∙ e
  value_below (operand.Argument k) out v e = e

  -- an operand in which no constant is replaced
  pub plain_below : (x : Operand) → OperandOutside h pool x → (v : Value) → value s x ≡ Some v → value (over d us ds s) x ≡ Some v
  plain_below (operand.Temporary k) out v e = agree.temporaries k out ∙ e
  plain_below (operand.Cell c) out v e = agree.same c out ∙ e
  plain_below (operand.Constant w) out v e = e
  plain_below (operand.Argument k) out v e = e
