-- States of a program and of one in which words of leaf functions live in temporaries.
use Rattle.std.proofs.Common.{◌≡◌, ◌≤◌, ◌<◌, ◌⊎◌, ⊎_elim, ℕ, ◌+◌, List, [], ◌∷◌, map, Option, Some, None, Bool, true, false, refl, sym, ap, ◌∙◌, subst, arith}
use Rattle.std.specs.Prelude.{◌==◌, if◌then◌else◌, slice_get}
use Rattle.std.proofs.lemmas.Bool.{eqb-true, eqb-false, ne_eqb}
use Rattle.frames_code.specs.declared.code.Operand.{Operand}
use Rattle.frames_code.specs.declared.code.Operand.TheVariants as operand
use Rattle.frames_code.specs.declared.code.Target.{Target}
use Rattle.frames_code.specs.declared.code.Target.TheVariants as target
use Rattle.frames_code.specs.declared.code.Location.{Location}
use Rattle.frames_code.specs.declared.code.Location.TheVariants as location
use Rattle.frames_code.specs.declared.code.Instruction.{Instruction}
use Rattle.frames_code.specs.declared.code.Instruction.TheVariants as instruction
use Rattle.frames_code.specs.Code.{Program}
use Rattle.frames_code.specs.Run.{Value, Values, Frame, State, Reference, Progress, running, ended, stuck, value, word_in, reference_in, indexed, set, with_at, function_at, ◌>>=◌}
use Rattle.frames_leaf.specs.layer.Moving.{home_of, operand_in, target_in, moved_operand, moved_target, moved}
use Rattle.frames_leaf.specs.layer.Functions.{with_code}

-- ---- homes

same_some : {A : Type 0} (x y : A) → Some x ≡ Some y → x ≡ y
same_some x y e = cc

no_some : {A : Type 0} (x : A) → None ≡ Some x → ⊥
no_some x e = let z : ⊥ = cc in z

pub none_home : (t : ℕ) (words : List ℕ) (c : ℕ) → words ≡ [] → home_of t words c ≡ None
none_home t words c e = ap (λ ws. home_of t ws c) e

least : (t : ℕ) (words : List ℕ) (c u : ℕ) → home_of t words c ≡ Some u → t ≤ u
least t [] c u e = absurd (no_some u e)
least t (w ∷ words) c u e = on (least (t + 1) words c u) (w == c) refl
  where
    on : (home_of (t + 1) words c ≡ Some u → t + 1 ≤ u) → (b : Bool) → (w == c) ≡ b → t ≤ u
    on later true g = let same : t ≡ u = same_some t u (ap (λ b. if b then Some t else home_of (t + 1) words c) (sym g) ∙ e) in omega (arith, same)
    on later false g = let le = later (ap (λ b. if b then Some t else home_of (t + 1) words c) (sym g) ∙ e) in omega (arith, le)

-- no two words live in one temporary
same_word : (t : ℕ) (words : List ℕ) (c d u : ℕ) → home_of t words c ≡ Some u → home_of t words d ≡ Some u → c ≡ d
same_word t [] c d u e h = absurd (no_some u e)
same_word t (w ∷ words) c d u e h = on (same_word (t + 1) words c d u) (w == c) (w == d) refl refl
  where
    first : (b : Bool) → (w == c) ≡ b → (if b then Some t else home_of (t + 1) words c) ≡ Some u
    first b g = ap (λ b. if b then Some t else home_of (t + 1) words c) (sym g) ∙ e

    second : (b : Bool) → (w == d) ≡ b → (if b then Some t else home_of (t + 1) words d) ≡ Some u
    second b g = ap (λ b. if b then Some t else home_of (t + 1) words d) (sym g) ∙ h

    on : (home_of (t + 1) words c ≡ Some u → home_of (t + 1) words d ≡ Some u → c ≡ d) → (a b : Bool) → (w == c) ≡ a → (w == d) ≡ b → c ≡ d
    on later true true f g = sym (eqb-true w c f) ∙ eqb-true w d g
    on later true false f g = absurd (let same : t ≡ u = same_some t u (first true f) in let le = least (t + 1) words d u (second false g) in omega (arith, same, le))
    on later false true f g = absurd (let same : t ≡ u = same_some t u (second true g) in let le = least (t + 1) words c u (first false f) in omega (arith, same, le))
    on later false false f g = later (first false f) (second false g)

-- ---- what an instruction names

-- temporary j is none in which a word lives
abbrev pub Named : ℕ → List ℕ → ℕ → Type 0
Named t words j = (words ≡ []) ⊎ (j < t)

pub apart : (t : ℕ) (words : List ℕ) (j c u : ℕ) → Named t words j → home_of t words c ≡ Some u → (j == u) ≡ false
apart t words j c u named e =
    ⊎_elim
    (λ none. absurd (no_some u (sym (none_home t words c none) ∙ e)))
    (λ lt. let le = least t words c u e in ne_eqb j u (λ g. omega (arith, lt, le, g)))
    named

abbrev pub OperandNamed : ℕ → List ℕ → Operand → Type 0
OperandNamed t words (operand.Temporary k) = Named t words k
OperandNamed t words (operand.Cell c) = Unit {0}
OperandNamed t words (operand.Constant v) = Unit {0}
OperandNamed t words (operand.Argument k) = Unit {0}

abbrev pub TargetNamed : ℕ → List ℕ → Target → Type 0
TargetNamed t words (target.Temporary k) = Named t words k
TargetNamed t words (target.Cell c) = Unit {0}

abbrev pub LocationNamed : ℕ → List ℕ → Location → Type 0
LocationNamed t words (location.Statics o) = Unit {0}
LocationNamed t words (location.Frame o) = Unit {0}
LocationNamed t words (location.At x) = OperandNamed t words x
LocationNamed t words (location.Indexed b y size) = OperandNamed t words y

-- where it calls, puts or gets, no word lives in a temporary
abbrev pub IsNamed : ℕ → List ℕ → Instruction → Type 0
IsNamed t words instruction.Nothing = Unit {0}
IsNamed t words (instruction.Move d x) = TargetNamed t words d × OperandNamed t words x
IsNamed t words (instruction.Compute o d x y) = TargetNamed t words d × OperandNamed t words x × OperandNamed t words y
IsNamed t words (instruction.Convert c d x) = TargetNamed t words d × OperandNamed t words x
IsNamed t words (instruction.Load w d l) = TargetNamed t words d × LocationNamed t words l
IsNamed t words (instruction.Store w x l) = OperandNamed t words x × LocationNamed t words l
IsNamed t words (instruction.Address d l) = TargetNamed t words d × LocationNamed t words l
IsNamed t words (instruction.Element d x y size) = TargetNamed t words d × OperandNamed t words x × OperandNamed t words y
IsNamed t words (instruction.Jump to) = Unit {0}
IsNamed t words (instruction.Branch b x y to) = OperandNamed t words x × OperandNamed t words y
IsNamed t words (instruction.Call f) = words ≡ []
IsNamed t words instruction.PutByte = words ≡ []
IsNamed t words instruction.GetByte = words ≡ []
IsNamed t words instruction.Exit = Named t words 0
IsNamed t words instruction.Return = Named t words 0

-- ---- the two programs

pub record AreAlike (p q : Program) (first : ℕ → ℕ) (words : ℕ → List ℕ) : Type 0 where
  pub statics : q.statics ≡ p.statics
  pub main : q.main ≡ p.main
  pub at : (k : ℕ) → function_at q k ≡ with_code (function_at p k) (map (moved (first k) (words k)) (function_at p k).code)
  pub each : (k i : ℕ) (x : Instruction) → slice_get (function_at p k).code i ≡ Some x → IsNamed (first k) (words k) x

-- ---- the states

abbrev pub first_or : Values → List Values → Values
first_or c [] = c
first_or c (d ∷ ds) = d

abbrev pub rest_of : List Values → List Values
rest_of [] = []
rest_of (d ∷ ds) = ds

-- other words in each waiting frame
abbrev pub under : List Frame → List Values → List Frame
under [] ds = []
under (f ∷ fs) ds = record f { cells = first_or f.cells ds } ∷ under fs (rest_of ds)

-- other temporaries and words
abbrev pub over : Values → Values → List Values → State → State
over u d ds s = record s { frame = record s.frame { cells = d }; temporaries = u; waiting = under s.waiting ds }

-- the value of word c, by where it lives
abbrev pub held : Values → Values → ℕ → Option ℕ → Option Value
held u d c None = d c
held u d c (Some t) = u t

pub none_held : (t : ℕ) (words : List ℕ) (u d : Values) (c : ℕ) → words ≡ [] → held u d c (home_of t words c) ≡ d c
none_held t words u d c e = ap (held u d c) (none_home t words c e)

module _ (first : ℕ → ℕ) (words : ℕ → List ℕ) where
  -- where a frame waits, its function calls, so that none of its words lives in a temporary
  abbrev pub AllAgree : List Frame → List Values → Type 0
  AllAgree [] ds = Unit {0}
  AllAgree (f ∷ fs) ds = (words f.function ≡ []) × ((c : ℕ) (v : Value) → f.cells c ≡ Some v → first_or f.cells ds c ≡ Some v) × AllAgree fs (rest_of ds)

  pub record Agree (s : State) (u d : Values) (ds : List Values) : Type 0 where
    pub cells : (c : ℕ) (v : Value) → s.frame.cells c ≡ Some v → held u d c (home_of (first s.frame.function) (words s.frame.function) c) ≡ Some v
    pub temporaries : (j : ℕ) → Named (first s.frame.function) (words s.frame.function) j → u j ≡ s.temporaries j
    pub waiting : AllAgree s.waiting ds

  -- the second has gone on from the first, where it goes on
  pub record Goes (s : State) (z : Progress) : Type 0 where
    pub others : Values
    pub cells : Values
    pub below : List Values
    pub is : z ≡ running (over others cells below s)
    pub agree : Agree s others cells below

  abbrev pub Match : Progress → Progress → Type 0
  Match (running s) z = Goes s z
  Match (ended status input trace) z = z ≡ ended status input trace
  Match stuck z = Unit {0}

  pub match_bind : {A : Type 0} (o o2 : Option A) (go go2 : A → Progress) → ((x : A) → o ≡ Some x → o2 ≡ Some x) → ((x : A) → Match (go x) (go2 x)) → Match (o >>= go) (o2 >>= go2)
  match_bind None o2 go go2 below each = tt
  match_bind (Some x) o2 go go2 below each = subst (λ m. Match (go x) (m >>= go2)) (sym (below x refl)) (each x)

  pub match_if : (t : Bool) (x x2 : Progress) → Match x x2 → Match (if t then x else stuck) (if t then x2 else stuck)
  match_if true x x2 m = m
  match_if false x x2 m = tt

  -- ---- a value is written

  module _ (s : State) (u d : Values) (ds : List Values) (agree : Agree s u d ds) (v : Value) where
    abbrev t : ℕ
    t = first s.frame.function

    abbrev list : List ℕ
    list = words s.frame.function

    abbrev Held : Values → Values → ℕ → Option ℕ → Value → Type 0
    Held u2 d2 c o w = held u2 d2 c o ≡ Some w

    -- into temporary j: the words stay
    kept_word : (j : ℕ) → Named t list j → (c : ℕ) (w : Value) → s.frame.cells c ≡ Some w → Held (with_at u j v) d c (home_of t list c) w
    kept_word j named c w e = on (home_of t list c) refl (agree.cells c w e)
      where
        on : (o : Option ℕ) → home_of t list c ≡ o → Held u d c o w → Held (with_at u j v) d c o w
        on None g h = h
        on (Some i) g h =
            let other : (i == j) ≡ false = ne_eqb i j (λ same. eqb-false j i (apart t list j c i named g) (sym same)) in
            ap (λ b. if b then Some v else u i) other ∙ h

    written_temporary : (j k : ℕ) → Named t list k → with_at u j v k ≡ with_at s.temporaries j v k
    written_temporary j k named = ap (λ (m : Option Value). if k == j then Some v else m) (agree.temporaries k named)

    -- word c, which lives in the frame
    in_frame : (c : ℕ) → home_of t list c ≡ None → (k : ℕ) (w : Value) → with_at s.frame.cells c v k ≡ Some w → Held u (with_at d c v) k (home_of t list k) w
    in_frame c home k w e = on (home_of t list k) refl (k == c) refl
      where
        on : (o : Option ℕ) → home_of t list k ≡ o → (b : Bool) → (k == c) ≡ b → Held u (with_at d c v) k o w
        on None g true h = ap (λ b. if b then Some v else d k) h ∙ (ap (λ b. if b then Some v else s.frame.cells k) (sym h) ∙ e)
        on None g false h =
            let old : s.frame.cells k ≡ Some w = ap (λ b. if b then Some v else s.frame.cells k) (sym h) ∙ e in
            ap (λ b. if b then Some v else d k) h ∙ subst (λ o. Held u d k o w) g (agree.cells k w old)
        on (Some i) g true h = absurd (no_some i (sym home ∙ (ap (home_of t list) (sym (eqb-true k c h)) ∙ g)))
        on (Some i) g false h =
            let old : s.frame.cells k ≡ Some w = ap (λ b. if b then Some v else s.frame.cells k) (sym h) ∙ e in
            subst (λ o. Held u d k o w) g (agree.cells k w old)

    -- word c, which lives in temporary i
    in_temporary : (c i : ℕ) → home_of t list c ≡ Some i → (k : ℕ) (w : Value) → with_at s.frame.cells c v k ≡ Some w → Held (with_at u i v) d k (home_of t list k) w
    in_temporary c i home k w e = on (home_of t list k) refl (k == c) refl
      where
        on : (o : Option ℕ) → home_of t list k ≡ o → (b : Bool) → (k == c) ≡ b → Held (with_at u i v) d k o w
        on o g true h =
            let there : o ≡ Some i = sym g ∙ (ap (home_of t list) (eqb-true k c h) ∙ home) in
            let new : Some v ≡ Some w = ap (λ b. if b then Some v else s.frame.cells k) (sym h) ∙ e in
            subst (λ m. Held (with_at u i v) d k m w) (sym there) (ap (λ b. if b then Some v else u i) (same_number i) ∙ new)
          where
            same_number : (n : ℕ) → (n == n) ≡ true
            same_number n = cases (n == n) refl
              where
                cases : (b : Bool) → (n == n) ≡ b → (n == n) ≡ true
                cases true f = f
                cases false f = absurd (eqb-false n n f refl)
        on None g false h =
            let old : s.frame.cells k ≡ Some w = ap (λ b. if b then Some v else s.frame.cells k) (sym h) ∙ e in
            subst (λ o. Held u d k o w) g (agree.cells k w old)
        on (Some j) g false h =
            let old : s.frame.cells k ≡ Some w = ap (λ b. if b then Some v else s.frame.cells k) (sym h) ∙ e in
            let other : (j == i) ≡ false = ne_eqb j i (λ same. eqb-false k c h (same_word t list k c i (g ∙ ap Some same) home)) in
            ap (λ b. if b then Some v else u j) other ∙ subst (λ o. Held u d k o w) g (agree.cells k w old)

    untouched : (c i : ℕ) → home_of t list c ≡ Some i → (k : ℕ) → Named t list k → with_at u i v k ≡ s.temporaries k
    untouched c i home k named = ap (λ b. if b then Some v else u k) (apart t list k c i named home) ∙ agree.temporaries k named

    pub set_match : (g : Target) → TargetNamed t list g → Goes (set g v s) (running (set (moved_target t list g) v (over u d ds s)))
    set_match (target.Temporary j) named = record {
      others = with_at u j v;
      cells = d;
      below = ds;
      is = refl;
      agree = record { cells = kept_word j named; temporaries = written_temporary j; waiting = agree.waiting };
    }
    set_match (target.Cell c) named = on (home_of t list c) refl
      where
        on : (o : Option ℕ) → home_of t list c ≡ o → Goes (set (target.Cell c) v s) (running (set (target_in c o) v (over u d ds s)))
        on None home = record {
          others = u;
          cells = with_at d c v;
          below = ds;
          is = refl;
          agree = record { cells = in_frame c home; temporaries = agree.temporaries; waiting = agree.waiting };
        }
        on (Some i) home = record {
          others = with_at u i v;
          cells = d;
          below = ds;
          is = refl;
          agree = record { cells = in_temporary c i home; temporaries = untouched c i home; waiting = agree.waiting };
        }

  -- ---- a value is read

  module _ (s : State) (u d : Values) (ds : List Values) (agree : Agree s u d ds) where
    read_in : (c : ℕ) (o : Option ℕ) → value (over u d ds s) (operand_in c o) ≡ held u d c o
    read_in c None = refl
    read_in c (Some i) = refl

    pub value_below : (x : Operand) → OperandNamed (first s.frame.function) (words s.frame.function) x → (v : Value) → value s x ≡ Some v
        → value (over u d ds s) (moved_operand (first s.frame.function) (words s.frame.function) x) ≡ Some v
    value_below (operand.Temporary k) named v e = agree.temporaries k named ∙ e
    value_below (operand.Cell c) named v e = read_in c (home_of (first s.frame.function) (words s.frame.function) c) ∙ agree.cells c v e
    value_below (operand.Constant w) named v e = e
    value_below (operand.Argument k) named v e = e

pub word_below : (o o2 : Option Value) → ((v : Value) → o ≡ Some v → o2 ≡ Some v) → (w : ℕ) → word_in o ≡ Some w → word_in o2 ≡ Some w
word_below None o2 below w e = absurd (let x : ⊥ = cc in x)
word_below (Some v) o2 below w e = ap word_in (below v refl) ∙ e

pub reference_below : (o o2 : Option Value) → ((v : Value) → o ≡ Some v → o2 ≡ Some v) → (w : Reference) → reference_in o ≡ Some w → reference_in o2 ≡ Some w
reference_below None o2 below w e = absurd (let x : ⊥ = cc in x)
reference_below (Some v) o2 below w e = ap reference_in (below v refl) ∙ e

pub indexed_below : (r : Reference) (size : ℕ) (o o2 : Option ℕ) → ((n : ℕ) → o ≡ Some n → o2 ≡ Some n) → (w : Reference) → indexed r size o ≡ Some w → indexed r size o2 ≡ Some w
indexed_below r size None o2 below w e = absurd (let x : ⊥ = cc in x)
indexed_below r size (Some n) o2 below w e = ap (indexed r size) (below n refl) ∙ e
