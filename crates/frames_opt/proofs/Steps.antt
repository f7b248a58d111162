-- Each step of a program that was made simpler is that of the program.
use Rattle.std.proofs.Common.{◌≡◌, ◌⊎◌, inl, inr, ⊎_elim, ℕ, ◌+◌, ◌-◌, ◌*◌, ◌%◌, ◌^◌, List, [], ◌∷◌, Option, Some, Bool, true, false, refl, sym, ap, ◌∙◌, subst}
use Rattle.std.specs.Prelude.{◌==◌, ◌&&◌, ◌||◌, if◌then◌else◌}
use Rattle.std.proofs.lemmas.Bool.{eqb-true, eq-eqb}
use Rattle.rv32.specs.declared.instr.Test.{Test}
use Rattle.rv32.specs.Arithmetic.{compare_of}
use Rattle.csem_events.specs.Events.{Got, GotEnd, Put}
use Rattle.frames_code.specs.declared.code.Operand.{Operand}
use Rattle.frames_code.specs.declared.code.Operand.TheVariants as operand
use Rattle.frames_code.specs.declared.code.Target.{Target}
use Rattle.frames_code.specs.declared.code.Target.TheVariants as target
use Rattle.frames_code.specs.declared.code.Width.{Width}
use Rattle.frames_code.specs.declared.code.Base.{Base}
use Rattle.frames_code.specs.declared.code.Base.TheVariants as base
use Rattle.frames_code.specs.declared.code.Location.{Location}
use Rattle.frames_code.specs.declared.code.Location.TheVariants as location
use Rattle.frames_code.specs.declared.code.Instruction.{Instruction}
use Rattle.frames_code.specs.declared.code.Instruction.TheVariants as instruction
use Rattle.frames_code.specs.Code.{Program}
use Rattle.frames_code.specs.Run.{Value, Values, Frame, State, Reference, Progress, running, ended, stuck, word, reference, value, word_at, word_in, reference_in, set, unset, next, past, memory, fits, element_in, indexed, goes_to, place, gives, gives_word, operate, converted, loaded, stored, put, got, returned, entered, result_alone, result_of, act, ◌>>=◌}
use Rattle.frames_code.proofs.Results.{result_same}
use Rattle.frames_opt.specs.declared.room.Room.{Room}
use Rattle.frames_opt.specs.declared.facts.Known.{Known}
use Rattle.frames_opt.specs.declared.facts.Known.TheVariants as known
use Rattle.frames_opt.specs.declared.statuses.Status.{Status}
use Rattle.frames_opt.specs.declared.rows.Row.{Row}
use Rattle.frames_opt.specs.declared.statuses.Status.TheVariants as status
use Rattle.frames_opt.specs.inside.Facts.{known_of, is_target, moved, indexed_from, indexed_if, is_near, is_cheap}
use Rattle.frames_opt.specs.inside.Liveness.{names, is_through, wants, reads, temporary_of, written, is_number, is_written}
use Rattle.frames_opt.specs.inside.Sweep.{status_at, is_same, accepts, offer, index_of, place_by, place_at, place_of, placed, on_from, leads_on, is_given_up, leads, behind_it}
use Rattle.frames_opt.proofs.Acts.{Knows, Holds, name_in, home_in, gives_in, not_true, known_holds}
use Rattle.frames_opt.proofs.Stands.{moved_leads, element_knows, Waits}
use Rattle.frames_opt.proofs.Alike.{Sized, gives_at, over, Beside, accepted, Agree, Goes, Match, same_some, same_is, same_if, match_bind, match_left, or_left, or_right, left_true, right_true, value_below, word_at_below, reference_at_below, place_below, base_is, same_where_read, gives_match, move_match, loaded_match, stored_match, none_written, gives_dropped, move_dropped}

or_either : (a b : Bool) → (a || b) ≡ true → (a ≡ true) ⊎ (b ≡ true)
or_either true b e = inl refl
or_either false b e = inr e

-- ---- instructions that go on to the next

-- temporaries that an instruction reads are the same; what it does not write may be behind what it was, and what it writes the same
pub record Ready (p : Program) (here there : ℕ → Status) (s : State) (u a : Values) (y : Instruction) : Type 0 where
  pub agree : Agree (name_in p s) (home_in p s) here s u a
  pub same : (k : ℕ) → reads (gives_in p s) (here k) k y ≡ true → is_same (here k) ≡ true
  pub stays : (k : ℕ) → is_written k y ≡ false → accepts (there k) (here k) ≡ true
  pub fresh : (j : ℕ) → written y ≡ Some j → accepts (there j) status.Same ≡ true

module _ (p q : Program) (r : Sized p q) (now : State → ℕ → Status) (s : State) (u a : Values) (here there : ℕ → Status)
    (behind : (s2 : State) → s2.frame.function ≡ s.frame.function → s2.frame.at ≡ s.frame.at + 1 → now s2 ≡ there) where
  abbrev t : State
  t = over u a s

  abbrev name : ℕ
  name = name_in p s

  abbrev home : ℕ
  home = home_in p s

  abbrev Before : Instruction → Type 0
  Before y = Ready p here there s u a y

  -- a temporary that an instruction reads, whatever its status
  abbrev Read : Instruction → (ℕ → Bool) → Type 0
  Read y f = (k : ℕ) → f k ≡ true → reads (gives_in p s) (here k) k y ≡ true

  are_same : (y : Instruction) (f : ℕ → Bool) → Before y → Read y f → (k : ℕ) → f k ≡ true → u k ≡ s.temporaries k
  are_same y f ready read k e = same_where_read (gives_in p s) name home y here s u a ready.same ready.agree k (read k e)

  word_same : (y : Instruction) (x : Operand) → Before y → Read y (λ k. names k x) → (w : ℕ) → word_at s x ≡ Some w → word_at t x ≡ Some w
  word_same y x ready read = word_at_below p q r s u a ready.agree.arguments x (are_same y (λ k. names k x) ready read)

  gives_same : (y : Instruction) → Before y → (d : Target) (v : Value) → written y ≡ temporary_of d → Goes p (now (set d v (next s))) (set d v (next s)) (gives d t v)
  gives_same y ready d v w = gives_match p q r now s u a y here there ready.stays ready.agree behind ready.fresh d v w

  move_alike : (d : Target) (x : Operand) → Before (instruction.Move d x) → Match p now (act p s (instruction.Move d x)) (act q t (instruction.Move d x))
  move_alike d x ready =
      match_bind p now (value s x) (value t x) (λ v. running (set d v (past s))) (λ v. running (set d v (past t)))
      (value_below p q r s u a ready.agree.arguments x (are_same (instruction.Move d x) (λ k. names k x) ready (λ k e. e)))
      (λ v. move_match p q r now s u a (instruction.Move d x) here there ready.stays ready.agree behind ready.fresh d v refl)

  compute_alike : (y : Instruction) (d : Target) (x z : Operand) (f : ℕ → ℕ → ℕ) → Before y → written y ≡ temporary_of d → Read y (λ k. names k x) → Read y (λ k. names k z)
      → Match p now (word_at s x >>= λ m. word_at s z >>= λ n. gives_word d s (f m n)) (word_at t x >>= λ m. word_at t z >>= λ n. gives_word d t (f m n))
  compute_alike y d x z f ready w left right =
      match_bind p now (word_at s x) (word_at t x) (λ m. word_at s z >>= λ n. gives_word d s (f m n)) (λ m. word_at t z >>= λ n. gives_word d t (f m n)) (word_same y x ready left)
      (λ m. match_bind p now (word_at s z) (word_at t z) (λ n. gives_word d s (f m n)) (λ n. gives_word d t (f m n)) (word_same y z ready right)
      (λ n. gives_same y ready d (word (f m n)) w))

  convert_alike : (y : Instruction) (d : Target) (x : Operand) (f : ℕ → ℕ) → Before y → written y ≡ temporary_of d → Read y (λ k. names k x)
      → Match p now (word_at s x >>= λ m. gives_word d s (f m)) (word_at t x >>= λ m. gives_word d t (f m))
  convert_alike y d x f ready w left =
      match_bind p now (word_at s x) (word_at t x) (λ m. gives_word d s (f m)) (λ m. gives_word d t (f m)) (word_same y x ready left) (λ m. gives_same y ready d (word (f m)) w)

  element_alike : (y : Instruction) (d : Target) (x z : Operand) (size : ℕ) → Before y → written y ≡ temporary_of d → Read y (λ k. names k x) → Read y (λ k. names k z)
      → Match p now (act p s (instruction.Element d x z size)) (act q t (instruction.Element d x z size))
  element_alike y d x z size ready w left right =
      match_bind p now (reference_in (value s x)) (reference_in (value t x)) (λ m. word_at s z >>= λ n. gives d s (reference m.list (m.offset + n * size))) (λ m. word_at t z >>= λ n. gives d t (reference m.list (m.offset + n * size)))
      (reference_at_below p q r s u a ready.agree.arguments x (are_same y (λ k. names k x) ready left))
      (λ m. match_bind p now (word_at s z) (word_at t z) (λ n. gives d s (reference m.list (m.offset + n * size))) (λ n. gives d t (reference m.list (m.offset + n * size))) (word_same y z ready right)
      (λ n. gives_same y ready d (reference m.list (m.offset + n * size)) w))

  nothing_alike : Before instruction.Nothing → Goes p (now (past s)) (past s) (running (past t))
  nothing_alike ready =
      subst (λ d. Goes p d (past s) (running (past t))) (sym (behind (past s) refl refl))
      (record { others = u; given = a; is = refl; agree = record { temporaries = none_written p q r now s u a instruction.Nothing here there ready.stays ready.agree behind refl; arguments = ready.agree.arguments } })

  -- ---- accesses: the second may name the element by an index that stayed

  -- the second leads to where the first does
  abbrev Reaches : Location → Location → Type 0
  Reaches l m = (w : Reference) → place p s l ≡ Some w → place q t m ≡ Some w

  load_alike : (w : Width) (d : Target) (l m : Location) → Before (instruction.Load w d l) → Reaches l m → Match p now (act p s (instruction.Load w d l)) (act q t (instruction.Load w d m))
  load_alike w d l m ready reach =
      match_bind p now (place p s l) (place q t m) (loaded p s w d) (loaded q t w d) reach
      (λ v. loaded_match p q r now s u a (instruction.Load w d l) here there ready.stays ready.agree behind ready.fresh w d v refl)

  store_alike : (w : Width) (x : Operand) (l m : Location) → Before (instruction.Store w x l) → Reaches l m → Match p now (act p s (instruction.Store w x l)) (act q t (instruction.Store w x m))
  store_alike w x l m ready reach =
      match_bind p now (word_at s x) (word_at t x) (λ n. place p s l >>= stored p s w n) (λ n. place q t m >>= stored q t w n)
      (word_same (instruction.Store w x l) x ready (λ k e. or_left (names k x) (wants (here k) k l) e))
      (λ n. match_bind p now (place p s l) (place q t m) (stored p s w n) (stored q t w n) reach
      (λ v. stored_match p q r now s u a (instruction.Store w x l) here there ready.stays ready.agree behind w n v refl))

  address_alike : (d : Target) (l : Location) → Before (instruction.Address d l) → Match p now (act p s (instruction.Address d l)) (act q t (instruction.Address d l))
  address_alike d l ready =
      match_bind p now (place p s l) (place q t l) (λ v. gives d s (reference v.list v.offset)) (λ v. gives d t (reference v.list v.offset))
      (place_below p q r s u a ready.agree.arguments l (are_same (instruction.Address d l) (λ k. is_through k l) ready (λ k e. e)))
      (λ v. gives_same (instruction.Address d l) ready d (reference v.list v.offset) refl)

  -- ---- an instruction that is left out

  module _ (agree : Agree name home here s u a) (y : Instruction) (stays : (k : ℕ) → is_written k y ≡ false → accepts (there k) (here k) ≡ true) (j : ℕ) (w : written y ≡ Some j) where
    gives_left : (d : Target) (v : Value) → written y ≡ temporary_of d → Beside name home (there j) (Some v) (u j) → Goes p (now (set d v (next s))) (set d v (next s)) (running (past t))
    gives_left d v e put = gives_dropped p q r now s u a y here there stays agree behind j w d v e put

    move_left : (d : Target) (v : Value) → written y ≡ temporary_of d → Beside name home (there j) (Some v) (u j) → Goes p (now (set d v (past s))) (set d v (past s)) (running (past t))
    move_left d v e put = move_dropped p q r now s u a y here there stays agree behind j w d v e put

    match_if_left : (c : Bool) (x : Progress) → Match p now x (running (past t)) → Match p now (if c then x else stuck) (running (past t))
    match_if_left true x m = m
    match_if_left false x m = tt

  -- whatever it writes
  module _ (agree : Agree name home here s u a) (j : ℕ) (put : (v : Value) → Beside name home (there j) (Some v) (u j)) where
    abbrev Stays : Instruction → Type 0
    Stays y = (k : ℕ) → is_written k y ≡ false → accepts (there k) (here k) ≡ true

    dropped_alike : (y : Instruction) → Stays y → written y ≡ Some j → Match p now (act p s y) (running (past t))
    dropped_alike instruction.Nothing stays w = absurd (let x : ⊥ = cc in x)
    dropped_alike (instruction.Move d x) stays w =
        match_left p now (value s x) (λ v. running (set d v (past s))) (running (past t)) (λ v e. move_left agree (instruction.Move d x) stays j w d v refl (put v))
    dropped_alike (instruction.Compute o d x y) stays w =
        match_left p now (word_at s x) (λ m. word_at s y >>= λ n. gives_word d s (operate o m n)) (running (past t))
        (λ m e. match_left p now (word_at s y) (λ n. gives_word d s (operate o m n)) (running (past t))
        (λ n e2. gives_left agree (instruction.Compute o d x y) stays j w d (word (operate o m n)) refl (put (word (operate o m n)))))
    dropped_alike (instruction.Convert c d x) stays w =
        match_left p now (word_at s x) (λ m. gives_word d s (converted c m)) (running (past t))
        (λ m e. gives_left agree (instruction.Convert c d x) stays j w d (word (converted c m)) refl (put (word (converted c m))))
    dropped_alike (instruction.Load b d l) stays w =
        match_left p now (place p s l) (loaded p s b d) (running (past t))
        (λ v e. match_left p now (memory p s v.list) (λ m. if fits b v.offset m then element_in b m.bytes v.offset >>= gives_word d s else stuck) (running (past t))
        (λ m e2. match_if_left agree (instruction.Load b d l) stays j w (fits b v.offset m) (element_in b m.bytes v.offset >>= gives_word d s)
        (match_left p now (element_in b m.bytes v.offset) (gives_word d s) (running (past t))
        (λ k e3. gives_left agree (instruction.Load b d l) stays j w d (word k) refl (put (word k))))))
    dropped_alike (instruction.Store b x l) stays w = absurd (let x : ⊥ = cc in x)
    dropped_alike (instruction.Address d l) stays w =
        match_left p now (place p s l) (λ v. gives d s (reference v.list v.offset)) (running (past t))
        (λ v e. gives_left agree (instruction.Address d l) stays j w d (reference v.list v.offset) refl (put (reference v.list v.offset)))
    dropped_alike (instruction.Element d x y size) stays w =
        match_left p now (reference_in (value s x)) (λ m. word_at s y >>= λ n. gives d s (reference m.list (m.offset + n * size))) (running (past t))
        (λ m e. match_left p now (word_at s y) (λ n. gives d s (reference m.list (m.offset + n * size))) (running (past t))
        (λ n e2. gives_left agree (instruction.Element d x y size) stays j w d (reference m.list (m.offset + n * size)) refl (put (reference m.list (m.offset + n * size)))))
    dropped_alike (instruction.Jump to) stays w = absurd (let x : ⊥ = cc in x)
    dropped_alike (instruction.Branch c x y to) stays w = absurd (let x : ⊥ = cc in x)
    dropped_alike (instruction.Call f) stays w = absurd (let x : ⊥ = cc in x)
    dropped_alike instruction.PutByte stays w = absurd (let x : ⊥ = cc in x)
    dropped_alike instruction.GetByte stays w = absurd (let x : ⊥ = cc in x)
    dropped_alike instruction.Exit stays w = absurd (let x : ⊥ = cc in x)
    dropped_alike instruction.Return stays w = absurd (let x : ⊥ = cc in x)

  -- an index that stays where the reference to its element would be
  module _ (agree : Agree name home here s u a) (room : Room) (facts : List Known) (holds : Holds name home facts s.frame.cells s.temporaries) (j : ℕ) (b : Base) (size : ℕ) (next_is : there j ≡ status.Index b size) where
    abbrev GivenUp : Known → Type 0
    GivenUp o = (is_same (here j) && accepts (status.Index b size) (index_of o)) ≡ true

    unknown_not : GivenUp known.Unknown → ⊥
    unknown_not g = not_true (right_true (is_same (here j)) false g)

    if_beside : (k : ℕ) (width : ℕ) (v : Option Value) (c : Bool) (d : Base) → accepts (status.Index b size) (index_of (indexed_if c d (operand.Temporary k) width)) ≡ true
        → Knows name home s.frame.cells s.temporaries (indexed_if c d (operand.Temporary k) width) v → Beside name home (status.Index b size) v (s.temporaries k)
    if_beside k width v true d acc knows = accepted name home (status.Index b size) (status.Index d width) v (s.temporaries k) acc knows.is
    if_beside k width v false d acc knows = absurd (not_true acc)

    offered_beside : (k : ℕ) (width : ℕ) (v : Option Value) (array : Known) → accepts (status.Index b size) (index_of (indexed_from room array (operand.Temporary k) width)) ≡ true
        → Knows name home s.frame.cells s.temporaries (indexed_from room array (operand.Temporary k) width) v → Beside name home (status.Index b size) v (s.temporaries k)
    offered_beside k width v known.Unknown acc knows = absurd (not_true acc)
    offered_beside k width v (known.Word w) acc knows = absurd (not_true acc)
    offered_beside k width v (known.Statics o) acc knows = if_beside k width v (is_near room (base.Statics o) && is_cheap room (operand.Temporary k) width) (base.Statics o) acc knows
    offered_beside k width v (known.Frame o) acc knows = if_beside k width v (is_near room (base.Frame o) && is_cheap room (operand.Temporary k) width) (base.Frame o) acc knows
    offered_beside k width v (known.Indexed c z n) acc knows = absurd (not_true acc)

    abbrev Stays2 : Instruction → Type 0
    Stays2 y = (k : ℕ) → is_written k y ≡ false → accepts (there k) (here k) ≡ true

    -- temporary j takes the reference by itself
    itself_alike : (x : Operand) (width : ℕ) → Stays2 (instruction.Element (target.Temporary j) x (operand.Temporary j) width) → GivenUp (indexed_from room (known_of facts x) (operand.Temporary j) width)
        → Match p now (act p s (instruction.Element (target.Temporary j) x (operand.Temporary j) width)) (running (past t))
    itself_alike x width stays g =
        let y = instruction.Element (target.Temporary j) x (operand.Temporary j) width in
        let same : u j ≡ s.temporaries j = same_if name home (here j) (s.temporaries j) (u j) (left_true (is_same (here j)) _ g) (agree.temporaries j) in
        match_left p now (reference_in (value s x)) (λ m. word_at s (operand.Temporary j) >>= λ n. gives (target.Temporary j) s (reference m.list (m.offset + n * width))) (running (past t))
        (λ m em. match_left p now (word_at s (operand.Temporary j)) (λ n. gives (target.Temporary j) s (reference m.list (m.offset + n * width))) (running (past t))
        (λ n en.
        let v = reference m.list (m.offset + n * width) in
        let known_it = element_knows name home room s (known_of facts x) (operand.Temporary j) width n (value s x) m (known_holds p s facts holds x) em en in
        let beside : Beside name home (status.Index b size) (Some v) (s.temporaries j) = offered_beside j width (Some v) (known_of facts x) (right_true (is_same (here j)) _ g) known_it in
        let put : Beside name home (there j) (Some v) (u j) =
        subst (λ z. Beside name home z (Some v) (u j)) (sym next_is) (subst (λ o. Beside name home (status.Index b size) (Some v) o) (sym same) beside) in
        gives_left agree y stays j refl (target.Temporary j) v refl put))

    -- an element, by what takes it and its index
    element_left : (d : Target) (x z : Operand) (width : ℕ) → Stays2 (instruction.Element d x z width) → temporary_of d ≡ Some j → is_target d z ≡ true → GivenUp (indexed_from room (known_of facts x) z width)
        → Match p now (act p s (instruction.Element d x z width)) (running (past t))
    element_left (target.Temporary i) x (operand.Temporary k) width stays w e g =
        let one : i ≡ j = same_some i j w in
        let two : k ≡ j = sym (eqb-true i k e) ∙ one in
        subst (λ m. Stays2 (instruction.Element (target.Temporary m) x (operand.Temporary k) width) → Match p now (act p s (instruction.Element (target.Temporary m) x (operand.Temporary k) width)) (running (past t))) (sym one)
        (subst (λ m. GivenUp (indexed_from room (known_of facts x) (operand.Temporary m) width) → Stays2 (instruction.Element (target.Temporary j) x (operand.Temporary m) width)
        → Match p now (act p s (instruction.Element (target.Temporary j) x (operand.Temporary m) width)) (running (past t))) (sym two) (λ g2 stays2. itself_alike x width stays2 g2) g) stays
    element_left (target.Temporary i) x (operand.Cell c) width stays w e g = absurd (not_true e)
    element_left (target.Temporary i) x (operand.Constant v) width stays w e g = absurd (not_true e)
    element_left (target.Temporary i) x (operand.Argument k) width stays w e g = absurd (not_true e)
    element_left (target.Cell c) x z width stays w e g = absurd (let n : ⊥ = cc in n)

    offered_alike : (y : Instruction) → Stays2 y → written y ≡ Some j → GivenUp (offer room facts y) → Match p now (act p s y) (running (past t))
    offered_alike instruction.Nothing stays w g = absurd (unknown_not g)
    offered_alike (instruction.Move d x) stays w g = absurd (unknown_not g)
    offered_alike (instruction.Compute o d x y) stays w g = absurd (unknown_not g)
    offered_alike (instruction.Convert c d x) stays w g = absurd (unknown_not g)
    offered_alike (instruction.Load c d l) stays w g = absurd (unknown_not g)
    offered_alike (instruction.Store c x l) stays w g = absurd (unknown_not g)
    offered_alike (instruction.Address d l) stays w g = absurd (unknown_not g)
    offered_alike (instruction.Element d x z width) stays w g = on (is_target d z) refl g
      where
        on : (c : Bool) → is_target d z ≡ c → GivenUp (if c then indexed_from room (known_of facts x) z width else known.Unknown) → Match p now (act p s (instruction.Element d x z width)) (running (past t))
        on true e g2 = element_left d x z width stays w e g2
        on false e g2 = absurd (unknown_not g2)
    offered_alike (instruction.Jump to) stays w g = absurd (unknown_not g)
    offered_alike (instruction.Branch c x y to) stays w g = absurd (unknown_not g)
    offered_alike (instruction.Call f) stays w g = absurd (unknown_not g)
    offered_alike instruction.PutByte stays w g = absurd (unknown_not g)
    offered_alike instruction.GetByte stays w g = absurd (unknown_not g)
    offered_alike instruction.Exit stays w g = absurd (unknown_not g)
    offered_alike instruction.Return stays w g = absurd (unknown_not g)

  -- an index that stays as its reference goes on
  module _ (agree : Agree name home here s u a) (room : Room) (j : ℕ) (b : Base) (size : ℕ) (next_is : there j ≡ status.Index b size) where
    abbrev GoesOn : Known → Type 0
    GoesOn o = accepts (status.Index b size) (index_of o) ≡ true

    abbrev Stays3 : Instruction → Type 0
    Stays3 y = (k : ℕ) → is_written k y ≡ false → accepts (there k) (here k) ≡ true

    abbrev Element : Operand → ℕ → Instruction
    Element z width = instruction.Element (target.Temporary j) (operand.Temporary j) z width

    -- by a number of elements, from the element whose index it holds
    by_number : (n width : ℕ) (d : Base) (v : ℕ) → here j ≡ status.Index d v → Stays3 (Element (operand.Constant n) width) → accepts (status.Index b size) (status.Index (moved d (n * width)) v) ≡ true
        → Match p now (act p s (Element (operand.Constant n) width)) (running (past t))
    by_number n width d v is stays acc =
        let before : Beside name home (status.Index d v) (s.temporaries j) (u j) = subst (λ z. Beside name home z (s.temporaries j) (u j)) is (agree.temporaries j) in
        match_left p now (reference_in (s.temporaries j)) (λ m. gives (target.Temporary j) s (reference m.list (m.offset + n * width))) (running (past t))
        (λ m em.
        let leads : Beside name home (status.Index (moved d (n * width)) v) (Some (reference m.list (m.offset + n * width))) (u j) = moved_leads name home d v (n * width) (word_in (u j)) m (sym em ∙ before) in
        let beside : Beside name home (status.Index b size) (Some (reference m.list (m.offset + n * width))) (u j) =
        accepted name home (status.Index b size) (status.Index (moved d (n * width)) v) (Some (reference m.list (m.offset + n * width))) (u j) acc leads in
        gives_left agree (Element (operand.Constant n) width) stays j refl (target.Temporary j) (reference m.list (m.offset + n * width)) refl
        (subst (λ z. Beside name home z (Some (reference m.list (m.offset + n * width))) (u j)) (sym next_is) beside))

    within_reach : (c : Bool) (n width : ℕ) (d : Base) (v : ℕ) → here j ≡ status.Index d v → Stays3 (Element (operand.Constant n) width) → GoesOn (indexed_if c (moved d (n * width)) (operand.Temporary j) v)
        → Match p now (act p s (Element (operand.Constant n) width)) (running (past t))
    within_reach true n width d v is stays g = by_number n width d v is stays g
    within_reach false n width d v is stays g = absurd (not_true g)

    from_status : (z : Status) → here j ≡ z → (y : Operand) (width : ℕ) → Stays3 (Element y width) → GoesOn (on_from room j z y width) → Match p now (act p s (Element y width)) (running (past t))
    from_status status.Same is y width stays g = absurd (not_true g)
    from_status status.Dead is y width stays g = absurd (not_true g)
    from_status (status.Index d v) is (operand.Temporary k) width stays g = absurd (not_true g)
    from_status (status.Index d v) is (operand.Cell c) width stays g = absurd (not_true g)
    from_status (status.Index d v) is (operand.Constant n) width stays g = within_reach (is_near room (moved d (n * width))) n width d v is stays g
    from_status (status.Index d v) is (operand.Argument k) width stays g = absurd (not_true g)

    element_on : (d : Target) (x z : Operand) (width : ℕ) → Stays3 (instruction.Element d x z width) → temporary_of d ≡ Some j → is_target d x ≡ true → GoesOn (on_from room j (here j) z width)
        → Match p now (act p s (instruction.Element d x z width)) (running (past t))
    element_on (target.Temporary i) (operand.Temporary k) z width stays w e g =
        let one : i ≡ j = same_some i j w in
        let two : k ≡ j = sym (eqb-true i k e) ∙ one in
        subst (λ m. Stays3 (instruction.Element (target.Temporary m) (operand.Temporary k) z width) → Match p now (act p s (instruction.Element (target.Temporary m) (operand.Temporary k) z width)) (running (past t))) (sym one)
        (subst (λ m. Stays3 (instruction.Element (target.Temporary j) (operand.Temporary m) z width) → Match p now (act p s (instruction.Element (target.Temporary j) (operand.Temporary m) z width)) (running (past t))) (sym two)
        (λ stays2. from_status (here j) refl z width stays2 g)) stays
    element_on (target.Temporary i) (operand.Cell c) z width stays w e g = absurd (not_true e)
    element_on (target.Temporary i) (operand.Constant v) z width stays w e g = absurd (not_true e)
    element_on (target.Temporary i) (operand.Argument k) z width stays w e g = absurd (not_true e)
    element_on (target.Cell c) x z width stays w e g = absurd (let n : ⊥ = cc in n)

    on_alike : (y : Instruction) → Stays3 y → written y ≡ Some j → GoesOn (leads_on room j (here j) y) → Match p now (act p s y) (running (past t))
    on_alike instruction.Nothing stays w g = absurd (not_true g)
    on_alike (instruction.Move d x) stays w g = absurd (not_true g)
    on_alike (instruction.Compute o d x y) stays w g = absurd (not_true g)
    on_alike (instruction.Convert c d x) stays w g = absurd (not_true g)
    on_alike (instruction.Load c d l) stays w g = absurd (not_true g)
    on_alike (instruction.Store c x l) stays w g = absurd (not_true g)
    on_alike (instruction.Address d l) stays w g = absurd (not_true g)
    on_alike (instruction.Element d x z width) stays w g = on (is_target d x) refl g
      where
        on : (c : Bool) → is_target d x ≡ c → GoesOn (if c then on_from room j (here j) z width else known.Unknown) → Match p now (act p s (instruction.Element d x z width)) (running (past t))
        on true e g2 = element_on d x z width stays w e g2
        on false e g2 = absurd (not_true g2)
    on_alike (instruction.Jump to) stays w g = absurd (not_true g)
    on_alike (instruction.Branch c x y to) stays w g = absurd (not_true g)
    on_alike (instruction.Call f) stays w g = absurd (not_true g)
    on_alike instruction.PutByte stays w g = absurd (not_true g)
    on_alike instruction.GetByte stays w g = absurd (not_true g)
    on_alike instruction.Exit stays w g = absurd (not_true g)
    on_alike instruction.Return stays w g = absurd (not_true g)

-- ---- jumps

module _ (p q : Program) (r : Sized p q) (now : State → ℕ → Status) (s : State) (u a : Values) (states : List Row)
    (behind : (s2 : State) → s2.frame.function ≡ s.frame.function → now s2 ≡ (λ k. status_at states s2.frame.at k)) (agree : Agree (name_in p s) (home_in p s) (λ k. status_at states s.frame.at k) s u a) where
  abbrev t2 : State
  t2 = over u a s

  abbrev Leads : ℕ → Type 0
  Leads n = (k : ℕ) → accepts (status_at states n k) (status_at states s.frame.at k) ≡ true

  moved_agrees : (n : ℕ) → Leads n → (k : ℕ) → Beside (name_in p s) (home_in p s) (status_at states n k) (s.temporaries k) (u k)
  moved_agrees n leads k = accepted (name_in p s) (home_in p s) (status_at states n k) (status_at states s.frame.at k) (s.temporaries k) (u k) (leads k) (agree.temporaries k)

  jump_alike : (to : ℕ) → Leads to → Goes p (now (goes_to s to)) (goes_to s to) (running (goes_to t2 to))
  jump_alike to leads =
      subst (λ d. Goes p d (goes_to s to) (running (goes_to t2 to))) (sym (behind (goes_to s to) refl))
      (record { others = u; given = unset; is = refl; agree = record { temporaries = moved_agrees to leads; arguments = λ k v e. e } })

  next_alike : Leads (s.frame.at + 1) → Goes p (now (next s)) (next s) (running (next t2))
  next_alike leads =
      subst (λ d. Goes p d (next s) (running (next t2))) (sym (behind (next s) refl))
      (record { others = u; given = unset; is = refl; agree = record { temporaries = moved_agrees (s.frame.at + 1) leads; arguments = λ k v e. e } })

  branched : (c : Bool) (to : ℕ) → Leads to → Leads (s.frame.at + 1) → Match p now (running (if c then goes_to s to else next s)) (running (if c then goes_to t2 to else next t2))
  branched true to leads further = jump_alike to leads
  branched false to leads further = next_alike further

  branch_alike : (c : Test) (x y : Operand) (to : ℕ) → ((k : ℕ) → reads (gives_in p s) (status_at states s.frame.at k) k (instruction.Branch c x y to) ≡ true → is_same (status_at states s.frame.at k) ≡ true) → Leads to → Leads (s.frame.at + 1)
      → Match p now (act p s (instruction.Branch c x y to)) (act q t2 (instruction.Branch c x y to))
  branch_alike c x y to same leads further =
      let read : (k : ℕ) → (names k x || names k y) ≡ true → u k ≡ s.temporaries k = same_where_read (gives_in p s) (name_in p s) (home_in p s) (instruction.Branch c x y to) (λ j. status_at states s.frame.at j) s u a same agree in
      match_bind p now (word_at s x) (word_at t2 x)
      (λ m. word_at s y >>= λ n. running (if compare_of c m n then goes_to s to else next s)) (λ m. word_at t2 y >>= λ n. running (if compare_of c m n then goes_to t2 to else next t2))
      (word_at_below p q r s u a agree.arguments x (λ k e. read k (or_left (names k x) (names k y) e)))
      (λ m. match_bind p now (word_at s y) (word_at t2 y) (λ n. running (if compare_of c m n then goes_to s to else next s)) (λ n. running (if compare_of c m n then goes_to t2 to else next t2))
      (word_at_below p q r s u a agree.arguments y (λ k e. read k (or_right (names k x) (names k y) e)))
      (λ n. branched (compare_of c m n) to leads further))

-- ---- calls and ends

-- all temporaries may be the same
abbrev pub Calm : List Row → ℕ → Type 0
Calm states i = (k : ℕ) → accepts (status_at states i k) status.Same ≡ true

module _ (p : Program) (states : ℕ → List Row) where
  abbrev pub now_in : State → ℕ → Status
  now_in s k = status_at (states s.frame.function) s.frame.at k

  abbrev pub calm_in : ℕ → ℕ → Type 0
  calm_in k i = Calm (states k) i

  -- with these temporaries
  with_same : (s : State) (u : Values) → u ≡ s.temporaries → calm_in s.frame.function s.frame.at → Goes p (now_in s) s (running (over u s.arguments s))
  with_same s u e calm = record {
    others = u;
    given = s.arguments;
    is = refl;
    agree = record {
      temporaries = λ k. accepted (name_in p s) (home_in p s) (now_in s k) status.Same (s.temporaries k) (u k) (calm k) (ap (λ (m : Values). m k) e);
      arguments = λ k v g. g;
    };
  }

  same : (s : State) → calm_in s.frame.function s.frame.at → Goes p (now_in s) s (running s)
  same s calm = with_same s s.temporaries refl calm

  module _ (q : Program) (s : State) (a : Values) (further : calm_in s.frame.function (s.frame.at + 1)) where
    abbrev t3 : State
    t3 = over s.temporaries a s

    got_alike : (input : List ℕ) → Match p now_in (got s input) (got t3 input)
    got_alike [] = same (record (next s) { temporaries = result_alone (Some (word (2 ^ 32 - 1))); trace = GotEnd ∷ s.trace }) further
    got_alike (b ∷ more) = same (record (next s) { temporaries = result_alone (Some (word b)); input = more; trace = Got b ∷ s.trace }) further

    put_alike : Match p now_in (act p s instruction.PutByte) (act q t3 instruction.PutByte)
    put_alike =
        match_bind p now_in (word_at s (operand.Temporary 0)) (word_at s (operand.Temporary 0)) (put s) (put t3) (λ v e. e)
        (λ v. same (record (next s) { temporaries = unset; trace = Put (v % 2 ^ 8) ∷ s.trace }) further)

  -- values that are the same: what is in temporary 0 at an exit, the result at a return
  module _ (q : Program) (s : State) (u a : Values) (m n : Option Value) (one : n ≡ m) where
    abbrev t4 : State
    t4 = over u a s

    ends_alike : Match p now_in (returned s m []) (returned t4 n [])
    ends_alike =
        let out : ℕ → Progress = λ v. ended (v % 2 ^ 8) s.input s.trace in
        match_bind p now_in (word_in m) (word_in n) out out (λ v e. ap word_in one ∙ e) (λ v. refl)

    returned_alike : (kn : ℕ → ℕ → List Known) (ws : List Frame) → Waits kn calm_in ws → Match p now_in (returned s m ws) (returned t4 n ws)
    returned_alike kn [] waits = ends_alike
    returned_alike kn (f ∷ fs) waits =
        with_same (record s { frame = f; temporaries = result_alone m; arguments = unset; waiting = fs }) (result_alone n) (ap (λ v. result_alone v) one) waits.1

-- ---- each instruction

module _ (p q : Program) (r : Sized p q) (states : ℕ → List Row) (s : State) (u a : Values) where
  abbrev list : List Row
  list = states s.frame.function

  abbrev at : ℕ
  at = s.frame.at

  abbrev here : ℕ → Status
  here k = status_at list at k

  abbrev there : ℕ → Status
  there k = status_at list (at + 1) k

  abbrev now : State → ℕ → Status
  now = now_in p states

  -- only what is the same is read, and what each temporary is behind it, it may be wherever it leads
  pub record Passes (y : Instruction) : Type 0 where
    pub same : (k : ℕ) → reads (gives_in p s) (here k) k y ≡ true → is_same (here k) ≡ true
    pub right : (k : ℕ) → leads list at y k (behind_it k y (here k)) ≡ true

  at_function : (s2 : State) → s2.frame.function ≡ s.frame.function → now s2 ≡ (λ k. status_at list s2.frame.at k)
  at_function s2 f = ap (λ (n : ℕ). λ (k : ℕ). status_at (states n) s2.frame.at k) f

  next_behind : (s2 : State) → s2.frame.function ≡ s.frame.function → s2.frame.at ≡ s.frame.at + 1 → now s2 ≡ there
  next_behind s2 f e = at_function s2 f ∙ ap (λ (n : ℕ). λ (k : ℕ). status_at list n k) e

  -- ---- accesses

  module _ (agree : Agree (name_in p s) (home_in p s) here s u a) where
    abbrev t5 : State
    t5 = over u a s

    abbrev Reaches2 : Location → Location → Type 0
    Reaches2 l m = (w : Reference) → place p s l ≡ Some w → place q t5 m ≡ Some w

    by_status : (k : ℕ) (z : Status) → Beside (name_in p s) (home_in p s) z (s.temporaries k) (u k) → (wants z k (location.At (operand.Temporary k)) ≡ true → u k ≡ s.temporaries k) → Reaches2 (location.At (operand.Temporary k)) (place_by z k)
    by_status k status.Same beside same w e = ap reference_in (same (eq-eqb k k refl)) ∙ e
    by_status k status.Dead beside same w e = ap reference_in (same (eq-eqb k k refl)) ∙ e
    by_status k (status.Index b size) beside same w e = ap (λ x. indexed x size (word_in (u k))) (base_is p q r s u a agree.arguments b) ∙ (sym beside ∙ e)

    at_alike : (x : Operand) → ((k : ℕ) → wants (here k) k (location.At x) ≡ true → u k ≡ s.temporaries k) → Reaches2 (location.At x) (place_at list at x)
    at_alike (operand.Temporary k) same w e = by_status k (here k) (agree.temporaries k) (same k) w e
    at_alike (operand.Cell c) same w e = e
    at_alike (operand.Constant v) same w e = e
    at_alike (operand.Argument k) same w e = reference_at_below p q r s u a agree.arguments (operand.Argument k) (λ j h. absurd (not_true h)) w e

    wants_index : (z : Status) (k : ℕ) (b : Base) (y : Operand) (size : ℕ) → names k y ≡ true → wants z k (location.Indexed b y size) ≡ true
    wants_index status.Same k b y size e = e
    wants_index status.Dead k b y size e = e
    wants_index (status.Index c width) k b y size e = e

    place_alike : (l : Location) → ((k : ℕ) → wants (here k) k l ≡ true → u k ≡ s.temporaries k) → Reaches2 l (place_of list at l)
    place_alike (location.Statics o) same w e = place_below p q r s u a agree.arguments (location.Statics o) (λ k h. absurd (not_true h)) w e
    place_alike (location.Frame o) same w e = place_below p q r s u a agree.arguments (location.Frame o) (λ k h. absurd (not_true h)) w e
    place_alike (location.At x) same w e = at_alike x same w e
    place_alike (location.Indexed b y size) same w e = place_below p q r s u a agree.arguments (location.Indexed b y size) (λ k h. same k (wants_index (here k) k b y size h)) w e

  -- ---- instructions that stay

  abbrev Alike : Instruction → Type 0
  Alike y = Match p now (act p s y) (act q (over u a s) (placed list at y))

  -- where it goes on to the next alone
  ready : (y : Instruction) → Agree (name_in p s) (home_in p s) here s u a → Passes y → ((k : ℕ) → accepts (there k) (behind_it k y (here k)) ≡ true) → Ready p here there s u a y
  ready y agree ok on = record {
    agree = agree;
    same = ok.same;
    stays = λ k w. ap (λ t. accepts (there k) (if t then status.Same else here k)) (sym w) ∙ on k;
    fresh = λ j w. ap (λ t. accepts (there j) (if t then status.Same else here j)) (sym (ap (is_number j) w ∙ eq-eqb j j refl)) ∙ on j;
  }

  -- an instruction that reads all
  all_same : (y : Instruction) → ((k : ℕ) → reads (gives_in p s) (here k) k y ≡ true) → Agree (name_in p s) (home_in p s) here s u a → Passes y → Match p now (act p s y) (act q (over s.temporaries a s) y) → Match p now (act p s y) (act q (over u a s) y)
  all_same y every agree ok m =
      let each : (k : ℕ) → u k ≡ s.temporaries k = λ k. same_where_read (gives_in p s) (name_in p s) (home_in p s) y here s u a ok.same agree k (every k) in
      let whole : u ≡ s.temporaries = λ i k. each k i in
      subst (λ (v : Values). Match p now (act p s y) (act q (over v a s) y)) (sym whole) m

  -- behind an instruction that reads all and writes none all may be the same
  calm_behind : ((k : ℕ) → is_same (here k) ≡ true) → ((k : ℕ) → accepts (there k) (here k) ≡ true) → Calm list (at + 1)
  calm_behind every on k = ap (accepts (there k)) (sym (same_is (here k) (every k))) ∙ on k

  pub act_alike : (kn : ℕ → ℕ → List Known) → Waits kn (calm_in p states) s.waiting → (y : Instruction) → Agree (name_in p s) (home_in p s) here s u a → Passes y → Alike y
  act_alike kn waits instruction.Nothing agree ok = nothing_alike p q r now s u a here there next_behind (ready instruction.Nothing agree ok ok.right)
  act_alike kn waits (instruction.Move d x) agree ok = move_alike p q r now s u a here there next_behind d x (ready (instruction.Move d x) agree ok ok.right)
  act_alike kn waits (instruction.Compute o d x y) agree ok =
      compute_alike p q r now s u a here there next_behind (instruction.Compute o d x y) d x y (operate o) (ready (instruction.Compute o d x y) agree ok ok.right) refl (λ k e. or_left (names k x) (names k y) e) (λ k e. or_right (names k x) (names k y) e)
  act_alike kn waits (instruction.Convert c d x) agree ok =
      convert_alike p q r now s u a here there next_behind (instruction.Convert c d x) d x (converted c) (ready (instruction.Convert c d x) agree ok ok.right) refl (λ k e. e)
  act_alike kn waits (instruction.Load w d l) agree ok =
      load_alike p q r now s u a here there next_behind w d l (place_of list at l) (ready (instruction.Load w d l) agree ok ok.right)
      (place_alike agree l (λ k e. same_where_read (gives_in p s) (name_in p s) (home_in p s) (instruction.Load w d l) here s u a ok.same agree k e))
  act_alike kn waits (instruction.Store w x l) agree ok =
      store_alike p q r now s u a here there next_behind w x l (place_of list at l) (ready (instruction.Store w x l) agree ok ok.right)
      (place_alike agree l (λ k e. same_where_read (gives_in p s) (name_in p s) (home_in p s) (instruction.Store w x l) here s u a ok.same agree k (or_right (names k x) (wants (here k) k l) e)))
  act_alike kn waits (instruction.Address d l) agree ok = address_alike p q r now s u a here there next_behind d l (ready (instruction.Address d l) agree ok ok.right)
  act_alike kn waits (instruction.Element d x y size) agree ok =
      element_alike p q r now s u a here there next_behind (instruction.Element d x y size) d x y size (ready (instruction.Element d x y size) agree ok ok.right) refl (λ k e. or_left (names k x) (names k y) e) (λ k e. or_right (names k x) (names k y) e)
  act_alike kn waits (instruction.Jump to) agree ok = jump_alike p q r now s u a list at_function agree to ok.right
  act_alike kn waits (instruction.Branch c x y to) agree ok =
      branch_alike p q r now s u a list at_function agree c x y to ok.same (λ k. right_true (accepts (there k) (here k)) (accepts (status_at list to k) (here k)) (ok.right k))
      (λ k. left_true (accepts (there k) (here k)) (accepts (status_at list to k) (here k)) (ok.right k))
  act_alike kn waits (instruction.Call f) agree ok = all_same (instruction.Call f) (λ k. refl) agree ok (same p states (entered s f) (λ k. refl))
  act_alike kn waits instruction.PutByte agree ok = all_same instruction.PutByte (λ k. refl) agree ok (put_alike p states q s a (calm_behind (λ k. ok.same k refl) ok.right))
  act_alike kn waits instruction.GetByte agree ok = all_same instruction.GetByte (λ k. refl) agree ok (got_alike p states q s a (calm_behind (λ k. ok.same k refl) ok.right) s.input)
  act_alike kn waits instruction.Exit agree ok =
      ends_alike p states q s u a (s.temporaries 0) (u 0) (same_where_read (gives_in p s) (name_in p s) (home_in p s) instruction.Exit here s u a ok.same agree 0 refl)
  act_alike kn waits instruction.Return agree ok =
      returned_alike p states q s u a (result_of p s) (result_of q (over u a s))
      (result_same (gives_in p s) (gives_in q s) (s.temporaries 0) (u 0) (gives_at p q r s.frame.function)
      (λ has. same_where_read (gives_in p s) (name_in p s) (home_in p s) instruction.Return here s u a ok.same agree 0 (ap (λ b. b && (0 == 0)) has))) kn s.waiting waits

  -- ---- an instruction that is left out

  pub left_out_alike : (room : Room) (facts : List Known) → Holds (name_in p s) (home_in p s) facts s.frame.cells s.temporaries → (y : Instruction) (j : ℕ) → Agree (name_in p s) (home_in p s) here s u a
      → ((k : ℕ) → is_written k y ≡ false → accepts (there k) (here k) ≡ true) → written y ≡ Some j → is_given_up (there j) (here j) (offer room facts y) (leads_on room j (here j) y) ≡ true → Match p now (act p s y) (running (past (over u a s)))
  left_out_alike room facts holds y j agree stays w given = on (there j) refl given
    where
      on : (z : Status) → there j ≡ z → is_given_up z (here j) (offer room facts y) (leads_on room j (here j) y) ≡ true → Match p now (act p s y) (running (past (over u a s)))
      on status.Dead e g = dropped_alike p q r now s u a here there next_behind agree j (λ v. subst (λ z. Beside (name_in p s) (home_in p s) z (Some v) (u j)) (sym e) tt) y stays w
      on status.Same e g = absurd (not_true g)
      on (status.Index b size) e g =
          ⊎_elim
          (λ h. offered_alike p q r now s u a here there next_behind agree room facts holds j b size e y stays w h)
          (λ h. on_alike p q r now s u a here there next_behind agree room j b size e y stays w h)
          (or_either (is_same (here j) && accepts (status.Index b size) (index_of (offer room facts y))) (accepts (status.Index b size) (index_of (leads_on room j (here j) y))) g)
