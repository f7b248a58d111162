-- Each step of a program with words in temporaries is that of the program.
use Rattle.std.proofs.Common.{◌≡◌, inl, ℕ, zero, suc, ◌+◌, ◌-◌, ◌*◌, ◌%◌, ◌^◌, List, [], ◌∷◌, length, Option, Some, Bool, true, false, refl, sym, ap, ◌∙◌, subst}
use Rattle.std.specs.Prelude.{◌==◌, if◌then◌else◌}
use Rattle.rv32.specs.Arithmetic.{compare_of}
use Rattle.frames_code.specs.declared.code.Operand.{Operand}
use Rattle.frames_code.specs.declared.code.Operand.TheVariants as operand
use Rattle.frames_code.specs.declared.code.Target.{Target}
use Rattle.frames_code.specs.declared.code.Width.{Width}
use Rattle.frames_code.specs.declared.code.Base.{Base}
use Rattle.frames_code.specs.declared.code.Base.TheVariants as base
use Rattle.frames_code.specs.declared.code.Location.{Location}
use Rattle.frames_code.specs.declared.code.Location.TheVariants as location
use Rattle.frames_code.specs.declared.code.Instruction.{Instruction}
use Rattle.frames_code.specs.declared.code.Instruction.TheVariants as instruction
use Rattle.frames_code.specs.Code.{Function, Program, area_home, frame_bytes}
use Rattle.frames_code.specs.Run.{Value, Values, Bytes, Frame, State, Reference, Memory, Progress, running, ended, stuck, word, reference, value, word_at, word_in, reference_in, set, unset, next, past, goes_to, place, base_of, indexed, arrays, memory, memory_among, changed_among, with_frames, with_memory, with_element, element_in, fits, gives, gives_word, operate, converted, loaded, stored, put, got, returned, entered, below_eight, result_alone, result_of, act, function_at, bytes_of, name_of, ◌>>=◌}
use Rattle.frames_code.proofs.Results.{result_same}
use Rattle.frames_leaf.specs.layer.Moving.{home_of, moved_operand, moved_target, moved_location, moved}
use Rattle.frames_leaf.proofs.Agreeing.{Named, OperandNamed, TargetNamed, LocationNamed, IsNamed, AreAlike, first_or, rest_of, under, over, held, none_held, AllAgree, Agree, Match, match_bind, match_if, set_match, value_below, word_below, reference_below, indexed_below}

abbrev statics_memory : Bytes → List ℕ → Memory
statics_memory b xs = record { bytes = b; first = 0; past = length xs }

abbrev reference_to : (list offset : ℕ) → Reference
reference_to list offset = record { list = list; offset = offset }

module _ (p q : Program) (first : ℕ → ℕ) (words : ℕ → List ℕ) (r : AreAlike p q first words) where
  -- ---- memory

  bytes_at : (k : ℕ) → frame_bytes (function_at q k) ≡ frame_bytes (function_at p k)
  bytes_at k = ap frame_bytes (r.at k)

  home_at : (k : ℕ) → area_home (function_at q k) ≡ area_home (function_at p k)
  home_at k = ap area_home (r.at k)

  arrays_at : (k : ℕ) (b : Bytes) → arrays (function_at q k) b ≡ arrays (function_at p k) b
  arrays_at k b = ap (λ f. arrays f b) (r.at k)

  bytes_under : (fs : List Frame) (ds : List Values) → bytes_of q (under fs ds) ≡ bytes_of p fs
  bytes_under [] ds = refl
  bytes_under (f ∷ fs) ds = ap (λ n. n + bytes_of q (under fs (rest_of ds))) (bytes_at f.function) ∙ ap (λ n. frame_bytes (function_at p f.function) + n) (bytes_under fs (rest_of ds))

  name_under : (f : Frame) (fs : List Frame) (d : Values) (ds : List Values) → name_of q (record f { cells = d }) (under fs ds) ≡ name_of p f fs
  name_under f fs d ds = bytes_under (f ∷ fs) (d ∷ ds)

  among_same : (fs : List Frame) (ds : List Values) (l : ℕ) → memory_among q (under fs ds) l ≡ memory_among p fs l
  among_same [] ds l = refl
  among_same (f ∷ fs) ds l =
      ap (λ n. if n == l then Some (arrays (function_at q f.function) f.area) else memory_among q (under fs (rest_of ds)) l) (name_under f fs (first_or f.cells ds) (rest_of ds))
      ∙ (ap (λ (m : Memory). if name_of p f fs == l then Some m else memory_among q (under fs (rest_of ds)) l) (arrays_at f.function f.area)
      ∙ ap (λ (m : Option Memory). if name_of p f fs == l then Some (arrays (function_at p f.function) f.area) else m) (among_same fs (rest_of ds) l))

  memory_same : (s : State) (u d : Values) (ds : List Values) (l : ℕ) → memory q (over u d ds s) l ≡ memory p s l
  memory_same s u d ds zero = ap (λ (xs : List ℕ). Some (statics_memory s.statics xs)) r.statics
  memory_same s u d ds (suc l) = among_same (s.frame ∷ s.waiting) (d ∷ ds) (suc l)

  choose_under : (b : Bool) (us vs : List Frame) (xs ys : List Frame) (ds : List Values) → us ≡ under xs ds → vs ≡ under ys ds → (if b then us else vs) ≡ under (if b then xs else ys) ds
  choose_under true us vs xs ys ds h g = h
  choose_under false us vs xs ys ds h g = g

  changed_under : (fs : List Frame) (ds : List Values) (l : ℕ) (b : Bytes) → changed_among q (under fs ds) l b ≡ under (changed_among p fs l b) ds
  changed_under [] ds l b = refl
  changed_under (f ∷ fs) ds l b =
      let g : Frame = record f { cells = first_or f.cells ds } in
      ap (λ n. if n == l then record g { area = b } ∷ under fs (rest_of ds) else g ∷ changed_among q (under fs (rest_of ds)) l b) (name_under f fs (first_or f.cells ds) (rest_of ds))
      ∙ choose_under (name_of p f fs == l) (record g { area = b } ∷ under fs (rest_of ds)) (g ∷ changed_among q (under fs (rest_of ds)) l b) (record f { area = b } ∷ fs) (f ∷ changed_among p fs l b) ds
      refl (ap (λ (gs : List Frame). g ∷ gs) (changed_under fs (rest_of ds) l b))

  frames_put : (s : State) (u d : Values) (ds : List Values) (fs : List Frame) → with_frames (over u d ds s) (under fs (d ∷ ds)) ≡ over u d ds (with_frames s fs)
  frames_put s u d ds [] = refl
  frames_put s u d ds (f ∷ fs) = refl

  memory_put : (s : State) (u d : Values) (ds : List Values) (l : ℕ) (b : Bytes) → with_memory q (over u d ds s) l b ≡ over u d ds (with_memory p s l b)
  memory_put s u d ds zero b = refl
  memory_put s u d ds (suc l) b =
      ap (with_frames (over u d ds s)) (changed_under (s.frame ∷ s.waiting) (d ∷ ds) (suc l) b) ∙ frames_put s u d ds (changed_among p (s.frame ∷ s.waiting) (suc l) b)

  -- ---- agreement

  abbrev Agrees : State → Values → Values → List Values → Type 0
  Agrees = Agree first words

  abbrev Matches : Progress → Progress → Type 0
  Matches = Match first words

  all_changed : (fs : List Frame) (ds : List Values) (l : ℕ) (b : Bytes) → AllAgree first words fs ds → AllAgree first words (changed_among p fs l b) ds
  all_changed [] ds l b h = tt
  all_changed (f ∷ fs) ds l b h = on (name_of p f fs == l) (all_changed fs (rest_of ds) l b h.2)
    where
      on : (c : Bool) → AllAgree first words (changed_among p fs l b) (rest_of ds) → AllAgree first words (if c then record f { area = b } ∷ fs else f ∷ changed_among p fs l b) ds
      on true more = h
      on false more = (h.0, h.1, more)

  agree_put : (s : State) (u d : Values) (ds : List Values) (l : ℕ) (b : Bytes) → Agrees s u d ds → Agrees (with_memory p s l b) u d ds
  agree_put s u d ds zero b agree = record { cells = agree.cells; temporaries = agree.temporaries; waiting = agree.waiting }
  agree_put s u d ds (suc l) b agree = on (name_of p s.frame s.waiting == suc l)
    where
      on : (c : Bool) → Agrees (with_frames s (if c then record s.frame { area = b } ∷ s.waiting else s.frame ∷ changed_among p s.waiting (suc l) b)) u d ds
      on true = record { cells = agree.cells; temporaries = agree.temporaries; waiting = agree.waiting }
      on false = record { cells = agree.cells; temporaries = agree.temporaries; waiting = all_changed s.waiting ds (suc l) b agree.waiting }

  -- ---- instructions

  module _ (s : State) (u d : Values) (ds : List Values) (agree : Agrees s u d ds) where
    abbrev t : State
    t = over u d ds s

    abbrev at : ℕ
    at = first s.frame.function

    abbrev list : List ℕ
    list = words s.frame.function

    next_agrees : Agrees (next s) u d ds
    next_agrees = record { cells = agree.cells; temporaries = agree.temporaries; waiting = agree.waiting }

    past_agrees : Agrees (past s) u d ds
    past_agrees = record { cells = agree.cells; temporaries = agree.temporaries; waiting = agree.waiting }

    gives_match : (g : Target) (v : Value) → TargetNamed at list g → Matches (gives g s v) (gives (moved_target at list g) t v)
    gives_match g v named = set_match first words (next s) u d ds next_agrees v g named

    move_match : (g : Target) (v : Value) → TargetNamed at list g → Matches (running (set g v (past s))) (running (set (moved_target at list g) v (past t)))
    move_match g v named = set_match first words (past s) u d ds past_agrees v g named

    abbrev from : Operand → Operand
    from = moved_operand at list

    below : (x : Operand) → OperandNamed at list x → (v : Value) → value s x ≡ Some v → value t (from x) ≡ Some v
    below = value_below first words s u d ds agree

    word_at_below : (x : Operand) → OperandNamed at list x → (w : ℕ) → word_at s x ≡ Some w → word_at t (from x) ≡ Some w
    word_at_below x named = word_below (value s x) (value t (from x)) (below x named)

    reference_at_below : (x : Operand) → OperandNamed at list x → (w : Reference) → reference_in (value s x) ≡ Some w → reference_in (value t (from x)) ≡ Some w
    reference_at_below x named = reference_below (value s x) (value t (from x)) (below x named)

    base_same : (b : Base) → base_of q t b ≡ base_of p s b
    base_same (base.Statics o) = refl
    base_same (base.Frame o) =
        ap (λ n. reference_to n (area_home (function_at q s.frame.function) + o)) (name_under s.frame s.waiting d ds)
        ∙ ap (λ n. reference_to (name_of p s.frame s.waiting) (n + o)) (home_at s.frame.function)

    place_below : (l : Location) → LocationNamed at list l → (w : Reference) → place p s l ≡ Some w → place q t (moved_location at list l) ≡ Some w
    place_below (location.Statics o) named w e = e
    place_below (location.Frame o) named w e =
        ap (λ n. Some (reference_to n (area_home (function_at q s.frame.function) + o))) (name_under s.frame s.waiting d ds)
        ∙ (ap (λ n. Some (reference_to (name_of p s.frame s.waiting) (n + o))) (home_at s.frame.function) ∙ e)
    place_below (location.At x) named w e = reference_at_below x named w e
    place_below (location.Indexed b y size) named w e =
        ap (λ r. indexed r size (word_at t (from y))) (base_same b) ∙ indexed_below (base_of p s b) size (word_at s y) (word_at t (from y)) (word_at_below y named) w e

    result_below : Named at list 0 → (w : ℕ) → word_at s (operand.Temporary 0) ≡ Some w → word_at t (operand.Temporary 0) ≡ Some w
    result_below named = word_at_below (operand.Temporary 0) named

    loaded_match : (w : Width) (g : Target) (v : Reference) → TargetNamed at list g → Matches (loaded p s w g v) (loaded q t w (moved_target at list g) v)
    loaded_match w g v named =
        match_bind first words (memory p s v.list) (memory q t v.list)
        (λ m. if fits w v.offset m then element_in w m.bytes v.offset >>= gives_word g s else stuck)
        (λ m. if fits w v.offset m then element_in w m.bytes v.offset >>= gives_word (moved_target at list g) t else stuck)
        (λ m e. memory_same s u d ds v.list ∙ e)
        (λ m. match_if first words (fits w v.offset m) (element_in w m.bytes v.offset >>= gives_word g s) (element_in w m.bytes v.offset >>= gives_word (moved_target at list g) t)
        (match_bind first words (element_in w m.bytes v.offset) (element_in w m.bytes v.offset) (gives_word g s) (gives_word (moved_target at list g) t) (λ n a. a) (λ n. gives_match g (word n) named)))

    put_match : (l : ℕ) (b : Bytes) → Matches (running (with_memory p (next s) l b)) (running (with_memory q (next t) l b))
    put_match l b = record { others = u; cells = d; below = ds; is = ap running (memory_put (next s) u d ds l b); agree = agree_put (next s) u d ds l b next_agrees }

    stored_match : (w : Width) (n : ℕ) (v : Reference) → Matches (stored p s w n v) (stored q t w n v)
    stored_match w n v =
        match_bind first words (memory p s v.list) (memory q t v.list)
        (λ m. if fits w v.offset m then running (with_memory p (next s) v.list (with_element w m.bytes v.offset n)) else stuck)
        (λ m. if fits w v.offset m then running (with_memory q (next t) v.list (with_element w m.bytes v.offset n)) else stuck)
        (λ m e. memory_same s u d ds v.list ∙ e)
        (λ m. match_if first words (fits w v.offset m) (running (with_memory p (next s) v.list (with_element w m.bytes v.offset n))) (running (with_memory q (next t) v.list (with_element w m.bytes v.offset n)))
        (put_match v.list (with_element w m.bytes v.offset n)))

    jumps : (to : ℕ) → Matches (running (goes_to s to)) (running (goes_to t to))
    jumps to = record { others = u; cells = d; below = ds; is = refl; agree = record { cells = agree.cells; temporaries = agree.temporaries; waiting = agree.waiting } }

    branched : (c : Bool) (to : ℕ) → Matches (running (if c then goes_to s to else next s)) (running (if c then goes_to t to else next t))
    branched true to = jumps to
    branched false to = record { others = u; cells = d; below = ds; is = refl; agree = next_agrees }

    -- where no word lives in a temporary
    plain_words : list ≡ [] → (c : ℕ) (w : Value) → s.frame.cells c ≡ Some w → d c ≡ Some w
    plain_words none c w e = sym (none_held at list u d c none) ∙ agree.cells c w e

    words_stay : (v : Values) → list ≡ [] → (c : ℕ) (w : Value) → s.frame.cells c ≡ Some w → held v d c (home_of at list c) ≡ Some w
    words_stay v none c w e = none_held at list v d c none ∙ plain_words none c w e

    -- the frame of the caller
    back_agrees : (m n : Option Value) → n ≡ m → (f : Frame) (fs : List Frame) (vs : List Values) → AllAgree first words (f ∷ fs) vs
        → Agrees (record s { frame = f; temporaries = result_alone m; arguments = unset; waiting = fs }) (result_alone n) (first_or f.cells vs) (rest_of vs)
    back_agrees m n same f fs vs h = record {
      cells = λ c w e. none_held (first f.function) (words f.function) (result_alone n) (first_or f.cells vs) c h.0 ∙ h.1 c w e;
      temporaries = λ j named. ap (λ v. result_alone v j) same;
      waiting = h.2;
    }

    returned_match : (m n : Option Value) → n ≡ m → (ws : List Frame) (vs : List Values) → AllAgree first words ws vs → Matches (returned s m ws) (returned t n (under ws vs))
    returned_match m n same [] vs h =
        match_bind first words (word_in m) (word_in n) (λ v. ended (v % 2 ^ 8) s.input s.trace) (λ v. ended (v % 2 ^ 8) s.input s.trace) (λ v e. ap word_in same ∙ e) (λ v. refl)
    returned_match m n same (f ∷ fs) vs h = record { others = result_alone n; cells = first_or f.cells vs; below = rest_of vs; is = refl; agree = back_agrees m n same f fs vs h }

    pub result_is : Named at list 0 → result_of q t ≡ result_of p s
    result_is named =
        result_same (function_at p s.frame.function).gives (function_at q s.frame.function).gives (s.temporaries 0) (u 0) (ap (λ (f : Function). f.gives) (r.at s.frame.function)) (λ has. agree.temporaries 0 named)

    got_match : list ≡ [] → (input : List ℕ) → Matches (got s input) (got t input)
    got_match none [] = record {
      others = result_alone (Some (word (2 ^ 32 - 1)));
      cells = d;
      below = ds;
      is = refl;
      agree = record { cells = words_stay (result_alone (Some (word (2 ^ 32 - 1)))) none; temporaries = λ j n. refl; waiting = agree.waiting };
    }
    got_match none (b ∷ more) = record {
      others = result_alone (Some (word b));
      cells = d;
      below = ds;
      is = refl;
      agree = record { cells = words_stay (result_alone (Some (word b))) none; temporaries = λ j n. refl; waiting = agree.waiting };
    }

    none_set : (c : ℕ) (w : Value) → unset c ≡ Some w → ⊥
    none_set c w e = let z : ⊥ = cc in z

    enters : (f : ℕ) → list ≡ [] → Matches (running (entered s f)) (running (entered t f))
    enters f none =
        let each : (j : ℕ) → u j ≡ s.temporaries j = λ j. agree.temporaries j (inl none) in
        let whole : u ≡ s.temporaries = λ i j. each j i in
        subst (λ (v : Values). Matches (running (entered s f)) (running (entered (over v d ds s) f))) (sym whole)
        (record {
          others = below_eight s.temporaries;
          cells = unset;
          below = d ∷ ds;
          is = refl;
          agree = record { cells = λ c w e. absurd (none_set c w e); temporaries = λ j n. refl; waiting = (none, plain_words none, agree.waiting) };
        })

    pub act_match : (x : Instruction) → IsNamed at list x → Matches (act p s x) (act q t (moved at list x))
    act_match instruction.Nothing named = record { others = u; cells = d; below = ds; is = refl; agree = past_agrees }
    act_match (instruction.Move g x) named =
        match_bind first words (value s x) (value t (from x)) (λ v. running (set g v (past s))) (λ v. running (set (moved_target at list g) v (past t))) (below x named.1) (λ v. move_match g v named.0)
    act_match (instruction.Compute o g x y) named =
        match_bind first words (word_at s x) (word_at t (from x)) (λ m. word_at s y >>= λ n. gives_word g s (operate o m n)) (λ m. word_at t (from y) >>= λ n. gives_word (moved_target at list g) t (operate o m n))
        (word_at_below x named.1)
        (λ m. match_bind first words (word_at s y) (word_at t (from y)) (λ n. gives_word g s (operate o m n)) (λ n. gives_word (moved_target at list g) t (operate o m n)) (word_at_below y named.2)
        (λ n. gives_match g (word (operate o m n)) named.0))
    act_match (instruction.Convert c g x) named =
        match_bind first words (word_at s x) (word_at t (from x)) (λ m. gives_word g s (converted c m)) (λ m. gives_word (moved_target at list g) t (converted c m)) (word_at_below x named.1)
        (λ m. gives_match g (word (converted c m)) named.0)
    act_match (instruction.Load w g l) named =
        match_bind first words (place p s l) (place q t (moved_location at list l)) (loaded p s w g) (loaded q t w (moved_target at list g)) (place_below l named.1) (λ v. loaded_match w g v named.0)
    act_match (instruction.Store w x l) named =
        match_bind first words (word_at s x) (word_at t (from x)) (λ n. place p s l >>= stored p s w n) (λ n. place q t (moved_location at list l) >>= stored q t w n) (word_at_below x named.0)
        (λ n. match_bind first words (place p s l) (place q t (moved_location at list l)) (stored p s w n) (stored q t w n) (place_below l named.1) (λ v. stored_match w n v))
    act_match (instruction.Address g l) named =
        match_bind first words (place p s l) (place q t (moved_location at list l)) (λ v. gives g s (reference v.list v.offset)) (λ v. gives (moved_target at list g) t (reference v.list v.offset)) (place_below l named.1)
        (λ v. gives_match g (reference v.list v.offset) named.0)
    act_match (instruction.Element g x y size) named =
        match_bind first words (reference_in (value s x)) (reference_in (value t (from x))) (λ m. word_at s y >>= λ n. gives g s (reference m.list (m.offset + n * size)))
        (λ m. word_at t (from y) >>= λ n. gives (moved_target at list g) t (reference m.list (m.offset + n * size))) (reference_at_below x named.1)
        (λ m. match_bind first words (word_at s y) (word_at t (from y)) (λ n. gives g s (reference m.list (m.offset + n * size))) (λ n. gives (moved_target at list g) t (reference m.list (m.offset + n * size)))
        (word_at_below y named.2) (λ n. gives_match g (reference m.list (m.offset + n * size)) named.0))
    act_match (instruction.Jump to) named = jumps to
    act_match (instruction.Branch c x y to) named =
        match_bind first words (word_at s x) (word_at t (from x)) (λ m. word_at s y >>= λ n. running (if compare_of c m n then goes_to s to else next s))
        (λ m. word_at t (from y) >>= λ n. running (if compare_of c m n then goes_to t to else next t)) (word_at_below x named.0)
        (λ m. match_bind first words (word_at s y) (word_at t (from y)) (λ n. running (if compare_of c m n then goes_to s to else next s)) (λ n. running (if compare_of c m n then goes_to t to else next t))
        (word_at_below y named.1) (λ n. branched (compare_of c m n) to))
    act_match (instruction.Call f) named = enters f named
    act_match instruction.PutByte named =
        match_bind first words (word_at s (operand.Temporary 0)) (word_at t (operand.Temporary 0)) (put s) (put t) (result_below (inl named))
        (λ v. record { others = unset; cells = d; below = ds; is = refl; agree = record { cells = words_stay unset named; temporaries = λ j n. refl; waiting = agree.waiting } })
    act_match instruction.GetByte named = got_match named s.input
    act_match instruction.Exit named =
        match_bind first words (word_at s (operand.Temporary 0)) (word_at t (operand.Temporary 0)) (λ v. ended (v % 2 ^ 8) s.input s.trace) (λ v. ended (v % 2 ^ 8) s.input s.trace) (result_below named) (λ v. refl)
    act_match instruction.Return named = returned_match (result_of p s) (result_of q t) (result_is named) s.waiting ds agree.waiting
