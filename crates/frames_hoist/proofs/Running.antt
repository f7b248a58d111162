-- A program whose constants were hoisted runs as the program does, at no more cost where the entries are counted.
use Rattle.std.proofs.Common.{◌≡◌, ◌≤◌, ◌<◌, ◌⊎◌, inl, inr, ⊎_elim, ℕ, zero, suc, ◌+◌, ◌*◌, ◌-◌, ◌%◌, ◌^◌, List, [], ◌∷◌, length, map, Option, Some, None, Bool, true, false, refl, sym, ap, ◌∙◌, subst, arith}
use Rattle.std.specs.Prelude.{◌==◌, if◌then◌else◌, slice_get}
use Rattle.std.proofs.lemmas.Option.{slice_get_within}
use Rattle.rv32.specs.Arithmetic.{compare_of}
use Rattle.frames_code.specs.declared.code.Target.{Target}
use Rattle.frames_code.specs.declared.code.Target.TheVariants as target
use Rattle.frames_code.specs.declared.code.Width.{Width}
use Rattle.frames_code.specs.declared.code.Operand.TheVariants as operand
use Rattle.frames_code.specs.declared.code.Instruction.{Instruction}
use Rattle.frames_code.specs.declared.code.Instruction.TheVariants as instruction
use Rattle.frames_code.specs.Code.{Program}
use Rattle.frames_code.specs.Costs.{entry_cost, entry_cost_of, cost, cost_if, cost_in, cost_in_if, cost_on, next_of, spent, spent_in, spent_with_entry}
use Rattle.frames_code.specs.Run.{Value, Values, Bytes, Frame, State, Reference, Progress, running, ended, stuck, word, reference, value, word_at, word_in, reference_in, set, unset, next, past, goes_to, place, memory, changed_among, with_frames, with_memory, with_element, element_in, fits, gives, gives_word, operate, converted, loaded, stored, put, got, act, step, run, start, goes_on, active, function_at, name_of, result_of, returned, ◌>>=◌}
use Rattle.frames_opt.specs.Simplified.{DoesTheSame, IsDefined, IsAtCall}
use Rattle.frames_hoist.specs.declared.homes.Home.{Home}
use Rattle.frames_hoist.specs.layer.Hoisting.{survives_calls, put_in, is_straight, with_pool}
use Rattle.frames_hoist.proofs.Agreeing.{TemporaryOutside, IsOutside, LeadsAlike, PutsOne, Reads, Position, AreAlike, rest_of, under, over, AllAgree, Agree, Match}
use Rattle.frames_hoist.proofs.Acting.{reads_alike, puts_alike, result_is, none_lost, begins_agree}

functions_under : (fs : List Frame) (ds : List Values) → map (λ (f : Frame). f.function) (under fs ds) ≡ map (λ (f : Frame). f.function) fs
functions_under [] ds = refl
functions_under (f ∷ fs) ds = ap (λ (ns : List ℕ). f.function ∷ ns) (functions_under fs (rest_of ds))

active_same : (d us : Values) (ds : List Values) (s : State) → active (over d us ds s) ≡ active s
active_same d us ds s = ap (λ (ns : List ℕ). s.frame.function ∷ ns) (functions_under s.waiting ds)

same_running : (s t : State) → running s ≡ running t → s ≡ t
same_running s t e = cc

same_some : {A : Type 0} (x y : A) → Some x ≡ Some y → x ≡ y
same_some x y e = cc

-- no other instruction becomes one of these
call_stays : (h : Home) (pool : List ℕ) (x : Instruction) (g : ℕ) → with_pool h pool x ≡ instruction.Call g → x ≡ instruction.Call g
call_stays h pool instruction.Nothing g e = absurd (let z : ⊥ = cc in z)
call_stays h pool (instruction.Move d x) g e = absurd (let z : ⊥ = cc in z)
call_stays h pool (instruction.Compute o d x y) g e = absurd (let z : ⊥ = cc in z)
call_stays h pool (instruction.Convert k d x) g e = absurd (let z : ⊥ = cc in z)
call_stays h pool (instruction.Load w d l) g e = absurd (let z : ⊥ = cc in z)
call_stays h pool (instruction.Store w x l) g e = absurd (let z : ⊥ = cc in z)
call_stays h pool (instruction.Address d l) g e = absurd (let z : ⊥ = cc in z)
call_stays h pool (instruction.Element d x y size) g e = absurd (let z : ⊥ = cc in z)
call_stays h pool (instruction.Jump to) g e = absurd (let z : ⊥ = cc in z)
call_stays h pool (instruction.Branch t x y to) g e = absurd (let z : ⊥ = cc in z)
call_stays h pool (instruction.Call f) g e = e
call_stays h pool instruction.PutByte g e = absurd (let z : ⊥ = cc in z)
call_stays h pool instruction.GetByte g e = absurd (let z : ⊥ = cc in z)
call_stays h pool instruction.Exit g e = absurd (let z : ⊥ = cc in z)
call_stays h pool instruction.Return g e = absurd (let z : ⊥ = cc in z)

return_stays : (h : Home) (pool : List ℕ) (x : Instruction) → with_pool h pool x ≡ instruction.Return → x ≡ instruction.Return
return_stays h pool instruction.Nothing e = absurd (let z : ⊥ = cc in z)
return_stays h pool (instruction.Move d x) e = absurd (let z : ⊥ = cc in z)
return_stays h pool (instruction.Compute o d x y) e = absurd (let z : ⊥ = cc in z)
return_stays h pool (instruction.Convert k d x) e = absurd (let z : ⊥ = cc in z)
return_stays h pool (instruction.Load w d l) e = absurd (let z : ⊥ = cc in z)
return_stays h pool (instruction.Store w x l) e = absurd (let z : ⊥ = cc in z)
return_stays h pool (instruction.Address d l) e = absurd (let z : ⊥ = cc in z)
return_stays h pool (instruction.Element d x y size) e = absurd (let z : ⊥ = cc in z)
return_stays h pool (instruction.Jump to) e = absurd (let z : ⊥ = cc in z)
return_stays h pool (instruction.Branch t x y to) e = absurd (let z : ⊥ = cc in z)
return_stays h pool (instruction.Call f) e = absurd (let z : ⊥ = cc in z)
return_stays h pool instruction.PutByte e = absurd (let z : ⊥ = cc in z)
return_stays h pool instruction.GetByte e = absurd (let z : ⊥ = cc in z)
return_stays h pool instruction.Exit e = absurd (let z : ⊥ = cc in z)
return_stays h pool instruction.Return e = refl

none_too : (xs ys : List Instruction) (i : ℕ) → length ys ≡ length xs → slice_get xs i ≡ None → slice_get ys i ≡ None
none_too xs [] i count e = refl
none_too [] (y ∷ ys) i count e = absurd (omega (arith, count))
none_too (x ∷ xs) (y ∷ ys) zero count e = absurd (let z : ⊥ = cc in z)
none_too (x ∷ xs) (y ∷ ys) (suc i) count e = none_too xs ys i (omega (arith, count)) e

-- a constant that comes from its place costs no more
pool_cost : (p : Program) (h : Home) (pool : List ℕ) (x : Instruction) → cost_in p (with_pool h pool x) ≡ cost_in p x
pool_cost p h pool instruction.Nothing = refl
pool_cost p h pool (instruction.Move d x) = refl
pool_cost p h pool (instruction.Compute o d x y) = refl
pool_cost p h pool (instruction.Convert k d x) = refl
pool_cost p h pool (instruction.Load w d l) = refl
pool_cost p h pool (instruction.Store w x l) = refl
pool_cost p h pool (instruction.Address d l) = refl
pool_cost p h pool (instruction.Element d x y size) = refl
pool_cost p h pool (instruction.Jump to) = refl
pool_cost p h pool (instruction.Branch t x y to) = refl
pool_cost p h pool (instruction.Call f) = refl
pool_cost p h pool instruction.PutByte = refl
pool_cost p h pool instruction.GetByte = refl
pool_cost p h pool instruction.Exit = refl
pool_cost p h pool instruction.Return = refl

module _ (p q : Program) (home : ℕ → Home) (pool : ℕ → List ℕ) (fill : ℕ → ℕ → ℕ) (r : AreAlike p q home pool fill) where
  abbrev Matches : Progress → Progress → Type 0
  Matches = Match home pool fill

  -- the price of the constants that are still to be put into their places
  abbrev left : (k i : ℕ) → ℕ
  left k i = 6 * (length (pool k) - fill k i)

  abbrev left_of : State → ℕ
  left_of s = left s.frame.function s.frame.at

  abbrev left_in : Progress → ℕ
  left_in (running s) = left_of s
  left_in (ended status input trace) = 0
  left_in stuck = 0

  -- ---- one step

  module _ (s : State) (d us : Values) (ds : List Values) (agree : Agree home pool fill s d us ds) where
    abbrev t : State
    t = over d us ds s

    abbrev k : ℕ
    k = s.frame.function

    abbrev i : ℕ
    i = s.frame.at

    module _ (x : Instruction) (is : slice_get (function_at p k).code i ≡ Some x) where
      abbrev c : Position (home k) (pool k) (fill k) (function_at p k) (function_at q k) i x
      c = r.each k i x is

      matches : Matches (act p s x) (act q t c.done)
      matches =
          ⊎_elim
          (λ one. subst (λ w. Matches (act p s w) (act q t c.done)) (sym one.was)
          (subst (λ w. Matches (act p s instruction.Nothing) (act q t w)) (sym one.is) (puts_alike p q home pool fill r s d us ds agree one.constant one.there one.more)))
          (λ all. subst (λ w. Matches (act p s x) (act q t w)) (sym all.is) (reads_alike p q home pool fill r s d us ds agree all.read all.held x all.outside all.after all.leads all.whole))
          c.by

      step_first : step p s ≡ act p s x
      unfolding step
      step_first = ap (λ o. o >>= act p s) is

      step_second : step q t ≡ act q t c.done
      unfolding step
      step_second = ap (λ o. o >>= act q t) c.is

      first_cost : cost_if (next_of p s) ≡ cost x
      first_cost = ap cost_if is

      second_cost : cost_in_if q (next_of q t) ≡ cost_in q c.done
      second_cost = ap (cost_in_if q) c.is

    none_first : slice_get (function_at p k).code i ≡ None → step p s ≡ stuck
    unfolding step
    none_first e = ap (λ o. o >>= act p s) e

  -- ---- n steps

  abbrev Goal : ℕ → Type 0
  Goal n = (s : State) (d us : Values) (ds : List Values) → Agree home pool fill s d us ds → DoesTheSame (run p n s) (run q n (over d us ds s))

  goes_alike : (n : ℕ) (x z : Progress) → Matches x z → Goal n → DoesTheSame (goes_on x (run p n)) (goes_on z (run q n))
  goes_alike n (running s) z m more = subst (λ w. DoesTheSame (run p n s) (goes_on w (run q n))) (sym m.is) (more s m.words m.temporaries m.others m.agree)
  goes_alike n (ended status input trace) z m more = subst (λ w. DoesTheSame (ended status input trace) (goes_on w (run q n))) (sym m) refl
  goes_alike n stuck z m more = tt

  pub run_alike : (n : ℕ) → Goal n
  run_alike zero s d us ds agree = (refl, refl, active_same d us ds s)
  run_alike (suc n) s d us ds agree = on (run_alike n) (slice_get (function_at p s.frame.function).code s.frame.at) refl
    where
      on : Goal n → (o : Option Instruction) → slice_get (function_at p s.frame.function).code s.frame.at ≡ o → DoesTheSame (goes_on (step p s) (run p n)) (goes_on (step q (over d us ds s)) (run q n))
      on later None e = subst (λ w. DoesTheSame (goes_on w (run p n)) (goes_on (step q (over d us ds s)) (run q n))) (sym (none_first s d us ds agree e)) tt
      on later (Some x) e =
          let z = (r.each s.frame.function s.frame.at x e).done in
          let here = goes_alike n (act p s x) (act q (over d us ds s) z) (matches s d us ds agree x e) later in
          let second : DoesTheSame (goes_on (act p s x) (run p n)) (goes_on (step q (over d us ds s)) (run q n)) =
          subst (λ w. DoesTheSame (goes_on (act p s x) (run p n)) (goes_on w (run q n))) (sym (step_second s d us ds agree x e)) here in
          subst (λ w. DoesTheSame (goes_on w (run p n)) (goes_on (step q (over d us ds s)) (run q n))) (sym (step_first s d us ds agree x e)) second

  -- ---- costs

  left_bind : {A : Type 0} (o : Option A) (go : A → Progress) (n : ℕ) → ((a : A) → left_in (go a) ≤ n) → left_in (o >>= go) ≤ n
  left_bind None go n each = omega arith
  left_bind (Some a) go n each = each a

  left_if : (b : Bool) (x : Progress) (n : ℕ) → left_in x ≤ n → left_in (if b then x else stuck) ≤ n
  left_if true x n h = h
  left_if false x n h = omega arith

  left_put : (s : State) (l : ℕ) (b : Bytes) → left_of (with_memory p s l b) ≡ left_of s
  left_put s zero b = refl
  left_put s (suc l) b = on (name_of p s.frame s.waiting == suc l)
    where
      on : (c : Bool) → left_of (with_frames s (if c then record s.frame { area = b } ∷ s.waiting else s.frame ∷ changed_among p s.waiting (suc l) b)) ≡ left_of s
      on true = refl
      on false = refl

  module _ (s : State) where
    abbrev after : ℕ
    after = left s.frame.function (s.frame.at + 1)

    left_gives : (g : Target) (v : Value) → left_in (gives g s v) ≤ after
    left_gives (target.Temporary j) v = omega arith
    left_gives (target.Cell c) v = omega arith

    left_moves : (g : Target) (v : Value) → left_in (running (set g v (past s))) ≤ after
    left_moves (target.Temporary j) v = omega arith
    left_moves (target.Cell c) v = omega arith

    left_loads : (w : Width) (g : Target) (v : Reference) → left_in (loaded p s w g v) ≤ after
    left_loads w g v =
        left_bind (memory p s v.list) (λ m. if fits w v.offset m then element_in w m.bytes v.offset >>= gives_word g s else stuck) after
        (λ m. left_if (fits w v.offset m) (element_in w m.bytes v.offset >>= gives_word g s) after (left_bind (element_in w m.bytes v.offset) (gives_word g s) after (λ n. left_gives g (word n))))

    left_stores : (w : Width) (n : ℕ) (v : Reference) → left_in (stored p s w n v) ≤ after
    left_stores w n v =
        left_bind (memory p s v.list) (λ m. if fits w v.offset m then running (with_memory p (next s) v.list (with_element w m.bytes v.offset n)) else stuck) after
        (λ m. left_if (fits w v.offset m) (running (with_memory p (next s) v.list (with_element w m.bytes v.offset n))) after
        (let e = left_put (next s) v.list (with_element w m.bytes v.offset n) in omega (arith, e)))

    left_got : (input : List ℕ) → left_in (got s input) ≤ after
    left_got [] = omega arith
    left_got (b ∷ more) = omega arith

    left_branched : (b : Bool) (to n : ℕ) → left s.frame.function to ≤ n → after ≤ n → left_in (running (if b then goes_to s to else next s)) ≤ n
    left_branched true to n h g = h
    left_branched false to n h g = g

    left_straight : (x : Instruction) → is_straight x ≡ true → left_in (act p s x) ≤ after
    left_straight instruction.Nothing e = omega arith
    left_straight (instruction.Move g x) e = left_bind (value s x) (λ v. running (set g v (past s))) after (left_moves g)
    left_straight (instruction.Compute o g x y) e =
        left_bind (word_at s x) (λ m. word_at s y >>= λ n. gives_word g s (operate o m n)) after
        (λ m. left_bind (word_at s y) (λ n. gives_word g s (operate o m n)) after (λ n. left_gives g (word (operate o m n))))
    left_straight (instruction.Convert c g x) e = left_bind (word_at s x) (λ m. gives_word g s (converted c m)) after (λ m. left_gives g (word (converted c m)))
    left_straight (instruction.Load w g l) e = left_bind (place p s l) (loaded p s w g) after (left_loads w g)
    left_straight (instruction.Store w x l) e =
        left_bind (word_at s x) (λ n. place p s l >>= stored p s w n) after (λ n. left_bind (place p s l) (stored p s w n) after (left_stores w n))
    left_straight (instruction.Address g l) e = left_bind (place p s l) (λ v. gives g s (reference v.list v.offset)) after (λ v. left_gives g (reference v.list v.offset))
    left_straight (instruction.Element g x y size) e =
        left_bind (reference_in (value s x)) (λ m. word_at s y >>= λ n. gives g s (reference m.list (m.offset + n * size))) after
        (λ m. left_bind (word_at s y) (λ n. gives g s (reference m.list (m.offset + n * size))) after (λ n. left_gives g (reference m.list (m.offset + n * size))))
    left_straight (instruction.Jump to) e = absurd (let z : ⊥ = cc in z)
    left_straight (instruction.Branch c x y to) e = absurd (let z : ⊥ = cc in z)
    left_straight (instruction.Call f) e = absurd (let z : ⊥ = cc in z)
    left_straight instruction.PutByte e = absurd (let z : ⊥ = cc in z)
    left_straight instruction.GetByte e = absurd (let z : ⊥ = cc in z)
    left_straight instruction.Exit e = absurd (let z : ⊥ = cc in z)
    left_straight instruction.Return e = absurd (let z : ⊥ = cc in z)

    module _ (d us : Values) (ds : List Values) (agree : Agree home pool fill s d us ds) where
      abbrev k2 : ℕ
      k2 = s.frame.function

      abbrev i2 : ℕ
      i2 = s.frame.at

      left_returned : (result : Option Value) (ws : List Frame) (vs : List Values) → AllAgree home pool fill ws vs → left_in (returned s result ws) ≤ 0
      left_returned result [] vs h = left_bind (word_in result) (λ v. ended (v % 2 ^ 8) s.input s.trace) 0 (λ v. omega arith)
      left_returned result (f ∷ fs) vs h = let e = h.1 in omega (arith, e)

      same_after : fill k2 (i2 + 1) ≡ fill k2 i2 → after ≤ left_of s
      same_after e = let g : after ≡ left_of s = ap (λ n. 6 * (length (pool k2) - n)) e in omega (arith, g)

      reads_paid : (x : Instruction) → fill k2 (i2 + 1) ≡ fill k2 i2 → LeadsAlike (fill k2) (fill k2 i2) x → cost_in q x + left_in (act p s x) ≤ cost x + left_of s
      reads_paid instruction.Nothing e leads = let a = left_straight instruction.Nothing refl in let b = same_after e in omega (arith, a, b)
      reads_paid (instruction.Move g x) e leads = let a = left_straight (instruction.Move g x) refl in let b = same_after e in omega (arith, a, b)
      reads_paid (instruction.Compute o g x y) e leads = let a = left_straight (instruction.Compute o g x y) refl in let b = same_after e in omega (arith, a, b)
      reads_paid (instruction.Convert c g x) e leads = let a = left_straight (instruction.Convert c g x) refl in let b = same_after e in omega (arith, a, b)
      reads_paid (instruction.Load w g l) e leads = let a = left_straight (instruction.Load w g l) refl in let b = same_after e in omega (arith, a, b)
      reads_paid (instruction.Store w x l) e leads = let a = left_straight (instruction.Store w x l) refl in let b = same_after e in omega (arith, a, b)
      reads_paid (instruction.Address g l) e leads = let a = left_straight (instruction.Address g l) refl in let b = same_after e in omega (arith, a, b)
      reads_paid (instruction.Element g x y size) e leads = let a = left_straight (instruction.Element g x y size) refl in let b = same_after e in omega (arith, a, b)
      reads_paid (instruction.Jump to) e leads = let g : left k2 to ≡ left_of s = ap (λ n. 6 * (length (pool k2) - n)) leads in omega (arith, g)
      reads_paid (instruction.Branch c x y to) e leads =
          let g : left k2 to ≡ left_of s = ap (λ n. 6 * (length (pool k2) - n)) leads in
          let b = same_after e in
          let h : left_in (act p s (instruction.Branch c x y to)) ≤ left_of s =
          left_bind (word_at s x) (λ m. word_at s y >>= λ n. running (if compare_of c m n then goes_to s to else next s)) (left_of s)
          (λ m. left_bind (word_at s y) (λ n. running (if compare_of c m n then goes_to s to else next s)) (left_of s) (λ n. left_branched (compare_of c m n) to (left_of s) (omega (arith, g)) b)) in
          omega (arith, h)
      reads_paid (instruction.Call f) e leads =
          let a = r.paid f in
          let z = r.starts f in
          let g : left_in (act p s (instruction.Call f)) ≡ 6 * (length (pool f) - 0) = ap (λ n. 6 * (length (pool f) - n)) z in
          omega (arith, a, g)
      reads_paid instruction.PutByte e leads =
          let b = same_after e in
          let h : left_in (act p s instruction.PutByte) ≤ after = left_bind (word_at s (operand.Temporary 0)) (put s) after (λ v. omega arith) in
          omega (arith, h, b)
      reads_paid instruction.GetByte e leads = let a = left_got s.input in let b = same_after e in omega (arith, a, b)
      reads_paid instruction.Exit e leads =
          let h : left_in (act p s instruction.Exit) ≤ 0 = left_bind (word_at s (operand.Temporary 0)) (λ v. ended (v % 2 ^ 8) s.input s.trace) 0 (λ v. omega arith) in
          omega (arith, h)
      reads_paid instruction.Return e leads = let h = left_returned (result_of p s) s.waiting ds agree.waiting in omega (arith, h)

      paid_for : (x done : Instruction) → PutsOne (home k2) (pool k2) (fill k2) i2 x done ⊎ Reads (home k2) (pool k2) (fill k2) (function_at p k2) (function_at q k2) i2 x done
          → cost_in q done + left_in (act p s x) ≤ cost x + left_of s
      paid_for x done (inl one) =
          let a : cost_in q done ≡ 6 = ap (cost_in q) one.is in
          let b : cost x ≡ 0 = ap cost one.was in
          let c : left_in (act p s x) ≡ after = ap (λ w. left_in (act p s w)) one.was in
          let n = fill k2 i2 in
          let g : after ≡ 6 * (length (pool k2) - suc n) = ap (λ m. 6 * (length (pool k2) - m)) one.more in
          let lt : n < length (pool k2) = slice_get_within (pool k2) n one.constant one.there in
          omega (arith, a, b, c, g, lt)
      paid_for x done (inr all) =
          let a : cost_in q done ≡ cost_in q x = ap (cost_in q) all.is ∙ pool_cost q (home k2) all.read x in
          let b = reads_paid x all.after all.leads in
          omega (arith, a, b)

  abbrev Less : ℕ → Type 0
  Less n = (s : State) (d us : Values) (ds : List Values) → Agree home pool fill s d us ds → IsDefined (run p n s) → spent_in q n (over d us ds s) ≤ spent p n s + left_of s

  goes_less : (n : ℕ) (x z : Progress) → Matches x z → Less n → IsDefined (goes_on x (run p n)) → cost_on z (spent_in q n) ≤ cost_on x (spent p n) + left_in x
  goes_less n (running s) z m more defined = subst (λ w. cost_on w (spent_in q n) ≤ spent p n s + left_of s) (sym m.is) (more s m.words m.temporaries m.others m.agree defined)
  goes_less n (ended status input trace) z m more defined = subst (λ w. cost_on w (spent_in q n) ≤ 0 + 0) (sym m) (let le : 0 ≤ 0 + 0 = omega arith in le)
  goes_less n stuck z m more defined = absurd defined

  pub spent_less : (n : ℕ) → Less n
  spent_less zero s d us ds agree defined = omega arith
  spent_less (suc n) s d us ds agree defined = on (spent_less n) (slice_get (function_at p s.frame.function).code s.frame.at) refl
    where
      on : Less n → (o : Option Instruction) → slice_get (function_at p s.frame.function).code s.frame.at ≡ o
          → cost_in_if q (next_of q (over d us ds s)) + cost_on (step q (over d us ds s)) (spent_in q n) ≤ cost_if (next_of p s) + cost_on (step p s) (spent p n) + left_of s
      on later None e = absurd (subst (λ w. IsDefined (goes_on w (run p n))) (none_first s d us ds agree e) defined)
      on later (Some x) e =
          let c = r.each s.frame.function s.frame.at x e in
          let first = step_first s d us ds agree x e in
          let second = step_second s d us ds agree x e in
          let more : cost_on (act q (over d us ds s) c.done) (spent_in q n) ≤ cost_on (act p s x) (spent p n) + left_in (act p s x) =
          goes_less n (act p s x) (act q (over d us ds s) c.done) (matches s d us ds agree x e) later (subst (λ w. IsDefined (goes_on w (run p n))) first defined) in
          let one : cost_on (step p s) (spent p n) ≡ cost_on (act p s x) (spent p n) = ap (λ w. cost_on w (spent p n)) first in
          let two : cost_on (step q (over d us ds s)) (spent_in q n) ≡ cost_on (act q (over d us ds s) c.done) (spent_in q n) = ap (λ w. cost_on w (spent_in q n)) second in
          let three = first_cost s d us ds agree x e in
          let four = second_cost s d us ds agree x e in
          let five = paid_for s d us ds agree x c.done c.by in
          omega (arith, more, one, two, three, four, five)

  -- ---- the states that the two runs have come to

  pub record Reached (s : State) (z : Progress) : Type 0 where
    pub words : Values
    pub temporaries : Values
    pub others : List Values
    pub is : z ≡ running (over words temporaries others s)
    pub agree : Agree home pool fill s words temporaries others

  abbrev Reach : ℕ → Type 0
  Reach n = (s : State) (d us : Values) (ds : List Values) → Agree home pool fill s d us ds → (s2 : State) → run p n s ≡ running s2 → Reached s2 (run q n (over d us ds s))

  goes_to_it : (n : ℕ) (x z : Progress) → Matches x z → Reach n → (s2 : State) → goes_on x (run p n) ≡ running s2 → Reached s2 (goes_on z (run q n))
  goes_to_it n (running s) z m more s2 e = subst (λ w. Reached s2 (goes_on w (run q n))) (sym m.is) (more s m.words m.temporaries m.others m.agree s2 e)
  goes_to_it n (ended status input trace) z m more s2 e = absurd (let no : ⊥ = cc in no)
  goes_to_it n stuck z m more s2 e = absurd (let no : ⊥ = cc in no)

  pub reach : (n : ℕ) → Reach n
  reach zero s d us ds agree s2 e = subst (λ v. Reached v (running (over d us ds s))) (same_running s s2 e) (record { words = d; temporaries = us; others = ds; is = refl; agree = agree })
  reach (suc n) s d us ds agree s2 e = on (reach n) (slice_get (function_at p s.frame.function).code s.frame.at) refl
    where
      on : Reach n → (o : Option Instruction) → slice_get (function_at p s.frame.function).code s.frame.at ≡ o → Reached s2 (goes_on (step q (over d us ds s)) (run q n))
      on later None h =
          let no : stuck ≡ running s2 = sym (ap (λ w. goes_on w (run p n)) (none_first s d us ds agree h)) ∙ e in
          absurd (let z : ⊥ = cc in z)
      on later (Some x) h =
          let z = (r.each s.frame.function s.frame.at x h).done in
          let first : goes_on (act p s x) (run p n) ≡ running s2 = sym (ap (λ w. goes_on w (run p n)) (step_first s d us ds agree x h)) ∙ e in
          let here = goes_to_it n (act p s x) (act q (over d us ds s) z) (matches s d us ds agree x h) later s2 first in
          subst (λ w. Reached s2 (goes_on w (run q n))) (sym (step_second s d us ds agree x h)) here

  -- ---- calls and returns

  module _ (s : State) (d us : Values) (ds : List Values) (agree : Agree home pool fill s d us ds) where
    call_met : (g : ℕ) (o : Option Instruction) → slice_get (function_at p s.frame.function).code s.frame.at ≡ o → next_of q (over d us ds s) ≡ Some (instruction.Call g) → next_of p s ≡ Some (instruction.Call g)
    call_met g None e h =
        let none : slice_get (function_at q s.frame.function).code s.frame.at ≡ None = none_too (function_at p s.frame.function).code (function_at q s.frame.function).code s.frame.at (r.count s.frame.function) e in
        let no : None ≡ Some (instruction.Call g) = sym none ∙ h in
        absurd (let z : ⊥ = cc in z)
    call_met g (Some x) e h =
        let c = r.each s.frame.function s.frame.at x e in
        let same : c.done ≡ instruction.Call g = same_some c.done (instruction.Call g) (sym c.is ∙ h) in
        e ∙ ap Some (⊎_elim
        (λ one. absurd (let no : instruction.Move (put_in (home s.frame.function) (fill s.frame.function s.frame.at)) (operand.Constant one.constant) ≡ instruction.Call g = sym one.is ∙ same in let z : ⊥ = cc in z))
        (λ all. call_stays (home s.frame.function) all.read x g (sym all.is ∙ same)) c.by)

    return_met : (o : Option Instruction) → slice_get (function_at p s.frame.function).code s.frame.at ≡ o → next_of q (over d us ds s) ≡ Some instruction.Return → next_of p s ≡ Some instruction.Return
    return_met None e h =
        let none : slice_get (function_at q s.frame.function).code s.frame.at ≡ None = none_too (function_at p s.frame.function).code (function_at q s.frame.function).code s.frame.at (r.count s.frame.function) e in
        let no : None ≡ Some instruction.Return = sym none ∙ h in
        absurd (let z : ⊥ = cc in z)
    return_met (Some x) e h =
        let c = r.each s.frame.function s.frame.at x e in
        let same : c.done ≡ instruction.Return = same_some c.done instruction.Return (sym c.is ∙ h) in
        e ∙ ap Some (⊎_elim
        (λ one. absurd (let no : instruction.Move (put_in (home s.frame.function) (fill s.frame.function s.frame.at)) (operand.Constant one.constant) ≡ instruction.Return = sym one.is ∙ same in let z : ⊥ = cc in z))
        (λ all. return_stays (home s.frame.function) all.read x (sym all.is ∙ same)) c.by)

    -- what is asked of the instruction that is next
    asked : (x : Instruction) → next_of p s ≡ Some x → (x ≡ instruction.Nothing → ⊥) → IsOutside (home s.frame.function) (pool s.frame.function) (function_at p s.frame.function) (function_at q s.frame.function) x
    asked x e some = ⊎_elim (λ one. absurd (some one.was)) (λ all. all.outside) (r.each s.frame.function s.frame.at x e).by

    temporary_kept : (k : ℕ) (v : Value) → TemporaryOutside (home s.frame.function) (pool s.frame.function) k → s.temporaries k ≡ Some v → us k ≡ Some v
    temporary_kept k v out e = agree.frame.temporaries k out ∙ e

    at_call : IsAtCall p q s (over d us ds s)
    at_call = record {
      calls = λ g e.
          let first = call_met g (slice_get (function_at p s.frame.function).code s.frame.at) refl e in
          let kept : survives_calls (home s.frame.function) ≡ true = asked (instruction.Call g) first (λ no. let z : ⊥ = cc in z) in
          (first, λ k v h. temporary_kept k v (none_lost (home s.frame.function) (pool s.frame.function) kept k) h);
      returns = λ e.
          let first = return_met (slice_get (function_at p s.frame.function).code s.frame.at) refl e in
          let out : TemporaryOutside (home s.frame.function) (pool s.frame.function) 0 = asked instruction.Return first (λ no. let z : ⊥ = cc in z) in
          (first, λ v h. result_is p q home pool fill r s d us ds agree out ∙ h);
    }

  -- ---- from the beginning

  abbrev started : ℕ → List ℕ → List ℕ → State
  started main statics input = record {
    frame = record { function = main; at = 0; cells = unset; area = unset };
    temporaries = unset;
    arguments = unset;
    waiting = [];
    statics = slice_get statics;
    input = input;
    trace = [];
  }

  start_same : (input : List ℕ) → start q input ≡ over unset unset [] (start p input)
  start_same input = ap (λ m. started m q.statics input) r.main ∙ ap (λ (xs : List ℕ). started p.main xs input) r.statics

  start_agrees : (input : List ℕ) → Agree home pool fill (start p input) unset unset []
  start_agrees input = record { frame = begins_agree (home p.main) (pool p.main) (fill p.main 0) unset unset (r.starts p.main) (λ j. refl); waiting = tt }

  pub runs : (n : ℕ) (input : List ℕ) → DoesTheSame (run p n (start p input)) (run q n (start q input))
  runs n input = subst (λ s. DoesTheSame (run p n (start p input)) (run q n s)) (sym (start_same input)) (run_alike n (start p input) unset unset [] (start_agrees input))

  pub costs : (n : ℕ) (input : List ℕ) → IsDefined (run p n (start p input)) → spent_with_entry q n (start q input) ≤ entry_cost + spent p n (start p input)
  costs n input defined =
      let a : spent_in q n (start q input) ≤ spent p n (start p input) + left p.main 0 =
      subst (λ s. spent_in q n s ≤ spent p n (start p input) + left p.main 0) (sym (start_same input)) (spent_less n (start p input) unset unset [] (start_agrees input) defined) in
      let b : entry_cost_of (function_at q q.main) ≡ entry_cost_of (function_at q p.main) = ap (λ m. entry_cost_of (function_at q m)) r.main in
      let c = r.paid p.main in
      let z : left p.main 0 ≡ 6 * (length (pool p.main) - 0) = ap (λ n. 6 * (length (pool p.main) - n)) (r.starts p.main) in
      omega (arith, a, b, c, z)

  pub at_calls : (n : ℕ) (input : List ℕ) (s t : State) → run p n (start p input) ≡ running s → run q n (start q input) ≡ running t → IsAtCall p q s t
  at_calls n input s t e h =
      let reached : Reached s (run q n (start q input)) = subst (λ u. Reached s (run q n u)) (sym (start_same input)) (reach n (start p input) unset unset [] (start_agrees input) s e) in
      subst (IsAtCall p q s) (same_running (over reached.words reached.temporaries reached.others s) t (sym reached.is ∙ h)) (at_call s reached.words reached.temporaries reached.others reached.agree)
