-- Where each instruction of code whose constants were hoisted stands.
use Rattle.std.proofs.Common.{◌≡◌, ◌≤◌, ◌⊎◌, inl, inr, ⊎_elim, ℕ, zero, suc, ◌+◌, ◌-◌, List, [], ◌∷◌, length, Option, Some, None, Bool, true, false, refl, sym, ap, ◌∙◌, subst, arith}
use Rattle.std.specs.Prelude.{◌&&◌, if◌then◌else◌, nat_lt, nat_le, slice_get}
use Rattle.std.specs.List.{list_all}
use Rattle.std.proofs.lemmas.Bool.{ltb-true, ltb-false, lt-ltb, le-ltb, leb-true}
use Rattle.std.proofs.lemmas.Option.{slice_get_within}
use Rattle.frames_code.specs.declared.code.Operand.{Operand}
use Rattle.frames_code.specs.declared.code.Operand.TheVariants as operand
use Rattle.frames_code.specs.declared.code.Target.{Target}
use Rattle.frames_code.specs.declared.code.Target.TheVariants as target
use Rattle.frames_code.specs.declared.code.Base.{Base}
use Rattle.frames_code.specs.declared.code.Base.TheVariants as array_base
use Rattle.frames_code.specs.declared.code.Location.{Location}
use Rattle.frames_code.specs.declared.code.Location.TheVariants as location
use Rattle.frames_code.specs.declared.code.Instruction.{Instruction}
use Rattle.frames_code.specs.declared.code.Instruction.TheVariants as instruction
use Rattle.frames_code.specs.Code.{Function, area_home}
use Rattle.frames_hoist.specs.declared.homes.Home.{Home}
use Rattle.frames_hoist.specs.declared.homes.Home.TheVariants as home_of
use Rattle.frames_hoist.specs.layer.Hoisting.{spares_word, spares_temporary, spares_arrays, reads_beside, writes_beside, begins_beside, lies_beside, is_fine, is_straight, is_nothing, from_pool, with_pool, put_word, filled, more_filled, hoisted_one, next_filled, hoisted, filled_at, is_straight_at, are_straight}
use Rattle.frames_hoist.specs.layer.Functions.{with_code, IsPooled}
use Rattle.frames_hoist.proofs.Agreeing.{Outside, WordOutside, TemporaryOutside, OperandOutside, TargetOutside, BaseOutside, LocationOutside, IsOutside, LeadsAlike, PutsOne, Reads, Position}

-- ---- tests

abbrev IsNo : Bool → Type 0
IsNo true = ⊥
IsNo false = Unit {0}

pub not_true : false ≡ true → ⊥
not_true e = subst IsNo e tt

pub left_true : (a b : Bool) → (a && b) ≡ true → a ≡ true
left_true true b e = refl
left_true false b e = absurd (not_true e)

pub right_true : (a b : Bool) → (a && b) ≡ true → b ≡ true
right_true true b e = e
right_true false b e = absurd (not_true e)

-- less, or not
pub less_or : (a b : ℕ) → (nat_lt a b ≡ true) ⊎ (nat_lt a b ≡ false)
less_or a b = on (nat_lt a b)
  where
    on : (t : Bool) → (t ≡ true) ⊎ (t ≡ false)
    on true = inl refl
    on false = inr refl

pub no_item : {A : Type 0} (i : ℕ) (x : A) → slice_get [] i ≡ Some x → ⊥
no_item i x e = cc

-- ---- the count of constants before each instruction

module _ (m start : ℕ) where
  pub filled_first : (k n : ℕ) (xs : List Instruction) → filled_at m start k n xs zero ≡ n
  filled_first k n [] = refl
  filled_first k n (x ∷ xs) = refl

  -- the count at the end of its own loop
  pub filled_end : (k n : ℕ) (xs : List Instruction) (d r : ℕ) → d ≡ 0 → filled_at m start k n xs d ≡ r → n ≡ r
  filled_end k n xs zero r g e = sym (filled_first k n xs) ∙ e
  filled_end k n xs (suc d) r g e = absurd (omega (arith, g))

  pub filled_next : (k n : ℕ) (xs : List Instruction) (i j : ℕ) (x : Instruction) → slice_get xs i ≡ Some x → j ≡ k + i → filled_at m start k n xs (suc i) ≡ next_filled m start j (filled_at m start k n xs i) x
  filled_next k n [] i j x e g = absurd (no_item i x e)
  filled_next k n (y ∷ ys) zero j x e g =
      let here : j ≡ k = omega (arith, g) in
      let same : y ≡ x = cc in
      filled_first (k + 1) (next_filled m start k n y) ys ∙ (ap (λ z. next_filled m start k n z) same ∙ ap (λ o. next_filled m start o n x) (sym here))
  filled_next k n (y ∷ ys) (suc i) j x e g = filled_next (k + 1) (next_filled m start k n y) ys i j x e (omega (arith, g))

  later_same : (k n : ℕ) (x : Instruction) → nat_lt k start ≡ false → next_filled m start k n x ≡ n
  later_same k n x e = ap (λ b. if b then more_filled m n x else n) e

  -- from `start` on it stays
  pub filled_stays : (k n : ℕ) (xs : List Instruction) (i j : ℕ) → j ≡ k + i → nat_lt j start ≡ false → filled_at m start k n xs (suc i) ≡ filled_at m start k n xs i
  filled_stays k n [] i j g e = refl
  filled_stays k n (x ∷ xs) zero j g e =
      let here : j ≡ k = omega (arith, g) in
      filled_first (k + 1) (next_filled m start k n x) xs ∙ later_same k n x (ap (λ o. nat_lt o start) (sym here) ∙ e)
  filled_stays k n (x ∷ xs) (suc i) j g e = filled_stays (k + 1) (next_filled m start k n x) xs i j (omega (arith, g)) e

  more_most : (n : ℕ) (x : Instruction) → n ≤ m → more_filled m n x ≤ m
  more_most n x le = on (is_nothing x) (nat_lt n m) refl
    where
      on : (a b : Bool) → nat_lt n m ≡ b → (if a && b then n + 1 else n) ≤ m
      on true true e = let lt = ltb-true n m e in omega (arith, lt)
      on true false e = le
      on false b e = le

  next_most : (k n : ℕ) (x : Instruction) → n ≤ m → next_filled m start k n x ≤ m
  next_most k n x le = on (nat_lt k start)
    where
      on : (b : Bool) → (if b then more_filled m n x else n) ≤ m
      on true = more_most n x le
      on false = le

  pub filled_most : (k n : ℕ) (xs : List Instruction) (i : ℕ) → n ≤ m → filled_at m start k n xs i ≤ m
  filled_most k n [] i le = le
  filled_most k n (x ∷ xs) zero le = le
  filled_most k n (x ∷ xs) (suc i) le = filled_most (k + 1) (next_filled m start k n x) xs i (next_most k n x le)

  -- all are there from `start` on
  pub filled_full : (xs : List Instruction) (i d : ℕ) → i ≡ start + d → filled_at m start 0 0 xs start ≡ m → filled_at m start 0 0 xs i ≡ m
  filled_full xs i zero g full = let here : i ≡ start = omega (arith, g) in ap (filled_at m start 0 0 xs) here ∙ full
  filled_full xs zero (suc d) g full = absurd (omega (arith, g))
  filled_full xs (suc i) (suc d) g full =
      filled_stays 0 0 xs i i (omega arith) (le-ltb i start (omega (arith, g))) ∙ filled_full xs i d (omega (arith, g)) full

-- ---- each instruction

module _ (h : Home) (pool : List ℕ) (start : ℕ) where
  pub hoisted_at : (k n : ℕ) (xs : List Instruction) (i j : ℕ) (x : Instruction) → slice_get xs i ≡ Some x → j ≡ k + i
      → slice_get (hoisted h pool start k n xs) i ≡ Some (hoisted_one h pool start j (filled_at (length pool) start k n xs i) x)
  hoisted_at k n [] i j x e g = absurd (no_item i x e)
  hoisted_at k n (y ∷ ys) zero j x e g =
      let here : j ≡ k = omega (arith, g) in
      let same : y ≡ x = cc in
      ap (λ z. Some (hoisted_one h pool start k n z)) same ∙ ap (λ o. Some (hoisted_one h pool start o n x)) (sym here)
  hoisted_at k n (y ∷ ys) (suc i) j x e g = hoisted_at (k + 1) (next_filled (length pool) start k n y) ys i j x e (omega (arith, g))

  pub hoisted_length : (k n : ℕ) (xs : List Instruction) → length (hoisted h pool start k n xs) ≡ length xs
  hoisted_length k n [] = refl
  hoisted_length k n (x ∷ xs) = ap suc (hoisted_length (k + 1) (next_filled (length pool) start k n x) xs)

pub straight_at : (start k : ℕ) (xs : List Instruction) (i j : ℕ) (x : Instruction) → are_straight start k xs ≡ true → slice_get xs i ≡ Some x → j ≡ k + i → nat_lt j start ≡ true → is_straight x ≡ true
straight_at start k [] i j x h e g lt = absurd (no_item i x e)
straight_at start k (y ∷ ys) zero j x h e g lt =
    let here : j ≡ k = omega (arith, g) in
    let same : y ≡ x = cc in
    let first : is_straight_at start k y ≡ true = left_true (is_straight_at start k y) (are_straight start (k + 1) ys) h in
    let less : nat_lt k start ≡ true = ap (λ n. nat_lt n start) (sym here) ∙ lt in
    ap is_straight (sym same) ∙ (ap (λ b. if b then is_straight y else true) (sym less) ∙ first)
straight_at start k (y ∷ ys) (suc i) j x h e g lt =
    straight_at start (k + 1) ys i j x (right_true (is_straight_at start k y) (are_straight start (k + 1) ys) h) e (omega (arith, g)) lt

pub all_at : {A : Type 0} (f : A → Bool) (xs : List A) (i : ℕ) (x : A) → list_all f xs ≡ true → slice_get xs i ≡ Some x → f x ≡ true
all_at f [] i x h e = absurd (no_item i x e)
all_at f (y ∷ ys) zero x h e = let same : y ≡ x = cc in ap f (sym same) ∙ left_true (f y) (list_all f ys) h
all_at f (y ∷ ys) (suc i) x h e = all_at f ys i x (right_true (f y) (list_all f ys) h) e

-- ---- what an instruction names

number_outside : (b : ℕ) (pool : List ℕ) (k : ℕ) → nat_lt k b ≡ true → Outside b pool k
number_outside b pool k e = λ i w h same. let lt = ltb-true k b e in omega (arith, lt, same)

word_outside : (h : Home) (pool : List ℕ) (k : ℕ) → spares_word h k ≡ true → WordOutside h pool k
word_outside (home_of.Words b) pool k e = number_outside b pool k e
word_outside (home_of.Temporaries b) pool k e = tt

temporary_outside : (h : Home) (pool : List ℕ) (k : ℕ) → spares_temporary h k ≡ true → TemporaryOutside h pool k
temporary_outside (home_of.Words b) pool k e = tt
temporary_outside (home_of.Temporaries b) pool k e = number_outside b pool k e

module _ (h : Home) (start : ℕ) (pool : List ℕ) (f g : Function) (arrays : spares_arrays h ≡ true → area_home g ≡ area_home f) where
  operand_outside : (x : Operand) → reads_beside h x ≡ true → OperandOutside h pool x
  operand_outside (operand.Temporary k) e = temporary_outside h pool k e
  operand_outside (operand.Cell c) e = word_outside h pool c e
  operand_outside (operand.Constant v) e = tt
  operand_outside (operand.Argument k) e = tt

  target_outside : (d : Target) → writes_beside h d ≡ true → TargetOutside h pool d
  target_outside (target.Temporary k) e = temporary_outside h pool k e
  target_outside (target.Cell c) e = word_outside h pool c e

  base_outside : (b : Base) → begins_beside h b ≡ true → BaseOutside f g b
  base_outside (array_base.Statics o) e = tt
  base_outside (array_base.Frame o) e = arrays e

  location_outside : (l : Location) → lies_beside h l ≡ true → LocationOutside h pool f g l
  location_outside (location.Statics o) e = tt
  location_outside (location.Frame o) e = arrays e
  location_outside (location.At x) e = operand_outside x e
  location_outside (location.Indexed b y size) e = (base_outside b (left_true (begins_beside h b) (reads_beside h y) e), operand_outside y (right_true (begins_beside h b) (reads_beside h y) e))

  pub is_outside : (x : Instruction) → is_fine h start x ≡ true → IsOutside h pool f g x
  is_outside instruction.Nothing e = tt
  is_outside (instruction.Move d x) e = (target_outside d (left_true (writes_beside h d) (reads_beside h x) e), operand_outside x (right_true (writes_beside h d) (reads_beside h x) e))
  is_outside (instruction.Compute o d x y) e =
      let more = right_true (writes_beside h d) (reads_beside h x && reads_beside h y) e in
      (target_outside d (left_true (writes_beside h d) (reads_beside h x && reads_beside h y) e), operand_outside x (left_true (reads_beside h x) (reads_beside h y) more), operand_outside y (right_true (reads_beside h x) (reads_beside h y) more))
  is_outside (instruction.Convert c d x) e = (target_outside d (left_true (writes_beside h d) (reads_beside h x) e), operand_outside x (right_true (writes_beside h d) (reads_beside h x) e))
  is_outside (instruction.Load w d l) e = (target_outside d (left_true (writes_beside h d) (lies_beside h l) e), location_outside l (right_true (writes_beside h d) (lies_beside h l) e))
  is_outside (instruction.Store w x l) e = (operand_outside x (left_true (reads_beside h x) (lies_beside h l) e), location_outside l (right_true (reads_beside h x) (lies_beside h l) e))
  is_outside (instruction.Address d l) e = (target_outside d (left_true (writes_beside h d) (lies_beside h l) e), location_outside l (right_true (writes_beside h d) (lies_beside h l) e))
  is_outside (instruction.Element d x y size) e =
      let more = right_true (writes_beside h d) (reads_beside h x && reads_beside h y) e in
      (target_outside d (left_true (writes_beside h d) (reads_beside h x && reads_beside h y) e), operand_outside x (left_true (reads_beside h x) (reads_beside h y) more), operand_outside y (right_true (reads_beside h x) (reads_beside h y) more))
  is_outside (instruction.Jump to) e = tt
  is_outside (instruction.Branch t x y to) e =
      let more = right_true (reads_beside h x) (reads_beside h y && nat_le start to) e in
      (operand_outside x (left_true (reads_beside h x) (reads_beside h y && nat_le start to) e), operand_outside y (left_true (reads_beside h y) (nat_le start to) more))
  is_outside (instruction.Call k) e = e
  is_outside instruction.PutByte e = e
  is_outside instruction.GetByte e = e
  is_outside instruction.Exit e = temporary_outside h pool 0 e
  is_outside instruction.Return e = temporary_outside h pool 0 e

  -- jumps lead to where as many constants are in their places
  pub leads_alike : (fill : ℕ → ℕ) (n : ℕ) → ((to : ℕ) → start ≤ to → fill to ≡ n) → (x : Instruction) → is_fine h start x ≡ true → LeadsAlike fill n x
  leads_alike fill n each instruction.Nothing e = tt
  leads_alike fill n each (instruction.Move d x) e = tt
  leads_alike fill n each (instruction.Compute o d x y) e = tt
  leads_alike fill n each (instruction.Convert c d x) e = tt
  leads_alike fill n each (instruction.Load w d l) e = tt
  leads_alike fill n each (instruction.Store w x l) e = tt
  leads_alike fill n each (instruction.Address d l) e = tt
  leads_alike fill n each (instruction.Element d x y size) e = tt
  leads_alike fill n each (instruction.Jump to) e = each to (leb-true start to e)
  leads_alike fill n each (instruction.Branch t x y to) e =
      each to (leb-true start to (right_true (reads_beside h y) (nat_le start to) (right_true (reads_beside h x) (reads_beside h y && nat_le start to) e)))
  leads_alike fill n each (instruction.Call k) e = tt
  leads_alike fill n each instruction.PutByte e = tt
  leads_alike fill n each instruction.GetByte e = tt
  leads_alike fill n each instruction.Exit e = tt
  leads_alike fill n each instruction.Return e = tt

pub leads_nowhere : (fill : ℕ → ℕ) (n : ℕ) (x : Instruction) → is_straight x ≡ true → LeadsAlike fill n x
leads_nowhere fill n instruction.Nothing e = tt
leads_nowhere fill n (instruction.Move d x) e = tt
leads_nowhere fill n (instruction.Compute o d x y) e = tt
leads_nowhere fill n (instruction.Convert c d x) e = tt
leads_nowhere fill n (instruction.Load w d l) e = tt
leads_nowhere fill n (instruction.Store w x l) e = tt
leads_nowhere fill n (instruction.Address d l) e = tt
leads_nowhere fill n (instruction.Element d x y size) e = tt
leads_nowhere fill n (instruction.Jump to) e = absurd (not_true e)
leads_nowhere fill n (instruction.Branch t x y to) e = absurd (not_true e)
leads_nowhere fill n (instruction.Call k) e = absurd (not_true e)
leads_nowhere fill n instruction.PutByte e = absurd (not_true e)
leads_nowhere fill n instruction.GetByte e = tt
leads_nowhere fill n instruction.Exit e = tt
leads_nowhere fill n instruction.Return e = tt

none_read : (h : Home) (x : Operand) → from_pool h [] x ≡ x
none_read h (operand.Temporary k) = refl
none_read h (operand.Cell k) = refl
none_read h (operand.Constant v) = refl
none_read h (operand.Argument k) = refl

-- with no constants it stays
pub no_pool : (h : Home) (x : Instruction) → x ≡ with_pool h [] x
no_pool h instruction.Nothing = refl
no_pool h (instruction.Move d x) = ap (instruction.Move d) (sym (none_read h x))
no_pool h (instruction.Compute o d x y) = ap (λ z. instruction.Compute o d z y) (sym (none_read h x)) ∙ ap (instruction.Compute o d (from_pool h [] x)) (sym (none_read h y))
no_pool h (instruction.Convert k d x) = refl
no_pool h (instruction.Load w d l) = refl
no_pool h (instruction.Store w x l) = ap (λ z. instruction.Store w z l) (sym (none_read h x))
no_pool h (instruction.Address d l) = refl
no_pool h (instruction.Element d x y size) = refl
no_pool h (instruction.Jump to) = refl
no_pool h (instruction.Branch t x y to) = ap (λ z. instruction.Branch t z y to) (sym (none_read h x)) ∙ ap (λ z. instruction.Branch t (from_pool h [] x) z to) (sym (none_read h y))
no_pool h (instruction.Call f) = refl
no_pool h instruction.PutByte = refl
no_pool h instruction.GetByte = refl
no_pool h instruction.Exit = refl
no_pool h instruction.Return = refl

nothing_is : (x : Instruction) → is_nothing x ≡ true → x ≡ instruction.Nothing
nothing_is instruction.Nothing e = refl
nothing_is (instruction.Move d x) e = absurd (not_true e)
nothing_is (instruction.Compute o d x y) e = absurd (not_true e)
nothing_is (instruction.Convert k d x) e = absurd (not_true e)
nothing_is (instruction.Load w d l) e = absurd (not_true e)
nothing_is (instruction.Store w x l) e = absurd (not_true e)
nothing_is (instruction.Address d l) e = absurd (not_true e)
nothing_is (instruction.Element d x y size) e = absurd (not_true e)
nothing_is (instruction.Jump to) e = absurd (not_true e)
nothing_is (instruction.Branch t x y to) e = absurd (not_true e)
nothing_is (instruction.Call f) e = absurd (not_true e)
nothing_is instruction.PutByte e = absurd (not_true e)
nothing_is instruction.GetByte e = absurd (not_true e)
nothing_is instruction.Exit e = absurd (not_true e)
nothing_is instruction.Return e = absurd (not_true e)

get_none : (xs : List ℕ) (n : ℕ) → slice_get xs n ≡ None → nat_lt n (length xs) ≡ false
get_none [] n e = le-ltb n 0 (omega arith)
get_none (x ∷ xs) zero e = absurd (let z : ⊥ = cc in z)
get_none (x ∷ xs) (suc n) e =
    let h = ltb-false n (length xs) (get_none xs n e) in
    le-ltb (suc n) (suc (length xs)) (omega (arith, h))

-- ---- a function whose constants were hoisted

module _ (f g : Function) (is : IsPooled f g) where
  abbrev m : ℕ
  m = length is.pool

  abbrev pub fill : ℕ → ℕ
  fill = filled_at m is.start 0 0 f.code

  pub fill_few : (i : ℕ) → fill i ≤ m
  fill_few i = filled_most m is.start 0 0 f.code i (omega arith)

  full_from : (i : ℕ) → is.start ≤ i → fill i ≡ m
  full_from i le = filled_full m is.start f.code i (i - is.start) (omega (arith, le)) is.ready.full

  pub count : length g.code ≡ length f.code
  count = ap (λ (h : Function). length h.code) is.is ∙ hoisted_length is.home is.pool is.start 0 0 f.code

  arrays_spared : (h : Home) (n : ℕ) (code : List Instruction) → spares_arrays h ≡ true → area_home (with_code f h n code) ≡ area_home f
  arrays_spared (home_of.Words b) n code e = absurd (not_true e)
  arrays_spared (home_of.Temporaries b) n code e = omega arith

  pub arrays : spares_arrays is.home ≡ true → area_home g ≡ area_home f
  arrays e = ap area_home is.is ∙ arrays_spared is.home m (hoisted is.home is.pool is.start 0 0 f.code) e

  module _ (i : ℕ) (x : Instruction) (e : slice_get f.code i ≡ Some x) where
    abbrev done : Instruction
    done = hoisted_one is.home is.pool is.start i (fill i) x

    there : slice_get g.code i ≡ Some done
    there = ap (λ (h : Function). slice_get h.code i) is.is ∙ hoisted_at is.home is.pool is.start 0 0 f.code i i x e (omega arith)

    one : suc i ≡ i + 1
    one = omega arith

    outside : IsOutside is.home is.pool f g x
    outside = is_outside is.home is.start is.pool f g arrays x (all_at (is_fine is.home is.start) f.code i x is.ready.fine e)

    further : fill (i + 1) ≡ next_filled m is.start i (fill i) x
    further = ap fill (sym one) ∙ filled_next m is.start 0 0 f.code i i x e (omega arith)

    abbrev By : Instruction → Type 0
    By y = PutsOne is.home is.pool fill i x y ⊎ Reads is.home is.pool fill f g i x y

    later : nat_lt i is.start ≡ false → By done
    later past_it =
        let le = ltb-false i is.start past_it in
        let full : fill i ≡ m = full_from i (omega (arith, le)) in
        let same : done ≡ with_pool is.home is.pool x = ap (λ b. if b then filled is.home is.pool (fill i) x else with_pool is.home is.pool x) past_it in
        inr (record {
          read = is.pool;
          held = inr (refl, full);
          is = same;
          outside = outside;
          after = further ∙ ap (λ b. if b then more_filled m (fill i) x else fill i) past_it;
          leads = leads_alike is.home is.start is.pool f g arrays fill (fill i) (λ to h. full_from to h ∙ sym full) x (all_at (is_fine is.home is.start) f.code i x is.ready.fine e);
          whole = inr full;
        })

    -- before `start`, where it stays
    stays : nat_lt i is.start ≡ true → (y : Instruction) → y ≡ x → more_filled m (fill i) x ≡ fill i → By y
    stays ahead y same none =
        let straight = straight_at is.start 0 f.code i i x is.ready.straight e (omega arith) ahead in
        inr (record {
          read = [];
          held = inl refl;
          is = same ∙ no_pool is.home x;
          outside = outside;
          after = further ∙ (ap (λ b. if b then more_filled m (fill i) x else fill i) ahead ∙ none);
          leads = leads_nowhere fill (fill i) x straight;
          whole = inl straight;
        })

    puts : nat_lt i is.start ≡ true → x ≡ instruction.Nothing → (o : Option ℕ) → slice_get is.pool (fill i) ≡ o → By (put_word is.home (fill i) o)
    puts ahead was None h =
        let none : more_filled m (fill i) x ≡ fill i = ap (λ z. more_filled m (fill i) z) was ∙ ap (λ b. if b then fill i + 1 else fill i) (get_none is.pool (fill i) h) in
        stays ahead instruction.Nothing (sym was) none
    puts ahead was (Some w) h =
        let lt : nat_lt (fill i) m ≡ true = lt-ltb (fill i) m (slice_get_within is.pool (fill i) w h) in
        let more : more_filled m (fill i) x ≡ fill i + 1 = ap (λ z. more_filled m (fill i) z) was ∙ ap (λ b. if b then fill i + 1 else fill i) lt in
        inl (record {
          was = was;
          constant = w;
          there = h;
          is = refl;
          more = further ∙ (ap (λ b. if b then more_filled m (fill i) x else fill i) ahead ∙ (more ∙ omega arith));
        })

    before : nat_lt i is.start ≡ true → By done
    before ahead = subst By (sym same) (on (is_nothing x) refl)
      where
        same : done ≡ filled is.home is.pool (fill i) x
        same = ap (λ b. if b then filled is.home is.pool (fill i) x else with_pool is.home is.pool x) ahead

        on : (b : Bool) → is_nothing x ≡ b → By (filled is.home is.pool (fill i) x)
        on true h =
            let put : filled is.home is.pool (fill i) x ≡ put_word is.home (fill i) (slice_get is.pool (fill i)) = ap (λ b. if b then put_word is.home (fill i) (slice_get is.pool (fill i)) else x) h in
            subst By (sym put) (puts ahead (nothing_is x h) (slice_get is.pool (fill i)) refl)
        on false h =
            let kept : filled is.home is.pool (fill i) x ≡ x = ap (λ b. if b then put_word is.home (fill i) (slice_get is.pool (fill i)) else x) h in
            let none : more_filled m (fill i) x ≡ fill i = ap (λ b. if b && nat_lt (fill i) m then fill i + 1 else fill i) h in
            stays ahead (filled is.home is.pool (fill i) x) kept none

    pub position : Position is.home is.pool fill f g i x
    position = record { done = done; is = there; by = ⊎_elim before later (less_or i is.start) }

-- ---- a function that stays

-- it has no constants in words of its frame
abbrev pub nowhere : Home
nowhere = home_of.Words 0

module _ (f : Function) where
  none_outside : (c : ℕ) → Outside 0 [] c
  none_outside c = λ i w e same. no_item i w e

  operand_stays : (x : Operand) → OperandOutside nowhere [] x
  operand_stays (operand.Temporary k) = tt
  operand_stays (operand.Cell c) = none_outside c
  operand_stays (operand.Constant v) = tt
  operand_stays (operand.Argument k) = tt

  target_stays : (d : Target) → TargetOutside nowhere [] d
  target_stays (target.Temporary k) = tt
  target_stays (target.Cell c) = none_outside c

  base_stays : (b : Base) → BaseOutside f f b
  base_stays (array_base.Statics o) = tt
  base_stays (array_base.Frame o) = refl

  location_stays : (l : Location) → LocationOutside nowhere [] f f l
  location_stays (location.Statics o) = tt
  location_stays (location.Frame o) = refl
  location_stays (location.At x) = operand_stays x
  location_stays (location.Indexed b y size) = (base_stays b, operand_stays y)

  outside_stays : (x : Instruction) → IsOutside nowhere [] f f x
  outside_stays instruction.Nothing = tt
  outside_stays (instruction.Move d x) = (target_stays d, operand_stays x)
  outside_stays (instruction.Compute o d x y) = (target_stays d, operand_stays x, operand_stays y)
  outside_stays (instruction.Convert c d x) = (target_stays d, operand_stays x)
  outside_stays (instruction.Load w d l) = (target_stays d, location_stays l)
  outside_stays (instruction.Store w x l) = (operand_stays x, location_stays l)
  outside_stays (instruction.Address d l) = (target_stays d, location_stays l)
  outside_stays (instruction.Element d x y size) = (target_stays d, operand_stays x, operand_stays y)
  outside_stays (instruction.Jump to) = tt
  outside_stays (instruction.Branch t x y to) = (operand_stays x, operand_stays y)
  outside_stays (instruction.Call k) = refl
  outside_stays instruction.PutByte = refl
  outside_stays instruction.GetByte = refl
  outside_stays instruction.Exit = tt
  outside_stays instruction.Return = tt

  leads_stay : (x : Instruction) → LeadsAlike (λ i. 0) 0 x
  leads_stay instruction.Nothing = tt
  leads_stay (instruction.Move d x) = tt
  leads_stay (instruction.Compute o d x y) = tt
  leads_stay (instruction.Convert c d x) = tt
  leads_stay (instruction.Load w d l) = tt
  leads_stay (instruction.Store w x l) = tt
  leads_stay (instruction.Address d l) = tt
  leads_stay (instruction.Element d x y size) = tt
  leads_stay (instruction.Jump to) = refl
  leads_stay (instruction.Branch t x y to) = refl
  leads_stay (instruction.Call k) = tt
  leads_stay instruction.PutByte = tt
  leads_stay instruction.GetByte = tt
  leads_stay instruction.Exit = tt
  leads_stay instruction.Return = tt

  pub same_position : (i : ℕ) (x : Instruction) → slice_get f.code i ≡ Some x → Position nowhere [] (λ i. 0) f f i x
  same_position i x e = record {
    done = x;
    is = e;
    by = inr (record { read = []; held = inl refl; is = no_pool nowhere x; outside = outside_stays x; after = refl; leads = leads_stay x; whole = inr refl });
  }
