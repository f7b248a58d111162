-- The two passes over the code of a function, instruction by instruction.
use Rattle.std.proofs.Common.{◌≡◌, ◌≤◌, ◌⊎◌, inl, inr, ⊎_elim, ℕ, zero, suc, ◌+◌, ◌-◌, ◌^◌, List, [], ◌∷◌, Option, Some, None, Bool, true, false, refl, sym, ap, ◌∙◌, subst, arith}
use Rattle.std.specs.Prelude.{◌==◌, bit_and, bit_or, slice_get, set, get_or, nat_lt, if◌then◌else◌, not, ◌&&◌, ◌||◌}
use Rattle.std.specs.Int.{w32, trailing_zeros}
use Rattle.std.specs.Int.{bit_at}
use Rattle.std.proofs.lemmas.Bool.{le-ltb, eq-eqb, eqb-true}
use Rattle.std.proofs.lemmas.Nat.Bits.{bit_at-zero, bit_at-lt, bit_at_and, bit_at_or, bit_at-pow_other}
use Rattle.rv32.specs.declared.instr.RegisterOp.{RegisterOp}
use Rattle.rv32.specs.declared.instr.RegisterOp.TheVariants as register_op
use Rattle.frames_code.specs.declared.code.Operand.{Operand}
use Rattle.frames_code.specs.declared.code.Operand.TheVariants as operand
use Rattle.frames_code.specs.declared.code.Target.{Target}
use Rattle.frames_code.specs.declared.code.Location.{Location}
use Rattle.frames_code.specs.declared.code.Location.TheVariants as location
use Rattle.frames_code.specs.declared.code.Operation.{Operation}
use Rattle.frames_code.specs.declared.code.Operation.TheVariants as operation
use Rattle.frames_code.specs.declared.code.Instruction.{Instruction}
use Rattle.frames_code.specs.declared.code.Instruction.TheVariants as instruction
use Rattle.frames_code.specs.Costs.{cost}
use Rattle.frames_opt.specs.declared.room.Room.{Room}
use Rattle.frames_opt.specs.declared.facts.Known.{Known}
use Rattle.frames_opt.specs.declared.facts.Known.TheVariants as known
use Rattle.frames_opt.specs.inside.Facts.{nothing, known_of, is_target, behind}
use Rattle.frames_opt.specs.inside.Rules.{simpler_operand, carried, with_constant, with_power, is_power, is_constant, commutes, arranged, compute, within, stepped, statics_or, frame_or, numbered, simpler_element, simpler}
use Rattle.frames_opt.specs.declared.statuses.Status.{Status}
use Rattle.frames_opt.specs.declared.rows.Row.{Row}
use Rattle.frames_opt.specs.declared.statuses.Status.TheVariants as status
use Rattle.frames_opt.specs.declared.rows.Held.{Held}
use Rattle.frames_opt.specs.declared.rows.Held.TheVariants as held
use Rattle.frames_opt.specs.inside.Liveness.{names, is_through, temporary_of, written, reads, is_number, is_written}
use Rattle.frames_opt.specs.inside.Sweep.{status_at, is_same, accepts, offer, offers, place_by, place_of, placed, leads_on, is_lost, is_left_out, swept_one, swept, fits, leads, behind_it, stays_right, is_given_up, drop_right, is_right, blank, is_dead, or_held, status_of, is_inside, mask_at, bit_of, is_within, names_dead, through_dead, reads_dead, dead_leads, masks_right, dead_right, held_right, row_right, jump_right, all_right, are_right}
use Rattle.frames_opt.specs.inside.Passes.{jump_of, is_marked, marked_by, marked, all_marked, AreMarked, fresh, forward}
use Rattle.frames_opt.proofs.Acts.{not_true}
use Rattle.frames_opt.proofs.Stands.{Flow}
use Rattle.frames_opt.proofs.Alike.{left_true, right_true, same_is}
use Rattle.frames_opt.proofs.Steps.{Calm}
use Rattle.frames_opt.proofs.Runs.{Kept, LeftOut, Position}

-- ---- properties of each form that an operation or an element may get

module _ (P : Instruction → Type 0) where
  either : (t : Bool) (x y : Instruction) → P x → P y → P (if t then x else y)
  either true x y a b = a
  either false x y a b = b

  module _ (o : Operation) (d : Target) (any : (o2 : Operation) (x y : Operand) → P (instruction.Compute o2 d x y)) where
    power_form : (r : RegisterOp) (x : Operand) (k v : ℕ) → P (with_power r d x k v)
    power_form register_op.Add x k v = any _ x _
    power_form register_op.Sub x k v = any _ x _
    power_form register_op.ShiftLeft x k v = any _ x _
    power_form register_op.Less x k v = any _ x _
    power_form register_op.LessUnsigned x k v = any _ x _
    power_form register_op.Xor x k v = any _ x _
    power_form register_op.ShiftRight x k v = any _ x _
    power_form register_op.ShiftRightArithmetic x k v = any _ x _
    power_form register_op.Or x k v = any _ x _
    power_form register_op.And x k v = any _ x _
    power_form register_op.Mul x k v = any _ x _
    power_form register_op.MulHigh x k v = any _ x _
    power_form register_op.MulHighSignedUnsigned x k v = any _ x _
    power_form register_op.MulHighUnsigned x k v = any _ x _
    power_form register_op.Div x k v = any _ x _
    power_form register_op.DivUnsigned x k v = any _ x _
    power_form register_op.Rem x k v = any _ x _
    power_form register_op.RemUnsigned x k v = either (nat_lt k 12) (with_constant register_op.And d x (v - 1)) (with_constant register_op.RemUnsigned d x v) (any _ x _) (any _ x _)

    arranged_form : (r : Operation) (x y : Operand) → P (arranged r d x y)
    arranged_form (operation.Machine r) x (operand.Temporary k) = any _ x (operand.Temporary k)
    arranged_form (operation.Machine r) x (operand.Cell c) = any _ x (operand.Cell c)
    arranged_form (operation.Machine r) x (operand.Constant v) =
        either (is_power (trailing_zeros w32 v) v) (with_power r d x (trailing_zeros w32 v) v) (with_constant r d x v) (power_form r x (trailing_zeros w32 v) v) (any _ x _)
    arranged_form (operation.Machine r) x (operand.Argument k) = any _ x (operand.Argument k)
    arranged_form operation.Equal x y = any _ x y
    arranged_form operation.NotEqual x y = any _ x y

    pub compute_form : (x y : Operand) → P (compute o d x y)
    compute_form x y = either (is_constant x && (not (is_constant y) && commutes o)) (arranged o d y x) (arranged o d x y) (arranged_form o y x) (arranged_form o x y)

  pub carried_form : (d : Target) (x : Operand) → P instruction.Nothing → P (instruction.Move d x) → P (carried d x)
  carried_form d x none some = either (is_target d x) instruction.Nothing (instruction.Move d x) none some

  module _ (d : Target) (x : Operand) (size : ℕ) (none : P instruction.Nothing) (some : P (instruction.Move d x)) (any : (y : Operand) → P (instruction.Element d x y size)) (frame : (o : ℕ) → P (instruction.Address d (location.Frame o))) (statics : (o : ℕ) → P (instruction.Address d (location.Statics o))) where
    stepped_form : (n : ℕ) → P (stepped d x n size)
    stepped_form n = either (n == 0) (carried d x) (instruction.Element d x (operand.Constant n) size) (carried_form d x none some) (any (operand.Constant n))

    statics_form : (o : Option ℕ) (n : ℕ) → P (statics_or o d x n size)
    statics_form (Some o) n = statics o
    statics_form None n = stepped_form n

    frame_form : (o : Option ℕ) (n : ℕ) → P (frame_or o d x n size)
    frame_form (Some o) n = frame o
    frame_form None n = stepped_form n

    numbered_form : (area : ℕ) (k : Known) (n : ℕ) → P (numbered area k d x n size)
    numbered_form area known.Unknown n = stepped_form n
    numbered_form area (known.Word w) n = stepped_form n
    numbered_form area (known.Statics o) n = statics_form (within o n size 0x10000000) n
    numbered_form area (known.Frame o) n = frame_form (within o n size area) n
    numbered_form area (known.Indexed b y width) n = stepped_form n

    pub element_form : (area : ℕ) (k : Known) (y : Operand) → P (simpler_element area k d x y size)
    element_form area k (operand.Temporary j) = any (operand.Temporary j)
    element_form area k (operand.Cell c) = any (operand.Cell c)
    element_form area k (operand.Constant n) = numbered_form area k n
    element_form area k (operand.Argument j) = any (operand.Argument j)

jump_same : (area : ℕ) (facts : List Known) (x : Instruction) → jump_of (simpler area facts x) ≡ jump_of x
jump_same area facts instruction.Nothing = refl
jump_same area facts (instruction.Move d x) = carried_form (λ z. jump_of z ≡ None) d (simpler_operand facts x) refl refl
jump_same area facts (instruction.Compute o d x y) = compute_form (λ z. jump_of z ≡ None) o d (λ o2 x2 y2. refl) (simpler_operand facts x) (simpler_operand facts y)
jump_same area facts (instruction.Convert c d x) = refl
jump_same area facts (instruction.Load w d l) = refl
jump_same area facts (instruction.Store w x l) = refl
jump_same area facts (instruction.Address d l) = refl
jump_same area facts (instruction.Element d x y size) = element_form (λ z. jump_of z ≡ None) d x size refl refl (λ y2. refl) (λ o. refl) (λ o. refl) area (known_of facts x) (simpler_operand facts y)
jump_same area facts (instruction.Jump to) = refl
jump_same area facts (instruction.Branch t x y to) = refl
jump_same area facts (instruction.Call f) = refl
jump_same area facts instruction.PutByte = refl
jump_same area facts instruction.GetByte = refl
jump_same area facts instruction.Exit = refl
jump_same area facts instruction.Return = refl

cost_less : (area : ℕ) (facts : List Known) (x : Instruction) → cost (simpler area facts x) ≤ cost x
cost_less area facts instruction.Nothing = omega arith
cost_less area facts (instruction.Move d x) = carried_form (λ z. cost z ≤ 6) d (simpler_operand facts x) (omega arith) (omega arith)
cost_less area facts (instruction.Compute o d x y) = compute_form (λ z. cost z ≤ 11) o d (λ o2 x2 y2. omega arith) (simpler_operand facts x) (simpler_operand facts y)
cost_less area facts (instruction.Convert c d x) = omega arith
cost_less area facts (instruction.Load w d l) = omega arith
cost_less area facts (instruction.Store w x l) = omega arith
cost_less area facts (instruction.Address d l) = omega arith
cost_less area facts (instruction.Element d x y size) =
    element_form (λ z. cost z ≤ 13) d x size (omega arith) (omega arith) (λ y2. omega arith) (λ o. omega arith) (λ o. omega arith) area (known_of facts x) (simpler_operand facts y)
cost_less area facts (instruction.Jump to) = omega arith
cost_less area facts (instruction.Branch t x y to) = omega arith
cost_less area facts (instruction.Call f) = omega arith
cost_less area facts instruction.PutByte = omega arith
cost_less area facts instruction.GetByte = omega arith
cost_less area facts instruction.Exit = omega arith
cost_less area facts instruction.Return = omega arith

-- ---- marks

stays_marked : (marks : List Bool) (j k : ℕ) → is_marked marks k ≡ true → is_marked (set marks j true) k ≡ true
stays_marked [] j k e = refl
stays_marked (m ∷ ms) zero zero e = refl
stays_marked (m ∷ ms) zero (suc k) e = e
stays_marked (m ∷ ms) (suc j) zero e = e
stays_marked (m ∷ ms) (suc j) (suc k) e = stays_marked ms j k e

is_put : (marks : List Bool) (j : ℕ) → is_marked (set marks j true) j ≡ true
is_put [] j = refl
is_put (m ∷ ms) zero = refl
is_put (m ∷ ms) (suc j) = is_put ms j

marked_stays : (marks : List Bool) (o : Option ℕ) (k : ℕ) → is_marked marks k ≡ true → is_marked (marked_by marks o) k ≡ true
marked_stays marks None k e = e
marked_stays marks (Some j) k e = stays_marked marks j k e

all_stay : (marks : List Bool) (xs : List Instruction) (k : ℕ) → is_marked marks k ≡ true → is_marked (all_marked marks xs) k ≡ true
all_stay marks [] k e = e
all_stay marks (x ∷ xs) k e = all_stay (marked marks x) xs k (marked_stays marks (jump_of x) k e)

pub all_are_marked : (marks : List Bool) (xs : List Instruction) → AreMarked (all_marked marks xs) xs
all_are_marked marks [] k to x e j = absurd (let z : ⊥ = cc in z)
all_are_marked marks (y ∷ ys) zero to x e j =
    let same : y ≡ x = cc in
    let jumps : jump_of y ≡ Some to = ap jump_of same ∙ j in
    all_stay (marked marks y) ys to (subst (λ o. is_marked (marked_by marks o) to ≡ true) (sym jumps) (is_put marks to))
all_are_marked marks (y ∷ ys) (suc k) to x e j = all_are_marked (marked marks y) ys k to x e j

-- ---- forward

module _ (room : Room) (marks : List Bool) where
  abbrev further : List Known → ℕ → Instruction → List Known
  further facts i x = behind room (fresh (is_marked marks i) facts) (simpler room.area (fresh (is_marked marks i) facts) x)

  -- the facts known before instruction k of these, the first of which has the number i
  abbrev pub known_from : ℕ → List Known → List Instruction → ℕ → List Known
  known_from i facts [] k = nothing
  known_from i facts (x ∷ xs) zero = fresh (is_marked marks i) facts
  known_from i facts (x ∷ xs) (suc k) = known_from (i + 1) (further facts i x) xs k

  forward_at : (i : ℕ) (facts : List Known) (xs : List Instruction) (k : ℕ) (x : Instruction) → slice_get xs k ≡ Some x → slice_get (forward room marks i facts xs) k ≡ Some (simpler room.area (known_from i facts xs k) x)
  forward_at i facts [] k x e = absurd (let z : ⊥ = cc in z)
  forward_at i facts (y ∷ ys) zero x e = let same : y ≡ x = cc in ap (λ z. Some (simpler room.area (fresh (is_marked marks i) facts) z)) same
  forward_at i facts (y ∷ ys) (suc k) x e = forward_at (i + 1) (further facts i y) ys k x e

  offers_at : (i : ℕ) (facts : List Known) (xs : List Instruction) (k : ℕ) (x : Instruction) → slice_get xs k ≡ Some x
      → get_or (offers room marks i facts xs) k known.Unknown ≡ offer room (known_from i facts xs k) (simpler room.area (known_from i facts xs k) x)
  offers_at i facts [] k x e = absurd (let z : ⊥ = cc in z)
  offers_at i facts (y ∷ ys) zero x e = let same : y ≡ x = cc in ap (λ z. offer room (fresh (is_marked marks i) facts) (simpler room.area (fresh (is_marked marks i) facts) z)) same
  offers_at i facts (y ∷ ys) (suc k) x e = offers_at (i + 1) (further facts i y) ys k x e

  fresh_is : (m : Bool) (facts : List Known) → (fresh m facts ≡ nothing) ⊎ (fresh m facts ≡ facts)
  fresh_is true facts = inl refl
  fresh_is false facts = inr refl

  first_known : (i : ℕ) (facts : List Known) (xs : List Instruction) → (known_from i facts xs 0 ≡ nothing) ⊎ (known_from i facts xs 0 ≡ facts)
  first_known i facts [] = inl refl
  first_known i facts (x ∷ xs) = fresh_is (is_marked marks i) facts

  next_known : (i : ℕ) (facts : List Known) (xs : List Instruction) (k : ℕ) (x : Instruction) → slice_get xs k ≡ Some x
      → (known_from i facts xs (suc k) ≡ nothing) ⊎ (known_from i facts xs (suc k) ≡ behind room (known_from i facts xs k) (simpler room.area (known_from i facts xs k) x))
  next_known i facts [] k x e = inl refl
  next_known i facts (y ∷ ys) zero x e =
      let same : y ≡ x = cc in
      subst (λ z. (known_from (i + 1) (further facts i y) ys 0 ≡ nothing) ⊎ (known_from (i + 1) (further facts i y) ys 0 ≡ further facts i z)) same (first_known (i + 1) (further facts i y) ys)
  next_known i facts (y ∷ ys) (suc k) x e = next_known (i + 1) (further facts i y) ys k x e

  marked_known : (i : ℕ) (facts : List Known) (xs : List Instruction) (k j : ℕ) → j ≡ i + k → is_marked marks j ≡ true → known_from i facts xs k ≡ nothing
  marked_known i facts [] k j e m = refl
  marked_known i facts (x ∷ xs) zero j e m =
      let same : j ≡ i = omega (arith, e) in
      ap (λ t. fresh t facts) (ap (is_marked marks) (sym same) ∙ m)
  marked_known i facts (x ∷ xs) (suc k) j e m = marked_known (i + 1) (further facts i x) xs k j (omega (arith, e)) m

  pub start_known : (xs : List Instruction) → known_from 0 nothing xs 0 ≡ nothing
  start_known xs = ⊎_elim (λ e. e) (λ e. e) (first_known 0 nothing xs)

-- ---- where a temporary is the same before all instructions

either_same : (b : Bool) → (if b then status.Same else status.Same) ≡ status.Same
either_same true = refl
either_same false = refl

behind_same : (k : ℕ) (x : Instruction) → behind_it k x status.Same ≡ status.Same
behind_same k x = either_same (is_written k x)

module _ (states : List Row) (k : ℕ) (same : (i : ℕ) → status_at states i k ≡ status.Same) where
  accepts_same : (i : ℕ) → accepts (status_at states i k) status.Same ≡ true
  accepts_same i = ap (λ z. accepts z status.Same) (same i)

  leads_same : (i : ℕ) (x : Instruction) → leads states i x k status.Same ≡ true
  leads_same i instruction.Nothing = accepts_same (i + 1)
  leads_same i (instruction.Move d x) = accepts_same (i + 1)
  leads_same i (instruction.Compute o d x y) = accepts_same (i + 1)
  leads_same i (instruction.Convert c d x) = accepts_same (i + 1)
  leads_same i (instruction.Load w d l) = accepts_same (i + 1)
  leads_same i (instruction.Store w x l) = accepts_same (i + 1)
  leads_same i (instruction.Address d l) = accepts_same (i + 1)
  leads_same i (instruction.Element d x y size) = accepts_same (i + 1)
  leads_same i (instruction.Jump to) = accepts_same to
  leads_same i (instruction.Branch t x y to) = ap (λ b. b && accepts (status_at states to k) status.Same) (accepts_same (i + 1)) ∙ accepts_same to
  leads_same i (instruction.Call f) = accepts_same (i + 1)
  leads_same i instruction.PutByte = accepts_same (i + 1)
  leads_same i instruction.GetByte = accepts_same (i + 1)
  leads_same i instruction.Exit = refl
  leads_same i instruction.Return = refl

  stays_same : (i : ℕ) (x : Instruction) → leads states i x k (behind_it k x (status_at states i k)) ≡ true
  stays_same i x = ap (λ z. leads states i x k (behind_it k x z)) (same i) ∙ (ap (leads states i x k) (behind_same k x) ∙ leads_same i x)

-- as are those from the ninth on
far : (states : List Row) (k : ℕ) → nat_lt k 8 ≡ false → (i : ℕ) → status_at states i k ≡ status.Same
far states k e i = ap (λ t. if is_inside states i && t then status_of (get_or states i blank) k else status.Same) e ∙ on (is_inside states i)
  where
    on : (t : Bool) → (if t && false then status_of (get_or states i blank) k else status.Same) ≡ status.Same
    on true = refl
    on false = refl

-- and all where there are no rows
none_inside : (i : ℕ) → is_inside [] i ≡ false
none_inside i = ap (λ t. nat_lt 0 i && t) (le-ltb i 0 (omega arith)) ∙ on (nat_lt 0 i)
  where
    on : (t : Bool) → (t && false) ≡ false
    on true = refl
    on false = refl

none_status : (k i : ℕ) → status_at [] i k ≡ status.Same
none_status k i = ap (λ t. if t && nat_lt k 8 then status_of (get_or [] i blank) k else status.Same) (none_inside i)

-- ---- the second pass

not_eight : (k : ℕ) → nat_lt (suc (suc (suc (suc (suc (suc (suc (suc k)))))))) 8 ≡ false
not_eight k = le-ltb (suc (suc (suc (suc (suc (suc (suc (suc k)))))))) 8 (omega arith)

or_not : (a b : Bool) → (a || not b) ≡ true → b ≡ true → a ≡ true
or_not true b e g = refl
or_not false b e g = absurd (not_true (sym (ap not g) ∙ e))

both_true : (a b : Bool) → a ≡ true → b ≡ true → (a && b) ≡ true
both_true a b e g = ap (λ t. t && b) e ∙ g

-- ---- masks

-- the status of a temporary that holds no index
abbrev plain : Bool → Status
plain true = status.Dead
plain false = status.Same

zero_dead : (k : ℕ) → is_dead 0 k ≡ false
zero_dead k = ap (λ b. nat_lt k 8 && (b == 1)) (bit_at-zero k) ∙ on (nat_lt k 8)
  where
    on : (t : Bool) → (t && false) ≡ false
    on true = refl
    on false = refl

other_bit : (k : ℕ) (w : Option ℕ) → is_number k w ≡ false → bit_at (bit_of w) k ≡ 0
other_bit k None e = bit_at-zero k
other_bit k (Some j) e = on (nat_lt j 8)
  where
    on : (t : Bool) → bit_at (if t then 2 ^ j else 0) k ≡ 0
    on true = bit_at-pow_other j k (λ same. not_true (sym e ∙ eq-eqb j k (sym same)))
    on false = bit_at-zero k

-- what is of the first mask and not written is of the second
within_dead : (m n : ℕ) (w : Option ℕ) (k : ℕ) → is_within m n w ≡ true → is_number k w ≡ false → is_dead m k ≡ true → is_dead n k ≡ true
within_dead m n w k e unwritten d =
    let eight = left_true (nat_lt k 8) (bit_at m k == 1) d in
    let set : bit_at m k ≡ 1 = eqb-true (bit_at m k) 1 (right_true (nat_lt k 8) (bit_at m k == 1) d) in
    let all : bit_and m (bit_or n (bit_of w)) ≡ m = eqb-true (bit_and m (bit_or n (bit_of w))) m e in
    let here : bit_at (bit_and m (bit_or n (bit_of w))) k ≡ bit_at m k = ap (λ (x : ℕ). bit_at x k) all in
    let other = other_bit k w unwritten in
    let one : bit_at n k ≡ 1 = omega (arith, set, here, other, bit_at_and m (bit_or n (bit_of w)) k, bit_at_or n (bit_of w) k, bit_at-lt n k) in
    both_true (nat_lt k 8) (bit_at n k == 1) eight (eq-eqb (bit_at n k) 1 one)

number_is : (k : ℕ) (w : Option ℕ) → is_number k w ≡ true → w ≡ Some k
number_is k None e = absurd (not_true e)
number_is k (Some j) e = ap Some (eqb-true j k e)

-- a temporary that an instruction reads is not of a mask of which it reads none
module _ (m k : ℕ) (d : is_dead m k ≡ true) where
  unnamed : (x : Operand) → names_dead m x ≡ false → names k x ≡ false
  unnamed (operand.Temporary j) e = on (j == k) refl
    where
      on : (t : Bool) → (j == k) ≡ t → t ≡ false
      on true g = absurd (not_true (sym e ∙ (ap (is_dead m) (eqb-true j k g) ∙ d)))
      on false g = refl
  unnamed (operand.Cell c) e = refl
  unnamed (operand.Constant v) e = refl
  unnamed (operand.Argument j) e = refl

  not_through : (l : Location) → through_dead m l ≡ false → is_through k l ≡ false
  not_through (location.Statics o) e = refl
  not_through (location.Frame o) e = refl
  not_through (location.At x) e = unnamed x e
  not_through (location.Indexed b y size) e = unnamed y e

  neither : (a b c d : Bool) → (c ≡ false → a ≡ false) → (d ≡ false → b ≡ false) → (c || d) ≡ false → (a || b) ≡ false
  neither a b true d f g e = absurd (not_true (sym e))
  neither a b false d f g e = ap (λ t. t || b) (f refl) ∙ g e

  unread : (gives : Bool) (x : Instruction) → reads_dead gives m x ≡ false → reads gives status.Dead k x ≡ false
  unread gives instruction.Nothing e = refl
  unread gives (instruction.Move d x) e = unnamed x e
  unread gives (instruction.Compute o d x y) e = neither (names k x) (names k y) (names_dead m x) (names_dead m y) (unnamed x) (unnamed y) e
  unread gives (instruction.Convert c d x) e = unnamed x e
  unread gives (instruction.Load w d l) e = not_through l e
  unread gives (instruction.Store w x l) e = neither (names k x) (is_through k l) (names_dead m x) (through_dead m l) (unnamed x) (not_through l) e
  unread gives (instruction.Address d l) e = not_through l e
  unread gives (instruction.Element d x y size) e = neither (names k x) (names k y) (names_dead m x) (names_dead m y) (unnamed x) (unnamed y) e
  unread gives (instruction.Jump to) e = refl
  unread gives (instruction.Branch t x y to) e = neither (names k x) (names k y) (names_dead m x) (names_dead m y) (unnamed x) (unnamed y) e
  unread gives (instruction.Call f) e = absurd (not_true (sym e))
  unread gives instruction.PutByte e = absurd (not_true (sym e))
  unread gives instruction.GetByte e = absurd (not_true (sym e))
  unread gives instruction.Exit e = absurd (not_true (sym e))
  unread gives instruction.Return e = at_return gives e
    where
      not_zero : (t : Bool) → is_dead m 0 ≡ false → (k == 0) ≡ t → t ≡ false
      not_zero true h g = absurd (not_true (sym h ∙ (ap (is_dead m) (sym (eqb-true k 0 g)) ∙ d)))
      not_zero false h g = refl

      at_return : (b : Bool) → (b && is_dead m 0) ≡ false → (b && (k == 0)) ≡ false
      at_return true h = not_zero (k == 0) h refl
      at_return false h = refl

-- ---- a temporary that holds an index at none of the instructions here

accepts_plain : (b : Bool) → accepts (plain b) status.Same ≡ true
accepts_plain true = refl
accepts_plain false = refl

module _ (room : Room) (states : List Row) (i : ℕ) (o : Known) (x : Instruction) (k : ℕ) where
  abbrev bit : ℕ → Bool
  bit n = is_dead (mask_at states n) k

  abbrev IsPlain : ℕ → Type 0
  IsPlain n = status_at states n k ≡ plain (bit n)

  module _ (here : IsPlain i) (next : IsPlain (i + 1)) (jump : (to : ℕ) → jump_of x ≡ Some to → IsPlain to) where
    same_accepted : (n : ℕ) → IsPlain n → accepts (status_at states n k) status.Same ≡ true
    same_accepted n e = ap (λ z. accepts z status.Same) e ∙ accepts_plain (bit n)

    dead_accepted : (n : ℕ) (w : Option ℕ) (z : Status) → bit i ≡ true → is_within (mask_at states i) (mask_at states n) w ≡ true → is_number k w ≡ false → IsPlain n → accepts (status_at states n k) z ≡ true
    dead_accepted n w z d e unwritten p = ap (λ y. accepts y z) (p ∙ ap plain (within_dead (mask_at states i) (mask_at states n) w k e unwritten d))

    leads_by : (z : Status) (y : Instruction) → accepts (status_at states (i + 1) k) z ≡ true → ((to : ℕ) → jump_of y ≡ Some to → accepts (status_at states to k) z ≡ true) → leads states i y k z ≡ true
    leads_by z instruction.Nothing a b = a
    leads_by z (instruction.Move d x) a b = a
    leads_by z (instruction.Compute o d x y) a b = a
    leads_by z (instruction.Convert c d x) a b = a
    leads_by z (instruction.Load w d l) a b = a
    leads_by z (instruction.Store w x l) a b = a
    leads_by z (instruction.Address d l) a b = a
    leads_by z (instruction.Element d x y size) a b = a
    leads_by z (instruction.Jump to) a b = b to refl
    leads_by z (instruction.Branch t x y to) a b = both_true (accepts (status_at states (i + 1) k) z) (accepts (status_at states to k) z) a (b to refl)
    leads_by z (instruction.Call f) a b = a
    leads_by z instruction.PutByte a b = a
    leads_by z instruction.GetByte a b = a
    leads_by z instruction.Exit a b = refl
    leads_by z instruction.Return a b = refl

    leads_plain : leads states i x k status.Same ≡ true
    leads_plain = leads_by status.Same x (same_accepted (i + 1) next) (λ to e. same_accepted to (jump to e))

    module _ (d : bit i ≡ true) where
      onward : (w : Option ℕ) → is_within (mask_at states i) (mask_at states (i + 1)) w ≡ true → is_number k w ≡ false → accepts (status_at states (i + 1) k) status.Dead ≡ true
      onward w e unwritten = dead_accepted (i + 1) w status.Dead d e unwritten next

      abbrev IsJumpPlain : Instruction → Type 0
      IsJumpPlain y = (to : ℕ) → jump_of y ≡ Some to → IsPlain to

      dead_on : (y : Instruction) → IsJumpPlain y → is_written k y ≡ false → dead_leads states i y (mask_at states i) ≡ true → leads states i y k status.Dead ≡ true
      dead_on instruction.Nothing j w e = onward None e refl
      dead_on (instruction.Move d x) j w e = onward (temporary_of d) e w
      dead_on (instruction.Compute o d x y) j w e = onward (temporary_of d) e w
      dead_on (instruction.Convert c d x) j w e = onward (temporary_of d) e w
      dead_on (instruction.Load b d l) j w e = onward (temporary_of d) e w
      dead_on (instruction.Store b x l) j w e = onward None e refl
      dead_on (instruction.Address d l) j w e = onward (temporary_of d) e w
      dead_on (instruction.Element d x y size) j w e = onward (temporary_of d) e w
      dead_on (instruction.Jump to) j w e = dead_accepted to None status.Dead d e refl (j to refl)
      dead_on (instruction.Branch t x y to) j w e =
          both_true (accepts (status_at states (i + 1) k) status.Dead) (accepts (status_at states to k) status.Dead)
          (onward None (left_true (is_within (mask_at states i) (mask_at states (i + 1)) None) (is_within (mask_at states i) (mask_at states to) None) e) refl)
          (dead_accepted to None status.Dead d (right_true (is_within (mask_at states i) (mask_at states (i + 1)) None) (is_within (mask_at states i) (mask_at states to) None) e) refl (j to refl))
      dead_on (instruction.Call f) j w e = onward None e refl
      dead_on instruction.PutByte j w e = onward None e refl
      dead_on instruction.GetByte j w e = onward None e refl
      dead_on instruction.Exit j w e = refl
      dead_on instruction.Return j w e = refl

    module _ (e : dead_right room.gives states i x ≡ true) where
      -- the masks are right where it is dead
      masks : bit i ≡ true → masks_right room.gives states i x (mask_at states i) ≡ true
      masks d = on (mask_at states i == 0) refl e
        where
          on : (t : Bool) → (mask_at states i == 0) ≡ t → (t || masks_right room.gives states i x (mask_at states i)) ≡ true → masks_right room.gives states i x (mask_at states i) ≡ true
          on true g h = absurd (not_true (sym (ap (λ m. is_dead m k) (eqb-true (mask_at states i) 0 g) ∙ zero_dead k) ∙ d))
          on false g h = h

      -- where the instruction is left out
      module _ (l : is_left_out states i x ≡ true) where
        left_within : bit i ≡ true → is_within (mask_at states i) (mask_at states (i + 1)) (written x) ≡ true
        left_within d =
            ap (λ t. if t then is_within (mask_at states i) (mask_at states (i + 1)) (written x) else not (reads_dead room.gives (mask_at states i) x) && dead_leads states i x (mask_at states i)) (sym l) ∙ masks d

        left_written : is_written k x ≡ true → is_given_up (status_at states (i + 1) k) (status_at states i k) o (leads_on room k (status_at states i k) x) ≡ true
        left_written w = ap (λ s. is_given_up s (status_at states i k) o (leads_on room k (status_at states i k) x)) (next ∙ ap plain (dead_next (bit (i + 1)) refl))
          where
            lost : not (is_same (status_at states (i + 1) k)) ≡ true
            lost = ap (is_lost states i) (sym (number_is k (written x) w)) ∙ l

            dead_next : (t : Bool) → bit (i + 1) ≡ t → t ≡ true
            dead_next true g = refl
            dead_next false g = absurd (not_true (sym (ap (λ s. not (is_same s)) (next ∙ ap plain g)) ∙ lost))

        left_unwritten : is_written k x ≡ false → accepts (status_at states (i + 1) k) (status_at states i k) ≡ true
        left_unwritten w = on (bit i) refl
          where
            on : (t : Bool) → bit i ≡ t → accepts (status_at states (i + 1) k) (status_at states i k) ≡ true
            on true d = dead_accepted (i + 1) (written x) (status_at states i k) d (left_within d) w next
            on false d = ap (accepts (status_at states (i + 1) k)) (here ∙ ap plain d) ∙ same_accepted (i + 1) next

        plain_drop : drop_right room states i o x k ≡ true
        plain_drop = on (is_written k x) refl
          where
            on : (t : Bool) → is_written k x ≡ t
                → (if t then is_given_up (status_at states (i + 1) k) (status_at states i k) o (leads_on room k (status_at states i k) x) else accepts (status_at states (i + 1) k) (status_at states i k)) ≡ true
            on true w = left_written w
            on false w = left_unwritten w

      -- where it stays
      module _ (l : is_left_out states i x ≡ false) where
        stay_masks : bit i ≡ true → (not (reads_dead room.gives (mask_at states i) x) && dead_leads states i x (mask_at states i)) ≡ true
        stay_masks d =
            ap (λ t. if t then is_within (mask_at states i) (mask_at states (i + 1)) (written x) else not (reads_dead room.gives (mask_at states i) x) && dead_leads states i x (mask_at states i)) (sym l) ∙ masks d

        none_read : bit i ≡ true → reads_dead room.gives (mask_at states i) x ≡ false
        none_read d = on (reads_dead room.gives (mask_at states i) x) (left_true (not (reads_dead room.gives (mask_at states i) x)) (dead_leads states i x (mask_at states i)) (stay_masks d))
          where
            on : (t : Bool) → not t ≡ true → t ≡ false
            on true g = absurd (not_true g)
            on false g = refl

        dead_behind : bit i ≡ true → leads states i x k (behind_it k x status.Dead) ≡ true
        dead_behind d = on (is_written k x) refl
          where
            on : (t : Bool) → is_written k x ≡ t → leads states i x k (if t then status.Same else status.Dead) ≡ true
            on true w = leads_plain
            on false w = dead_on d x jump w (right_true (not (reads_dead room.gives (mask_at states i) x)) (dead_leads states i x (mask_at states i)) (stay_masks d))

        plain_stays : stays_right room.gives states i x k (status_at states i k) ≡ true
        plain_stays = on (bit i) refl
          where
            on : (t : Bool) → bit i ≡ t → stays_right room.gives states i x k (status_at states i k) ≡ true
            on true d =
                ap (stays_right room.gives states i x k) (here ∙ ap plain d)
                ∙ both_true (not (reads room.gives status.Dead k x)) (leads states i x k (behind_it k x status.Dead)) (ap not (unread (mask_at states i) k d room.gives x (none_read d))) (dead_behind d)
            on false d = ap (stays_right room.gives states i x k) (here ∙ ap plain d) ∙ (ap (leads states i x k) (behind_same k x) ∙ leads_plain)

      plain_fits : fits room k (status_at states i k) ≡ true
      plain_fits = ap (fits room k) here ∙ on (bit i)
        where
          on : (t : Bool) → fits room k (plain t) ≡ true
          on true = refl
          on false = refl

      plain_right : is_right room states i o x k ≡ true
      plain_right = both_true (fits room k (status_at states i k)) _ plain_fits (on (is_left_out states i x) refl)
        where
          on : (t : Bool) → is_left_out states i x ≡ t → (if t then drop_right room states i o x k else stays_right room.gives states i x k (status_at states i k)) ≡ true
          on true l = plain_drop l
          on false l = plain_stays l

  -- ---- a temporary holds an index at one of these, and is right, or at none

  abbrev Right : Type 0
  Right = is_right room states i o x k ≡ true

  held_or : (h : Held) (z : Status) → held_right room states i o x h ≡ true → Right ⊎ (or_held h k z ≡ z)
  held_or held.Nothing z e = inr refl
  held_or (held.Index j b size) z e = on (j == k) refl
    where
      on : (t : Bool) → (j == k) ≡ t → Right ⊎ ((if t then status.Index b size else z) ≡ z)
      on true g = inl (subst (λ n. is_right room states i o x n ≡ true) (eqb-true j k g) e)
      on false g = inr refl

  row_or : (r : Row) → (held_right room states i o x r.first && held_right room states i o x r.second) ≡ true → Right ⊎ (status_of r k ≡ plain (is_dead r.dead k))
  row_or r e =
      ⊎_elim inl (λ one. ⊎_elim inl (λ two. inr (ap (λ z. if is_dead r.dead k then status.Dead else z) (one ∙ two) ∙ on (is_dead r.dead k)))
      (held_or r.second status.Same (right_true (held_right room states i o x r.first) (held_right room states i o x r.second) e)))
      (held_or r.first (or_held r.second k status.Same) (left_true (held_right room states i o x r.first) (held_right room states i o x r.second) e))
    where
      on : (t : Bool) → (if t then status.Dead else status.Same) ≡ plain t
      on true = refl
      on false = refl

  module _ (eight : nat_lt k 8 ≡ true) where
    at_or : (n : ℕ) → row_right room states i o x n ≡ true → Right ⊎ IsPlain n
    at_or n e =
        subst (λ a. Right ⊎ ((if is_inside states n && a then status_of (get_or states n blank) k else status.Same) ≡ plain (is_dead (if is_inside states n then (get_or states n blank).dead else 0) k))) (sym eight)
        (on (is_inside states n) e)
      where
        on : (t : Bool) → (if t then held_right room states i o x (get_or states n blank).first && held_right room states i o x (get_or states n blank).second else true) ≡ true
            → Right ⊎ ((if t && true then status_of (get_or states n blank) k else status.Same) ≡ plain (is_dead (if t then (get_or states n blank).dead else 0) k))
        on true g = row_or (get_or states n blank) g
        on false g = inr (sym (ap plain (zero_dead k)))

    jump_or : (w : Option ℕ) → jump_right room states i o x w ≡ true → Right ⊎ ((to : ℕ) → w ≡ Some to → IsPlain to)
    jump_or None e = inr (λ to g. absurd (let z : ⊥ = cc in z))
    jump_or (Some n) e = ⊎_elim inl (λ a. inr (λ to g. let same : n ≡ to = cc in subst IsPlain same a)) (at_or n e)

    each_right : all_right room states i o x ≡ true → Right
    each_right h =
        let rows = right_true (dead_right room.gives states i x) _ h in
        let later = right_true (row_right room states i o x i) _ rows in
        ⊎_elim (λ r. r) (λ here. ⊎_elim (λ r. r) (λ next. ⊎_elim (λ r. r) (λ jump. plain_right here next jump (left_true (dead_right room.gives states i x) _ h))
        (jump_or (jump_of x) (right_true (row_right room states i o x (i + 1)) _ later)))
        (at_or (i + 1) (left_true (row_right room states i o x (i + 1)) _ later)))
        (at_or i (left_true (row_right room states i o x i) _ rows))

module _ (room : Room) (states : List Row) (i : ℕ) (o : Known) (y : Instruction) (h : all_right room states i o y ≡ true) where
  abbrev z : ℕ → Status
  z k = status_at states i k

  abbrev next : ℕ → Status
  next k = status_at states (i + 1) k

  right_at : (k : ℕ) → nat_lt k 8 ≡ true → is_right room states i o y k ≡ true
  right_at k e = each_right room states i o y k e h

  -- each temporary fits what it is, the first eight as the check has found, the others since they are the same
  pub status_fits : (k : ℕ) → fits room k (z k) ≡ true
  status_fits k = on (nat_lt k 8) refl
    where
      on : (t : Bool) → nat_lt k 8 ≡ t → fits room k (z k) ≡ true
      on true e = left_true (fits room k (z k)) _ (right_at k e)
      on false e = ap (fits room k) (far states k e i)

  rest : (k : ℕ) → nat_lt k 8 ≡ true → (if is_left_out states i y then drop_right room states i o y k else stays_right room.gives states i y k (z k)) ≡ true
  rest k e = right_true (fits room k (z k)) _ (right_at k e)

  -- ---- where it stays

  module _ (l : is_left_out states i y ≡ false) where
    stay : (k : ℕ) → nat_lt k 8 ≡ true → stays_right room.gives states i y k (z k) ≡ true
    stay k e = ap (λ t. if t then drop_right room states i o y k else stays_right room.gives states i y k (z k)) (sym l) ∙ rest k e

    same : (k : ℕ) → reads room.gives (z k) k y ≡ true → is_same (z k) ≡ true
    same k read = on (nat_lt k 8) refl
      where
        on : (t : Bool) → nat_lt k 8 ≡ t → is_same (z k) ≡ true
        on true e = or_not (is_same (z k)) (reads room.gives (z k) k y) (left_true (is_same (z k) || not (reads room.gives (z k) k y)) _ (stay k e)) read
        on false e = ap is_same (far states k e i)

    right : (k : ℕ) → leads states i y k (behind_it k y (z k)) ≡ true
    right k = on (nat_lt k 8) refl
      where
        on : (t : Bool) → nat_lt k 8 ≡ t → leads states i y k (behind_it k y (z k)) ≡ true
        on true e = right_true (is_same (z k) || not (reads room.gives (z k) k y)) _ (stay k e)
        on false e = stays_same states k (far states k e) i y

    kept : Kept room.gives states i y (placed states i y)
    kept = record { is = refl; same = same; right = right }

  -- ---- where it is left out

  module _ (l : is_left_out states i y ≡ true) where
    drop : (k : ℕ) → nat_lt k 8 ≡ true → drop_right room states i o y k ≡ true
    drop k e = ap (λ t. if t then drop_right room states i o y k else stays_right room.gives states i y k (z k)) (sym l) ∙ rest k e

    stays : (k : ℕ) → is_written k y ≡ false → accepts (next k) (z k) ≡ true
    stays k w = on (nat_lt k 8) refl
      where
        on : (t : Bool) → nat_lt k 8 ≡ t → accepts (next k) (z k) ≡ true
        on true e = ap (λ t. if t then is_given_up (next k) (z k) o (leads_on room k (z k) y) else accepts (next k) (z k)) (sym w) ∙ drop k e
        on false e = ap (λ x. accepts x (z k)) (far states k e (i + 1)) ∙ ap (accepts status.Same) (far states k e i)

    given_up : (j : ℕ) → written y ≡ Some j → is_given_up (next j) (z j) o (leads_on room j (z j) y) ≡ true
    given_up j w = on (nat_lt j 8) refl
      where
        on : (t : Bool) → nat_lt j 8 ≡ t → is_given_up (next j) (z j) o (leads_on room j (z j) y) ≡ true
        on true e = ap (λ t. if t then is_given_up (next j) (z j) o (leads_on room j (z j) y) else accepts (next j) (z j)) (sym (ap (is_number j) w ∙ eq-eqb j j refl)) ∙ drop j e
        on false e =
            let lost : not (is_same (next j)) ≡ true = ap (is_lost states i) (sym w) ∙ l in
            absurd (not_true (sym (ap (λ x. not (is_same x)) (far states j e (i + 1))) ∙ lost))

    left_out : LeftOut room o states i y instruction.Nothing
    left_out = on (written y) refl
      where
        on : (w : Option ℕ) → written y ≡ w → LeftOut room o states i y instruction.Nothing
        on None w = absurd (not_true (sym (ap (is_lost states i) w) ∙ l))
        on (Some j) w = record { is = refl; number = j; writes = w; stays = stays; given_up = given_up j w }

  out : Kept room.gives states i y (swept_one states i y) ⊎ LeftOut room o states i y (swept_one states i y)
  out = on (is_left_out states i y) refl
    where
      on : (t : Bool) → is_left_out states i y ≡ t → Kept room.gives states i y (if t then instruction.Nothing else placed states i y) ⊎ LeftOut room o states i y (if t then instruction.Nothing else placed states i y)
      on true l = inr (left_out l)
      on false l = inl (kept l)

placed_cost : (states : List Row) (i : ℕ) (x : Instruction) → cost (placed states i x) ≡ cost x
placed_cost states i instruction.Nothing = refl
placed_cost states i (instruction.Move d x) = refl
placed_cost states i (instruction.Compute o d x y) = refl
placed_cost states i (instruction.Convert c d x) = refl
placed_cost states i (instruction.Load w d l) = refl
placed_cost states i (instruction.Store w x l) = refl
placed_cost states i (instruction.Address d l) = refl
placed_cost states i (instruction.Element d x y size) = refl
placed_cost states i (instruction.Jump to) = refl
placed_cost states i (instruction.Branch t x y to) = refl
placed_cost states i (instruction.Call f) = refl
placed_cost states i instruction.PutByte = refl
placed_cost states i instruction.GetByte = refl
placed_cost states i instruction.Exit = refl
placed_cost states i instruction.Return = refl

swept_cost : (room : Room) (o : Known) (states : List Row) (i : ℕ) (y z : Instruction) → Kept room.gives states i y z ⊎ LeftOut room o states i y z → cost z ≤ cost y
swept_cost room o states i y z (inl k) = let same : cost z ≡ cost y = ap cost k.is ∙ placed_cost states i y in omega (arith, same)
swept_cost room o states i y z (inr d) = let none : cost z ≡ 0 = ap cost d.is in omega (arith, none)

-- where a call continues all may be the same
calm_after : (room : Room) (o : Known) (states : List Row) (i : ℕ) (y w : Instruction) → Kept room.gives states i y w ⊎ LeftOut room o states i y w → (f : ℕ) → y ≡ instruction.Call f → Calm states (i + 1)
calm_after room o states i y w (inl k) f e =
    let call : Kept room.gives states i (instruction.Call f) w = subst (λ x. Kept room.gives states i x w) e k in
    λ j. ap (accepts (status_at states (i + 1) j)) (sym (same_is (status_at states i j) (call.same j refl))) ∙ call.right j
calm_after room o states i y w (inr d) f e = let no : None ≡ Some d.number = sym (ap written e) ∙ d.writes in absurd (let x : ⊥ = cc in x)

module _ (states : List Row) where
  swept_at : (i : ℕ) (xs : List Instruction) (k j : ℕ) (y : Instruction) → slice_get xs k ≡ Some y → j ≡ i + k → slice_get (swept states i xs) k ≡ Some (swept_one states j y)
  swept_at i [] k j y e g = absurd (let z : ⊥ = cc in z)
  swept_at i (x ∷ xs) zero j y e g =
      let same : x ≡ y = cc in
      let here : j ≡ i = omega (arith, g) in
      ap (λ z. Some (swept_one states i z)) same ∙ ap (λ n. Some (swept_one states n y)) (sym here)
  swept_at i (x ∷ xs) (suc k) j y e g = swept_at (i + 1) xs k j y e (omega (arith, g))

  module _ (room : Room) (list : List Known) where
    abbrev offered : ℕ → Known
    offered i = get_or list i known.Unknown

    pub all_right_at : (i : ℕ) (xs : List Instruction) (k j : ℕ) (y : Instruction) → are_right room states list i xs ≡ true → slice_get xs k ≡ Some y → j ≡ i + k → all_right room states j (offered j) y ≡ true
    all_right_at i [] k j y h e g = absurd (let z : ⊥ = cc in z)
    all_right_at i (x ∷ xs) zero j y h e g =
        let same : x ≡ y = cc in
        let here : j ≡ i = omega (arith, g) in
        ap (λ n. all_right room states n (offered n) y) here ∙ (ap (all_right room states i (offered i)) (sym same) ∙ left_true (all_right room states i (offered i) x) (are_right room states list (i + 1) xs) h)
    all_right_at i (x ∷ xs) (suc k) j y h e g = all_right_at (i + 1) xs k j y (right_true (all_right room states i (offered i) x) (are_right room states list (i + 1) xs) h) e (omega (arith, g))

-- ---- both

module _ (room : Room) (marks : List Bool) (code : List Instruction) (are : AreMarked marks code) (states : List Row)
    (right : are_right room states (offers room marks 0 nothing code) 0 (forward room marks 0 nothing code) ≡ true) where
  abbrev middle_of : List Instruction
  middle_of = forward room marks 0 nothing code

  abbrev pub known_at : ℕ → List Known
  known_at k = known_from room marks 0 nothing code k

  pub position : (i : ℕ) (x : Instruction) → slice_get code i ≡ Some x → Position room known_at states (swept states 0 middle_of) i x
  position i x e =
      let y = simpler room.area (known_at i) x in
      let o = offer room (known_at i) y in
      let held : slice_get middle_of i ≡ Some y = forward_at room marks 0 nothing code i x e in
      let one : suc i ≡ i + 1 = omega arith in
      let z = swept_one states i y in
      let second : slice_get (swept states 0 middle_of) i ≡ Some z = swept_at states 0 middle_of i i y held (omega arith) in
      let each : all_right room states i (get_or (offers room marks 0 nothing code) i known.Unknown) y ≡ true = all_right_at states room (offers room marks 0 nothing code) 0 middle_of i i y right held (omega arith) in
      let all : all_right room states i o y ≡ true = ap (λ d. all_right room states i d y) (sym (offers_at room marks 0 nothing code i x e)) ∙ each in
      let done : Kept room.gives states i y z ⊎ LeftOut room o states i y z = out room states i o y all in
      let next : (known_at (i + 1) ≡ nothing) ⊎ (known_at (i + 1) ≡ behind room (known_at i) y) =
      subst (λ j. (known_at j ≡ nothing) ⊎ (known_at j ≡ behind room (known_at i) y)) one (next_known room marks 0 nothing code i x e) in
      record {
        half = y;
        done = z;
        done_is = second;
        by = inr refl;
        flow = record {
          next = next;
          jumps = λ to j. marked_known room marks 0 nothing code to to (omega arith) (are i to x e (sym (jump_same room.area (known_at i) x) ∙ j));
          calls = calm_after room o states i y z done;
        };
        out = done;
        cheap = (let a = swept_cost room o states i y z done in let b = cost_less room.area (known_at i) x in omega (arith, a, b));
      }

-- ---- code that stays as it is

nothing_flows : (room : Room) (y : Instruction) (i : ℕ) → Flow room (λ k. nothing) (Calm []) i y
nothing_flows room y i = record { next = inl refl; jumps = λ to e. refl; calls = λ f e k. accepts_same [] k (none_status k) (i + 1) }

not_lost : (i : ℕ) (w : Option ℕ) → is_lost [] i w ≡ false
not_lost i None = refl
not_lost i (Some j) = ap (λ z. not (is_same z)) (none_status j (i + 1))

-- where there are no statuses they are right
none_mask : (i : ℕ) → mask_at [] i ≡ 0
none_mask i = ap (λ t. if t then (get_or [] i blank).dead else 0) (none_inside i)

none_dead_right : (gives : Bool) (i : ℕ) (x : Instruction) → dead_right gives [] i x ≡ true
none_dead_right gives i x = ap (λ m. (m == 0) || masks_right gives [] i x m) (none_mask i)

none_row_right : (room : Room) (i : ℕ) (o : Known) (x : Instruction) (n : ℕ) → row_right room [] i o x n ≡ true
none_row_right room i o x n = ap (λ t. if t then held_right room [] i o x (get_or [] n blank).first && held_right room [] i o x (get_or [] n blank).second else true) (none_inside n)

none_jump_right : (room : Room) (i : ℕ) (o : Known) (x : Instruction) (w : Option ℕ) → jump_right room [] i o x w ≡ true
none_jump_right room i o x None = refl
none_jump_right room i o x (Some to) = none_row_right room i o x to

none_all_right : (room : Room) (i : ℕ) (o : Known) (x : Instruction) → all_right room [] i o x ≡ true
none_all_right room i o x =
    both_true (dead_right room.gives [] i x) _ (none_dead_right room.gives i x)
    (both_true (row_right room [] i o x i) _ (none_row_right room i o x i)
    (both_true (row_right room [] i o x (i + 1)) _ (none_row_right room i o x (i + 1)) (none_jump_right room i o x (jump_of x))))

pub none_right : (room : Room) (list : List Known) (i : ℕ) (xs : List Instruction) → are_right room [] list i xs ≡ true
none_right room list i [] = refl
none_right room list i (x ∷ xs) = both_true (all_right room [] i (get_or list i known.Unknown) x) _ (none_all_right room i (get_or list i known.Unknown) x) (none_right room list (i + 1) xs)

place_none : (i : ℕ) (l : Location) → place_of [] i l ≡ l
place_none i (location.Statics o) = refl
place_none i (location.Frame o) = refl
place_none i (location.At (operand.Temporary k)) = ap (λ z. place_by z k) (none_status k i)
place_none i (location.At (operand.Cell c)) = refl
place_none i (location.At (operand.Constant v)) = refl
place_none i (location.At (operand.Argument k)) = refl
place_none i (location.Indexed b y size) = refl

placed_none : (i : ℕ) (x : Instruction) → placed [] i x ≡ x
placed_none i instruction.Nothing = refl
placed_none i (instruction.Move d x) = refl
placed_none i (instruction.Compute o d x y) = refl
placed_none i (instruction.Convert c d x) = refl
placed_none i (instruction.Load w d l) = ap (instruction.Load w d) (place_none i l)
placed_none i (instruction.Store w x l) = ap (instruction.Store w x) (place_none i l)
placed_none i (instruction.Address d l) = refl
placed_none i (instruction.Element d x y size) = refl
placed_none i (instruction.Jump to) = refl
placed_none i (instruction.Branch t x y to) = refl
placed_none i (instruction.Call f) = refl
placed_none i instruction.PutByte = refl
placed_none i instruction.GetByte = refl
placed_none i instruction.Exit = refl
placed_none i instruction.Return = refl

pub same_position : (room : Room) (code : List Instruction) (i : ℕ) (x : Instruction) → slice_get code i ≡ Some x → Position room (λ k. nothing) [] code i x
same_position room code i x e = record {
  half = x;
  done = x;
  done_is = e;
  by = inl refl;
  flow = nothing_flows room x i;
  out = inl (record { is = sym (placed_none i x); same = λ k g. ap is_same (none_status k i); right = λ k. stays_same [] k (none_status k) i x });
  cheap = omega arith;
}
