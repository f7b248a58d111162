-- Simpler code is as sound.
use Rattle.std.proofs.Common.{◌≡◌, ◌<◌, ◌≤◌, ⊎_elim, ℕ, zero, suc, ◌+◌, ◌-◌, ◌*◌, ◌^◌, ◌%◌, List, [], ◌∷◌, length, Some, None, Bool, true, false, refl, sym, ap, ◌∙◌, subst, arith}
use Rattle.std.specs.Prelude.{◌==◌, slice_get, set, get_or, nat_lt, nat_le, ◌&&◌, if◌then◌else◌}
use Rattle.std.specs.Int.{w32, trailing_zeros}
use Rattle.std.proofs.lemmas.Bool.{eqb-true, eqb-false, ltb-true}
use Rattle.std.proofs.lemmas.Bool.Decides.{nat_tests}
use Rattle.std.proofs.lemmas.List.{get_or-set_other}
use Rattle.rv32.specs.declared.instr.RegisterOp.{RegisterOp}
use Rattle.rv32.specs.declared.instr.RegisterOp.TheVariants as register_op
use Rattle.frames_code.specs.declared.code.Operand.{Operand}
use Rattle.frames_code.specs.declared.code.Operand.TheVariants as operand
use Rattle.frames_code.specs.declared.code.Target.{Target}
use Rattle.frames_code.specs.declared.code.Target.TheVariants as target
use Rattle.frames_code.specs.declared.code.Base.{Base}
use Rattle.frames_code.specs.declared.code.Base.TheVariants as base
use Rattle.frames_code.specs.declared.code.Location.{Location}
use Rattle.frames_code.specs.declared.code.Location.TheVariants as location
use Rattle.frames_code.specs.declared.code.Operation.{Operation}
use Rattle.frames_code.specs.declared.code.Operation.TheVariants as operation
use Rattle.frames_code.specs.declared.code.Instruction.{Instruction}
use Rattle.frames_code.specs.declared.code.Instruction.TheVariants as instruction
use Rattle.frames_code.specs.Code.{Function, area_home}
use Rattle.frames_code.specs.Sound.{OperandFits, TargetFits, BaseFits, IndexFits, is_power_of_two, LocationFits, InstructionFits, FunctionFits}
use Rattle.frames_opt.specs.declared.room.Room.{Room}
use Rattle.frames_opt.specs.declared.facts.Known.{Known}
use Rattle.frames_opt.specs.declared.facts.Known.TheVariants as known
use Rattle.frames_opt.specs.inside.Facts.{nothing, held, known_of, reference_to, is_target, killed, all_killed, learned, room_of, is_index, is_cheap, is_near, indexed_if, from_base, moved, further, indexed_from, result_on, computed, behind}
use Rattle.frames_opt.specs.inside.Rules.{constant_or, simpler_operand, location_or, simpler_location, carried, with_constant, with_power, is_power, with_word, arranged, compute, within, stepped, statics_or, frame_or, numbered, simpler_element, simpler}
use Rattle.frames_opt.specs.declared.statuses.Status.{Status}
use Rattle.frames_opt.specs.declared.rows.Row.{Row}
use Rattle.frames_opt.specs.declared.statuses.Status.TheVariants as status
use Rattle.frames_opt.specs.inside.Sweep.{status_at, offers, place_by, place_at, place_of, placed, is_left_out, swept_one, swept, fits, all_right, are_right}
use Rattle.frames_opt.specs.inside.Passes.{is_marked, fresh, forward}
use Rattle.frames_opt.specs.layer.Functions.{IsSimplerCode, stayed, improved, with_code, IsSimplerFunction}
use Rattle.frames_opt.proofs.Acts.{power_is, not_true}
use Rattle.frames_opt.proofs.Alike.{left_true, right_true}
use Rattle.frames_opt.proofs.Positions.{status_fits}
use Rattle.frames_opt.proofs.Stands.{held_in, held_map, set_same}

module _ (n : ℕ) (f : Function) where
  abbrev KnownFits : Known → Type 0
  KnownFits known.Unknown = Unit {0}
  KnownFits (known.Word w) = w < 2 ^ 32
  KnownFits (known.Statics o) = o < 0x10000000
  KnownFits (known.Frame o) = o < f.area
  KnownFits (known.Indexed b y size) = LocationFits f (location.Indexed b y size)

  abbrev FactsFit : List Known → Type 0
  FactsFit facts = (k : ℕ) → KnownFits (held facts k)

  abbrev Fits : Instruction → Type 0
  Fits x = InstructionFits n f x

  nothing_fits : FactsFit nothing
  nothing_fits k = subst KnownFits (sym (held_in 8 k)) tt

  fresh_fits : (m : Bool) (facts : List Known) → FactsFit facts → FactsFit (fresh m facts)
  fresh_fits true facts h = nothing_fits
  fresh_fits false facts h = h

  put_fits : (facts : List Known) (j : ℕ) (x : Known) → FactsFit facts → KnownFits x → FactsFit (set facts j x)
  put_fits facts j x h e k = on (k == j) refl
    where
      on : (t : Bool) → (k == j) ≡ t → KnownFits (held (set facts j x) k)
      on true u =
          subst (λ i. KnownFits (held (set facts j x) i)) (sym (eqb-true k j u))
          (⊎_elim (λ a. subst KnownFits (sym a) e) (λ a. subst KnownFits (sym a) tt) (set_same facts j x))
      on false u = subst KnownFits (sym (get_or-set_other facts j k x known.Unknown (eqb-false k j u))) (h k)

  if_fits : (u : Bool) (b : Base) (y : Operand) (size : ℕ) → LocationFits f (location.Indexed b y size) → KnownFits (if u then known.Unknown else known.Indexed b y size)
  if_fits true b y size e = tt
  if_fits false b y size e = e

  killed_fits : (d : Target) (x : Known) → KnownFits x → KnownFits (killed d x)
  killed_fits d known.Unknown e = tt
  killed_fits d (known.Word w) e = e
  killed_fits d (known.Statics o) e = e
  killed_fits d (known.Frame o) e = e
  killed_fits d (known.Indexed b y size) e = if_fits (is_target d y) b y size e

  all_fit : (d : Target) (facts : List Known) → FactsFit facts → FactsFit (all_killed d facts)
  all_fit d facts h k = subst KnownFits (sym (held_map (killed d) refl facts k)) (killed_fits d (held facts k) (h k))

  learned_fits : (facts : List Known) (d : Target) (x : Known) → FactsFit facts → KnownFits x → FactsFit (learned facts d x)
  learned_fits facts (target.Temporary j) x h e =
      put_fits (all_killed (target.Temporary j) facts) j (killed (target.Temporary j) x) (all_fit (target.Temporary j) facts h) (killed_fits (target.Temporary j) x e)
  learned_fits facts (target.Cell c) x h e = all_fit (target.Cell c) facts h

  -- ---- elements by an index

  abbrev room : Room
  room = room_of f

  indexed_if_fits : (u : Bool) (b : Base) (y : Operand) (size : ℕ) → (u ≡ true → LocationFits f (location.Indexed b y size)) → KnownFits (indexed_if u b y size)
  indexed_if_fits true b y size h = h refl
  indexed_if_fits false b y size h = tt

  index_fits : (y : Operand) → is_index y ≡ true → OperandFits f y → IndexFits f y
  index_fits (operand.Temporary k) e h = h
  index_fits (operand.Cell c) e h = h
  index_fits (operand.Constant v) e h = absurd (not_true e)
  index_fits (operand.Argument k) e h = absurd (not_true e)

  -- a bound that is within 12 bits is where the arrays begin
  bound_is : nat_le room.home 0x800 ≡ true → area_home f ≡ room.home
  bound_is e = on (nat_le f.outgoing 0x200 && nat_le f.cells 0x200) refl
    where
      on : (t : Bool) → (nat_le f.outgoing 0x200 && nat_le f.cells 0x200) ≡ t → area_home f ≡ room.home
      on true u = rw u refl
      on false u =
          let far : room.home ≡ 0x1000 = rw u refl in
          let no : nat_le 0x1000 0x800 ≡ true = ap (λ n. nat_le n 0x800) (sym far) ∙ e in
          absurd (not_true no)

  home_fits : nat_le room.home 0x800 ≡ true → area_home f ≤ 0x800
  home_fits e =
      let same = bound_is e in
      let le : room.home ≤ 0x800 = grind (arith, nat_tests) in
      omega (arith, same, le)

  base_fits : (b : Base) → is_near room b ≡ true → nat_le room.home 0x800 ≡ true → BaseFits f b
  base_fits (base.Statics o) e h = ltb-true o 0x1000 e
  base_fits (base.Frame o) e h =
      let inside : o < f.area = ltb-true o f.area (left_true (nat_lt o f.area) _ e) in
      let near : room.home + o < 0x800 = ltb-true (room.home + o) 0x800 (right_true (nat_lt o f.area) _ e) in
      let same = bound_is h in
      (inside, omega (arith, near, same))

  from_base_fits : (b : Base) (y : Operand) (size : ℕ) → OperandFits f y → KnownFits (from_base room b y size)
  from_base_fits b y size hy = indexed_if_fits (is_near room b && is_cheap room y size) b y size (λ e.
      let near = left_true (is_near room b) _ e in
      let cheap = right_true (is_near room b) _ e in
      let index = left_true (is_index y) _ cheap in
      let rest = right_true (is_index y) _ cheap in
      let power = left_true (is_power_of_two size) _ rest in
      let low = right_true (is_power_of_two size) _ rest in
      (base_fits b near low, index_fits y index hy, power, home_fits low))

  -- the arrays begin within 12 bits, and so does what names them
  le_test : (a b : ℕ) → a ≤ b → nat_le a b ≡ true
  le_test a b h = grind (arith, nat_tests)

  moved_fits : (b : Base) (z : Operand) (width k : ℕ) → LocationFits f (location.Indexed b z width) → is_near room (moved b k) ≡ true → LocationFits f (location.Indexed (moved b k) z width)
  moved_fits (base.Statics o) z width k h e = (ltb-true (o + k) 0x1000 e, h.1, h.2, h.3)
  moved_fits (base.Frame o) z width k h e =
      let inside : o + k < f.area = ltb-true (o + k) f.area (left_true (nat_lt (o + k) f.area) _ e) in
      let near : room.home + (o + k) < 0x800 = ltb-true (room.home + (o + k)) 0x800 (right_true (nat_lt (o + k) f.area) _ e) in
      let low : nat_le room.home 0x800 ≡ true = le_test room.home 0x800 (omega (arith, near)) in
      let same = bound_is low in
      ((inside, omega (arith, near, same)), h.1, h.2, h.3)

  further_fits : (b : Base) (z : Operand) (width : ℕ) (y : Operand) (size : ℕ) → LocationFits f (location.Indexed b z width) → KnownFits (further room b z width y size)
  further_fits b z width (operand.Temporary k) size h = tt
  further_fits b z width (operand.Cell c) size h = tt
  further_fits b z width (operand.Argument k) size h = tt
  further_fits b z width (operand.Constant n) size h = indexed_if_fits (is_near room (moved b (n * size))) (moved b (n * size)) z width (λ e. moved_fits b z width (n * size) h e)

  indexed_fits : (x : Known) (y : Operand) (size : ℕ) → KnownFits x → OperandFits f y → KnownFits (indexed_from room x y size)
  indexed_fits known.Unknown y size h hy = tt
  indexed_fits (known.Word w) y size h hy = tt
  indexed_fits (known.Statics o) y size h hy = from_base_fits (base.Statics o) y size hy
  indexed_fits (known.Frame o) y size h hy = from_base_fits (base.Frame o) y size hy
  indexed_fits (known.Indexed b z width) y size h hy = further_fits b z width y size h

  known_fits : (facts : List Known) (x : Operand) → FactsFit facts → OperandFits f x → KnownFits (known_of facts x)
  known_fits facts (operand.Temporary k) h e = h k
  known_fits facts (operand.Cell c) h e = tt
  known_fits facts (operand.Constant v) h e = e
  known_fits facts (operand.Argument k) h e = tt

  reference_fits : (l : Location) → LocationFits f l → KnownFits (reference_to l)
  reference_fits (location.Statics o) e = e
  reference_fits (location.Frame o) e = e
  reference_fits (location.At x) e = tt
  reference_fits (location.Indexed b y size) e = tt

  result_fits : (o : Operation) (a b : ℕ) → KnownFits (result_on o a b)
  result_fits (operation.Machine register_op.Add) a b = omega arith
  result_fits (operation.Machine register_op.Sub) a b = omega arith
  result_fits (operation.Machine register_op.ShiftLeft) a b = let lt : a * 2 ^ (b % 2 ^ 5) % 2 ^ 32 < 2 ^ 32 = omega arith in lt
  result_fits (operation.Machine register_op.Less) a b = tt
  result_fits (operation.Machine register_op.LessUnsigned) a b = tt
  result_fits (operation.Machine register_op.Xor) a b = tt
  result_fits (operation.Machine register_op.ShiftRight) a b = tt
  result_fits (operation.Machine register_op.ShiftRightArithmetic) a b = tt
  result_fits (operation.Machine register_op.Or) a b = tt
  result_fits (operation.Machine register_op.And) a b = tt
  result_fits (operation.Machine register_op.Mul) a b = let lt : a * b % 2 ^ 32 < 2 ^ 32 = omega arith in lt
  result_fits (operation.Machine register_op.MulHigh) a b = tt
  result_fits (operation.Machine register_op.MulHighSignedUnsigned) a b = tt
  result_fits (operation.Machine register_op.MulHighUnsigned) a b = tt
  result_fits (operation.Machine register_op.Div) a b = tt
  result_fits (operation.Machine register_op.DivUnsigned) a b = tt
  result_fits (operation.Machine register_op.Rem) a b = tt
  result_fits (operation.Machine register_op.RemUnsigned) a b = tt
  result_fits operation.Equal a b = tt
  result_fits operation.NotEqual a b = tt

  computed_fits : (o : Operation) (x y : Operand) → KnownFits (computed o x y)
  computed_fits o (operand.Temporary k) y = tt
  computed_fits o (operand.Cell c) y = tt
  computed_fits o (operand.Argument k) y = tt
  computed_fits o (operand.Constant a) (operand.Temporary k) = tt
  computed_fits o (operand.Constant a) (operand.Cell c) = tt
  computed_fits o (operand.Constant a) (operand.Constant b) = result_fits o a b
  computed_fits o (operand.Constant a) (operand.Argument k) = tt

  behind_fits : (facts : List Known) (y : Instruction) → FactsFit facts → Fits y → FactsFit (behind room facts y)
  behind_fits facts instruction.Nothing h e = h
  behind_fits facts (instruction.Move d x) h e = learned_fits facts d (known_of facts x) h (known_fits facts x h e.1)
  behind_fits facts (instruction.Compute o d x y) h e = learned_fits facts d (computed o x y) h (computed_fits o x y)
  behind_fits facts (instruction.Convert c d x) h e = learned_fits facts d known.Unknown h tt
  behind_fits facts (instruction.Load w d l) h e = learned_fits facts d known.Unknown h tt
  behind_fits facts (instruction.Store w x l) h e = h
  behind_fits facts (instruction.Address d l) h e = learned_fits facts d (reference_to l) h (reference_fits l e.1)
  behind_fits facts (instruction.Element d x y size) h e = learned_fits facts d (indexed_from room (known_of facts x) y size) h (indexed_fits (known_of facts x) y size (known_fits facts x h e.1) e.2)
  behind_fits facts (instruction.Jump to) h e = nothing_fits
  behind_fits facts (instruction.Branch t x y to) h e = h
  behind_fits facts (instruction.Call g) h e = nothing_fits
  behind_fits facts instruction.PutByte h e = nothing_fits
  behind_fits facts instruction.GetByte h e = nothing_fits
  behind_fits facts instruction.Exit h e = nothing_fits
  behind_fits facts instruction.Return h e = nothing_fits

  -- ---- instructions

  constant_fits : (x : Operand) (k : Known) → KnownFits k → OperandFits f x → OperandFits f (constant_or x k)
  constant_fits x known.Unknown h e = e
  constant_fits x (known.Word w) h e = h
  constant_fits x (known.Statics o) h e = e
  constant_fits x (known.Frame o) h e = e
  constant_fits x (known.Indexed b y size) h e = e

  place_fits : (x : Operand) (k : Known) → KnownFits k → OperandFits f x → LocationFits f (location_or x k)
  place_fits x known.Unknown h e = e
  place_fits x (known.Word w) h e = e
  place_fits x (known.Statics o) h e = h
  place_fits x (known.Frame o) h e = h
  place_fits x (known.Indexed b y size) h e = h

  either_fits : (t : Bool) (x y : Instruction) → Fits x → Fits y → Fits (if t then x else y)
  either_fits true x y a b = a
  either_fits false x y a b = b

  power_fits : (o : RegisterOp) (d : Target) (x : Operand) (k v : ℕ) → TargetFits f d → OperandFits f x → k < 32 → v < 2 ^ 32 → Fits (with_power o d x k v)
  power_fits register_op.Add d x k v hd hx hk hv = (hd, hx, hv)
  power_fits register_op.Sub d x k v hd hx hk hv = (hd, hx, hv)
  power_fits register_op.ShiftLeft d x k v hd hx hk hv = (hd, hx, hv)
  power_fits register_op.Less d x k v hd hx hk hv = (hd, hx, hv)
  power_fits register_op.LessUnsigned d x k v hd hx hk hv = (hd, hx, hv)
  power_fits register_op.Xor d x k v hd hx hk hv = (hd, hx, hv)
  power_fits register_op.ShiftRight d x k v hd hx hk hv = (hd, hx, hv)
  power_fits register_op.ShiftRightArithmetic d x k v hd hx hk hv = (hd, hx, hv)
  power_fits register_op.Or d x k v hd hx hk hv = (hd, hx, hv)
  power_fits register_op.And d x k v hd hx hk hv = (hd, hx, hv)
  power_fits register_op.Mul d x k v hd hx hk hv = (hd, hx, omega (arith, hk))
  power_fits register_op.MulHigh d x k v hd hx hk hv = (hd, hx, hv)
  power_fits register_op.MulHighSignedUnsigned d x k v hd hx hk hv = (hd, hx, hv)
  power_fits register_op.MulHighUnsigned d x k v hd hx hk hv = (hd, hx, hv)
  power_fits register_op.Div d x k v hd hx hk hv = (hd, hx, hv)
  power_fits register_op.DivUnsigned d x k v hd hx hk hv = (hd, hx, omega (arith, hk))
  power_fits register_op.Rem d x k v hd hx hk hv = (hd, hx, hv)
  power_fits register_op.RemUnsigned d x k v hd hx hk hv =
      either_fits (nat_lt k 12) (with_constant register_op.And d x (v - 1)) (with_constant register_op.RemUnsigned d x v) (hd, hx, omega (arith, hv)) (hd, hx, hv)

  word_fits : (o : RegisterOp) (d : Target) (x : Operand) (v : ℕ) → TargetFits f d → OperandFits f x → v < 2 ^ 32 → Fits (with_word o d x v)
  word_fits o d x v hd hx hv = on (trailing_zeros w32 v) (is_power (trailing_zeros w32 v) v) refl
    where
      on : (k : ℕ) (t : Bool) → is_power k v ≡ t → Fits (if t then with_power o d x k v else with_constant o d x v)
      on k true e = power_fits o d x k v hd hx (power_is k v e).small hv
      on k false e = (hd, hx, hv)

  arranged_fits : (o : Operation) (d : Target) (x y : Operand) → TargetFits f d → OperandFits f x → OperandFits f y → Fits (arranged o d x y)
  arranged_fits (operation.Machine o) d x (operand.Temporary k) hd hx hy = (hd, hx, hy)
  arranged_fits (operation.Machine o) d x (operand.Cell c) hd hx hy = (hd, hx, hy)
  arranged_fits (operation.Machine o) d x (operand.Constant v) hd hx hy = word_fits o d x v hd hx hy
  arranged_fits (operation.Machine o) d x (operand.Argument k) hd hx hy = (hd, hx, hy)
  arranged_fits operation.Equal d x y hd hx hy = (hd, hx, hy)
  arranged_fits operation.NotEqual d x y hd hx hy = (hd, hx, hy)

  compute_fits : (o : Operation) (d : Target) (x y : Operand) → TargetFits f d → OperandFits f x → OperandFits f y → Fits (compute o d x y)
  compute_fits o d x y hd hx hy = either_fits _ (arranged o d y x) (arranged o d x y) (arranged_fits o d y x hd hy hx) (arranged_fits o d x y hd hx hy)

  carried_fits : (d : Target) (x : Operand) → TargetFits f d → OperandFits f x → Fits (carried d x)
  carried_fits d x hd hx = either_fits (is_target d x) instruction.Nothing (instruction.Move d x) tt (hd, hx)

  stepped_fits : (d : Target) (x : Operand) (m size : ℕ) → TargetFits f d → OperandFits f x → m < 2 ^ 32 → size < 2 ^ 32 → Fits (stepped d x m size)
  stepped_fits d x m size hd hx hm hs = either_fits (m == 0) (carried d x) (instruction.Element d x (operand.Constant m) size) (carried_fits d x hd hx) (hd, hx, hm, hs)

  statics_fits : (o m size : ℕ) (d : Target) (x : Operand) → TargetFits f d → OperandFits f x → m < 2 ^ 32 → size < 2 ^ 32 → Fits (statics_or (within o m size 0x10000000) d x m size)
  statics_fits o m size d x hd hx hm hs = on (nat_lt (o + m * size) 0x10000000) refl
    where
      on : (t : Bool) → nat_lt (o + m * size) 0x10000000 ≡ t → Fits (statics_or (if t then Some (o + m * size) else None) d x m size)
      on true e = (hd, ltb-true (o + m * size) 0x10000000 e)
      on false e = stepped_fits d x m size hd hx hm hs

  frame_fits : (o m size : ℕ) (d : Target) (x : Operand) → TargetFits f d → OperandFits f x → m < 2 ^ 32 → size < 2 ^ 32 → Fits (frame_or (within o m size f.area) d x m size)
  frame_fits o m size d x hd hx hm hs = on (nat_lt (o + m * size) f.area) refl
    where
      on : (t : Bool) → nat_lt (o + m * size) f.area ≡ t → Fits (frame_or (if t then Some (o + m * size) else None) d x m size)
      on true e = (hd, ltb-true (o + m * size) f.area e)
      on false e = stepped_fits d x m size hd hx hm hs

  numbered_fits : (k : Known) (d : Target) (x : Operand) (m size : ℕ) → TargetFits f d → OperandFits f x → m < 2 ^ 32 → size < 2 ^ 32 → Fits (numbered f.area k d x m size)
  numbered_fits known.Unknown d x m size hd hx hm hs = stepped_fits d x m size hd hx hm hs
  numbered_fits (known.Word w) d x m size hd hx hm hs = stepped_fits d x m size hd hx hm hs
  numbered_fits (known.Statics o) d x m size hd hx hm hs = statics_fits o m size d x hd hx hm hs
  numbered_fits (known.Frame o) d x m size hd hx hm hs = frame_fits o m size d x hd hx hm hs
  numbered_fits (known.Indexed b y width) d x m size hd hx hm hs = stepped_fits d x m size hd hx hm hs

  element_fits : (k : Known) (d : Target) (x y : Operand) (size : ℕ) → TargetFits f d → OperandFits f x → OperandFits f y → size < 2 ^ 32 → Fits (simpler_element f.area k d x y size)
  element_fits k d x (operand.Temporary j) size hd hx hy hs = (hd, hx, hy, hs)
  element_fits k d x (operand.Cell c) size hd hx hy hs = (hd, hx, hy, hs)
  element_fits k d x (operand.Constant m) size hd hx hy hs = numbered_fits k d x m size hd hx hy hs
  element_fits k d x (operand.Argument j) size hd hx hy hs = (hd, hx, hy, hs)

  module _ (facts : List Known) (h : FactsFit facts) where
    operand_fits : (x : Operand) → OperandFits f x → OperandFits f (simpler_operand facts x)
    operand_fits x e = constant_fits x (known_of facts x) (known_fits facts x h e) e

    location_fits : (l : Location) → LocationFits f l → LocationFits f (simpler_location facts l)
    location_fits (location.Statics o) e = e
    location_fits (location.Frame o) e = e
    location_fits (location.At x) e = place_fits x (known_of facts x) (known_fits facts x h e) e
    location_fits (location.Indexed b y size) e = e

    simpler_fits : (x : Instruction) → Fits x → Fits (simpler f.area facts x)
    simpler_fits instruction.Nothing e = tt
    simpler_fits (instruction.Move d x) e = carried_fits d (simpler_operand facts x) e.0 (operand_fits x e.1)
    simpler_fits (instruction.Compute o d x y) e = compute_fits o d (simpler_operand facts x) (simpler_operand facts y) e.0 (operand_fits x e.1) (operand_fits y e.2)
    simpler_fits (instruction.Convert c d x) e = e
    simpler_fits (instruction.Load w d l) e = (e.0, location_fits l e.1)
    simpler_fits (instruction.Store w x l) e = (operand_fits x e.0, location_fits l e.1)
    simpler_fits (instruction.Address d l) e = (e.0, location_fits l e.1)
    simpler_fits (instruction.Element d x y size) e = element_fits (known_of facts x) d x (simpler_operand facts y) size e.0 e.1 (operand_fits y e.2) e.3
    simpler_fits (instruction.Jump to) e = e
    simpler_fits (instruction.Branch t x y to) e = (operand_fits x e.0, operand_fits y e.1, e.2)
    simpler_fits (instruction.Call g) e = e
    simpler_fits instruction.PutByte e = tt
    simpler_fits instruction.GetByte e = tt
    simpler_fits instruction.Exit e = tt
    simpler_fits instruction.Return e = tt

  -- ---- code

  abbrev AllFit : List Instruction → Type 0
  AllFit xs = (k : ℕ) (x : Instruction) → slice_get xs k ≡ Some x → Fits x

  forward_fits : (marks : List Bool) (i : ℕ) (facts : List Known) (xs : List Instruction) → FactsFit facts → AllFit xs → AllFit (forward room marks i facts xs)
  forward_fits marks i facts [] h all k y e = absurd (let z : ⊥ = cc in z)
  forward_fits marks i facts (x ∷ xs) h all zero y e =
      let same : simpler f.area (fresh (is_marked marks i) facts) x ≡ y = cc in
      subst Fits same (simpler_fits (fresh (is_marked marks i) facts) (fresh_fits (is_marked marks i) facts h) x (all 0 x refl))
  forward_fits marks i facts (x ∷ xs) h all (suc k) y e =
      let here = fresh (is_marked marks i) facts in
      let fits = fresh_fits (is_marked marks i) facts h in
      forward_fits marks (i + 1) (behind room here (simpler f.area here x)) xs (behind_fits here (simpler f.area here x) fits (simpler_fits here fits x (all 0 x refl))) (λ j. all (suc j)) k y e

  module _ (states : List Row) (i : ℕ) (each : (k : ℕ) → fits room k (status_at states i k) ≡ true) where
    by_fits : (k : ℕ) (z : Status) → fits room k z ≡ true → OperandFits f (operand.Temporary k) → LocationFits f (place_by z k)
    by_fits k status.Same e h = h
    by_fits k status.Dead e h = h
    by_fits k (status.Index b size) e h =
        let near = left_true (is_near room b) _ e in
        let rest = right_true (is_index (operand.Temporary k)) _ (right_true (is_near room b) _ e) in
        let power = left_true (is_power_of_two size) _ rest in
        let low = right_true (is_power_of_two size) _ rest in
        (base_fits b near low, h, power, home_fits low)

    at_fits : (x : Operand) → OperandFits f x → LocationFits f (place_at states i x)
    at_fits (operand.Temporary k) h = by_fits k (status_at states i k) (each k) h
    at_fits (operand.Cell c) h = h
    at_fits (operand.Constant v) h = h
    at_fits (operand.Argument k) h = h

    of_fits : (l : Location) → LocationFits f l → LocationFits f (place_of states i l)
    of_fits (location.Statics o) h = h
    of_fits (location.Frame o) h = h
    of_fits (location.At x) h = at_fits x h
    of_fits (location.Indexed b y size) h = h

    placed_fits : (x : Instruction) → Fits x → Fits (placed states i x)
    placed_fits instruction.Nothing e = e
    placed_fits (instruction.Move d x) e = e
    placed_fits (instruction.Compute o d x y) e = e
    placed_fits (instruction.Convert c d x) e = e
    placed_fits (instruction.Load w d l) e = (e.0, of_fits l e.1)
    placed_fits (instruction.Store w x l) e = (e.0, of_fits l e.1)
    placed_fits (instruction.Address d l) e = e
    placed_fits (instruction.Element d x y size) e = e
    placed_fits (instruction.Jump to) e = e
    placed_fits (instruction.Branch t x y to) e = e
    placed_fits (instruction.Call g) e = e
    placed_fits instruction.PutByte e = e
    placed_fits instruction.GetByte e = e
    placed_fits instruction.Exit e = e
    placed_fits instruction.Return e = e

  swept_fits : (states : List Row) (list : List Known) (i : ℕ) (xs : List Instruction) → are_right room states list i xs ≡ true → AllFit xs → AllFit (swept states i xs)
  swept_fits states list i [] right all k y e = absurd (let z : ⊥ = cc in z)
  swept_fits states list i (x ∷ xs) right all zero y e =
      let same : swept_one states i x ≡ y = cc in
      let here = left_true (all_right room states i (get_or list i known.Unknown) x) _ right in
      subst Fits same (either_fits (is_left_out states i x) instruction.Nothing (placed states i x) tt (placed_fits states i (status_fits room states i (get_or list i known.Unknown) x here) x (all 0 x refl)))
  swept_fits states list i (x ∷ xs) right all (suc k) y e =
      swept_fits states list (i + 1) xs (right_true (all_right room states i (get_or list i known.Unknown) x) _ right) (λ j. all (suc j)) k y e

  simpler_code_fits : (new : List Instruction) → IsSimplerCode room f.code new → AllFit f.code → AllFit new
  simpler_code_fits new (stayed e) all = subst AllFit (sym e) all
  simpler_code_fits new (improved c) all = subst AllFit (sym c.is) (swept_fits c.states (offers room c.marks 0 nothing f.code) 0 (forward room c.marks 0 nothing f.code) c.right (forward_fits c.marks 0 nothing f.code nothing_fits all))

-- ---- as many instructions

forward_length : (r : Room) (marks : List Bool) (i : ℕ) (facts : List Known) (xs : List Instruction) → length (forward r marks i facts xs) ≡ length xs
forward_length r marks i facts [] = refl
forward_length r marks i facts (x ∷ xs) = ap suc (forward_length r marks (i + 1) (behind r (fresh (is_marked marks i) facts) (simpler r.area (fresh (is_marked marks i) facts) x)) xs)

swept_length : (states : List Row) (i : ℕ) (xs : List Instruction) → length (swept states i xs) ≡ length xs
swept_length states i [] = refl
swept_length states i (x ∷ xs) = ap suc (swept_length states (i + 1) xs)

pub code_length : (r : Room) (old new : List Instruction) → IsSimplerCode r old new → length new ≡ length old
code_length r old new (stayed e) = ap length e
code_length r old new (improved c) = ap length c.is ∙ (swept_length c.states 0 (forward r c.marks 0 nothing old) ∙ forward_length r c.marks 0 nothing old)

-- ---- functions

-- the needs of an instruction of its function, apart from its count of instructions
module _ (n : ℕ) (f : Function) (code : List Instruction) (count : length code ≡ length f.code) where
  abbrev g : Function
  g = with_code f code

  operand_stays : (x : Operand) → OperandFits f x → OperandFits g x
  operand_stays (operand.Temporary k) e = e
  operand_stays (operand.Cell c) e = e
  operand_stays (operand.Constant v) e = e
  operand_stays (operand.Argument k) e = e

  target_stays : (d : Target) → TargetFits f d → TargetFits g d
  target_stays (target.Temporary k) e = e
  target_stays (target.Cell c) e = e

  base_stays : (b : Base) → BaseFits f b → BaseFits g b
  base_stays (base.Statics o) e = e
  base_stays (base.Frame o) e = e

  index_stays : (y : Operand) → IndexFits f y → IndexFits g y
  index_stays (operand.Temporary k) e = e
  index_stays (operand.Cell c) e = e
  index_stays (operand.Constant v) e = e
  index_stays (operand.Argument k) e = e

  location_stays : (l : Location) → LocationFits f l → LocationFits g l
  location_stays (location.Statics o) e = e
  location_stays (location.Frame o) e = e
  location_stays (location.At x) e = operand_stays x e
  location_stays (location.Indexed b y size) e = (base_stays b e.0, index_stays y e.1, e.2, e.3)

  jump_stays : (to : ℕ) → to < length f.code → to < length code
  jump_stays to e = subst (λ m. to < m) (sym count) e

  stays : (x : Instruction) → InstructionFits n f x → InstructionFits n g x
  stays instruction.Nothing e = tt
  stays (instruction.Move d x) e = (target_stays d e.0, operand_stays x e.1)
  stays (instruction.Compute o d x y) e = (target_stays d e.0, operand_stays x e.1, operand_stays y e.2)
  stays (instruction.Convert c d x) e = (target_stays d e.0, operand_stays x e.1)
  stays (instruction.Load w d l) e = (target_stays d e.0, location_stays l e.1)
  stays (instruction.Store w x l) e = (operand_stays x e.0, location_stays l e.1)
  stays (instruction.Address d l) e = (target_stays d e.0, location_stays l e.1)
  stays (instruction.Element d x y size) e = (target_stays d e.0, operand_stays x e.1, operand_stays y e.2, e.3)
  stays (instruction.Jump to) e = jump_stays to e
  stays (instruction.Branch t x y to) e = (operand_stays x e.0, operand_stays y e.1, jump_stays to e.2)
  stays (instruction.Call h) e = e
  stays instruction.PutByte e = tt
  stays instruction.GetByte e = tt
  stays instruction.Exit e = tt
  stays instruction.Return e = tt

pub function_fits : (n : ℕ) (f g : Function) → IsSimplerFunction f g → FunctionFits n f → FunctionFits n g
function_fits n f g r fits =
    let count = code_length (room_of f) f.code g.code r.code in
    let every = simpler_code_fits n f g.code r.code fits.each in
    let whole : FunctionFits n (with_code f g.code) = record {
      small = fits.small;
      few = fits.few;
      all = fits.all;
      each = λ k x e. stays n f g.code count x (every k x e);
    } in
    subst (FunctionFits n) (sym r.is) whole
