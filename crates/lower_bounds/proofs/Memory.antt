-- Code of values in memory keeps within its room, and is fine.
use Rattle.std.proofs.Common.{◌≡◌, ℕ, ◌+◌, ◌*◌, ◌<◌, ◌≤◌, ◌^◌, Option, Some, None, Bool, true, false, ◌||◌, refl, arith}
use Rattle.ctypes.specs.declared.types.IntType.{IntType}
use Rattle.ctypes.specs.declared.operators.BinOp.{BinOp}
use Rattle.typing_spec.specs.Program as typed
use Rattle.typing_spec.specs.Program.{Place, Value, Moment}
use Rattle.typing_spec.specs.Nodes.{place_nodes, value_nodes}
use Rattle.tac_code.specs.declared.code.Operand.{Operand}
use Rattle.tac_code.specs.declared.code.Operand.TheVariants as operand
use Rattle.tac_code.specs.declared.code.Target.{Target}
use Rattle.tac_code.specs.declared.code.Target.TheVariants as target
use Rattle.tac_code.specs.declared.code.Place.{Place as Spot}
use Rattle.tac_code.specs.declared.code.Place.TheVariants as place
use Rattle.tac_code.specs.declared.code.Instruction.TheVariants as instruction
use Rattle.lower_wf.specs.Asked.{is_wide}
use Rattle.lower_correct.specs.Values.{reading_of, Mode, Nowhere, To, If, mode_of, target_of}
use Rattle.lower_correct.specs.Places.{cuts}
use Rattle.lower_correct.specs.Code.{OnObject, One, Parts, PartsNamed, Gets, Puts, Alters, AltersAside, AltersBy, HandsOver, Finds, Into}
use Rattle.lower_bounds.proofs.Grounds.{Ground, sizes, IsNumber, OperandFine, TargetFine, SpotFine, SizeFine, ModeLands, Aims}
use Rattle.lower_bounds.proofs.Stretches.{Within, one, none, join, settle, aimed}
use Rattle.lower_bounds.proofs.Operands.{Free, RestsFine, target_fine, target_lands, mode_aims}
use Rattle.lower_bounds.proofs.Leaves.{ends_within, follows_within, computes_within}

one_small : 1 < 2 ^ 32
one_small = omega arith

lt : (t b : ℕ) → t + 1 < b → t < b
lt t b h = omega (arith, h)

-- ---- room

element_room : (a i : ℕ) → 128 * (1 + (a + (i + 1))) + 124 ≤ 128 * (a + i + 1) + (124 + (124 + (32 + 52)))
element_room a i = omega arith

read_room : (p : ℕ) → 128 * (p + 1) + 32 ≤ 128 * p + (124 + 68)
read_room p = omega arith

assigned_room : (p e : ℕ) → 128 * (1 + (p + (e + 1))) + 32 ≤ 128 * (p + e + 1) + (124 + (124 + (32 + 36)))
assigned_room p e = omega arith

compound_room : (p e : ℕ) → 128 * (1 + (p + (e + (1 + 2)))) + 32 ≤ 128 * (p + e + 1) + (124 + (124 + (32 + (100 + 76))))
compound_room p e = omega arith

stepped_room : (p : ℕ) → 128 * (1 + (p + (1 + 2))) + 32 ≤ 128 * (p + 1) + (124 + (124 + (100 + 76)))
stepped_room p = omega arith

pub on : (p q l : ℕ) → p ≤ q → q ≤ l → p ≤ l
on p q l x y = omega (arith, x, y)

module _ (z : Ground) where
  -- ---- parts, loads and stores

  named_parts_within : {A : Type 0} (a : Spot) (g : Target) (i : Operand) (size t pc pc2 : ℕ) → TargetFine z g → SpotFine z a → OperandFine z i → t < z.bound
      → SizeFine z size
      → PartsNamed z.code a g i size t pc pc2 → Within z A 1 52 pc pc2
  named_parts_within a g i size t pc pc2 fg fa fi ft fs h =
      settle z 1 52 (omega arith) (join z (one z _ 104 pc h.0 h.1 (omega arith) (λ x. (ft, fa))) (one z _ 76 h.0 pc2 h.2 (omega arith) (λ x. (fg, ft, fi, fs))))

  pub parts_within : {A : Type 0} (a : Spot) (g : Target) (i : Operand) (size t pc pc2 : ℕ) → TargetFine z g → SpotFine z a → OperandFine z i → t < z.bound
      → SizeFine z size
      → Parts z.code a g i size t pc pc2 → Within z A 1 52 pc pc2
  parts_within (place.At o) g i size t pc pc2 fg fa fi ft fs h = settle z 1 52 (omega arith) (one z _ 76 pc pc2 h (omega arith) (λ x. (fg, fa, fi, fs)))
  parts_within (place.Literal n) g i size t pc pc2 fg fa fi ft fs h = named_parts_within (place.Literal n) g i size t pc pc2 fg fa fi ft fs h
  parts_within (place.Static n) g i size t pc pc2 fg fa fi ft fs h = named_parts_within (place.Static n) g i size t pc pc2 fg fa fi ft fs h
  parts_within (place.Array n) g i size t pc pc2 fg fa fi ft fs h = named_parts_within (place.Array n) g i size t pc pc2 fg fa fi ft fs h
  parts_within (place.Element n j u) g i size t pc pc2 fg fa fi ft fs h = named_parts_within (place.Element n j u) g i size t pc pc2 fg fa fi ft fs h

  gets_within : (u : IntType) (a : Spot) (m : Mode) (t k pc pc2 : ℕ) → ModeLands z m t k → Free z t k → SpotFine z a → Gets z.code u a m t pc pc2
      → Within z (Aims z m pc2) 1 68 pc pc2
  gets_within u a m t k pc pc2 l f fa i =
      settle z 1 68 (omega arith) (join z (one z _ 100 pc i.0 i.1 (omega arith) (λ x. (target_fine z (target_of m t) t k f (target_lands z m t k l), fa)))
      (follows_within z m t k i.0 pc2 l f i.2))

  puts_within : (b : Bool) (u : IntType) (o : Operand) (a : Spot) (m : Mode) (j t k pc pc2 : ℕ) → ModeLands z m t k → Free z t k → OperandFine z o
      → SpotFine z a → j < z.bound
      → Puts z.code b u o a m j pc pc2 → Within z (Aims z m pc2) 1 36 pc pc2
  puts_within true u o a m j t k pc pc2 l f fo fa fj i =
      settle z 1 36 (omega arith) (join z (one z _ 100 pc i.0 i.1 (omega arith) (λ x. (fo, fa))) (ends_within z m o t k i.0 pc2 l f fo i.2))
  puts_within false u o a m j t k pc pc2 l f fo fa fj i =
      settle z 1 36 (omega arith) (join z (one z _ 96 pc i.0 i.2 (omega arith) (λ x. (fj, fo))) (join z (one z _ 100 i.0 i.1 i.3 (omega arith) (λ x. (fj, fa)))
      (ends_within z m (operand.Temporary j) t k i.1 pc2 l f fj i.4)))

  -- where the value is not used
  stores_within : {A : Type 0} (b : Bool) (u : IntType) (o : Operand) (a : Spot) (j pc pc2 : ℕ) → OperandFine z o → SpotFine z a → j < z.bound
      → Puts z.code b u o a Nowhere j pc pc2 → Within z A 1 68 pc pc2
  stores_within true u o a j pc pc2 fo fa fj i = settle z 1 68 (omega arith)
      (join z (one z _ 100 pc i.0 i.1 (omega arith) (λ x. (fo, fa))) (none z i.0 pc2 i.2))
  stores_within false u o a j pc pc2 fo fa fj i =
      settle z 1 68 (omega arith) (join z (one z _ 96 pc i.0 i.2 (omega arith) (λ x. (fj, fo))) (join z (one z _ 100 i.0 i.1 i.3 (omega arith) (λ x. (fj, fa)))
      (none z i.1 pc2 i.4)))

  -- ---- changes of a value (6.5.16.2, 6.5.2.4, 6.5.3.1)

  alters_within : (o : BinOp) (u of : IntType) (b : Operand) (a : Spot) (m : Mode) (j t k pc pc2 : ℕ) → ModeLands z m t k → Free z t k → OperandFine z b
      → SpotFine z a → j < z.bound
      → Alters z.code o u of b a m j pc pc2 → Within z (Aims z m pc2) 2 76 pc pc2
  alters_within o u of b a m j t k pc pc2 l f fb fa fj i =
      settle z 2 76 (omega arith) (join z (computes_within z o (reading_of of) (target.Temporary j) (operand.Temporary j) b j pc i.0 fj fj fb fj i.1)
      (puts_within (cuts u m || is_wide u) u (operand.Temporary j) a m j t k i.0 pc2 l f fj fa fj i.2))

  alters_aside_within : (o : BinOp) (u of : IntType) (a : Spot) (m : Mode) (j t k pc pc2 : ℕ) → ModeLands z m t k → Free z t k → SpotFine z a → j + 1 < z.bound
      → AltersAside z.code o u of a m j pc pc2 → Within z (Aims z m pc2) 2 76 pc pc2
  alters_aside_within o u of a m j t k pc pc2 l f fa fj i =
      settle z 2 76 (omega arith)
      (join z (computes_within z o (reading_of of) (target.Temporary (j + 1)) (operand.Temporary j) (operand.Constant 1) (j + 1) pc i.0 fj
      (lt j z.bound fj) one_small fj i.2)
      (join z (stores_within (cuts u Nowhere || is_wide u) u (operand.Temporary (j + 1)) a (j + 1) i.0 i.1 fj fa fj i.3)
      (ends_within z m (operand.Temporary j) t k i.1 pc2 l f (lt j z.bound fj) i.4)))

  alters_by_within : (moment : Moment) (o : BinOp) (u of : IntType) (a : Spot) (m : Mode) (j t k pc pc2 : ℕ) → ModeLands z m t k → Free z t k → SpotFine z a
      → j + 1 < z.bound
      → AltersBy z.code moment o u of a m j pc pc2 → Within z (Aims z m pc2) 2 76 pc pc2
  alters_by_within typed.before o u of a m j t k pc pc2 l f fa fj i = alters_within o u of (operand.Constant 1) a m j t k pc pc2 l f one_small fa
      (lt j z.bound fj) i
  alters_by_within typed.after o u of a Nowhere j t k pc pc2 l f fa fj i =
      alters_within o u of (operand.Constant 1) a Nowhere j t k pc pc2 l f one_small fa (lt j z.bound fj) i
  alters_by_within typed.after o u of a (To g) j t k pc pc2 l f fa fj i = alters_aside_within o u of a (To g) j t k pc pc2 l f fa fj i
  alters_by_within typed.after o u of a (If sense to) j t k pc pc2 l f fa fj i = alters_aside_within o u of a (If sense to) j t k pc pc2 l f fa fj i

  -- ---- arguments

  pub hands_over_within : {A : Type 0} (a : Spot) (t pc pc2 : ℕ) → SpotFine z a → t < z.bound → HandsOver z.code a t pc pc2 → Within z A 1 104 pc pc2
  hands_over_within (place.At (operand.Temporary j)) t pc pc2 fa ft i = settle z 1 104 (omega arith) (none z pc pc2 i)
  hands_over_within (place.At (operand.Kept j)) t pc pc2 fa ft i = one z _ 104 pc pc2 i (omega arith) (λ x. (ft, fa))
  hands_over_within (place.At (operand.Object j)) t pc pc2 fa ft i = one z _ 104 pc pc2 i (omega arith) (λ x. (ft, fa))
  hands_over_within (place.At (operand.Parameter j)) t pc pc2 fa ft i = one z _ 104 pc pc2 i (omega arith) (λ x. (ft, fa))
  hands_over_within (place.At (operand.Constant j)) t pc pc2 fa ft i = one z _ 104 pc pc2 i (omega arith) (λ x. (ft, fa))
  hands_over_within (place.Literal n) t pc pc2 fa ft i = one z _ 104 pc pc2 i (omega arith) (λ x. (ft, fa))
  hands_over_within (place.Static n) t pc pc2 fa ft i = one z _ 104 pc pc2 i (omega arith) (λ x. (ft, fa))
  hands_over_within (place.Array n) t pc pc2 fa ft i = one z _ 104 pc pc2 i (omega arith) (λ x. (ft, fa))
  hands_over_within (place.Element n j u) t pc pc2 fa ft i = one z _ 104 pc pc2 i (omega arith) (λ x. (ft, fa))

  -- ---- parts of expressions

  -- an expression's code is within its nodes' room, for each use of its value
  abbrev pub DoesAt : Value → ℕ → ℕ → Type 0
  DoesAt e t k = (m : Mode) (pc pc2 : ℕ) → ModeLands z m t k → Into z.code (sizes z) e m t k pc pc2 → Within z (Aims z m pc2) (value_nodes e) 32 pc pc2

  -- the code that finds a place is, and leaves more
  abbrev pub FindsAt : Place → Bool → ℕ → ℕ → Type 0
  FindsAt a c t k = (pc pc2 : ℕ) → Finds z.code (sizes z) a c t k pc pc2 → Within z (pc2 ≤ z.limit) (place_nodes a) 124 pc pc2

  pub nothing : {A : Type 0} (pc pc2 : ℕ) → One z.code instruction.Nothing pc pc2 → Within z A 1 124 pc pc2
  nothing pc pc2 i = one z _ 124 pc pc2 i (omega arith) (λ a. tt)

  -- a part whose value goes to an operand; a place
  pub held : {u d pc : ℕ} (m : Mode) (o : Operand) (p pc2 : ℕ) → p ≤ pc2 → Within z (Aims z (mode_of o) p) u d pc p → Within z (Aims z m pc2) u d pc p
  held m o p pc2 h s = aimed z (λ a. (on p pc2 z.limit h a.0, mode_aims z o)) s

  pub placed : {u d pc : ℕ} (m : Mode) (p pc2 : ℕ) → p ≤ pc2 → Within z (p ≤ z.limit) u d pc p → Within z (Aims z m pc2) u d pc p
  placed m p pc2 h s = aimed z (λ a. on p pc2 z.limit h a.0) s

  -- a place that is an object of the call, or is in memory
  pub on_object : {G : Type 0} (o : Option ℕ) (F : ℕ → Type 0) (M : Type 0) → RestsFine z o → OnObject o F M → ((x : ℕ) → IsNumber z x → F x → G)
      → (o ≡ None → M → G) → G
  on_object None F M r i g h = h refl i
  on_object (Some x) F M r i g h = g x r i

  -- ---- expressions

  pub element_within : (array : Place) (index : Value) (b : Bool) (t k t2 k2 j size : ℕ) (a : Spot) (g : Target) (x : Operand) (pc p1 p2 p3 pc2 : ℕ)
      → FindsAt array b t k
      → DoesAt index t2 k2 → ModeLands z (mode_of x) t2 k2 → TargetFine z g → SpotFine z a → OperandFine z x → j < z.bound → SizeFine z size
      → One z.code instruction.Nothing pc p1 → Finds z.code (sizes z) array b t k p1 p2 → Into z.code (sizes z) index (mode_of x) t2 k2 p2 p3
      → Parts z.code a g x size j p3 pc2
      → Within z (pc2 ≤ z.limit) (place_nodes array + value_nodes index + 1) 124 pc pc2
  element_within array index b t k t2 k2 j size a g x pc p1 p2 p3 pc2 da di l fg fa fx fj fs i1 i2 i3 i4 =
      let last = parts_within a g x size j p3 pc2 fg fa fx fj fs i4 in
      let middle = di (mode_of x) p2 p3 l i3 in
      settle z (place_nodes array + value_nodes index + 1) 124 (element_room (place_nodes array) (value_nodes index)) (join z (nothing pc p1 i1)
      (join z (aimed z (λ p. on p2 pc2 z.limit (on p2 p3 pc2 middle.forward last.forward) p) (da p1 p2 i2))
      (join z (aimed z (λ p. (on p3 pc2 z.limit last.forward p, mode_aims z x)) middle) last)))

  pub read_memory : (u : IntType) (place : Place) (m : Mode) (t k : ℕ) (a : Spot) (pc p1 pc2 : ℕ) → ModeLands z m t k → Free z t k → FindsAt place false t k
      → SpotFine z a
      → Finds z.code (sizes z) place false t k pc p1 → Gets z.code u a m t p1 pc2 → Within z (Aims z m pc2) (place_nodes place) 32 pc pc2
  read_memory u place m t k a pc p1 pc2 l f da fa i1 i2 =
      let last = gets_within u a m t k p1 pc2 l f fa i2 in
      settle z (place_nodes place) 32 (read_room (place_nodes place)) (join z (placed m p1 pc2 last.forward (da pc p1 i1)) last)

  -- t2 and k2 are the first temporary and slot that are free in addition to the place
  pub assigned_memory : (stays : Bool) (u : IntType) (place : Place) (e : Value) (m : Mode) (b : Bool) (t k t2 k2 : ℕ) (a : Spot) (x : Operand)
      (pc p1 p2 p3 pc2 : ℕ)
      → ModeLands z m t k → Free z t k → FindsAt place b t k → DoesAt e t2 k2 → ModeLands z (mode_of x) t2 k2 → SpotFine z a → OperandFine z x → t2 < z.bound
      → One z.code instruction.Nothing pc p1 → Finds z.code (sizes z) place b t k p1 p2 → Into z.code (sizes z) e (mode_of x) t2 k2 p2 p3
      → Puts z.code stays u x a m t2 p3 pc2
      → Within z (Aims z m pc2) (place_nodes place + value_nodes e + 1) 32 pc pc2
  assigned_memory stays u place e m b t k t2 k2 a x pc p1 p2 p3 pc2 l f da de lx fa fx ft i1 i2 i3 i4 =
      let last = puts_within stays u x a m t2 t k p3 pc2 l f fx fa ft i4 in
      let middle = de (mode_of x) p2 p3 lx i3 in
      settle z (place_nodes place + value_nodes e + 1) 32 (assigned_room (place_nodes place) (value_nodes e)) (join z (nothing pc p1 i1)
      (join z (placed m p2 pc2 (on p2 p3 pc2 middle.forward last.forward) (da p1 p2 i2)) (join z (held m x p3 pc2 last.forward middle) last)))

  pub compound_memory : (o : BinOp) (u of : IntType) (place : Place) (e : Value) (m : Mode) (b : Bool) (t k t2 k2 j : ℕ) (a : Spot) (x : Operand)
      (pc p1 p2 p3 p4 pc2 : ℕ)
      → ModeLands z m t k → Free z t k → FindsAt place b t k → DoesAt e t2 k2 → ModeLands z (mode_of x) t2 k2 → SpotFine z a → OperandFine z x → j < z.bound
      → One z.code instruction.Nothing pc p1 → Finds z.code (sizes z) place b t k p1 p2 → Into z.code (sizes z) e (mode_of x) t2 k2 p2 p3
      → One z.code (instruction.Load u (target.Temporary j) a) p3 p4 → Alters z.code o u of x a m j p4 pc2
      → Within z (Aims z m pc2) (place_nodes place + value_nodes e + 1) 32 pc pc2
  compound_memory o u of place e m b t k t2 k2 j a x pc p1 p2 p3 p4 pc2 l f da de lx fa fx fj i1 i2 i3 i4 i5 =
      let last = join z (one z _ 100 p3 p4 i4 (omega arith) (λ y. (fj, fa))) (alters_within o u of x a m j t k p4 pc2 l f fx fa fj i5) in
      let middle = de (mode_of x) p2 p3 lx i3 in
      settle z (place_nodes place + value_nodes e + 1) 32 (compound_room (place_nodes place) (value_nodes e)) (join z (nothing pc p1 i1)
      (join z (placed m p2 pc2 (on p2 p3 pc2 middle.forward last.forward) (da p1 p2 i2)) (join z (held m x p3 pc2 last.forward middle) last)))

  pub stepped_memory : (moment : Moment) (o : BinOp) (u of : IntType) (place : Place) (m : Mode) (b : Bool) (t k j : ℕ) (a : Spot) (pc p1 p2 p3 pc2 : ℕ)
      → ModeLands z m t k → Free z t k → FindsAt place b t k → SpotFine z a → j + 1 < z.bound
      → One z.code instruction.Nothing pc p1 → Finds z.code (sizes z) place b t k p1 p2 → One z.code (instruction.Load u (target.Temporary j) a) p2 p3
      → AltersBy z.code moment o u of a m j p3 pc2 → Within z (Aims z m pc2) (place_nodes place + 1) 32 pc pc2
  stepped_memory moment o u of place m b t k j a pc p1 p2 p3 pc2 l f da fa fj i1 i2 i3 i4 =
      let last = join z (one z _ 100 p2 p3 i3 (omega arith) (λ y. (lt j z.bound fj, fa))) (alters_by_within moment o u of a m j t k p3 pc2 l f fa fj i4) in
      settle z (place_nodes place + 1) 32 (stepped_room (place_nodes place))
      (join z (nothing pc p1 i1) (join z (placed m p2 pc2 last.forward (da p1 p2 i2)) last))
