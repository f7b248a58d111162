-- The code of each kind of node keeps within its room, and is fine, if that of its parts does.
use Rattle.std.proofs.Common.{◌≡◌, ℕ, ◌+◌, ◌*◌, ◌<◌, ◌≤◌, ◌^◌, Option, None, Bool, true, false, ◌||◌, arith}
use Rattle.srcset.specs.declared.refusal.Pos.{Pos}
use Rattle.ctypes.specs.declared.types.IntType.{IntType}
use Rattle.ctypes.specs.declared.operators.BinOp.{BinOp}
use Rattle.tree.specs.declared.expression.StepOp.{StepOp}
use Rattle.typing_spec.specs.Program as typed
use Rattle.typing_spec.specs.Program.{Place, Value, Arguments, Callee, Moment}
use Rattle.typing_spec.specs.Nodes.{place_nodes, value_nodes, argument_nodes}
use Rattle.csem.specs.Machine.{choose}
use Rattle.csem.specs.Expressions.{step_operation}
use Rattle.tac_code.specs.declared.code.Operand.{Operand}
use Rattle.tac_code.specs.declared.code.Operand.TheVariants as operand
use Rattle.tac_code.specs.declared.code.Target.TheVariants as target
use Rattle.tac_code.specs.declared.code.Reading.{Reading}
use Rattle.tac_code.specs.declared.code.Instruction.TheVariants as instruction
use Rattle.lower_correct.specs.Values.{object_of}
use Rattle.lower_wf.specs.Asked.{is_wide}
use Rattle.lower_correct.specs.Values.{calls, writes, writes_none, rests_in, keeps, reading_of, operand_of, waits_in, free_temporary, free_kept, Mode, Nowhere, If, mode_of, target_of}
use Rattle.lower_correct.specs.Places.{found, free_temporary_at, free_kept_at, cuts}
use Rattle.lower_correct.specs.Code.{zero_word, One, Then, Truths, Into, Passes}
use Rattle.lower_bounds.proofs.Grounds.{Ground, sizes, OperandFine, SpotFine, ModeLands, Aims}
use Rattle.lower_bounds.proofs.Stretches.{Within, one, join, settle, aimed}
use Rattle.lower_bounds.proofs.Operands.{Free, RestsFine, operand_fine, target_fine, target_lands, mode_lands, waits}
use Rattle.lower_bounds.proofs.Leaves.{ends_within, then_within, operates_within, converts_within, casts_within}
use Rattle.lower_bounds.proofs.Changes.{CalleeFine, changes_within, steps_by_within, calls_within, truths_within}
use Rattle.lower_bounds.proofs.Memory.{on, DoesAt, FindsAt, nothing, held, on_object, read_memory, assigned_memory, compound_memory, stepped_memory}

-- ---- room

read_room : (p : ℕ) → 1 ≤ p → 128 * (1 + 1) + 32 ≤ 128 * p + (124 + 96)
read_room p h = omega (arith, h)

assigned_room : (p e : ℕ) → 1 ≤ p → 128 * (1 + (1 + (e + 1))) + 32 ≤ 128 * (p + e + 1) + (124 + (124 + (0 + 96)))
assigned_room p e h = omega (arith, h)

compound_room : (p e : ℕ) → 1 ≤ p → 128 * (1 + (1 + (e + (1 + 1)))) + 32 ≤ 128 * (p + e + 1) + (124 + (124 + (32 + (8 + 96))))
compound_room p e h = omega (arith, h)

stepped_room : (p : ℕ) → 1 ≤ p → 128 * (1 + (1 + 2)) + 32 ≤ 128 * (p + 1) + (124 + (124 + 80))
stepped_room p h = omega (arith, h)

same_room : (e : ℕ) → 128 * (1 + e) + 32 ≤ 128 * (e + 1) + (124 + 32)
same_room e = omega arith

signed_room : (e : ℕ) → 128 * (1 + (e + 1)) + 32 ≤ 128 * (e + 1) + (124 + (32 + 8))
signed_room e = omega arith

binary_room : (a b : ℕ) → 128 * (1 + (a + (b + 1))) + 32 ≤ 128 * (a + b + 1) + (124 + (32 + (32 + 8)))
binary_room a b = omega arith

truth_room : (a b : ℕ) → 128 * (1 + (a + (b + 1))) + 32 ≤ 128 * (a + b + 1) + (124 + (32 + (32 + 76)))
truth_room a b = omega arith

both_room : (a b : ℕ) → 128 * (1 + (a + b)) + 32 ≤ 128 * (a + b + 1) + (124 + (32 + 32))
both_room a b = omega arith

chosen_room : (c a b : ℕ) → 128 * (1 + (c + (a + (1 + b)))) + 32 ≤ 128 * (c + a + b + 1) + (124 + (32 + (32 + (124 + 32))))
chosen_room c a b = omega arith

cast_room : (e : ℕ) → 128 * (1 + (e + 1)) + 32 ≤ 128 * (e + 1) + (124 + 96)
cast_room e = omega arith

discarded_room : (e : ℕ) → 128 * (1 + (e + 1)) + 32 ≤ 128 * (e + 1) + (124 + (32 + 96))
discarded_room e = omega arith

call_room : (a : ℕ) → 128 * (1 + (a + 1)) + 32 ≤ 128 * (a + 1) + (124 + (0 + 44))
call_room a = omega arith

-- ---- positions

next_le : (p q : ℕ) → p + 1 ≡ q → p ≤ q
next_le p q e = omega (arith, e)

below : (t b : ℕ) → t + 1 ≤ b → t < b
below t b h = omega (arith, h)

zero_small : 0 < 2 ^ 32
zero_small = omega arith

pub chosen_le : (sense : Bool) (a b l : ℕ) → a ≤ l → b ≤ l → choose sense a b ≤ l
chosen_le true a b l x y = x
chosen_le false a b l x y = y

-- the first temporary and slot that are free in addition to a place
abbrev pub temporary_beside : Place → Bool → ℕ → ℕ → ℕ
temporary_beside place c t k = free_temporary_at (found place c t k) t

abbrev pub slot_beside : Place → Bool → ℕ → ℕ → ℕ
slot_beside place c t k = free_kept_at (found place c t k) k

module _ (z : Ground) where
  -- a part that jumps
  jumping : {u d pc : ℕ} (m : Mode) (sense : Bool) (to p pc2 : ℕ) → p ≤ pc2 → to ≤ pc2 → Within z (Aims z (If sense to) p) u d pc p → Within z (Aims z m pc2) u d pc p
  jumping m sense to p pc2 h g s = aimed z (λ a. (on p pc2 z.limit h a.0, on to pc2 z.limit g a.0)) s

  shorter : {u d pc : ℕ} (m : Mode) (p pc2 : ℕ) → p ≤ pc2 → Within z (Aims z m p) u d pc p → Within z (Aims z m pc2) u d pc p
  shorter m p pc2 h s = aimed z (λ a. (on p pc2 z.limit h a.0, a.1)) s

  unused : {u d pc : ℕ} (m : Mode) (p pc2 : ℕ) → p ≤ pc2 → Within z (Aims z Nowhere p) u d pc p → Within z (Aims z m pc2) u d pc p
  unused m p pc2 h s = aimed z (λ a. (on p pc2 z.limit h a.0, tt)) s

  -- ---- objects

  -- where they are in memory, they are found first
  abbrev pub FoundAt : Place → Bool → ℕ → ℕ → Type 0
  FoundAt place c t k = object_of place ≡ None → FindsAt z place c t k × SpotFine z (found place c t k)

  pub read_within : (u : IntType) (place : Place) (m : Mode) (t k pc pc2 : ℕ) → RestsFine z (object_of place) → 1 ≤ place_nodes place → ModeLands z m t k → Free z t k
      → FoundAt place false t k → Into z.code (sizes z) (typed.read u place) m t k pc pc2 → Within z (Aims z m pc2) (place_nodes place) 32 pc pc2
  read_within u place m t k pc pc2 r w l f there h = on_object z (object_of place) _ _ r h
      (λ x n i. settle z (place_nodes place) 32 (read_room (place_nodes place) w)
      (join z (nothing z pc i.0 i.1) (ends_within z m (operand.Object x) t k i.0 pc2 l f n i.2)))
      (λ none i. read_memory z u place m t k (found place false t k) pc i.0 pc2 l f (there none).0 (there none).1 i.1 i.2)

  pub assigned_within : (at : Pos) (u : IntType) (place : Place) (e : Value) (m : Mode) (t k pc pc2 : ℕ) → RestsFine z (object_of place) → RestsFine z (rests_in e) → 1 ≤ place_nodes place
      → ModeLands z m t k → Free z t k → Free z (temporary_beside place (calls e) t k) (slot_beside place (calls e) t k) → DoesAt z e t k
      → DoesAt z e (temporary_beside place (calls e) t k) (slot_beside place (calls e) t k) → FoundAt place (calls e) t k
      → Into z.code (sizes z) (typed.assigned at u place e) m t k pc pc2 → Within z (Aims z m pc2) (place_nodes place + value_nodes e + 1) 32 pc pc2
  assigned_within at u place e m t k pc pc2 r re w l f f2 de de2 there h = on_object z (object_of place) _ _ r h (λ x n i.
      let last = ends_within z m (operand.Object x) t k i.2 pc2 l f n i.6 in
      let stored = converts_within z (keeps u e) (λ n a b. Into z.code (sizes z) e n t k a b) u (operand_of e t k) (target.Object x)
      (value_nodes e) t k i.1 i.2 n (waits z e writes_none false t k re) f de i.5 in
      settle z (place_nodes place + value_nodes e + 1) 32 (assigned_room (place_nodes place) (value_nodes e) w)
      (join z (nothing z pc i.0 i.3) (join z (nothing z i.0 i.1 i.4) (join z (aimed z (λ a. (on i.2 pc2 z.limit last.forward a.0, tt)) stored) last))))
      (λ none i.
      let t2 = temporary_beside place (calls e) t k in
      let k2 = slot_beside place (calls e) t k in
      let x = operand_of e t2 k2 in
      let s = waits z e writes_none false t2 k2 re in
      assigned_memory z (cuts u m || keeps u e) u place e m (calls e) t k t2 k2 (found place (calls e) t k) x pc i.0 i.1 i.2 pc2 l f (there none).0 de2
      (mode_lands z x t2 k2 s)
      (there none).1 (operand_fine z x t2 k2 f2 s) (below t2 z.bound f2.0) i.3 i.4 i.5 i.6)

  pub compound_within : (at : Pos) (o : BinOp) (u of : IntType) (place : Place) (e : Value) (m : Mode) (t k pc pc2 : ℕ) → RestsFine z (object_of place) → RestsFine z (rests_in e) → 1 ≤ place_nodes place
      → ModeLands z m t k → Free z t k → Free z (temporary_beside place (calls e) t k) (slot_beside place (calls e) t k)
      → free_temporary (operand_of e (temporary_beside place (calls e) t k) (slot_beside place (calls e) t k)) (temporary_beside place (calls e) t k) < z.bound
      → DoesAt z e t k
      → DoesAt z e (temporary_beside place (calls e) t k) (slot_beside place (calls e) t k) → FoundAt place (calls e) t k
      → Into z.code (sizes z) (typed.compound at o u of place e) m t k pc pc2 → Within z (Aims z m pc2) (place_nodes place + value_nodes e + 1) 32 pc pc2
  compound_within at o u of place e m t k pc pc2 r re w l f f2 fj de de2 there h = on_object z (object_of place) _ _ r h (λ x n i.
      let a = operand_of e t k in
      let s = waits z e writes_none false t k re in
      let last = ends_within z m (operand.Object x) t k i.3 pc2 l f n i.8 in
      let done = join z (changes_within z (is_wide u) o u of x a t i.2 i.3 n (operand_fine z a t k f s) (below t z.bound f.0) i.7) last in
      settle z (place_nodes place + value_nodes e + 1) 32 (compound_room (place_nodes place) (value_nodes e) w)
      (join z (nothing z pc i.0 i.4) (join z (nothing z i.0 i.1 i.5)
      (join z (held z m a i.2 pc2 done.forward (de (mode_of a) i.1 i.2 (mode_lands z a t k s) i.6)) done))))
      (λ none i.
      let t2 = temporary_beside place (calls e) t k in
      let k2 = slot_beside place (calls e) t k in
      let x = operand_of e t2 k2 in
      let s = waits z e writes_none false t2 k2 re in
      compound_memory z o u of place e m (calls e) t k t2 k2 (free_temporary x t2) (found place (calls e) t k) x pc i.0 i.1 i.2 i.3 pc2 l f (there none).0 de2
      (mode_lands z x t2 k2 s) (there none).1 (operand_fine z x t2 k2 f2 s) fj i.4 i.5 i.6 i.7 i.8)

  pub stepped_within : (at : Pos) (moment : Moment) (o : StepOp) (u of : IntType) (place : Place) (m : Mode) (t k pc pc2 : ℕ) → RestsFine z (object_of place) → 1 ≤ place_nodes place
      → ModeLands z m t k → Free z t k → t + 2 ≤ z.bound → temporary_beside place false t k + 1 < z.bound → FoundAt place false t k
      → Into z.code (sizes z) (typed.stepped at moment o u of place) m t k pc pc2 → Within z (Aims z m pc2) (place_nodes place + 1) 32 pc pc2
  stepped_within at moment o u of place m t k pc pc2 r w l f b fj there h = on_object z (object_of place) _ _ r h (λ x n i.
      settle z (place_nodes place + 1) 32 (stepped_room (place_nodes place) w)
      (join z (nothing z pc i.0 i.2) (join z (nothing z i.0 i.1 i.3)
      (steps_by_within z moment (is_wide u) (step_operation o) u of m x t k i.1 pc2 n l f b i.4))))
      (λ none i.
      stepped_memory z moment (step_operation o) u of place m false t k (temporary_beside place false t k) (found place false t k) pc i.0 i.1 i.2 pc2 l f
      (there none).0 (there none).1 fj
      i.3 i.4 i.5 i.6)

  -- ---- operators

  pub same_within : (e : Value) (m n : Mode) (t k pc p1 pc2 : ℕ) → (Aims z m pc2 → Aims z n pc2) → ModeLands z n t k → DoesAt z e t k
      → One z.code instruction.Nothing pc p1 → Into z.code (sizes z) e n t k p1 pc2 → Within z (Aims z m pc2) (value_nodes e + 1) 32 pc pc2
  same_within e m n t k pc p1 pc2 aims l de i1 i2 =
      settle z (value_nodes e + 1) 32 (same_room (value_nodes e)) (join z (nothing z pc p1 i1) (aimed z aims (de n p1 pc2 l i2)))

  pub signed_within : (e : Value) (o : BinOp) (r : Reading) (x y : Operand) (m : Mode) (t k pc p1 p2 pc2 : ℕ) → RestsFine z (rests_in e) → ModeLands z m t k
      → Free z t k → DoesAt z e t k
      → OperandFine z x → OperandFine z y → One z.code instruction.Nothing pc p1 → Into z.code (sizes z) e (mode_of (operand_of e t k)) t k p1 p2
      → Then z.code o r m x y t p2 pc2
      → Within z (Aims z m pc2) (value_nodes e + 1) 32 pc pc2
  signed_within e o r x y m t k pc p1 p2 pc2 re l f de fx fy i1 i2 i3 =
      let a = operand_of e t k in
      let last = then_within z o r m x y t k p2 pc2 l f fx fy i3 in
      settle z (value_nodes e + 1) 32 (signed_room (value_nodes e)) (join z (nothing z pc p1 i1)
      (join z (held z m a p2 pc2 last.forward (de (mode_of a) p1 p2 (mode_lands z a t k (waits z e writes_none false t k re)) i2)) last))

  pub binary_within : (at : Pos) (o : BinOp) (u : IntType) (a b : Value) (m : Mode) (t k pc pc2 : ℕ) → RestsFine z (rests_in a) → RestsFine z (rests_in b) → ModeLands z m t k → Free z t k
      → Free z (free_temporary (waits_in a (writes b) (calls b) t k) t) (free_kept (waits_in a (writes b) (calls b) t k) k) → DoesAt z a t k
      → DoesAt z b (free_temporary (waits_in a (writes b) (calls b) t k) t) (free_kept (waits_in a (writes b) (calls b) t k) k)
      → Into z.code (sizes z) (typed.binary at o u a b) m t k pc pc2 → Within z (Aims z m pc2) (value_nodes a + value_nodes b + 1) 32 pc pc2
  binary_within at o u a b m t k pc pc2 ra rb l f f2 da db i =
      let x = waits_in a (writes b) (calls b) t k in
      let t2 = free_temporary x t in
      let k2 = free_kept x k in
      let y = operand_of b t2 k2 in
      let sx = waits z a (writes b) (calls b) t k ra in
      let sy = waits z b writes_none false t2 k2 rb in
      let last = operates_within z o (reading_of u) m x y t k i.2 pc2 l f (operand_fine z x t k f sx) (operand_fine z y t2 k2 f2 sy) i.6 in
      let done = join z (held z m y i.2 pc2 last.forward (db (mode_of y) i.1 i.2 (mode_lands z y t2 k2 sy) i.5)) last in
      settle z (value_nodes a + value_nodes b + 1) 32 (binary_room (value_nodes a) (value_nodes b))
      (join z (nothing z pc i.0 i.3) (join z (held z m x i.1 pc2 done.forward (da (mode_of x) i.0 i.1 (mode_lands z x t k sx) i.4)) done))

  -- ---- truths

  pub jumps_within : (a b : Value) (s sense : Bool) (to to2 t k pc p1 p2 pc2 : ℕ) → DoesAt z a t k → DoesAt z b t k
      → (pc2 ≤ z.limit → to ≤ z.limit → to2 ≤ z.limit)
      → One z.code instruction.Nothing pc p1 → Into z.code (sizes z) a (If s to2) t k p1 p2 → Into z.code (sizes z) b (If sense to) t k p2 pc2
      → Within z (Aims z (If sense to) pc2) (value_nodes a + value_nodes b + 1) 32 pc pc2
  jumps_within a b s sense to to2 t k pc p1 p2 pc2 da db aims i1 i2 i3 =
      let last = db (If sense to) p2 pc2 tt i3 in
      settle z (value_nodes a + value_nodes b + 1) 32 (both_room (value_nodes a) (value_nodes b)) (join z (nothing z pc p1 i1)
      (join z (aimed z (λ c. (on p2 pc2 z.limit last.forward c.0, aims c.0 c.1)) (da (If s to2) p1 p2 tt i2)) last))

  pub truth_within : (a b : Value) (m : Mode) (s : Bool) (to t k pc p1 p2 p3 other pc2 : ℕ) → to ≤ other → ModeLands z m t k → Free z t k → DoesAt z a t k
      → DoesAt z b t k
      → One z.code instruction.Nothing pc p1 → Into z.code (sizes z) a (If s to) t k p1 p2 → Into z.code (sizes z) b (If false other) t k p2 p3
      → Truths z.code (target_of m t) p3 other pc2
      → Within z (Aims z m pc2) (value_nodes a + value_nodes b + 1) 32 pc pc2
  truth_within a b m s to t k pc p1 p2 p3 other pc2 h l f da db i1 i2 i3 i4 =
      let last = truths_within z m (target_of m t) p3 other pc2 (target_fine z (target_of m t) t k f (target_lands z m t k l)) i4 in
      let there : other ≤ pc2 = next_le other pc2 i4.3.next in
      let second = db (If false other) p2 p3 tt i3 in
      settle z (value_nodes a + value_nodes b + 1) 32 (truth_room (value_nodes a) (value_nodes b)) (join z (nothing z pc p1 i1)
      (join z (jumping m s to p2 pc2 (on p2 p3 pc2 second.forward last.forward) (on to other pc2 h there) (da (If s to) p1 p2 tt i2))
      (join z (jumping m false other p3 pc2 last.forward there second) last)))

  -- ---- choices, commas, casts

  pub chosen_within : (u : Option IntType) (c a b : Value) (m : Mode) (t k pc pc2 : ℕ) → ModeLands z m t k → DoesAt z c t k → DoesAt z a t k → DoesAt z b t k
      → Into z.code (sizes z) (typed.chosen u c a b) m t k pc pc2 → Within z (Aims z m pc2) (value_nodes c + value_nodes a + value_nodes b + 1) 32 pc pc2
  chosen_within u c a b m t k pc pc2 l dc da db i =
      let last = db m i.3 pc2 l i.8 in
      let middle = da m i.1 i.2 l i.6 in
      let there : i.2 ≤ pc2 = on i.2 i.3 pc2 (next_le i.2 i.3 i.7.next) last.forward in
      settle z (value_nodes c + value_nodes a + value_nodes b + 1) 32 (chosen_room (value_nodes c) (value_nodes a) (value_nodes b))
      (join z (nothing z pc i.0 i.4)
      (join z (jumping m false i.3 i.1 pc2 (on i.1 i.2 pc2 middle.forward there) last.forward (dc (If false i.3) i.0 i.1 tt i.5))
      (join z (shorter m i.2 pc2 there middle)
      (join z (one z _ 124 i.2 i.3 i.7 (omega arith) (λ x. x.0)) last))))

  pub sequence_within : (a b : Value) (m : Mode) (t k pc pc2 : ℕ) → ModeLands z m t k → DoesAt z a t k → DoesAt z b t k
      → Into z.code (sizes z) (typed.sequence a b) m t k pc pc2 → Within z (Aims z m pc2) (value_nodes a + value_nodes b + 1) 32 pc pc2
  sequence_within a b m t k pc pc2 l da db i =
      let last = db m i.1 pc2 l i.4 in
      settle z (value_nodes a + value_nodes b + 1) 32 (both_room (value_nodes a) (value_nodes b)) (join z (nothing z pc i.0 i.2)
      (join z (unused m i.1 pc2 last.forward (da Nowhere i.0 i.1 tt i.3)) last))

  pub cast_within : (u : IntType) (e : Value) (m : Mode) (t k pc pc2 : ℕ) → RestsFine z (rests_in e) → ModeLands z m t k → Free z t k → DoesAt z e t k
      → Into z.code (sizes z) (typed.cast u e) m t k pc pc2 → Within z (Aims z m pc2) (value_nodes e + 1) 32 pc pc2
  cast_within u e m t k pc pc2 re l f de i =
      settle z (value_nodes e + 1) 32 (cast_room (value_nodes e)) (join z (nothing z pc i.0 i.1)
      (casts_within z (keeps u e) (λ n a b. Into z.code (sizes z) e n t k a b) u (operand_of e t k) m (value_nodes e) t k i.0 pc2 l
      (waits z e writes_none false t k re) f de i.2))

  pub discarded_within : (e : Value) (m : Mode) (t k pc pc2 : ℕ) → ModeLands z m t k → Free z t k → DoesAt z e t k
      → Into z.code (sizes z) (typed.discarded e) m t k pc pc2 → Within z (Aims z m pc2) (value_nodes e + 1) 32 pc pc2
  discarded_within e m t k pc pc2 l f de i =
      let last = ends_within z m zero_word t k i.1 pc2 l f zero_small i.4 in
      settle z (value_nodes e + 1) 32 (discarded_room (value_nodes e)) (join z (nothing z pc i.0 i.2)
      (join z (unused m i.1 pc2 last.forward (de Nowhere i.0 i.1 tt i.3)) last))

  -- ---- calls

  pub call_within : (at : Pos) (callee : Callee) (result : Option IntType) (used : Bool) (arguments : Arguments) (m : Mode) (t k pc pc2 : ℕ) → ModeLands z m t k → Free z t k → CalleeFine z callee
      → ((p p2 : ℕ) → Passes z.code (sizes z) arguments 0 k p p2 → Within z (p2 ≤ z.limit) (argument_nodes arguments) 0 p p2)
      → Into z.code (sizes z) (typed.call at callee result used arguments) m t k pc pc2 → Within z (Aims z m pc2) (argument_nodes arguments + 1) 32 pc pc2
  call_within at callee result used arguments m t k pc pc2 l f c row i =
      let last = calls_within z callee m t k i.1 pc2 c l f (let h = f.0 in let e : 0 < z.bound = omega (arith, h) in e) i.4 in
      settle z (argument_nodes arguments + 1) 32 (call_room (argument_nodes arguments)) (join z (nothing z pc i.0 i.2)
      (join z (aimed z (λ a. on i.1 pc2 z.limit last.forward a.0) (row i.0 i.1 i.3)) last))
