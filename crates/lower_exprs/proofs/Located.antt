-- Places, and expressions that read and change them.
use Rattle.std.proofs.Common.{◌≡◌, ℕ, ◌+◌, Bool, true, false, ◌||◌, List, Option, Some, None, refl, ap, sym, ◌∙◌, subst}
use Rattle.srcset.specs.declared.refusal.Pos.{Pos}
use Rattle.ctypes.specs.declared.types.IntType.{IntType}
use Rattle.ctypes.specs.declared.operators.BinOp.{BinOp}
use Rattle.tree.specs.declared.expression.StepOp.{StepOp}
use Rattle.typing_spec.specs.Program as typed
use Rattle.typing_spec.specs.Program.{Moment, Place, Value, Arguments}
use Rattle.tac_code.specs.declared.code.Operand.{Operand}
use Rattle.tac_code.specs.declared.code.Target.{Target}
use Rattle.tac_code.specs.declared.code.Target.TheVariants as target
use Rattle.tac_code.specs.declared.code.Place.{Place as Spot}
use Rattle.tac_code.specs.declared.code.Instruction.{Instruction}
use Rattle.tac_code.specs.declared.code.Instruction.TheVariants as instruction
use Rattle.csem.specs.Expressions.{step_operation}
use Rattle.lower_correct.specs.Values.{object_of}
use Rattle.lower_correct.specs.Asked.{is_wide}
use Rattle.lower_correct.specs.Values.{calls, arguments_call, keeps, operand_of, free_temporary, Mode, mode_of}
use Rattle.lower_correct.specs.Places.{found, target_for, free_temporary_at, free_kept_at, cuts}
use Rattle.lower_correct.specs.Code.{One, OnObject, Parts, Puts, Alters, AltersBy, Gets, HandsOver, Into}
use Rattle.lower_ops.specs.layer.Parts.{shape_of, Wrote}
use Rattle.lower_ops.specs.layer.FormSizes.{parts_size, gets_size, puts_size, alters_size, alters_by_size, hands_over_size}
use Rattle.lower_exprs.specs.layer.Sizes.{size_on, rest_shape, value_size}
use Rattle.lower_exprs.specs.layer.Written.{WroteValue, WrotePasses, WroteFinds, WroteReadObject, WroteReadMemory, WroteAssignedObject, WroteAssignedMemory, WroteCompoundObject, WroteCompoundMemory, WroteStepObject, WroteStepMemory}
use Rattle.lower_ops.proofs.Parts.{two, three, four, five}
use Rattle.lower_ops.proofs.Stored.{stored_by}

-- ---- sizes do not depend on the free temporaries and slots, nor on the operands that wait

pub same_part : (a : Place) (c : Bool) (t k : ℕ) → parts_size (found a c t k) ≡ parts_size (found a false 0 0)
same_part (typed.named at what) c t k = refl
same_part (typed.element at array index) c t k = refl

pub same_hand : (a : Place) (c : Bool) (t k : ℕ) → hands_over_size (found a c t k) ≡ hands_over_size (found a c 0 0)
same_hand (typed.named at what) c t k = refl
same_hand (typed.element at array index) true t k = refl
same_hand (typed.element at array index) false t k = refl

-- ---- one of two cases

module _ (Q : List Instruction → ℕ → ℕ → ℕ → Type 0) (R : List Instruction → ℕ → ℕ → Type 0) (n m : ℕ) {a b : List Instruction} where
  pub on_object : (o : Option ℕ) (x : ℕ) → o ≡ Some x → Wrote (λ w p q. Q w x p q) n a b → Wrote (λ w p q. OnObject o (λ y. Q w y p q) (R w p q)) (size_on o n m) a b
  on_object o x e h = subst (λ r. Wrote (λ w p q. OnObject r (λ y. Q w y p q) (R w p q)) (size_on r n m) a b) (sym e) h

  pub in_memory : (o : Option ℕ) → o ≡ None → Wrote (λ w p q. R w p q) m a b → Wrote (λ w p q. OnObject o (λ y. Q w y p q) (R w p q)) (size_on o n m) a b
  in_memory o e h = subst (λ r. Wrote (λ w p q. OnObject r (λ y. Q w y p q) (R w p q)) (size_on r n m) a b) (sym e) h

module _ (size : Place → ℕ) (place : Place) (m : Mode) (t k : ℕ) {c0 c1 : List Instruction} where
  pub read_object : (u : IntType) (x : ℕ) → object_of place ≡ Some x → WroteReadObject x m c0 c1 → WroteValue size (typed.read u place) m t k c0 c1
  read_object u x e h = on_object _ _ _ _ (object_of place) x e h

  pub read_memory : (u : IntType) → object_of place ≡ None → WroteReadMemory size u place m t k c0 c1 → WroteValue size (typed.read u place) m t k c0 c1
  read_memory u e h = in_memory _ _ _ _ (object_of place) e h

  pub assigned_object : (at : Pos) (u : IntType) (v : Value) (x : ℕ) → object_of place ≡ Some x → WroteAssignedObject size u x v m t k c0 c1
      → WroteValue size (typed.assigned at u place v) m t k c0 c1
  assigned_object at u v x e h = on_object _ _ _ _ (object_of place) x e h

  pub assigned_memory : (at : Pos) (u : IntType) (v : Value) → object_of place ≡ None → WroteAssignedMemory size u place v m t k c0 c1
      → WroteValue size (typed.assigned at u place v) m t k c0 c1
  assigned_memory at u v e h = in_memory _ _ _ _ (object_of place) e h

  pub compound_object : (at : Pos) (o : BinOp) (u of : IntType) (v : Value) (x : ℕ) (wide : Bool) → object_of place ≡ Some x → wide ≡ is_wide u
      → WroteCompoundObject size wide o u of x v m t k c0 c1 → WroteValue size (typed.compound at o u of place v) m t k c0 c1
  compound_object at o u of v x wide e ew h = on_object _ _ _ _ (object_of place) x e (subst (λ n. WroteCompoundObject size n o u of x v m t k c0 c1) ew h)

  pub compound_memory : (at : Pos) (o : BinOp) (u of : IntType) (v : Value) → object_of place ≡ None → WroteCompoundMemory size o u of place v m t k c0 c1
      → WroteValue size (typed.compound at o u of place v) m t k c0 c1
  compound_memory at o u of v e h = in_memory _ _ _ _ (object_of place) e h

  pub step_object : (at : Pos) (moment : Moment) (o : StepOp) (u of : IntType) (x : ℕ) (wide : Bool) (b : BinOp) → object_of place ≡ Some x → wide ≡ is_wide u → b ≡ step_operation o
      → WroteStepObject moment wide b u of x m t c0 c1 → WroteValue size (typed.stepped at moment o u of place) m t k c0 c1
  step_object at moment o u of x wide b e ew eb h = on_object _ _ _ _ (object_of place) x e (subst (λ n. WroteStepObject moment n (step_operation o) u of x m t c0 c1) ew
      (subst (λ n. WroteStepObject moment wide n u of x m t c0 c1) eb h))

  pub step_memory : (at : Pos) (moment : Moment) (o : StepOp) (u of : IntType) (b : BinOp) → object_of place ≡ None → b ≡ step_operation o
      → WroteStepMemory size moment b u of place m t k c0 c1 → WroteValue size (typed.stepped at moment o u of place) m t k c0 c1
  step_memory at moment o u of b e eb h = in_memory _ _ _ _ (object_of place) e (subst (λ n. WroteStepMemory size moment n u of place m t k c0 c1) eb h)

-- ---- a place that was found, and a value after it

module _ (size : Place → ℕ) where
  module _ (place : Place) (e : Value) (c : Bool) (t k t2 k2 : ℕ) (a : Spot) (o : Operand) (ec : c ≡ calls e) (ea : a ≡ found place c t k)
      (et : t2 ≡ free_temporary_at a t) (ek : k2 ≡ free_kept_at a k) (eo : o ≡ operand_of e t2 k2) where
    spot_is : a ≡ found place (calls e) t k
    spot_is = ea ∙ ap (λ n. found place n t k) ec

    temporary_is : t2 ≡ free_temporary_at (found place (calls e) t k) t
    temporary_is = et ∙ ap (λ n. free_temporary_at n t) spot_is

    slot_is : k2 ≡ free_kept_at (found place (calls e) t k) k
    slot_is = ek ∙ ap (λ n. free_kept_at n k) spot_is

    operand_is : o ≡ operand_of e (free_temporary_at (found place (calls e) t k) t) (free_kept_at (found place (calls e) t k) k)
    operand_is = eo ∙ ap (λ n. operand_of e n k2) temporary_is ∙ ap (λ n. operand_of e (free_temporary_at (found place (calls e) t k) t) n) slot_is

    free_is : (t3 : ℕ) → t3 ≡ free_temporary o t2
        → t3 ≡ free_temporary (operand_of e (free_temporary_at (found place (calls e) t k) t) (free_kept_at (found place (calls e) t k) k)) (free_temporary_at (found place (calls e) t k) t)
    free_is t3 e3 = e3 ∙ ap (λ n. free_temporary n t2) operand_is
        ∙ ap (λ n. free_temporary (operand_of e (free_temporary_at (found place (calls e) t k) t) (free_kept_at (found place (calls e) t k) k)) n) temporary_is

    value_there : {c1 c2 : List Instruction} → Wrote (λ w p q. Into w size e (mode_of (operand_of e t2 k2)) t2 k2 p q) (value_size e (rest_shape e)) c1 c2
        → Wrote (λ w p q. Into w size e (mode_of (operand_of e (free_temporary_at (found place (calls e) t k) t) (free_kept_at (found place (calls e) t k) k)))
        (free_temporary_at (found place (calls e) t k) t) (free_kept_at (found place (calls e) t k) k) p q) (value_size e (rest_shape e)) c1 c2
    value_there {c1} {c2} x =
        let T = free_temporary_at (found place (calls e) t k) t in
        subst (λ n. Wrote (λ w p q. Into w size e (mode_of (operand_of e T n)) T n p q) (value_size e (rest_shape e)) c1 c2) slot_is
        (subst (λ n. Wrote (λ w p q. Into w size e (mode_of (operand_of e n k2)) n k2 p q) (value_size e (rest_shape e)) c1 c2) temporary_is x)

    found_there : {c1 c2 : List Instruction} → WroteFinds size place c t k c1 c2 → WroteFinds size place (calls e) t k c1 c2
    found_there {c1} {c2} x = subst (λ n. WroteFinds size place n t k c1 c2) ec x

    -- an element or a row, its place being an array and e its index
    pub element_wrote : (at : Pos) (b : Bool) (g : Target) (bytes t3 : ℕ) {c0 c1 c2 c3 c4 : List Instruction} → t3 ≡ free_temporary o t2 → g ≡ target_for b t k
        → bytes ≡ size (typed.element at place e)
        → Wrote (λ w p q. One w instruction.Nothing p q) 1 c0 c1 → WroteFinds size place c t k c1 c2
        → Wrote (λ w p q. Into w size e (mode_of (operand_of e t2 k2)) t2 k2 p q) (value_size e (rest_shape e)) c2 c3
        → Wrote (λ w p q. Parts w a g o bytes t3 p q) (parts_size a) c3 c4
        → WroteFinds size (typed.element at place e) b t k c0 c4
    element_wrote at b g bytes t3 {c0} {c1} {c2} {c3} {c4} e3 eg es x0 x1 x2 x3 =
        let A = found place (calls e) t k in
        let T = free_temporary_at A t in
        let O = operand_of e T (free_kept_at A k) in
        let F = free_temporary O T in
        let S = size (typed.element at place e) in
        let y3 = subst (λ n. Wrote (λ w p q. Parts w A (target_for b t k) O S F p q) n c3 c4) (same_part place (calls e) t k)
        (subst (λ n. Wrote (λ w p q. Parts w n (target_for b t k) O S F p q) (parts_size n) c3 c4) spot_is
        (subst (λ n. Wrote (λ w p q. Parts w a n O S F p q) (parts_size a) c3 c4) eg
        (subst (λ n. Wrote (λ w p q. Parts w a g n S F p q) (parts_size a) c3 c4) operand_is
        (subst (λ n. Wrote (λ w p q. Parts w a g o n F p q) (parts_size a) c3 c4) es
        (subst (λ n. Wrote (λ w p q. Parts w a g o bytes n p q) (parts_size a) c3 c4) (free_is t3 e3) x3))))) in
        four x0 (found_there x1) (value_there x2) y3

    pub assigned_there : (u : IntType) (m : Mode) (kept : Bool) {c0 c1 c2 c3 c4 : List Instruction} → kept ≡ cuts u m || keeps u e
        → Wrote (λ w p q. One w instruction.Nothing p q) 1 c0 c1 → WroteFinds size place c t k c1 c2
        → Wrote (λ w p q. Into w size e (mode_of (operand_of e t2 k2)) t2 k2 p q) (value_size e (rest_shape e)) c2 c3
        → Wrote (λ w p q. Puts w kept u o a m t2 p q) (puts_size kept (shape_of m)) c3 c4
        → WroteAssignedMemory size u place e m t k c0 c4
    assigned_there u m kept {c0} {c1} {c2} {c3} {c4} en x0 x1 x2 x3 =
        let A = found place (calls e) t k in
        let T = free_temporary_at A t in
        let O = operand_of e T (free_kept_at A k) in
        let y3 = subst (λ n. Wrote (λ w p q. Puts w kept u O A m n p q) (puts_size kept (shape_of m)) c3 c4) temporary_is
        (subst (λ n. Wrote (λ w p q. Puts w kept u O n m t2 p q) (puts_size kept (shape_of m)) c3 c4) spot_is
        (subst (λ n. Wrote (λ w p q. Puts w kept u n a m t2 p q) (puts_size kept (shape_of m)) c3 c4) operand_is x3)) in
        four x0 (found_there x1) (value_there x2) (stored_by u O A m T (keeps u e) kept en y3)

    pub compound_there : (b : BinOp) (u of : IntType) (m : Mode) (j : ℕ) {c0 c1 c2 c3 c4 c5 : List Instruction} → j ≡ free_temporary o t2
        → Wrote (λ w p q. One w instruction.Nothing p q) 1 c0 c1 → WroteFinds size place c t k c1 c2
        → Wrote (λ w p q. Into w size e (mode_of (operand_of e t2 k2)) t2 k2 p q) (value_size e (rest_shape e)) c2 c3
        → Wrote (λ w p q. One w (instruction.Load u (target.Temporary j) a) p q) 1 c3 c4
        → Wrote (λ w p q. Alters w b u of o a m j p q) (alters_size b u (shape_of m)) c4 c5
        → WroteCompoundMemory size b u of place e m t k c0 c5
    compound_there b u of m j {c0} {c1} {c2} {c3} {c4} {c5} ej x0 x1 x2 x3 x4 =
        let A = found place (calls e) t k in
        let T = free_temporary_at A t in
        let O = operand_of e T (free_kept_at A k) in
        let y3 = subst (λ n. Wrote (λ w p q. One w (instruction.Load u (target.Temporary n) A) p q) 1 c3 c4) (free_is j ej)
        (subst (λ n. Wrote (λ w p q. One w (instruction.Load u (target.Temporary j) n) p q) 1 c3 c4) spot_is x3) in
        let y4 = subst (λ n. Wrote (λ w p q. Alters w b u of O A m n p q) (alters_size b u (shape_of m)) c4 c5) (free_is j ej)
        (subst (λ n. Wrote (λ w p q. Alters w b u of O n m j p q) (alters_size b u (shape_of m)) c4 c5) spot_is
        (subst (λ n. Wrote (λ w p q. Alters w b u of n a m j p q) (alters_size b u (shape_of m)) c4 c5) operand_is x4)) in
        five x0 (found_there x1) (value_there x2) y3 y4

  pub read_there : (u : IntType) (place : Place) (m : Mode) (t k : ℕ) (a : Spot) {c0 c1 c2 : List Instruction} → a ≡ found place false t k
      → WroteFinds size place false t k c0 c1 → Wrote (λ w p q. Gets w u a m t p q) (gets_size (shape_of m)) c1 c2 → WroteReadMemory size u place m t k c0 c2
  read_there u place m t k a {c0} {c1} {c2} ea x0 x1 = two x0 (subst (λ n. Wrote (λ w p q. Gets w u n m t p q) (gets_size (shape_of m)) c1 c2) ea x1)

  pub step_there : (moment : Moment) (b : BinOp) (u of : IntType) (place : Place) (m : Mode) (t k j : ℕ) (a : Spot) {c0 c1 c2 c3 c4 : List Instruction}
      → a ≡ found place false t k → j ≡ free_temporary_at a t
      → Wrote (λ w p q. One w instruction.Nothing p q) 1 c0 c1 → WroteFinds size place false t k c1 c2
      → Wrote (λ w p q. One w (instruction.Load u (target.Temporary j) a) p q) 1 c2 c3
      → Wrote (λ w p q. AltersBy w moment b u of a m j p q) (alters_by_size moment b u (shape_of m)) c3 c4
      → WroteStepMemory size moment b u of place m t k c0 c4
  step_there moment b u of place m t k j a {c0} {c1} {c2} {c3} {c4} ea ej x0 x1 x2 x3 =
      let A = found place false t k in
      let J = free_temporary_at A t in
      let ej2 : j ≡ J = ej ∙ ap (λ n. free_temporary_at n t) ea in
      let y2 = subst (λ n. Wrote (λ w p q. One w (instruction.Load u (target.Temporary n) A) p q) 1 c2 c3) ej2
      (subst (λ n. Wrote (λ w p q. One w (instruction.Load u (target.Temporary j) n) p q) 1 c2 c3) ea x2) in
      let y3 = subst (λ n. Wrote (λ w p q. AltersBy w moment b u of A m n p q) (alters_by_size moment b u (shape_of m)) c3 c4) ej2
      (subst (λ n. Wrote (λ w p q. AltersBy w moment b u of n m j p q) (alters_by_size moment b u (shape_of m)) c3 c4) ea x3) in
      four x0 x1 y2 y3

  pub array_wrote : (array : Place) (more : Arguments) (t k t2 k2 : ℕ) (c : Bool) (a : Spot) {c0 c1 c2 c3 : List Instruction} → c ≡ arguments_call more
      → a ≡ found array c t k → t2 ≡ t + 1 → k2 ≡ free_kept_at a k
      → WroteFinds size array c t k c0 c1 → WrotePasses size more t2 k2 c1 c2 → Wrote (λ w p q. HandsOver w a t p q) (hands_over_size a) c2 c3
      → WrotePasses size (typed.and_array array more) t k c0 c3
  array_wrote array more t k t2 k2 c a {c0} {c1} {c2} {c3} ec ea et ek x0 x1 x2 =
      let A = found array (arguments_call more) t k in
      let ea2 : a ≡ A = ea ∙ ap (λ n. found array n t k) ec in
      let ek2 : k2 ≡ free_kept_at A k = ek ∙ ap (λ n. free_kept_at n k) ea2 in
      let y0 = subst (λ n. WroteFinds size array n t k c0 c1) ec x0 in
      let y1 = subst (λ n. WrotePasses size more (t + 1) n c1 c2) ek2 (subst (λ n. WrotePasses size more n k2 c1 c2) et x1) in
      let y2 = subst (λ n. Wrote (λ w p q. HandsOver w A t p q) n c2 c3) (same_hand array (arguments_call more) t k)
      (subst (λ n. Wrote (λ w p q. HandsOver w n t p q) (hands_over_size n) c2 c3) ea2 x2) in
      three y0 y1 y2
