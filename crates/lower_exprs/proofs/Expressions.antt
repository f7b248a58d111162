-- Parts of expressions.
use Rattle.std.proofs.Common.{◌≡◌, ℕ, ◌+◌, ◌<◌, Bool, true, false, ℤ, List, length, Option, Some, None, refl, ap, ◌∙◌, subst, arith}
use Rattle.srcset.specs.declared.refusal.Pos.{Pos}
use Rattle.ctypes.specs.declared.types.IntType.{IntType}
use Rattle.ctypes.specs.declared.operators.BinOp.{BinOp}
use Rattle.ctypes.specs.declared.operators.BinOp.TheVariants as op
use Rattle.tree.specs.declared.expression.PrefixOp.TheVariants as prefix
use Rattle.typing_spec.specs.Program as typed
use Rattle.typing_spec.specs.Program.{Place, Value, Arguments}
use Rattle.csem.specs.Machine.{choose}
use Rattle.tac_code.specs.declared.code.Operand.{Operand}
use Rattle.tac_code.specs.declared.code.Target.{Target}
use Rattle.tac_code.specs.declared.code.Target.TheVariants as target
use Rattle.tac_code.specs.declared.code.Reading.{Reading}
use Rattle.tac_code.specs.declared.code.Instruction.{Instruction}
use Rattle.tac_code.specs.declared.code.Instruction.TheVariants as instruction
use Rattle.lower_correct.specs.Values.{calls, arguments_call, writes, arguments_write, rests_in, constant_of, constant_or, at_rest, unless_written, pending, keeps, reading_of, waits_in, operand_of, free_temporary, free_kept, Mode, To, If, mode_of}
use Rattle.lower_correct.specs.Code.{One, Operates, IsZero, Loads, Truths, Into}
use Rattle.lower_ops.specs.layer.Parts.{plus, shape_of, Wrote}
use Rattle.lower_ops.specs.declared.modes.Shape.TheVariants as shape
use Rattle.lower_ops.specs.layer.FormSizes.{then_size, operates_size, loads_size, truths_size}
use Rattle.lower_exprs.specs.layer.Sizes.{wait_shape, rest_shape, value_size}
use Rattle.lower_exprs.specs.layer.Written.{WroteValue, WrotePasses, BothNumber, OneNumber, truth_size}
use Rattle.lower_ops.proofs.Parts.{begins_on, as_wrote, three, four, five, plus_is, reach_three, reach_four, reach_five}

-- ---- sizes do not depend on the free temporaries and slots

shape_pending : (b : Bool) (t k : ℕ) → shape_of (mode_of (pending b t k)) ≡ shape_of (mode_of (pending b 0 0))
shape_pending true t k = refl
shape_pending false t k = refl

shape_unless : (v : Bool) (x : ℕ) (b : Bool) (t k : ℕ) → shape_of (mode_of (unless_written v x (pending b t k))) ≡ shape_of (mode_of (unless_written v x (pending b 0 0)))
shape_unless true x b t k = shape_pending b t k
shape_unless false x b t k = refl

shape_rest : (r : Option ℕ) (w : ℕ → Bool) (b : Bool) (t k : ℕ) → shape_of (mode_of (at_rest r w (pending b t k))) ≡ shape_of (mode_of (at_rest r w (pending b 0 0)))
shape_rest None w b t k = shape_pending b t k
shape_rest (Some x) w b t k = shape_unless (w x) x b t k

shape_wait : (c : Option ℤ) (r : Option ℕ) (w : ℕ → Bool) (b : Bool) (t k : ℕ) → shape_of (mode_of (constant_or c (at_rest r w (pending b t k)))) ≡ shape_of (mode_of (constant_or c (at_rest r w (pending b 0 0))))
shape_wait None r w b t k = shape_rest r w b t k
shape_wait (Some v) r w b t k = refl

pub same_shape : (e : Value) (w : ℕ → Bool) (b : Bool) (t k : ℕ) → shape_of (mode_of (waits_in e w b t k)) ≡ wait_shape e w b
same_shape e w b t k = shape_wait (constant_of e) (rests_in e) w b t k

load_pending : (n b : Bool) (t k : ℕ) → loads_size n (pending b t k) ≡ loads_size n (pending b 0 0)
load_pending true true t k = refl
load_pending true false t k = refl
load_pending false b t k = refl

load_unless : (n v : Bool) (x : ℕ) (b : Bool) (t k : ℕ) → loads_size n (unless_written v x (pending b t k)) ≡ loads_size n (unless_written v x (pending b 0 0))
load_unless n true x b t k = load_pending n b t k
load_unless n false x b t k = refl

load_rest : (n : Bool) (r : Option ℕ) (w : ℕ → Bool) (b : Bool) (t k : ℕ) → loads_size n (at_rest r w (pending b t k)) ≡ loads_size n (at_rest r w (pending b 0 0))
load_rest n None w b t k = load_pending n b t k
load_rest n (Some x) w b t k = load_unless n (w x) x b t k

load_wait : (n : Bool) (c : Option ℤ) (r : Option ℕ) (w : ℕ → Bool) (b : Bool) (t k : ℕ) → loads_size n (constant_or c (at_rest r w (pending b t k))) ≡ loads_size n (constant_or c (at_rest r w (pending b 0 0)))
load_wait n None r w b t k = load_rest n r w b t k
load_wait n (Some v) r w b t k = refl

pub same_load : (n : Bool) (e : Value) (w : ℕ → Bool) (b : Bool) (t k : ℕ) → loads_size n (waits_in e w b t k) ≡ loads_size n (waits_in e w b 0 0)
same_load n e w b t k = load_wait n (constant_of e) (rests_in e) w b t k

-- ---- a value that waits

pub waiting : (size : Place → ℕ) (e : Value) (w : ℕ → Bool) (b : Bool) (t k : ℕ) (m : Mode) {c1 c2 : List Instruction} → m ≡ mode_of (waits_in e w b t k) → WroteValue size e m t k c1 c2
    → Wrote (λ v p q. Into v size e (mode_of (waits_in e w b t k)) t k p q) (value_size e (wait_shape e w b)) c1 c2
waiting size e w b t k m {c1} {c2} h x =
    subst (λ s. Wrote (λ v p q. Into v size e (mode_of (waits_in e w b t k)) t k p q) (value_size e s) c1 c2) (same_shape e w b t k)
    (subst (λ n. WroteValue size e n t k c1 c2) h x)

-- ---- nodes

pub binary_wrote : (size : Place → ℕ) (at : Pos) (o : BinOp) (u : IntType) (a b : Value) (m ml : Mode) (t k t2 k2 : ℕ) (l r : Operand) (rd : Reading) {c0 c1 c2 c3 c4 : List Instruction}
    → l ≡ waits_in a (writes b) (calls b) t k → ml ≡ mode_of l → t2 ≡ free_temporary l t → k2 ≡ free_kept l k → r ≡ operand_of b t2 k2 → rd ≡ reading_of u
    → Wrote (λ w p q. One w instruction.Nothing p q) 1 c0 c1 → WroteValue size a ml t k c1 c2
    → Wrote (λ w p q. Into w size b (mode_of (operand_of b t2 k2)) t2 k2 p q) (value_size b (rest_shape b)) c2 c3
    → Wrote (λ w p q. Operates w o rd m l r t p q) (operates_size o (shape_of m)) c3 c4
    → WroteValue size (typed.binary at o u a b) m t k c0 c4
binary_wrote size at o u a b m ml t k t2 k2 l r rd {c0} {c1} {c2} {c3} {c4} el em et ek er ed x0 x1 x2 x3 =
    let L = waits_in a (writes b) (calls b) t k in
    let T = free_temporary L t in
    let K = free_kept L k in
    let et2 : t2 ≡ T = et ∙ ap (λ n. free_temporary n t) el in
    let ek2 : k2 ≡ K = ek ∙ ap (λ n. free_kept n k) el in
    let er2 : r ≡ operand_of b T K = er ∙ ap (λ n. operand_of b n k2) et2 ∙ ap (λ n. operand_of b T n) ek2 in
    let y1 = waiting size a (writes b) (calls b) t k ml (em ∙ ap mode_of el) x1 in
    let y2 = subst (λ n. Wrote (λ w p q. Into w size b (mode_of (operand_of b T n)) T n p q) (value_size b (rest_shape b)) c2 c3) ek2
    (subst (λ n. Wrote (λ w p q. Into w size b (mode_of (operand_of b n k2)) n k2 p q) (value_size b (rest_shape b)) c2 c3) et2 x2) in
    let y3 = subst (λ n. Wrote (λ w p q. Operates w o (reading_of u) m L n t p q) (operates_size o (shape_of m)) c3 c4) er2
    (subst (λ n. Wrote (λ w p q. Operates w o (reading_of u) m n r t p q) (operates_size o (shape_of m)) c3 c4) el
    (subst (λ n. Wrote (λ w p q. Operates w o n m l r t p q) (operates_size o (shape_of m)) c3 c4) ed x3)) in
    four x0 y1 y2 y3

pub number_wrote : (size : Place → ℕ) (u : IntType) (e : Value) (more : Arguments) (t k t2 k2 : ℕ) (o : Operand) (me : Mode) (n : Bool) {c0 c1 c2 c3 : List Instruction}
    → o ≡ waits_in e (arguments_write more) (arguments_call more) t k → me ≡ mode_of o → t2 ≡ t + 1 → k2 ≡ free_kept o k → n ≡ keeps u e
    → WroteValue size e me t k c0 c1 → WrotePasses size more t2 k2 c1 c2 → Wrote (λ w p q. Loads w n u o t p q) (loads_size n o) c2 c3
    → WrotePasses size (typed.and_number u e more) t k c0 c3
number_wrote size u e more t k t2 k2 o me n {c0} {c1} {c2} {c3} eo em et ek en x0 x1 x2 =
    let w0 = arguments_write more in
    let b0 = arguments_call more in
    let O = waits_in e w0 b0 t k in
    let ek2 : k2 ≡ free_kept O k = ek ∙ ap (λ j. free_kept j k) eo in
    let y0 = waiting size e w0 b0 t k me (em ∙ ap mode_of eo) x0 in
    let y1 = subst (λ j. WrotePasses size more (t + 1) j c1 c2) ek2 (subst (λ j. WrotePasses size more j k2 c1 c2) et x1) in
    let y2 = subst (λ j. Wrote (λ w p q. Loads w (keeps u e) u O t p q) j c2 c3) (same_load (keeps u e) e w0 b0 t k)
    (subst (λ j. Wrote (λ w p q. Loads w (keeps u e) u j t p q) (loads_size (keeps u e) j) c2 c3) eo
    (subst (λ j. Wrote (λ w p q. Loads w j u o t p q) (loads_size j o) c2 c3) en x2)) in
    three y0 y1 y2

pub both_jump_wrote : (size : Place → ℕ) (a b : Value) (sense : Bool) (t k to end way : ℕ) {c0 c1 c2 c3 : List Instruction}
    → end ≡ plus (length c0) (plus 1 (plus (value_size a shape.Jump) (value_size b shape.Jump))) → way ≡ choose sense end to
    → Wrote (λ w p q. One w instruction.Nothing p q) 1 c0 c1 → WroteValue size a (If false way) t k c1 c2 → WroteValue size b (If sense to) t k c2 c3
    → WroteValue size (typed.both_true a b) (If sense to) t k c0 c3
both_jump_wrote size a b sense t k to end way {c0} {c1} {c2} {c3} e ew x0 x1 x2 =
    let at_end : end ≡ length c3 = reach_three end (length c0) 1 (value_size a shape.Jump) (value_size b shape.Jump) (length c3) e (omega (arith, x0.grows, x1.grows, x2.grows)) x2.short in
    let y1 = subst (λ n. WroteValue size a (If false n) t k c1 c2) (ew ∙ ap (λ n. choose sense n to) at_end) x1 in
    as_wrote (λ w p q. Into w size (typed.both_true a b) (If sense to) t k p q) (three x0 y1 x2) (λ w h. h)

pub one_jump_wrote : (size : Place → ℕ) (a b : Value) (sense : Bool) (t k to end way : ℕ) {c0 c1 c2 c3 : List Instruction}
    → end ≡ plus (length c0) (plus 1 (plus (value_size a shape.Jump) (value_size b shape.Jump))) → way ≡ choose sense to end
    → Wrote (λ w p q. One w instruction.Nothing p q) 1 c0 c1 → WroteValue size a (If true way) t k c1 c2 → WroteValue size b (If sense to) t k c2 c3
    → WroteValue size (typed.one_true a b) (If sense to) t k c0 c3
one_jump_wrote size a b sense t k to end way {c0} {c1} {c2} {c3} e ew x0 x1 x2 =
    let at_end : end ≡ length c3 = reach_three end (length c0) 1 (value_size a shape.Jump) (value_size b shape.Jump) (length c3) e (omega (arith, x0.grows, x1.grows, x2.grows)) x2.short in
    let y1 = subst (λ n. WroteValue size a (If true n) t k c1 c2) (ew ∙ ap (λ n. choose sense to n) at_end) x1 in
    as_wrote (λ w p q. Into w size (typed.one_true a b) (If sense to) t k p q) (three x0 y1 x2) (λ w h. h)

-- the position of the 0 of a truth that is to be a number
at_zero : (other l na nb k1 k2 k3 k4 : ℕ) → other ≡ plus l (plus 1 (plus na (plus nb 2))) → k1 ≡ l + 1 → k2 ≡ k1 + na → k3 ≡ k2 + nb → k4 ≡ k3 + truths_size
    → k4 < 9223372036854775808 → other ≡ k3 + 2
at_zero other l na nb k1 k2 k3 k4 e e1 e2 e3 e4 b =
    let three_is : truths_size ≡ 3 = plus_is 1 (plus 1 1) 3 (omega (arith, plus_is 1 1 2 (omega arith) (omega arith))) (omega arith) ∙ ap (λ n. 1 + n) (plus_is 1 1 2 (omega arith) (omega arith)) in
    reach_four other l 1 na nb 2 (k3 + 2) e (omega (arith, e1, e2, e3)) (omega (arith, e4, three_is, b))

pub both_number_wrote : (size : Place → ℕ) (a b : Value) (g : Target) (t k other : ℕ) {c0 c1 c2 c3 c4 : List Instruction}
    → other ≡ plus (length c0) (plus 1 (plus (value_size a shape.Jump) (plus (value_size b shape.Jump) 2)))
    → Wrote (λ w p q. One w instruction.Nothing p q) 1 c0 c1 → WroteValue size a (If false other) t k c1 c2 → WroteValue size b (If false other) t k c2 c3
    → Wrote (λ w p q. Truths w g p (p + 2) q) truths_size c3 c4 → Wrote (λ w p q. BothNumber w size a b g t k p q) (truth_size a b) c0 c4
both_number_wrote size a b g t k other {c0} {c1} {c2} {c3} {c4} e x0 x1 x2 x3 =
    let there : other ≡ length c3 + 2 = at_zero other (length c0) (value_size a shape.Jump) (value_size b shape.Jump) (length c1) (length c2) (length c3) (length c4) e x0.grows x1.grows x2.grows x3.grows x3.short in
    let y1 = subst (λ n. WroteValue size a (If false n) t k c1 c2) there x1 in
    let y2 = subst (λ n. WroteValue size b (If false n) t k c2 c3) there x2 in
    let all = four x0 y1 y2 x3 in
    record {
      begins = all.begins;
      grows = all.grows;
      short = all.short;
      stands = λ w h.
          let h2 = begins_on x3.begins h in
          let h1 = begins_on y2.begins h2 in
          (length c1, length c2, length c3, length c3 + 2, x0.stands w (begins_on y1.begins h1), y1.stands w h1, y2.stands w h2, x3.stands w h);
    }

pub one_number_wrote : (size : Place → ℕ) (a b : Value) (g : Target) (t k here other : ℕ) {c0 c1 c2 c3 c4 : List Instruction}
    → here ≡ plus (length c0) (plus 1 (plus (value_size a shape.Jump) (value_size b shape.Jump)))
    → other ≡ plus (length c0) (plus 1 (plus (value_size a shape.Jump) (plus (value_size b shape.Jump) 2)))
    → Wrote (λ w p q. One w instruction.Nothing p q) 1 c0 c1 → WroteValue size a (If true here) t k c1 c2 → WroteValue size b (If false other) t k c2 c3
    → Wrote (λ w p q. Truths w g p (p + 2) q) truths_size c3 c4 → Wrote (λ w p q. OneNumber w size a b g t k p q) (truth_size a b) c0 c4
one_number_wrote size a b g t k here other {c0} {c1} {c2} {c3} {c4} eh e x0 x1 x2 x3 =
    let there : other ≡ length c3 + 2 = at_zero other (length c0) (value_size a shape.Jump) (value_size b shape.Jump) (length c1) (length c2) (length c3) (length c4) e x0.grows x1.grows x2.grows x3.grows x3.short in
    let at_here : here ≡ length c3 = reach_three here (length c0) 1 (value_size a shape.Jump) (value_size b shape.Jump) (length c3) eh (omega (arith, x0.grows, x1.grows, x2.grows)) (omega (arith, x3.grows, x3.short)) in
    let y1 = subst (λ n. WroteValue size a (If true n) t k c1 c2) at_here x1 in
    let y2 = subst (λ n. WroteValue size b (If false n) t k c2 c3) there x2 in
    let all = four x0 y1 y2 x3 in
    record {
      begins = all.begins;
      grows = all.grows;
      short = all.short;
      stands = λ w h.
          let h2 = begins_on x3.begins h in
          let h1 = begins_on y2.begins h2 in
          (length c1, length c2, length c3, length c3 + 2, x0.stands w (begins_on y1.begins h1), y1.stands w h1, y2.stands w h2, x3.stands w h);
    }

pub chosen_wrote : (size : Place → ℕ) (u : Option IntType) (c a b : Value) (m : Mode) (t k other end : ℕ) {c0 c1 c2 c3 c4 c5 : List Instruction}
    → other ≡ plus (length c0) (plus 1 (plus (value_size c shape.Jump) (plus (value_size a (shape_of m)) 1)))
    → end ≡ plus (length c0) (plus 1 (plus (value_size c shape.Jump) (plus (value_size a (shape_of m)) (plus 1 (value_size b (shape_of m))))))
    → Wrote (λ w p q. One w instruction.Nothing p q) 1 c0 c1 → WroteValue size c (If false other) t k c1 c2 → WroteValue size a m t k c2 c3
    → Wrote (λ w p q. One w (instruction.Jump end) p q) 1 c3 c4 → WroteValue size b m t k c4 c5 → WroteValue size (typed.chosen u c a b) m t k c0 c5
chosen_wrote size u c a b m t k other end {c0} {c1} {c2} {c3} {c4} {c5} e1 e2 x0 x1 x2 x3 x4 =
    let nc = value_size c shape.Jump in
    let na = value_size a (shape_of m) in
    let nb = value_size b (shape_of m) in
    let there : other ≡ length c4 = reach_four other (length c0) 1 nc na 1 (length c4) e1 (omega (arith, x0.grows, x1.grows, x2.grows, x3.grows)) x3.short in
    let at_end : end ≡ length c5 = reach_five end (length c0) 1 nc na 1 nb (length c5) e2 (omega (arith, x0.grows, x1.grows, x2.grows, x3.grows, x4.grows)) x4.short in
    let y1 = subst (λ n. WroteValue size c (If false n) t k c1 c2) there x1 in
    let y3 = subst (λ n. Wrote (λ w p q. One w (instruction.Jump n) p q) 1 c3 c4) at_end x3 in
    let all = five x0 y1 x2 y3 x4 in
    record {
      begins = all.begins;
      grows = all.grows;
      short = all.short;
      stands = λ w h.
          let h3 = begins_on x4.begins h in
          let h2 = begins_on y3.begins h3 in
          let h1 = begins_on x2.begins h2 in
          (length c1, length c2, length c3, length c4, x0.stands w (begins_on y1.begins h1), y1.stands w h1, x2.stands w h2, y3.stands w h3, x4.stands w h);
    }

-- ---- modes of each kind of target

pub not_to : (size : Place → ℕ) (at : Pos) (u : IntType) (e : Value) (g : Target) (t k : ℕ) {c0 c1 : List Instruction}
    → Wrote (λ w p q. (p1 p2 : ℕ) × One w instruction.Nothing p p1 × Into w size e (mode_of (operand_of e t k)) t k p1 p2 × IsZero w (To g) (operand_of e t k) t p2 q)
    (plus 1 (plus (value_size e (rest_shape e)) (then_size op.Equal (shape_of (To g))))) c0 c1
    → WroteValue size (typed.unary at prefix.Not u e) (To g) t k c0 c1
not_to size at u e (target.Temporary j) t k x = x
not_to size at u e (target.Kept j) t k x = x
not_to size at u e (target.Object y) t k x = x

pub both_to : (size : Place → ℕ) (a b : Value) (g : Target) (t k : ℕ) {c0 c1 : List Instruction} → Wrote (λ w p q. BothNumber w size a b g t k p q) (truth_size a b) c0 c1 → WroteValue size (typed.both_true a b) (To g) t k c0 c1
both_to size a b (target.Temporary j) t k x = x
both_to size a b (target.Kept j) t k x = x
both_to size a b (target.Object y) t k x = x

pub one_to : (size : Place → ℕ) (a b : Value) (g : Target) (t k : ℕ) {c0 c1 : List Instruction} → Wrote (λ w p q. OneNumber w size a b g t k p q) (truth_size a b) c0 c1 → WroteValue size (typed.one_true a b) (To g) t k c0 c1
one_to size a b (target.Temporary j) t k x = x
one_to size a b (target.Kept j) t k x = x
one_to size a b (target.Object y) t k x = x
