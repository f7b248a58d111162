-- Parts of statements.
use Rattle.std.proofs.Common.{◌≡◌, ℕ, ◌+◌, ◌<◌, true, false, List, length, Option, ap, sym, ◌∙◌, subst, inr, arith}
use Rattle.typing_spec.specs.Program as typed
use Rattle.typing_spec.specs.Program.{Value, Statement, Statements}
use Rattle.tac_code.specs.declared.code.Instruction.{Instruction}
use Rattle.tac_code.specs.declared.code.Instruction.TheVariants as instruction
use Rattle.lower_correct.specs.Values.{If}
use Rattle.lower_correct.specs.Places.{size_of_place}
use Rattle.lower_correct.specs.Code.{One}
use Rattle.lower_correct.specs.Bodies.{Effects, Repeats, Leaves}
use Rattle.lower_ops.specs.layer.Parts.{plus, Wrote}
use Rattle.lower_ops.specs.declared.modes.Shape.TheVariants as shape
use Rattle.lower_exprs.specs.layer.Sizes.{value_size}
use Rattle.tac.specs.inside.Sizes.{effects_size, repeats_size, statement_size, statements_size}
use Rattle.lower_exprs.specs.layer.Written.{WroteValue}
use Rattle.tac.specs.inside.Written.{WroteStatement, WroteStatements}
use Rattle.lower_ops.proofs.Parts.{plus_is, sum_two, begins_on, as_wrote, three, five, reach_one, reach_two, reach_three, reach_four, reach_five}

-- a return jumps, also where it could fall through
pub leaves_wrote : (back : ℕ) {c0 c1 : List Instruction} → Wrote (λ w pc pc2. One w (instruction.Jump back) pc pc2) 1 c0 c1 → Wrote (λ w pc pc2. Leaves w back pc pc2) 1 c0 c1
leaves_wrote back x = as_wrote (λ w pc pc2. Leaves w back pc pc2) x (λ w h. inr h)

pub branch_wrote : (p : typed.Program) (f : typed.Function) (e : Value) (a : Statement) (out again back end : ℕ) {c0 c1 c2 c3 : List Instruction}
    → end ≡ plus (length c0) (plus 1 (plus (value_size e shape.Jump) (statement_size p f a)))
    → Wrote (λ w pc pc2. One w instruction.Nothing pc pc2) 1 c0 c1 → WroteValue (size_of_place p f) e (If false end) 0 0 c1 c2 → WroteStatement p f a out again back c2 c3
    → WroteStatement p f (typed.branch e a) out again back c0 c3
branch_wrote p f e a out again back end {c0} {c1} {c2} {c3} h x0 x1 x2 =
    let at_end : end ≡ length c3 = reach_three end (length c0) 1 (value_size e shape.Jump) (statement_size p f a) (length c3) h (omega (arith, x0.grows, x1.grows, x2.grows)) x2.short in
    let y1 = subst (λ n. WroteValue (size_of_place p f) e (If false n) 0 0 c1 c2) at_end x1 in
    let all = three x0 y1 x2 in
    record {
      begins = all.begins;
      grows = all.grows;
      short = all.short;
      stands = λ w h. (length c1, length c2, x0.stands w (begins_on y1.begins (begins_on x2.begins h)), y1.stands w (begins_on x2.begins h), x2.stands w h);
    }

pub branches_wrote : (p : typed.Program) (f : typed.Function) (e : Value) (a b : Statement) (out again back other end : ℕ) {c0 c1 c2 c3 c4 c5 : List Instruction}
    → other ≡ plus (length c0) (plus 1 (plus (value_size e shape.Jump) (plus (statement_size p f a) 1)))
    → end ≡ plus (length c0) (plus 1 (plus (value_size e shape.Jump) (plus (statement_size p f a) (plus 1 (statement_size p f b)))))
    → Wrote (λ w pc pc2. One w instruction.Nothing pc pc2) 1 c0 c1 → WroteValue (size_of_place p f) e (If false other) 0 0 c1 c2 → WroteStatement p f a out again back c2 c3
    → Wrote (λ w pc pc2. One w (instruction.Jump end) pc pc2) 1 c3 c4 → WroteStatement p f b out again back c4 c5 → WroteStatement p f (typed.branches e a b) out again back c0 c5
branches_wrote p f e a b out again back other end {c0} {c1} {c2} {c3} {c4} {c5} h1 h2 x0 x1 x2 x3 x4 =
    let nc = value_size e shape.Jump in
    let na = statement_size p f a in
    let nb = statement_size p f b in
    let there : other ≡ length c4 = reach_four other (length c0) 1 nc na 1 (length c4) h1 (omega (arith, x0.grows, x1.grows, x2.grows, x3.grows)) x3.short in
    let at_end : end ≡ length c5 = reach_five end (length c0) 1 nc na 1 nb (length c5) h2 (omega (arith, x0.grows, x1.grows, x2.grows, x3.grows, x4.grows)) x4.short in
    let y1 = subst (λ n. WroteValue (size_of_place p f) e (If false n) 0 0 c1 c2) there x1 in
    let y3 = subst (λ n. Wrote (λ w pc pc2. One w (instruction.Jump n) pc pc2) 1 c3 c4) at_end x3 in
    let all = five x0 y1 x2 y3 x4 in
    record {
      begins = all.begins;
      grows = all.grows;
      short = all.short;
      stands = λ w h.
          let h3 = begins_on x4.begins h in
          let h2 = begins_on y3.begins h3 in
          let h1 = begins_on x2.begins h2 in
          (length c1, length c2, length c3, length c4, x0.stands w (begins_on y1.begins h1), y1.stands w h1, x2.stands w h2, y3.stands w h3, x4.stands w h);
    }

pub while_wrote : (p : typed.Program) (f : typed.Function) (e : Value) (a : Statement) (out again back top at end : ℕ) {c0 c1 c2 c3 : List Instruction}
    → top ≡ plus (length c0) 1 → at ≡ plus (length c0) (plus 1 (statement_size p f a)) → end ≡ plus (length c0) (plus 1 (plus (statement_size p f a) (value_size e shape.Jump)))
    → Wrote (λ w pc pc2. One w (instruction.Jump at) pc pc2) 1 c0 c1 → WroteStatement p f a end at back c1 c2 → WroteValue (size_of_place p f) e (If true top) 0 0 c2 c3
    → WroteStatement p f (typed.while e a) out again back c0 c3
while_wrote p f e a out again back top at end {c0} {c1} {c2} {c3} h1 h2 h3 x0 x1 x2 =
    let na = statement_size p f a in
    let ne = value_size e shape.Jump in
    let at_top : top ≡ length c1 = reach_one top (length c0) 1 (length c1) h1 x0.grows x0.short in
    let at_at : at ≡ length c2 = reach_two at (length c0) 1 na (length c2) h2 (omega (arith, x0.grows, x1.grows)) x1.short in
    let at_end : end ≡ length c3 = reach_three end (length c0) 1 na ne (length c3) h3 (omega (arith, x0.grows, x1.grows, x2.grows)) x2.short in
    let y0 = subst (λ n. Wrote (λ w pc pc2. One w (instruction.Jump n) pc pc2) 1 c0 c1) at_at x0 in
    let y1 = subst (λ n. WroteStatement p f a (length c3) n back c1 c2) at_at (subst (λ n. WroteStatement p f a n at back c1 c2) at_end x1) in
    let y2 = subst (λ n. WroteValue (size_of_place p f) e (If true n) 0 0 c2 c3) at_top x2 in
    let all = three y0 y1 y2 in
    record {
      begins = all.begins;
      grows = all.grows;
      short = all.short;
      stands = λ w h. (length c1, length c2, y0.stands w (begins_on y1.begins (begins_on y2.begins h)), y1.stands w (begins_on y2.begins h), y2.stands w h);
    }

pub do_while_wrote : (p : typed.Program) (f : typed.Function) (a : Statement) (e : Value) (out again back top at end : ℕ) {c0 c1 c2 c3 : List Instruction}
    → top ≡ plus (length c0) 1 → at ≡ plus (length c0) (plus 1 (statement_size p f a)) → end ≡ plus (length c0) (plus 1 (plus (statement_size p f a) (value_size e shape.Jump)))
    → Wrote (λ w pc pc2. One w instruction.Nothing pc pc2) 1 c0 c1 → WroteStatement p f a end at back c1 c2 → WroteValue (size_of_place p f) e (If true top) 0 0 c2 c3
    → WroteStatement p f (typed.do_while a e) out again back c0 c3
do_while_wrote p f a e out again back top at end {c0} {c1} {c2} {c3} h1 h2 h3 x0 x1 x2 =
    let na = statement_size p f a in
    let ne = value_size e shape.Jump in
    let at_top : top ≡ length c1 = reach_one top (length c0) 1 (length c1) h1 x0.grows x0.short in
    let at_at : at ≡ length c2 = reach_two at (length c0) 1 na (length c2) h2 (omega (arith, x0.grows, x1.grows)) x1.short in
    let at_end : end ≡ length c3 = reach_three end (length c0) 1 na ne (length c3) h3 (omega (arith, x0.grows, x1.grows, x2.grows)) x2.short in
    let y1 = subst (λ n. WroteStatement p f a (length c3) n back c1 c2) at_at (subst (λ n. WroteStatement p f a n at back c1 c2) at_end x1) in
    let y2 = subst (λ n. WroteValue (size_of_place p f) e (If true n) 0 0 c2 c3) at_top x2 in
    let all = three x0 y1 y2 in
    record {
      begins = all.begins;
      grows = all.grows;
      short = all.short;
      stands = λ w h. (length c1, length c2, x0.stands w (begins_on y1.begins (begins_on y2.begins h)), y1.stands w (begins_on y2.begins h), y2.stands w h);
    }

reach_six : (e l n m o p q r k : ℕ) → e ≡ plus l (plus n (plus m (plus o (plus p (plus q r))))) → k ≡ l + (n + (m + (o + (p + (q + r))))) → k < 9223372036854775808 → e ≡ k
reach_six e l n m o p q r k h g b =
    reach_five e l n m o p (plus q r) k h (g ∙ ap (λ x. l + (n + (m + (o + (p + x))))) (sym (plus_is q r k (omega (arith, g)) b))) b

reach_seven : (e l n m o p q r s k : ℕ) → e ≡ plus l (plus n (plus m (plus o (plus p (plus q (plus r s)))))) → k ≡ l + (n + (m + (o + (p + (q + (r + s)))))) → k < 9223372036854775808 → e ≡ k
reach_seven e l n m o p q r s k h g b =
    reach_six e l n m o p q (plus r s) k h (g ∙ ap (λ x. l + (n + (m + (o + (p + (q + x)))))) (sym (plus_is r s k (omega (arith, g)) b))) b

pub for_wrote : (p : typed.Program) (f : typed.Function) (declared : Statements) (start test step : Option Value) (a : Statement) (out again back top next at end : ℕ) {c0 c1 c2 c3 c4 c5 c6 c7 : List Instruction}
    → top ≡ plus (length c0) (plus 1 (plus (statements_size p f declared) (plus (effects_size start) 1)))
    → next ≡ plus (length c0) (plus 1 (plus (statements_size p f declared) (plus (effects_size start) (plus 1 (statement_size p f a)))))
    → at ≡ plus (length c0) (plus 1 (plus (statements_size p f declared) (plus (effects_size start) (plus 1 (plus (statement_size p f a) (effects_size step))))))
    → end ≡ plus (length c0) (plus 1 (plus (statements_size p f declared) (plus (effects_size start) (plus 1 (plus (statement_size p f a) (plus (effects_size step) (repeats_size test)))))))
    → Wrote (λ w pc pc2. One w instruction.Nothing pc pc2) 1 c0 c1 → WroteStatements p f declared end end back c1 c2 → Wrote (λ w pc pc2. Effects w p f start pc pc2) (effects_size start) c2 c3
    → Wrote (λ w pc pc2. One w (instruction.Jump at) pc pc2) 1 c3 c4 → WroteStatement p f a end next back c4 c5 → Wrote (λ w pc pc2. Effects w p f step pc pc2) (effects_size step) c5 c6
    → Wrote (λ w pc pc2. Repeats w p f test top pc pc2) (repeats_size test) c6 c7
    → WroteStatement p f (typed.for declared start test step a) out again back c0 c7
for_wrote p f declared start test step a out again back top next at end {c0} {c1} {c2} {c3} {c4} {c5} {c6} {c7} h1 h2 h3 h4 x0 x1 x2 x3 x4 x5 x6 =
    let nd = statements_size p f declared in
    let ns = effects_size start in
    let na = statement_size p f a in
    let nt = effects_size step in
    let nr = repeats_size test in
    let at_top : top ≡ length c4 = reach_four top (length c0) 1 nd ns 1 (length c4) h1 (omega (arith, x0.grows, x1.grows, x2.grows, x3.grows)) x3.short in
    let at_next : next ≡ length c5 = reach_five next (length c0) 1 nd ns 1 na (length c5) h2 (omega (arith, x0.grows, x1.grows, x2.grows, x3.grows, x4.grows)) x4.short in
    let at_at : at ≡ length c6 = reach_six at (length c0) 1 nd ns 1 na nt (length c6) h3 (omega (arith, x0.grows, x1.grows, x2.grows, x3.grows, x4.grows, x5.grows)) x5.short in
    let at_end : end ≡ length c7 = reach_seven end (length c0) 1 nd ns 1 na nt nr (length c7) h4 (omega (arith, x0.grows, x1.grows, x2.grows, x3.grows, x4.grows, x5.grows, x6.grows)) x6.short in
    let y1 = subst (λ n. WroteStatements p f declared n n back c1 c2) at_end x1 in
    let y3 = subst (λ n. Wrote (λ w pc pc2. One w (instruction.Jump n) pc pc2) 1 c3 c4) at_at x3 in
    let y4 = subst (λ n. WroteStatement p f a (length c7) n back c4 c5) at_next (subst (λ n. WroteStatement p f a n next back c4 c5) at_end x4) in
    let y6 = subst (λ n. Wrote (λ w pc pc2. Repeats w p f test n pc pc2) nr c6 c7) at_top x6 in
    let all = five x2 y3 y4 x5 y6 in
    record {
      begins = begins_on x0.begins (begins_on y1.begins all.begins);
      grows = sum_two 1 (plus nd (plus ns (plus 1 (plus na (plus nt nr))))) (length c0) (length c1) (length c7) x0.grows
          (sum_two nd (plus ns (plus 1 (plus na (plus nt nr)))) (length c1) (length c2) (length c7) y1.grows all.grows x6.short) x6.short;
      short = x6.short;
      stands = λ w h.
          let b6 = begins_on y6.begins h in
          let b5 = begins_on x5.begins b6 in
          let b4 = begins_on y4.begins b5 in
          let b3 = begins_on y3.begins b4 in
          let b2 = begins_on x2.begins b3 in (
            length c1,
            length c2,
            length c3,
            length c4,
            length c5,
            length c6,
            x0.stands w (begins_on y1.begins b2),
            y1.stands w b2,
            x2.stands w b3,
            y3.stands w b4,
            y4.stands w b5,
            x5.stands w b6,
            y6.stands w h,
          );
    }
