-- Parts of a switch.
use Rattle.std.proofs.Common.{◌≡◌, ℕ, ◌<◌, ℤ, List, [], ◌++◌, map, length, Option, Some, None, refl, ap, sym, subst, arith}
use Rattle.ctypes.specs.declared.types.IntType.{IntType}
use Rattle.typing_spec.specs.Program as typed
use Rattle.typing_spec.specs.Program.{Value, Statement, Statements}
use Rattle.csem.specs.Statements.{labels_at, labels_of}
use Rattle.tac_code.specs.declared.code.Operand.{Operand}
use Rattle.tac_code.specs.declared.code.Operand.TheVariants as operand
use Rattle.tac_code.specs.declared.code.Reading.TheVariants as reading
use Rattle.tac_code.specs.declared.code.Comparison.TheVariants as comparison
use Rattle.tac_code.specs.declared.code.Instruction.{Instruction}
use Rattle.tac_code.specs.declared.code.Instruction.TheVariants as instruction
use Rattle.tac_code.specs.Run.{word_for}
use Rattle.lower_correct.specs.Values.{waits_in, mode_of}
use Rattle.lower_correct.specs.Places.{size_of_place}
use Rattle.lower_correct.specs.Code.{One}
use Rattle.lower_correct.specs.Bodies.{is_within, has_objects, forgets, label_places, StandAll, StandAt, Tests}
use Rattle.lower_ops.specs.layer.Parts.{plus, shape_of, Wrote}
use Rattle.lower_exprs.specs.layer.Sizes.{value_size}
use Rattle.tac.specs.inside.Sizes.{tests_size, statement_size, statements_size}
use Rattle.tac.specs.inside.Places.{one_label, places_of}
use Rattle.lower_exprs.specs.layer.Written.{WroteValue}
use Rattle.tac.specs.inside.Written.{WroteStatement, WroteStatements, WrotePlaced, WroteTests}
use Rattle.lower_ops.proofs.Parts.{begins_on, as_wrote, none_wrote, two, five, reach_one, reach_four, reach_five}

-- ---- tests

-- the tests of these labels and of those among more statements
abbrev TestsBy : typed.Program → typed.Function → Operand → (labels : List (Option ℤ)) → Statements → (at next other : ℕ) → (old new : List Instruction) → Type 0
TestsBy p f o labels more at next other old new =
    Wrote (λ w pc pc2. Tests w o (labels ++ labels_of more) (map (λ l. at) labels ++ places_of p f more next) other pc pc2) (tests_size (labels ++ labels_of more)) old new

module _ (p : typed.Program) (f : typed.Function) (o : Operand) (x : Statement) (more : Statements) (at next other : ℕ) (h : next ≡ plus at (statement_size p f x)) where
  by_labels : (labels : List (Option ℤ)) → labels_at x ≡ labels → {c0 c1 : List Instruction} → TestsBy p f o labels more at next other c0 c1 → WroteTests p f o (typed.and_statement x more) at other c0 c1
  by_labels labels e {c0} {c1} y = subst (λ n. TestsBy p f o (labels_at x) more at n other c0 c1) h (subst (λ k. TestsBy p f o k more at next other c0 c1) (sym e) y)

  pub tests_pass : labels_at x ≡ one_label None → {c0 c1 : List Instruction} → WroteTests p f o more next other c0 c1 → WroteTests p f o (typed.and_statement x more) at other c0 c1
  tests_pass e y = by_labels (one_label None) e y

  pub tests_default : labels_at x ≡ one_label (Some None) → {c0 c1 : List Instruction} → WroteTests p f o more next at c0 c1 → WroteTests p f o (typed.and_statement x more) at other c0 c1
  tests_default e y = by_labels (one_label (Some None)) e y

  pub tests_case : (v : ℤ) → labels_at x ≡ one_label (Some (Some v)) → {c0 c1 c2 : List Instruction}
      → Wrote (λ w pc pc2. One w (instruction.Branch comparison.Equal reading.Signed o (operand.Constant (word_for v)) at) pc pc2) 1 c0 c1
      → WroteTests p f o more next other c1 c2 → WroteTests p f o (typed.and_statement x more) at other c0 c2
  tests_case v e y z = by_labels (one_label (Some (Some v))) e (two y z)

-- ---- statements with the places of their labels

pub none_placed : (p : typed.Program) (f : typed.Function) (out again back : ℕ) (c0 c1 : List Instruction) → c1 ≡ c0 → length c0 < 4611686018427387904 → WrotePlaced p f typed.no_statements out again back c0 c1
none_placed p f out again back c0 c1 e l = none_wrote (λ w pc pc2. StandAt w p f typed.no_statements [] out again back pc pc2) c0 c1 e l (λ w. (refl, refl))

pub and_placed : (p : typed.Program) (f : typed.Function) (x : Statement) (more : Statements) (out again back : ℕ) {c0 c1 c2 : List Instruction}
    → WroteStatement p f x out again back c0 c1 → WrotePlaced p f more out again back c1 c2 → WrotePlaced p f (typed.and_statement x more) out again back c0 c2
and_placed p f x more out again back {c0} {c1} {c2} y z =
    let here : plus (length c0) (statement_size p f x) ≡ length c1 = reach_one (plus (length c0) (statement_size p f x)) (length c0) (statement_size p f x) (length c1) refl y.grows y.short in
    let all = two y z in
    record {
      begins = all.begins;
      grows = all.grows;
      short = all.short;
      stands = λ w h. (
        length c1,
        places_of p f more (length c1),
        ap (λ n. label_places x (length c0) ++ places_of p f more n) here,
        y.stands w (begins_on z.begins h),
        z.stands w h,
      );
    }

at_all : (p : typed.Program) (f : typed.Function) (w : List Instruction) (all : Statements) (places : List ℕ) (out again back pc pc2 : ℕ) → StandAt w p f all places out again back pc pc2 → StandAll w p f all out again back pc pc2
at_all p f w typed.no_statements places out again back pc pc2 (e, h) = h
at_all p f w (typed.and_statement x more) places out again back pc pc2 (p1, rest, e, h, k) = (p1, h, at_all p f w more rest out again back p1 pc2 k)

pub placed_all : (p : typed.Program) (f : typed.Function) (all : Statements) (out again back : ℕ) {c0 c1 : List Instruction} → WrotePlaced p f all out again back c0 c1 → WroteStatements p f all out again back c0 c1
placed_all p f all out again back {c0} {c1} y =
    as_wrote (λ w pc pc2. StandAll w p f all out again back pc pc2) y (λ w h. at_all p f w all (places_of p f all (length c0)) out again back (length c0) (length c1) h)

-- ---- the whole

pub switch_wrote : (p : typed.Program) (f : typed.Function) (u : IntType) (e : Value) (first count : ℕ) (all : Statements) (out again back body end : ℕ) {c0 c1 c2 c3 c4 c5 : List Instruction}
    → (let o = waits_in e (is_within first count) (has_objects count) 0 0 in
    body ≡ plus (length c0) (plus 1 (plus (value_size e (shape_of (mode_of o))) (plus 1 (tests_size (labels_of all)))))
    → end ≡ plus (length c0) (plus 1 (plus (value_size e (shape_of (mode_of o))) (plus 1 (plus (tests_size (labels_of all)) (statements_size p f all)))))
    → Wrote (λ w pc pc2. One w instruction.Nothing pc pc2) 1 c0 c1 → WroteValue (size_of_place p f) e (mode_of o) 0 0 c1 c2
    → Wrote (λ w pc pc2. One w (forgets first count) pc pc2) 1 c2 c3 → WroteTests p f o all body end c3 c4 → WrotePlaced p f all end again back c4 c5
    → WroteStatement p f (typed.switch u e first count all) out again back c0 c5)
switch_wrote p f u e first count all out again back body end {c0} {c1} {c2} {c3} {c4} {c5} h1 h2 x0 x1 x2 x3 x4 =
    let o = waits_in e (is_within first count) (has_objects count) 0 0 in
    let nv = value_size e (shape_of (mode_of o)) in
    let nt = tests_size (labels_of all) in
    let ns = statements_size p f all in
    let there : body ≡ length c4 = reach_four body (length c0) 1 nv 1 nt (length c4) h1 (omega (arith, x0.grows, x1.grows, x2.grows, x3.grows)) x3.short in
    let at_end : end ≡ length c5 = reach_five end (length c0) 1 nv 1 nt ns (length c5) h2 (omega (arith, x0.grows, x1.grows, x2.grows, x3.grows, x4.grows)) x4.short in
    let y3 = subst (λ n. WroteTests p f o all n (length c5) c3 c4) there (subst (λ n. WroteTests p f o all body n c3 c4) at_end x3) in
    let y4 = subst (λ n. WrotePlaced p f all n again back c4 c5) at_end x4 in
    let sum = five x0 x1 x2 y3 y4 in
    record {
      begins = sum.begins;
      grows = sum.grows;
      short = sum.short;
      stands = λ w h.
          let b3 = begins_on y4.begins h in
          let b2 = begins_on y3.begins b3 in
          let b1 = begins_on x2.begins b2 in
          (length c1, length c2, length c3, length c4, places_of p f all (length c4), x0.stands w (begins_on x1.begins b1), x1.stands w b1, x2.stands w b2, y3.stands w b3, y4.stands w h);
    }
