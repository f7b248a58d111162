use Rattle.std.proofs.Common.{[], rules, ◌≡◌, ◌∙◌, ap, map, sym, to_z, of_z, w64}
use Rattle.std.proofs.Math.Facts.{to_z-of_z}
use Rattle.std.specs.Prelude.{true, false}
use Rattle.ctypes.specs.Types.{truth}
use Rattle.csem.specs.Machine.{State, choose}
use Rattle.typed_ast.specs.declared.statements.Statement.{Statement}
use Rattle.typed_ast.specs.View.{object_type_of, program_of, statement_of}
use Rattle.interp_store.specs.layer.Agrees.{frames_of}
use Rattle.interp_store.specs.layer.Frames as on
use Rattle.interp_store.specs.layer.Frames.{Moved, moves, enters}
use Rattle.cabs.proofs.Sweeps.{picks_true, picks_false, after_as, found_none}
use Rattle.cabs.proofs.opening.branches.Goals as goal

pub returns-then-is_true-clause-does : goal.returns-then-is_true-clause-does
returns-then-is_true-clause-does c = λ run h.
    let m = c.args.machine.now in
    let new = c.value_here.new.machine in
    let objects = map object_type_of c.args.choice.objects.now in
    let v = c.in-Some.v in
    let same : to_z w64 (of_z w64 v) ≡ v = search (rules, to_z-of_z) in
    let test : truth v ≡ true = ap truth (sym same) ∙ sym c.is_true.ensures ∙ c.if-is_true.true in
    let yes : State → Moved = λ s. moves [] (enters (on.statement objects (statement_of c.args.choice.a.now.value))) s in
    let no : State → Moved = λ s. moves [] (enters (on.statement objects (statement_of c.args.choice.b.now.value))) s in
    let at : Statement → State → Moved = λ a s. moves [] (enters (on.statement objects (statement_of a))) s in
    after_as run (program_of m.program.now) c.value_here.new.clock.spent (frames_of new) new.scene (λ s. choose (truth v) (yes s) (no s)) (λ s. at c.deref.result.now s)
    (λ s. picks_true (truth v) (yes s) (no s) test ∙ ap (λ x. at x s) (sym c.deref.ensures))
    (c.in-Some.ensures.does run (on.if_else objects (statement_of c.args.choice.a.now.value) (statement_of c.args.choice.b.now.value)) h)

pub returns-else-is_true-clause-does : goal.returns-else-is_true-clause-does
returns-else-is_true-clause-does c = λ run h.
    let m = c.args.machine.now in
    let new = c.value_here.new.machine in
    let objects = map object_type_of c.args.choice.objects.now in
    let v = c.in-Some.v in
    let same : to_z w64 (of_z w64 v) ≡ v = search (rules, to_z-of_z) in
    let test : truth v ≡ false = ap truth (sym same) ∙ sym c.is_true.ensures ∙ c.if-is_true.false in
    let yes : State → Moved = λ s. moves [] (enters (on.statement objects (statement_of c.args.choice.a.now.value))) s in
    let no : State → Moved = λ s. moves [] (enters (on.statement objects (statement_of c.args.choice.b.now.value))) s in
    let at : Statement → State → Moved = λ a s. moves [] (enters (on.statement objects (statement_of a))) s in
    after_as run (program_of m.program.now) c.value_here.new.clock.spent (frames_of new) new.scene (λ s. choose (truth v) (yes s) (no s)) (λ s. at c.deref-else-is_true.result.now s)
    (λ s. picks_false (truth v) (yes s) (no s) test ∙ ap (λ x. at x s) (sym c.deref-else-is_true.ensures))
    (c.in-Some.ensures.does run (on.if_else objects (statement_of c.args.choice.a.now.value) (statement_of c.args.choice.b.now.value)) h)

pub returns-in_default-clause-does : goal.returns-in_default-clause-does
returns-in_default-clause-does c = λ run h.
    let m = c.args.machine.now in
    let objects = map object_type_of c.args.choice.objects.now in
    found_none on.a_value run (program_of m.program.now) (on.if_else objects (statement_of c.args.choice.a.now.value) (statement_of c.args.choice.b.now.value)) c.args.limit c.value_here.result c.value_here.new.clock c.value_here.new.machine c.in_default.is (c.value_here.ensures.does run (on.if_else objects (statement_of c.args.choice.a.now.value) (statement_of c.args.choice.b.now.value)) h)
