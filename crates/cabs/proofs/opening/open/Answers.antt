use Rattle.std.proofs.Common.{◌∙◌, ap, map, sym}
use Rattle.typing_spec.specs.Program as typed
use Rattle.typed_ast.specs.View.{object_type_of, program_of, statement_of, statements_of, value_of}
use Rattle.interp_store.specs.layer.Agrees.{frames_of}
use Rattle.interp_store.specs.layer.Frames as on
use Rattle.cabs.proofs.Seen.{sees_block, sees_evaluate, sees_if, sees_if_else, sees_return}
use Rattle.cabs.proofs.Sweeps.{ticked, ticked_as, unticked}
use Rattle.cabs.proofs.opening.open.Goals as goal

pub returns-then-not-tick-clause-does : goal.returns-then-not-tick-clause-does
returns-then-not-tick-clause-does c = λ run h.
    let m = c.args.machine.now in
    unticked run (program_of m.program.now) c.args.limit c.args.clock.now.spent c.tick.new.self (frames_of m) m.scene (on.statement (map object_type_of c.args.objects.now) (statement_of c.args.a.now)) c.tick.result c.if-not-tick.true c.tick.ensures.idle c.tick.ensures.same h

pub returns-in-Evaluate-clause-does : goal.returns-in-Evaluate-clause-does
returns-in-Evaluate-clause-does c = λ run h.
    let m = c.args.machine.now in
    let i = c.in-Evaluate in
    let objects = map object_type_of c.args.objects.now in
    c.later.ensures.does run (ticked_as run (program_of m.program.now) c.args.clock.now.spent c.tick.new.self.spent (frames_of m) m.scene (on.statement objects (statement_of c.args.a.now))
    (on.statement objects (typed.evaluate (value_of i.e))) c.tick.result (ap (on.statement objects) (sees_evaluate c.args.a.now i.field-0 i.e i.is)) c.if-not-tick.false c.tick.ensures.taken h)

pub returns-in-ReturnValue-clause-does : goal.returns-in-ReturnValue-clause-does
returns-in-ReturnValue-clause-does c = λ run h.
    let m = c.args.machine.now in
    let i = c.in-ReturnValue in
    let objects = map object_type_of c.args.objects.now in
    c.later-in-ReturnValue.ensures.does run (ticked_as run (program_of m.program.now) c.args.clock.now.spent c.tick.new.self.spent (frames_of m) m.scene (on.statement objects (statement_of c.args.a.now))
    (on.statement objects (typed.return_value i.ty (value_of i.e))) c.tick.result (ap (on.statement objects) (sees_return c.args.a.now i.field-0 i.ty i.e i.is)) c.if-not-tick.false c.tick.ensures.taken h)

pub returns-in-If-clause-does : goal.returns-in-If-clause-does
returns-in-If-clause-does c = λ run h.
    let m = c.args.machine.now in
    let i = c.in-If in
    let objects = map object_type_of c.args.objects.now in
    c.branch-machine.ensures.does run (ticked_as run (program_of m.program.now) c.args.clock.now.spent c.tick.new.self.spent (frames_of m) m.scene (on.statement objects (statement_of c.args.a.now))
    (on.statement objects (typed.branch (value_of i.e) (statement_of i.a.value))) c.tick.result (ap (on.statement objects) (sees_if c.args.a.now i.field-0 i.e i.a i.is)) c.if-not-tick.false c.tick.ensures.taken h)

pub returns-in-IfElse-clause-does : goal.returns-in-IfElse-clause-does
returns-in-IfElse-clause-does c = λ run h.
    let m = c.args.machine.now in
    let i = c.in-IfElse in
    let objects = map object_type_of c.args.objects.now in
    c.branches.ensures.does run (ticked_as run (program_of m.program.now) c.args.clock.now.spent c.tick.new.self.spent (frames_of m) m.scene (on.statement objects (statement_of c.args.a.now))
    (on.statement objects (typed.branches (value_of i.e) (statement_of i.a.value) (statement_of i.b.value))) c.tick.result (ap (on.statement objects) (sees_if_else c.args.a.now i.field-0 i.e i.a i.b i.is)) c.if-not-tick.false c.tick.ensures.taken h)

pub returns-in-Block-clause-does : goal.returns-in-Block-clause-does
returns-in-Block-clause-does c = λ run h.
    let m = c.args.machine.now in
    let i = c.in-Block in
    let objects = map object_type_of c.args.objects.now in
    c.block.ensures.does run (ticked_as run (program_of m.program.now) c.args.clock.now.spent c.tick.new.self.spent (frames_of m) m.scene (on.statement objects (statement_of c.args.a.now))
    (on.statement objects (typed.block i.first i.count (statements_of (map statement_of c.deref.result.now)))) c.tick.result (ap (on.statement objects) (sees_block c.args.a.now i.field-0 i.first i.count i.all i.is ∙ ap (λ all. typed.block i.first i.count (statements_of (map statement_of all))) (sym c.deref.ensures.value))) c.if-not-tick.false c.tick.ensures.taken h)

pub returns-in-Empty-clause-does : goal.returns-in-Empty-clause-does
returns-in-Empty-clause-does c = λ run h.
    let m = c.args.machine.now in
    c.enter_slowly.ensures.does c.args.limit run (ticked run (program_of m.program.now) c.args.clock.now.spent c.tick.new.self.spent (frames_of m) m.scene (on.statement (map object_type_of c.args.objects.now) (statement_of c.args.a.now)) c.tick.result c.if-not-tick.false c.tick.ensures.taken h)

pub returns-in-Declare-clause-does : goal.returns-in-Declare-clause-does
returns-in-Declare-clause-does c = λ run h.
    let m = c.args.machine.now in
    c.enter_slowly-in-Declare.ensures.does c.args.limit run (ticked run (program_of m.program.now) c.args.clock.now.spent c.tick.new.self.spent (frames_of m) m.scene (on.statement (map object_type_of c.args.objects.now) (statement_of c.args.a.now)) c.tick.result c.if-not-tick.false c.tick.ensures.taken h)

pub returns-in-Define-clause-does : goal.returns-in-Define-clause-does
returns-in-Define-clause-does c = λ run h.
    let m = c.args.machine.now in
    c.enter_slowly-in-Define.ensures.does c.args.limit run (ticked run (program_of m.program.now) c.args.clock.now.spent c.tick.new.self.spent (frames_of m) m.scene (on.statement (map object_type_of c.args.objects.now) (statement_of c.args.a.now)) c.tick.result c.if-not-tick.false c.tick.ensures.taken h)

pub returns-in-Switch-clause-does : goal.returns-in-Switch-clause-does
returns-in-Switch-clause-does c = λ run h.
    let m = c.args.machine.now in
    c.enter_slowly-in-Switch.ensures.does c.args.limit run (ticked run (program_of m.program.now) c.args.clock.now.spent c.tick.new.self.spent (frames_of m) m.scene (on.statement (map object_type_of c.args.objects.now) (statement_of c.args.a.now)) c.tick.result c.if-not-tick.false c.tick.ensures.taken h)

pub returns-in-Case-clause-does : goal.returns-in-Case-clause-does
returns-in-Case-clause-does c = λ run h.
    let m = c.args.machine.now in
    c.enter_slowly-in-Case.ensures.does c.args.limit run (ticked run (program_of m.program.now) c.args.clock.now.spent c.tick.new.self.spent (frames_of m) m.scene (on.statement (map object_type_of c.args.objects.now) (statement_of c.args.a.now)) c.tick.result c.if-not-tick.false c.tick.ensures.taken h)

pub returns-in-Default-clause-does : goal.returns-in-Default-clause-does
returns-in-Default-clause-does c = λ run h.
    let m = c.args.machine.now in
    c.enter_slowly-in-Default.ensures.does c.args.limit run (ticked run (program_of m.program.now) c.args.clock.now.spent c.tick.new.self.spent (frames_of m) m.scene (on.statement (map object_type_of c.args.objects.now) (statement_of c.args.a.now)) c.tick.result c.if-not-tick.false c.tick.ensures.taken h)

pub returns-in-While-clause-does : goal.returns-in-While-clause-does
returns-in-While-clause-does c = λ run h.
    let m = c.args.machine.now in
    c.enter_slowly-in-While.ensures.does c.args.limit run (ticked run (program_of m.program.now) c.args.clock.now.spent c.tick.new.self.spent (frames_of m) m.scene (on.statement (map object_type_of c.args.objects.now) (statement_of c.args.a.now)) c.tick.result c.if-not-tick.false c.tick.ensures.taken h)

pub returns-in-DoWhile-clause-does : goal.returns-in-DoWhile-clause-does
returns-in-DoWhile-clause-does c = λ run h.
    let m = c.args.machine.now in
    c.enter_slowly-in-DoWhile.ensures.does c.args.limit run (ticked run (program_of m.program.now) c.args.clock.now.spent c.tick.new.self.spent (frames_of m) m.scene (on.statement (map object_type_of c.args.objects.now) (statement_of c.args.a.now)) c.tick.result c.if-not-tick.false c.tick.ensures.taken h)

pub returns-in-For-clause-does : goal.returns-in-For-clause-does
returns-in-For-clause-does c = λ run h.
    let m = c.args.machine.now in
    c.enter_slowly-in-For.ensures.does c.args.limit run (ticked run (program_of m.program.now) c.args.clock.now.spent c.tick.new.self.spent (frames_of m) m.scene (on.statement (map object_type_of c.args.objects.now) (statement_of c.args.a.now)) c.tick.result c.if-not-tick.false c.tick.ensures.taken h)

pub returns-in-Break-clause-does : goal.returns-in-Break-clause-does
returns-in-Break-clause-does c = λ run h.
    let m = c.args.machine.now in
    c.enter_slowly-in-Break.ensures.does c.args.limit run (ticked run (program_of m.program.now) c.args.clock.now.spent c.tick.new.self.spent (frames_of m) m.scene (on.statement (map object_type_of c.args.objects.now) (statement_of c.args.a.now)) c.tick.result c.if-not-tick.false c.tick.ensures.taken h)

pub returns-in-Continue-clause-does : goal.returns-in-Continue-clause-does
returns-in-Continue-clause-does c = λ run h.
    let m = c.args.machine.now in
    c.enter_slowly-in-Continue.ensures.does c.args.limit run (ticked run (program_of m.program.now) c.args.clock.now.spent c.tick.new.self.spent (frames_of m) m.scene (on.statement (map object_type_of c.args.objects.now) (statement_of c.args.a.now)) c.tick.result c.if-not-tick.false c.tick.ensures.taken h)

pub returns-in-ReturnNothing-clause-does : goal.returns-in-ReturnNothing-clause-does
returns-in-ReturnNothing-clause-does c = λ run h.
    let m = c.args.machine.now in
    c.enter_slowly-in-ReturnNothing.ensures.does c.args.limit run (ticked run (program_of m.program.now) c.args.clock.now.spent c.tick.new.self.spent (frames_of m) m.scene (on.statement (map object_type_of c.args.objects.now) (statement_of c.args.a.now)) c.tick.result c.if-not-tick.false c.tick.ensures.taken h)
