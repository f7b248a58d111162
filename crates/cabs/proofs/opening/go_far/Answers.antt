use Rattle.std.proofs.Common.{◌∙◌, Bor, Some, None, ap, sym}
use Rattle.typed_ast.specs.declared.units.Program as unit
use Rattle.typed_ast.specs.View.{program_of}
use Rattle.interp_store.specs.layer.Views.{step_of}
use Rattle.cabs.specs.inside.Sweeping.{steps_to}
use Rattle.cabs.proofs.Sweeps.{comes_none, comes_some, on_with}
use Rattle.cabs.proofs.opening.go_far.Goals as goal

pub returns-in-Some-clause-does : goal.returns-in-Some-clause-does
returns-in-Some-clause-does c = λ run h.
    let p = program_of c.args.machine.now.program.now in
    let x = c.in-Some.step in
    on_with (λ x. steps_to (step_of x)) c.args.limit (λ p s. steps_to (step_of x) s) run p c.go_on.new.machine c.open_next.new.machine c.go_on.new.clock c.open_next.new.clock c.open_next.result
    (ap (λ (b : Bor unit.Program). program_of b.now) c.go_on.ensures.program) c.open_next.ensures.does
    (comes_some (λ x. steps_to (step_of x)) run p c.args.limit c.go_on.result x c.go_on.new.clock c.go_on.new.machine c.in-Some.is (c.go_on.ensures.does run h))

pub returns-in-None-clause-does : goal.returns-in-None-clause-does
returns-in-None-clause-does c = λ run h.
    comes_none (λ x. steps_to (step_of x)) run (program_of c.args.machine.now.program.now) c.args.limit c.go_on.result c.go_on.new.clock c.go_on.new.machine c.in-None.is (c.go_on.ensures.does run h)
