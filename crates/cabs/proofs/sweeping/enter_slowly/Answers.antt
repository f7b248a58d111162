use Rattle.std.proofs.Common.{◌∙◌, ap, refl}
use Rattle.std.specs.Prelude.{Err}
use Rattle.typed_ast.specs.View.{program_of}
use Rattle.interp_store.specs.layer.Steps.{entered}
use Rattle.interp_store.specs.layer.Views.{node_of}
use Rattle.cabs.proofs.Moving.{entered_moves}
use Rattle.cabs.proofs.Sweeps.{never_ends, never_undefined, took}
use Rattle.cabs.proofs.sweeping.enter_slowly.Goals as goal

pub returns-in-Ok-clause-does : goal.returns-in-Ok-clause-does
returns-in-Ok-clause-does c = λ limit run h.
    let m = c.args.machine.now in
    took run (program_of m.program.now) c.args.clock.now.spent m c.enter.new.machine (λ p s. entered p (node_of c.args.node) s) refl h c.in-Ok.step c.in-Ok.ensures.takes

pub unreachable-requires : goal.unreachable-requires
unreachable-requires c =
    never_ends (λ p s. entered p (node_of c.args.node) s) (λ p s. entered_moves p (node_of c.args.node) s) c.args.machine.now c.enter.new.machine c.enter.result
    c.in-Err-Ended.field-0-0 (c.in-Err-Ended.is ∙ ap Err c.in-Err-Ended.field-0-is) c.enter.ensures.takes

pub unreachable-requires-in-Err-Undefined : goal.unreachable-requires-in-Err-Undefined
unreachable-requires-in-Err-Undefined c =
    never_undefined (λ p s. entered p (node_of c.args.node) s) (λ p s. entered_moves p (node_of c.args.node) s) c.args.machine.now c.enter.new.machine c.enter.result
    c.in-Err-Undefined.field-0-0 c.in-Err-Undefined.field-0-1 (c.in-Err-Undefined.is ∙ ap Err c.in-Err-Undefined.field-0-is) c.enter.ensures.takes
