use Rattle.std.proofs.Common.{◌∙◌, ap, map, refl}
use Rattle.std.specs.Prelude.{Err}
use Rattle.typed_ast.specs.View.{argument_of, arguments_of, callee_of, program_of}
use Rattle.interp_store.specs.layer.Steps.{asked_for}
use Rattle.interp_store.specs.layer.Views.{passed_of}
use Rattle.cabs.proofs.Moving.{asked_moves}
use Rattle.cabs.proofs.Sweeps.{never_ends, never_undefined, took}
use Rattle.cabs.proofs.sweeping.ask_slowly.Goals as goal

pub returns-in-Ok-clause-does : goal.returns-in-Ok-clause-does
returns-in-Ok-clause-does c = λ limit run h.
    let m = c.args.machine.now in
    let a = c.args.asked in
    took run (program_of m.program.now) c.args.clock.now.spent m c.ask.new.machine
    (λ p s. asked_for a.at (callee_of a.callee) a.used (arguments_of (map argument_of a.more.now)) (map passed_of a.before.items) s) refl h c.in-Ok.step c.in-Ok.ensures.takes

pub unreachable-requires : goal.unreachable-requires
unreachable-requires c =
    let a = c.args.asked in
    never_ends (λ p s. asked_for a.at (callee_of a.callee) a.used (arguments_of (map argument_of a.more.now)) (map passed_of a.before.items) s)
    (λ p s. asked_moves a.at (callee_of a.callee) a.used (arguments_of (map argument_of a.more.now)) (map passed_of a.before.items) s)
    c.args.machine.now c.ask.new.machine c.ask.result c.in-Err-Ended.field-0-0 (c.in-Err-Ended.is ∙ ap Err c.in-Err-Ended.field-0-is) c.ask.ensures.takes

pub unreachable-requires-in-Err-Undefined : goal.unreachable-requires-in-Err-Undefined
unreachable-requires-in-Err-Undefined c =
    let a = c.args.asked in
    never_undefined (λ p s. asked_for a.at (callee_of a.callee) a.used (arguments_of (map argument_of a.more.now)) (map passed_of a.before.items) s)
    (λ p s. asked_moves a.at (callee_of a.callee) a.used (arguments_of (map argument_of a.more.now)) (map passed_of a.before.items) s)
    c.args.machine.now c.ask.new.machine c.ask.result c.in-Err-Undefined.field-0-0 c.in-Err-Undefined.field-0-1 (c.in-Err-Undefined.is ∙ ap Err c.in-Err-Undefined.field-0-is) c.ask.ensures.takes
