use Rattle.std.proofs.Common.{◌≡◌, Some, None, refl, sym, subst}
use Rattle.interp_store.specs.layer.Views.{node_of, step_of}
use Rattle.cabs.specs.declared.outcome.Run.{Run}
use Rattle.cabs.specs.inside.Standing.{RunStops}
use Rattle.cabs.proofs.AtOnce.{once_stops}
use Rattle.cabs.proofs.Sweeps.{sweep_goes, swept_here}
use Rattle.cabs.proofs.opening.sweep.Goals as goal

pub returns-in-Some-clause-meets : goal.returns-in-Some-clause-meets
returns-in-Some-clause-meets c h p all o port grows s none =
    sweep_goes (λ g. g ≡ h) p all o c.args.limit c.args.spent.now c.args.interpreter.now (node_of c.args.node) port s none grows _ c.go_far-next.new.clock.spent (step_of c.in-Some.step) c.go_far-next.ensures.program refl refl c.in-Some.ensures.takes
    (swept_here (λ g. g ≡ h) p all o c.args.limit c.args.spent.now c.args.interpreter.now (node_of c.args.node) port s none c.go_far-next.result (Some c.in-Some.step) c.go_far-next.new.clock c.go_far-next.new.machine
    c.in-Some.is c.go_far-next.ensures.does)

pub returns-in-None-clause-meets : goal.returns-in-None-clause-meets
returns-in-None-clause-meets c h p all o port grows s none =
    let P : Run → Type 0 = λ r. RunStops (λ g. g ≡ h) p all o c.args.limit r c.args.interpreter.now.tally port in
    subst P (sym c.stopped.ensures)
    (once_stops (λ g. g ≡ h) p all o c.args.limit c.args.spent.now c.args.interpreter.now (node_of c.args.node) port s none c.args.interpreter.now.tally c.go_far-next.new.machine.scene c.go_far-next.new.clock.spent
    c.go_far-next.new.clock.why refl c.requires.room c.go_far-next.ensures.spends.1
    (swept_here (λ g. g ≡ h) p all o c.args.limit c.args.spent.now c.args.interpreter.now (node_of c.args.node) port s none c.go_far-next.result None c.go_far-next.new.clock c.go_far-next.new.machine
    c.in-None.is c.go_far-next.ensures.does))
