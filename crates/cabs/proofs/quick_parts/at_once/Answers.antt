use Rattle.std.proofs.Common.{◌≡◌, Some, None, refl, sym, subst}
use Rattle.interp_store.specs.layer.Views.{node_of}
use Rattle.cabs.specs.declared.outcome.Run.{Run}
use Rattle.cabs.specs.inside.Standing.{RunStops}
use Rattle.cabs.proofs.AtOnce.{came_as, once_goes, once_stops}
use Rattle.cabs.proofs.quick_parts.at_once.Goals as goal

pub returns-in-Some-clause-meets : goal.returns-in-Some-clause-meets
returns-in-Some-clause-meets c h p all o port grows s none =
    once_goes (λ g. g ≡ h) p all o c.args.limit c.args.spent.now c.args.interpreter.now (node_of c.args.node.now) port s none grows _ c.done-found.new.clock c.in-Some.found refl refl refl refl c.in-Some.ensures.takes
    (came_as (λ g. g ≡ h) p all o c.args.limit c.args.spent.now c.args.interpreter.now (node_of c.args.node.now) port s none c.done-found.result (Some c.in-Some.found) c.done-found.new.clock c.done-found.new.scene
    c.in-Some.is c.done-found.ensures.does)

pub returns-in-None-clause-meets : goal.returns-in-None-clause-meets
returns-in-None-clause-meets c h p all o port grows s none =
    let P : Run → Type 0 = λ r. RunStops (λ g. g ≡ h) p all o c.args.limit r c.args.interpreter.now.tally port in
    subst P (sym c.stopped.ensures)
    (once_stops (λ g. g ≡ h) p all o c.args.limit c.args.spent.now c.args.interpreter.now (node_of c.args.node.now) port s none c.args.interpreter.now.tally c.done-found.new.scene c.done-found.new.clock.spent
    c.done-found.new.clock.why refl c.requires.room c.done-found.ensures.spends.1
    (came_as (λ g. g ≡ h) p all o c.args.limit c.args.spent.now c.args.interpreter.now (node_of c.args.node.now) port s none c.done-found.result None c.done-found.new.clock c.done-found.new.scene
    c.in-None.is c.done-found.ensures.does))
