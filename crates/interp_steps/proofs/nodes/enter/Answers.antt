use Rattle.std.proofs.Common.{◌≡◌, ap, sym, ◌∙◌, rules, to_z, of_z, w64}
use Rattle.std.proofs.Math.Facts.{to_z-of_z}
use Rattle.interp_store.specs.declared.frames.Node.TheVariants as node
use Rattle.interp_store.specs.layer.Views.{node_of}
use Rattle.interp_steps.proofs.Entered.{node_as}
use Rattle.interp_steps.proofs.nodes.enter.Goals as goal

pub returns-in-Place-clause-takes : goal.returns-in-Place-clause-takes
returns-in-Place-clause-takes c = node_as (node_of c.args.node) _ c.args.machine.now c.enter_place.new.machine c.enter_place.result (ap node_of c.in-Place.is) c.enter_place.ensures.takes

pub returns-in-Value-clause-takes : goal.returns-in-Value-clause-takes
returns-in-Value-clause-takes c = node_as (node_of c.args.node) _ c.args.machine.now c.enter_value.new.machine c.enter_value.result (ap node_of c.in-Value.is) c.enter_value.ensures.takes

pub returns-in-Statement-clause-takes : goal.returns-in-Statement-clause-takes
returns-in-Statement-clause-takes c = node_as (node_of c.args.node) _ c.args.machine.now c.enter_statement.new.machine c.enter_statement.result (ap node_of c.in-Statement.is) c.enter_statement.ensures.takes

pub returns-in-Initialiser-clause-takes : goal.returns-in-Initialiser-clause-takes
returns-in-Initialiser-clause-takes c = node_as (node_of c.args.node) _ c.args.machine.now c.enter_initialiser.new.machine c.enter_initialiser.result (ap node_of c.in-Initialiser.is) c.enter_initialiser.ensures.takes

pub returns-in-Element-clause-takes : goal.returns-in-Element-clause-takes
returns-in-Element-clause-takes c =
    let same : to_z w64 (of_z w64 c.in-Element.v) ≡ c.in-Element.v = search (rules, to_z-of_z) in
    node_as (node_of c.args.node) _ c.args.machine.now c.enter_element.new.machine c.enter_element.result
    (ap node_of c.in-Element.is ∙ sym (ap (λ v. node_of (node.Element c.in-Element.r v)) same)) c.enter_element.ensures.takes

pub returns-in-Ticking-clause-takes : goal.returns-in-Ticking-clause-takes
returns-in-Ticking-clause-takes c = node_as (node_of c.args.node) _ c.args.machine.now c.spend.new.machine c.spend.result (ap node_of c.in-Ticking.is) c.spend.ensures.takes

pub returns-in-TickingLong-clause-takes : goal.returns-in-TickingLong-clause-takes
returns-in-TickingLong-clause-takes c = node_as (node_of c.args.node) _ c.args.machine.now c.spend_long.new.machine c.spend_long.result (ap node_of c.in-TickingLong.is) c.spend_long.ensures.takes

pub returns-in-SwitchBlock-clause-takes : goal.returns-in-SwitchBlock-clause-takes
returns-in-SwitchBlock-clause-takes c =
    let same : to_z w64 (of_z w64 c.in-SwitchBlock.v) ≡ c.in-SwitchBlock.v = search (rules, to_z-of_z) in
    node_as (node_of c.args.node) _ c.args.machine.now c.enter_block.new.machine c.enter_block.result
    (ap node_of c.in-SwitchBlock.is ∙ sym (ap (λ v. node_of (node.SwitchBlock v c.in-SwitchBlock.block)) same)) c.enter_block.ensures.takes

pub returns-in-CaseTest-clause-takes : goal.returns-in-CaseTest-clause-takes
returns-in-CaseTest-clause-takes c = node_as (node_of c.args.node) _ c.args.machine.now c.enter_case.new.machine c.enter_case.result (ap node_of c.in-CaseTest.is) c.enter_case.ensures.takes
