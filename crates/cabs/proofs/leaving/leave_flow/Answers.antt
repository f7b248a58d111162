use Rattle.std.proofs.Common.{◌∙◌, ap, sym}
use Rattle.interp_store.specs.layer.Steps.{left_by_flow}
use Rattle.interp_store.specs.layer.Views.{flow_of, kept_of}
use Rattle.interp_store.specs.declared.kept.Kept.TheVariants as kept
use Rattle.interp_transitions.proofs.Left.{flow_as, takes_acts}
use Rattle.cabs.proofs.leaving.leave_flow.Goals as goal

pub returns-in-Rest-clause-acts : goal.returns-in-Rest-clause-acts
returns-in-Rest-clause-acts c =
    let m = c.args.machine.now in
    flow_as (kept_of c.args.kept) _ (flow_of c.args.flow) m c.next.new.machine c.next.result (ap kept_of c.in-Rest.is) (takes_acts m c.next.new.machine c.next.result (λ p s. left_by_flow p (kept_of (kept.Rest c.in-Rest.objects c.in-Rest.more)) (flow_of c.args.flow) s) c.next.ensures.takes)

pub returns-in-TurnOfBoth-clause-acts : goal.returns-in-TurnOfBoth-clause-acts
returns-in-TurnOfBoth-clause-acts c =
    let m = c.args.machine.now in
    flow_as (kept_of c.args.kept) _ (flow_of c.args.flow) m c.after_turn.new.machine c.after_turn.result (ap kept_of c.in-TurnOfBoth.is) (takes_acts m c.after_turn.new.machine c.after_turn.result (λ p s. left_by_flow p (kept_of (kept.TurnOfBoth c.in-TurnOfBoth.objects c.in-TurnOfBoth.test c.in-TurnOfBoth.body c.in-TurnOfBoth.step)) (flow_of c.args.flow) s) c.after_turn.ensures.takes)

pub returns-in-Returns-clause-acts : goal.returns-in-Returns-clause-acts
returns-in-Returns-clause-acts c =
    let m = c.args.machine.now in
    flow_as (kept_of c.args.kept) _ (flow_of c.args.flow) m c.come_back.new.machine c.come_back.result (ap kept_of c.in-Returns.is ∙ sym c.return_of-r.ensures) c.come_back.ensures.acts

pub returns-in-Turn-clause-acts : goal.returns-in-Turn-clause-acts
returns-in-Turn-clause-acts c =
    let m = c.args.machine.now in
    let i = c.in-Turn in
    flow_as (kept_of c.args.kept) _ (flow_of c.args.flow) m c.after_turn-in-Turn.new.machine c.after_turn-in-Turn.result (ap kept_of i.is) (takes_acts m c.after_turn-in-Turn.new.machine c.after_turn-in-Turn.result (λ p s. left_by_flow p (kept_of (kept.Turn i.objects i.body)) (flow_of c.args.flow) s) c.after_turn-in-Turn.ensures.takes)

pub returns-in-TurnTested-clause-acts : goal.returns-in-TurnTested-clause-acts
returns-in-TurnTested-clause-acts c =
    let m = c.args.machine.now in
    let i = c.in-TurnTested in
    flow_as (kept_of c.args.kept) _ (flow_of c.args.flow) m c.after_turn-in-TurnTested.new.machine c.after_turn-in-TurnTested.result (ap kept_of i.is) (takes_acts m c.after_turn-in-TurnTested.new.machine c.after_turn-in-TurnTested.result (λ p s. left_by_flow p (kept_of (kept.TurnTested i.objects i.test i.body)) (flow_of c.args.flow) s) c.after_turn-in-TurnTested.ensures.takes)

pub returns-in-TurnStepped-clause-acts : goal.returns-in-TurnStepped-clause-acts
returns-in-TurnStepped-clause-acts c =
    let m = c.args.machine.now in
    let i = c.in-TurnStepped in
    flow_as (kept_of c.args.kept) _ (flow_of c.args.flow) m c.after_turn-in-TurnStepped.new.machine c.after_turn-in-TurnStepped.result (ap kept_of i.is) (takes_acts m c.after_turn-in-TurnStepped.new.machine c.after_turn-in-TurnStepped.result (λ p s. left_by_flow p (kept_of (kept.TurnStepped i.objects i.body i.step)) (flow_of c.args.flow) s) c.after_turn-in-TurnStepped.ensures.takes)
