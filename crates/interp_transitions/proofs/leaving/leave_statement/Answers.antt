use Rattle.std.proofs.Common.{ap}
use Rattle.interp_store.specs.declared.frames.FlowFrame.TheVariants as flows
use Rattle.interp_store.specs.layer.Steps.{left_by_flow}
use Rattle.interp_store.specs.layer.Views.{flow_frame, flow_of}
use Rattle.interp_transitions.proofs.Left.{flow_as, takes_acts}
use Rattle.interp_transitions.proofs.leaving.leave_statement.Goals as goal

pub returns-in-Turn-clause-acts : goal.returns-in-Turn-clause-acts
returns-in-Turn-clause-acts c = flow_as (flow_frame c.args.frame) (flow_frame (flows.Turn c.in-Turn.l)) (flow_of c.args.flow) c.args.machine.now c.after_turn.new.machine c.after_turn.result
    (ap flow_frame c.in-Turn.is) (takes_acts c.args.machine.now c.after_turn.new.machine c.after_turn.result (λ p s. left_by_flow p (flow_frame (flows.Turn c.in-Turn.l)) (flow_of c.args.flow) s) c.after_turn.ensures.takes)
