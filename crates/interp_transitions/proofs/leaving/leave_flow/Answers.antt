use Rattle.std.proofs.Common.{ap}
use Rattle.interp_store.specs.layer.Views.{flow_of, frame_of}
use Rattle.interp_transitions.proofs.Left.{flow_as}
use Rattle.interp_transitions.proofs.leaving.leave_flow.Goals as goal

pub returns-in-Flow-clause-acts : goal.returns-in-Flow-clause-acts
returns-in-Flow-clause-acts c = flow_as (frame_of c.args.frame) _ (flow_of c.args.flow) c.args.machine.now c.leave_statement.new.machine c.leave_statement.result
    (ap frame_of c.in-Flow.is) c.leave_statement.ensures.acts
