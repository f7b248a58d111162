use Rattle.interp_steps.proofs.Steps.{flow_left_as}
use Rattle.interp_store.specs.declared.frames.FlowFrame.TheVariants as flows
use Rattle.interp_steps.proofs.flows.after_turn.Goals as goal

pub returns-in-Normal-clause-takes : goal.returns-in-Normal-clause-takes
returns-in-Normal-clause-takes c = flow_left_as (flows.Turn c.args.l) c.args.flow _ c.args.machine.now c.look_after.new.machine c.look_after.result c.in-Normal.is c.look_after.ensures.takes

pub returns-in-Continued-clause-takes : goal.returns-in-Continued-clause-takes
returns-in-Continued-clause-takes c = flow_left_as (flows.Turn c.args.l) c.args.flow _ c.args.machine.now c.look_after-in-Continued.new.machine c.look_after-in-Continued.result c.in-Continued.is c.look_after-in-Continued.ensures.takes
