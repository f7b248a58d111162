use Rattle.std.proofs.Common.{ap}
use Rattle.std.proofs.Math.Facts.{to_z-of_z}
use Rattle.interp_store.specs.layer.Views.{frame_of}
use Rattle.interp_transitions.proofs.Left.{value_as}
use Rattle.interp_transitions.proofs.leaving.leave_value.Goals as goal

pub returns-in-Operand-clause-takes : goal.returns-in-Operand-clause-takes
returns-in-Operand-clause-takes c = value_as (frame_of c.args.frame) _ c.args.v _ c.args.machine.now c.leave_operand.new.machine c.leave_operand.result
    (ap frame_of c.in-Operand.is) (to_z-of_z c.ranges.v) c.leave_operand.ensures.takes

pub returns-in-Control-clause-takes : goal.returns-in-Control-clause-takes
returns-in-Control-clause-takes c = value_as (frame_of c.args.frame) _ c.args.v _ c.args.machine.now c.leave_control.new.machine c.leave_control.result
    (ap frame_of c.in-Control.is) (to_z-of_z c.ranges.v) c.leave_control.ensures.takes
