use Rattle.std.proofs.Math.Facts.{to_z-of_z}
use Rattle.interp_steps.proofs.Steps.{control_left_as}
use Rattle.interp_steps.proofs.conditions.leave_control.Goals as goal

pub returns-in-IfTrue-clause-takes : goal.returns-in-IfTrue-clause-takes
returns-in-IfTrue-clause-takes c = control_left_as c.args.frame _ c.args.v _ c.args.machine.now c.branch-machine.new.machine c.branch-machine.result c.in-IfTrue.is (to_z-of_z c.ranges.v) c.branch-machine.ensures.takes

pub returns-in-IfElse-clause-takes : goal.returns-in-IfElse-clause-takes
returns-in-IfElse-clause-takes c = control_left_as c.args.frame _ c.args.v _ c.args.machine.now c.branches.new.machine c.branches.result c.in-IfElse.is (to_z-of_z c.ranges.v) c.branches.ensures.takes

pub returns-in-Tests-clause-takes : goal.returns-in-Tests-clause-takes
returns-in-Tests-clause-takes c = control_left_as c.args.frame _ c.args.v _ c.args.machine.now c.turn_if.new.machine c.turn_if.result c.in-Tests.is (to_z-of_z c.ranges.v) c.turn_if.ensures.takes

pub returns-in-Loops-clause-takes : goal.returns-in-Loops-clause-takes
returns-in-Loops-clause-takes c = control_left_as c.args.frame _ c.args.v _ c.args.machine.now c.look.new.machine c.look.result c.in-Loops.is (to_z-of_z c.ranges.v) c.look.ensures.takes
