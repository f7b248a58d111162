use Rattle.interp_store.specs.layer.Digits.{number_of}
use Rattle.interp_store.specs.layer.Views.{late_of}
use Rattle.interp_steps.proofs.Given.{counted_as}
use Rattle.interp_steps.proofs.initialisers.spend_long.Goals as goal

pub returns-clause-takes : goal.returns-clause-takes
returns-clause-takes c =
    counted_as (number_of c.args.digits.items) 0 (late_of c.args.late) c.args.machine.now c.come_late.new.machine c.come_late.result (c.take_one.ensures.none c.if-take_one.false) c.come_late.ensures.takes
