use Rattle.std.proofs.Common.{◌*◌, sym}
use Rattle.typing_spec.specs.Types.{elements_in}
use Rattle.interp_store.specs.layer.Digits.{number_of}
use Rattle.interp_store.specs.layer.Views.{late_of}
use Rattle.interp_steps.proofs.Given.{counted_as}
use Rattle.interp_steps.proofs.initialisers.spend_all.Goals as goal

pub returns-in-Some-clause-takes : goal.returns-in-Some-clause-takes
returns-in-Some-clause-takes c = let a = c.args in
    counted_as (a.count * elements_in a.lengths.now) c.in-Some.ticks (late_of a.late) a.machine.now c.spend.new.machine c.spend.result (sym c.in-Some.ensures) c.spend.ensures.takes

pub returns-in-Ok-clause-takes : goal.returns-in-Ok-clause-takes
returns-in-Ok-clause-takes c = let a = c.args in
    counted_as (a.count * elements_in a.lengths.now) (number_of c.in-Ok.digits.items) (late_of a.late) a.machine.now c.spend_long.new.machine c.spend_long.result (sym c.in-Ok.ensures) c.spend_long.ensures.takes
