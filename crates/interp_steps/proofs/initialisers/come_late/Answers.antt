use Rattle.interp_steps.proofs.Given.{late_as}
use Rattle.interp_steps.proofs.initialisers.come_late.Goals as goal

pub returns-in-PutsText-clause-takes : goal.returns-in-PutsText-clause-takes
returns-in-PutsText-clause-takes c = late_as c.args.late _ c.args.machine.now c.fill_text.new.machine c.fill_text.result c.in-PutsText.is c.fill_text.ensures.takes
