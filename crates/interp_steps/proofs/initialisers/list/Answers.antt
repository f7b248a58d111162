use Rattle.interp_store.specs.View.{reference_of}
use Rattle.interp_steps.proofs.Given.{list_ends}
use Rattle.interp_steps.proofs.initialisers.list.Goals as goal

pub returns-in-None-clause-takes : goal.returns-in-None-clause-takes
returns-in-None-clause-takes c = let a = c.args in
    list_ends a.machine.now c.end_list.new.machine c.end_list.result a.ty a.all.now a.count a.number a.lengths.now (reference_of a.array) c.in-None.ensures.cases c.end_list.ensures.takes
