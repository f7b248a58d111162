use Rattle.cabs.proofs.running.interpret.Goals as goal

pub returns-clause-meets : goal.returns-clause-meets
returns-clause-meets g c input given = c.observe.ensures.meets input given
