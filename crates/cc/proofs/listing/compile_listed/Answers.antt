use Rattle.cc.proofs.listing.compile_listed.Goals as goal

pub returns-in-Err-clause-refused : goal.returns-in-Err-clause-refused
returns-in-Err-clause-refused c = c.in-Err.ensures.stops c.to_fault.result c.to_fault.ensures
