use Rattle.tac.proofs.leaves.put_repeats.Goals as goal

pub returns-in_ok-put-in-None : goal.returns-in_ok-put-in-None
returns-in_ok-put-in-None c = rw c.in-None.is c.in_ok-put-in-None.ensures

pub returns-in_ok-put_value-in-Some : goal.returns-in_ok-put_value-in-Some
returns-in_ok-put_value-in-Some c = rw c.in-Some.is (rw (c.all_free.ensures.temporary, c.all_free.ensures.slot) at c.in_ok-put_value-in-Some.ensures)
