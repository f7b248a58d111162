use Rattle.lower_ops.proofs.memory.put_part.Goals as goal

pub returns-in_ok-put_part_named-in-Literal : goal.returns-in_ok-put_part_named-in-Literal
returns-in_ok-put_part_named-in-Literal c = rw c.in-Literal.is (rw c.in-Literal.is at c.in_ok-put_part_named-in-Literal.ensures)

pub returns-in_ok-put_part_named-in-Static : goal.returns-in_ok-put_part_named-in-Static
returns-in_ok-put_part_named-in-Static c = rw c.in-Static.is (rw c.in-Static.is at c.in_ok-put_part_named-in-Static.ensures)

pub returns-in_ok-put_part_named-in-Array : goal.returns-in_ok-put_part_named-in-Array
returns-in_ok-put_part_named-in-Array c = rw c.in-Array.is (rw c.in-Array.is at c.in_ok-put_part_named-in-Array.ensures)

pub returns-in_ok-put_part_named-in-Element : goal.returns-in_ok-put_part_named-in-Element
returns-in_ok-put_part_named-in-Element c = rw c.in-Element.is (rw c.in-Element.is at c.in_ok-put_part_named-in-Element.ensures)
