use Rattle.std.specs.Prelude.{Some}
use Rattle.verify_logic.specs.States.{Changes}
use Rattle.verify_expressions.proofs.facts.all_changed.Given as goal

abbrev pub invariant-loop-n : goal.invariant-loop-n
invariant-loop-n l = Changes l.x (Some l.j) l.i l.facts l.out.items
