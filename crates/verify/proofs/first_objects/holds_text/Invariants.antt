use Rattle.std.proofs.Common.{take, map, pos}
use Rattle.verify_logic.specs.Calls.{EachIn}
use Rattle.verify.proofs.first_objects.holds_text.Given as goal

abbrev pub invariant-loop-n : goal.invariant-loop-n
invariant-loop-n l = EachIn l.i (map (λ c. pos c) (take l.n l.text))
