use Rattle.std.proofs.Common.{suc}
use Rattle.lower_correct.specs.Bodies.{Idles}
use Rattle.lower_ops.specs.layer.Parts.{Wrote}
use Rattle.tac.proofs.functions.put_idles.Given as goal

abbrev pub invariant-loop : goal.invariant-loop
invariant-loop l = Wrote (λ w p q. Idles w (suc l.index) p q) (suc l.index) l.fn.code.list.items l.code.list.items
