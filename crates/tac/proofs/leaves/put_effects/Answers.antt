use Rattle.std.proofs.Common.{refl}
use Rattle.std.specs.Prelude.{None}
use Rattle.lower_correct.specs.Bodies as relation
use Rattle.tac.specs.inside.Scopes.{program_in, function_in}
use Rattle.lower_ops.proofs.Parts.{none_wrote}
use Rattle.tac.proofs.leaves.put_effects.Goals as goal

pub returns-in-None : goal.returns-in-None
returns-in-None c = rw c.in-None.is (none_wrote (λ w p q. relation.Effects w (program_in c.args.scope.now) (function_in c.args.scope.now) None p q) c.args.code.now.list.items c.args.code.now.list.items refl c.args.code.now.short (λ w. refl))

pub returns-in_ok-put_value-in-Some : goal.returns-in_ok-put_value-in-Some
returns-in_ok-put_value-in-Some c = rw c.in-Some.is (rw (c.all_free.ensures.temporary, c.all_free.ensures.slot) at c.in_ok-put_value-in-Some.ensures)
