use Rattle.std.proofs.Common.{ap}
use Rattle.tac_code.specs.declared.code.Target.TheVariants as target
use Rattle.tac_code.specs.declared.code.Instruction.TheVariants as instruction
use Rattle.lower_ops.proofs.Parts.{two}
use Rattle.lower_ops.proofs.Operated.{one_as}
use Rattle.tac.proofs.elements.put_begins.Goals as goal

pub returns : goal.returns
returns c = two c.in_ok-put.ensures (one_as (ap (λ a. instruction.Address (target.Temporary 1) a) c.element_at.ensures) c.in_ok-put-2.ensures)
