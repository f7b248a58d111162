use Rattle.std.proofs.Common.{ap, ◌∙◌}
use Rattle.std.proofs.Math.Facts.{to_z-of_z}
use Rattle.ctypes.specs.Types as types
use Rattle.tac_code.specs.Run.{word_for}
use Rattle.tac_code.specs.declared.code.Operand.TheVariants as operand
use Rattle.lower_correct.specs.Code as relation
use Rattle.lower_ops.specs.layer.Emitted as emitted
use Rattle.lower_ops.proofs.Operated.{one_as}
use Rattle.lower_ops.proofs.operations.put_constant.Goals as goal

pub returns-in_ok-put-in-Nowhere : goal.returns-in_ok-put-in-Nowhere
returns-in_ok-put-in-Nowhere c = rw c.in-Nowhere.is c.in_ok-put-in-Nowhere.ensures

pub returns-in_ok-put-in-To : goal.returns-in_ok-put-in-To
returns-in_ok-put-in-To c =
    rw c.in-To.is (one_as (c.move_to.ensures ∙ ap (λ v. emitted.move_to c.in-To.target (operand.Constant v)) (c.word_of.ensures ∙ ap word_for (to_z-of_z c.ranges.value))) c.in_ok-put-in-To.ensures)

pub returns-in_ok-put-in-If : goal.returns-in_ok-put-in-If
returns-in_ok-put-in-If c =
    rw c.in-If.is (one_as (c.truth_jump.ensures ∙ ap (λ b. relation.truth_jump b c.in-If.sense c.in-If.to) (c.is_true.ensures ∙ ap types.truth (to_z-of_z c.ranges.value))) c.in_ok-put-in-If.ensures)
