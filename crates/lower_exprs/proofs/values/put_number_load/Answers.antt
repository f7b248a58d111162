use Rattle.std.proofs.Common.{subst}
use Rattle.typed_ast.specs.View.{value_of}
use Rattle.lower_correct.specs.Code.{Loads}
use Rattle.lower_ops.specs.layer.FormSizes.{loads_size}
use Rattle.lower_ops.specs.layer.Parts.{Wrote}
use Rattle.lower_correct.specs.Values.{keeps}
use Rattle.lower_exprs.proofs.values.put_number_load.Goals as goal

pub returns : goal.returns
returns c = subst
    (λ o. Wrote (λ w p q. Loads w (keeps c.args.ty (value_of c.args.e.now)) c.args.ty o c.args.free.temporary p q) (loads_size (keeps c.args.ty (value_of c.args.e.now)) o) c.args.code.now.list.items c.put_load.new.code.list.items)
    c.waits_for_arguments-operand.ensures
    (subst (λ k. Wrote (λ w p q. Loads w k c.args.ty c.waits_for_arguments-operand.result c.args.free.temporary p q) (loads_size k c.waits_for_arguments-operand.result) c.args.code.now.list.items c.put_load.new.code.list.items)
    c.keeps.ensures c.in_ok-put_load.ensures)
