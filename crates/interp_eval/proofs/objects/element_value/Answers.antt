use Rattle.std.proofs.Common.{sym, ◌∙◌}
use Rattle.std.proofs.Math.Facts.{to_z-of_z}
use Rattle.interp_eval.proofs.Wholes.{by_number}
use Rattle.interp_eval.proofs.objects.element_value.Goals as goal

pub returns-in-Some : goal.returns-in-Some
returns-in-Some c = λ at o.
    by_number at c.args.scene.now o c.args.n c.in-Some.i c.args.subscript c.part_value.result
    (sym (to_z-of_z c.ranges.subscript) ∙ c.part_number.ensures c.in-Some.i c.in-Some.is) (c.part_value.ensures at o)
