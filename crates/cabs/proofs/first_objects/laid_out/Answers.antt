use Rattle.std.proofs.Common.{◌≡◌, ◌∙◌, arith}
use Rattle.typing_spec.specs.Types.{elements_in}
use Rattle.cabs.proofs.Laid.{laid_whole}
use Rattle.cabs.proofs.first_objects.laid_out.Goals as goal

pub returns-in-Ok-array-clause-ok : goal.returns-in-Ok-array-clause-ok
returns-in-Ok-array-clause-ok c =
    let count : c.element_count.result ≡ elements_in c.args.lengths.now = omega (arith, c.element_count.ensures, c.in-Ok.ensures.size) in
    c.in-Ok-array.ensures ∙ laid_whole c.args.lengths.now c.in-Ok.cells.items c.args.values.now c.element_count.result count c.in-Ok.ensures.ok
