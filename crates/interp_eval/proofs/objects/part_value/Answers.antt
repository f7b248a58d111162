use Rattle.std.proofs.Common.{ap, arith, length, List, get_or, refl, ◌∙◌}
use Rattle.interp_store.specs.declared.element_tree.Tree.{Tree}
use Rattle.interp_eval.proofs.Wholes.{part_read}
use Rattle.interp_eval.proofs.objects.part_value.Goals as goal

pub returns-in-Some : goal.returns-in-Some
returns-in-Some c = λ at o.
    let ts : List Tree = c.args.scene.now.store.objects.items in
    let t : Tree = c.in-Some.object.now in
    part_read at c.args.scene.now o c.args.n c.args.i ts t c.part_value.result refl
    (omega (arith, c.in-Some.ensures.lookup.3.0, ap (λ (ts : List Tree). length ts) c.deref.ensures.value))
    (c.in-Some.ensures.lookup.1 ∙ ap (λ (ts : List Tree). get_or ts c.args.n t) c.deref.ensures.value)
    c.part_value.ensures
