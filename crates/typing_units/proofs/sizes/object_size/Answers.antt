use Rattle.std.proofs.Common.{ap, ◌∙◌}
use Rattle.ctypes.specs.Types.{bytes_of}
use Rattle.tree.specs.Capped.{capped32}
use Rattle.typing_spec.specs.Types.{elements_in}
use Rattle.typing_units.proofs.Bytes.{few_bytes, capped32_small}
use Rattle.typing_units.proofs.sizes.object_size.Goals as goal

pub returns : goal.returns
returns c =
    c.product.ensures (bytes_of c.args.object.now.element) (elements_in c.args.object.now.lengths.items) (c.size_of.ensures ∙ capped32_small (bytes_of c.args.object.now.element) (few_bytes c.args.object.now.element))
    (c.elements.ensures ∙ ap (λ l. capped32 (elements_in l)) c.deref.ensures.value)
