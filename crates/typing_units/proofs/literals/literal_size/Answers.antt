use Rattle.std.proofs.Common.{ap, ◌∙◌, arith}
use Rattle.tree.specs.Capped.{capped32}
use Rattle.typing_units.proofs.Sums.{capped32_one}
use Rattle.typing_scopes.specs.Scopes.{with_texts}
use Rattle.typing_units.proofs.Bytes.{literal_is, capped_small}
use Rattle.typing_units.proofs.literals.literal_size.Goals as goal

pub returns : goal.returns
returns c = λ s.
    c.in_words.ensures _ (c.sum.ensures _ 1 (c.narrowed.ensures c.literal_length-count.result (capped_small c.literal_length-count.result (omega arith))) capped32_one)
    ∙ ap capped32 (literal_is (with_texts c.args.names.now s) c.args.name c.literal_length-count.result (c.literal_length-count.ensures s))
