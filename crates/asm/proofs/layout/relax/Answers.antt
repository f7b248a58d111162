use Rattle.std.proofs.Common.{◌∙◌}
use Rattle.asm.proofs.Widening.{chosen_close}
use Rattle.asm.proofs.layout.relax.Goals as goal

pub returns-then-measure_close : goal.returns-then-measure_close
returns-then-measure_close c =
    chosen_close c.args.homes.now _ c.args.base c.args.items.now _ c.requires.table c.requires.none (c.measure_close.auto.places ∙ c.requires.room) c.if-measure_close.ensures.measured c.if-measure_close.ensures.close
