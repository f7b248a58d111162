use Rattle.std.proofs.Common.{ap, sym, ◌∙◌}
use Rattle.lower_correct.specs.Values.{object_of}
use Rattle.lower_ops.proofs.Held.{sees_named}
use Rattle.lower_ops.proofs.objects.object_of.Goals as goal

pub returns-in-Named : goal.returns-in-Named
returns-in-Named c = c.object_named.ensures c.in-Named.field-0 ∙ ap object_of (sym (sees_named c.args.place.now c.in-Named.field-0 c.in-Named.what c.in-Named.is))
