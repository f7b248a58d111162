use Rattle.std.proofs.Common.{ap, sym, ◌∙◌}
use Rattle.tac_code.specs.declared.code.Place.TheVariants as place
use Rattle.lower_correct.specs.Places.{found}
use Rattle.lower_ops.proofs.Held.{sees_named, sees_element}
use Rattle.lower_ops.proofs.spots.found.Goals as goal

pub returns-in-Named : goal.returns-in-Named
returns-in-Named c = c.named_spot.ensures ∙ ap (λ p. found p c.args.has_calls c.args.temporary c.args.slot) (sym (sees_named c.args.place.now c.in-Named.field-0 c.in-Named.what c.in-Named.is))

pub returns-in-Element : goal.returns-in-Element
returns-in-Element c = ap (λ o. place.At o) c.pending.ensures ∙ ap (λ p. found p c.args.has_calls c.args.temporary c.args.slot) (sym (sees_element c.args.place.now c.in-Element.field-0 c.in-Element.field-1 c.in-Element.field-2 c.in-Element.is))
