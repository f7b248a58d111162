use Rattle.std.proofs.Common.{sym, ◌∙◌}
use Rattle.decls_initialisers.proofs.Rules.{fits_exceeds, fits_fine}
use Rattle.decls_initialisers.proofs.typing.fits_room.Goals as goal

pub returns-then-exceeds-clause-err : goal.returns-then-exceeds-clause-err
returns-then-exceeds-clause-err c = fits_exceeds c.broken-then-exceeds.result c.args.pos c.args.room c.args.parts.now c.broken-then-exceeds.ensures (sym c.exceeds.ensures ∙ c.if-exceeds.true)

pub returns-clause-ok : goal.returns-clause-ok
returns-clause-ok c = fits_fine c.args.pos c.args.room c.args.parts.now (sym c.is_empty.ensures ∙ c.if-is_empty.false) (sym c.exceeds.ensures ∙ c.if-exceeds.false)
