use Rattle.std.proofs.Common.{◌≡◌, IfOk, subst}
use Rattle.interp_store.specs.View.{tree_of}
use Rattle.cabs.proofs.Laid.{literal_laid}
use Rattle.cabs.proofs.first_objects.literal_object.Goals as goal

pub returns-in-Ok : goal.returns-in-Ok
returns-in-Ok c = subst (λ o. IfOk c.row.result (λ t. tree_of t ≡ o)) (literal_laid c.args.text.now c.in-Ok.cells.items c.in-Ok.ensures) c.row.ensures
