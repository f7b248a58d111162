use Rattle.std.proofs.Common.{◌∙◌, ap}
use Rattle.interp_store.proofs.Scenes.{no_type, of_type}
use Rattle.csem.specs.Store.{filled}
use Rattle.std.specs.Prelude.{None}
use Rattle.interp_store.proofs.scene.new_object.Goals as goal

pub returns-in-None-clause-ok : goal.returns-in-None-clause-ok
returns-in-None-clause-ok c = no_type c.args.objects.now c.args.n c.in-None.ensures.lookup.3

pub returns-in-Ok-clause-ok : goal.returns-in-Ok-clause-ok
returns-in-Ok-clause-ok c = of_type c.args.objects.now c.args.n c.in-Some.ty.now _ c.in-Some.ensures.lookup.3.0 c.in-Some.ensures.lookup.1 (c.in-Ok.ensures ∙ ap (filled None) c.as_slice.ensures.value)
