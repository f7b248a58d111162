use Rattle.std.proofs.Common.{◌∙◌, ap, map, Some}
use Rattle.std.specs.Prelude.{slice_get}
use Rattle.interp_store.specs.View.{tree_of, path_of, reference_of}
use Rattle.csem.specs.Store.{at_path, value_of}
use Rattle.interp_store.proofs.Trees.{no_object, some_object}
use Rattle.interp_store.proofs.store.Store.value.Goals as goal

pub returns-in-None : goal.returns-in-None
returns-in-None c = ap value_of (no_object c.args.self.now.objects.items (reference_of c.args.r.now).object (path_of c.args.r.now.path) c.in-None.ensures.none)

pub returns-in-Some : goal.returns-in-Some
returns-in-Some c =
    let ts = c.args.self.now.objects.items in
    let path = path_of c.args.r.now.path in
    c.value.ensures ∙ ap (λ path. value_of (at_path (Some (tree_of c.index.result.now)) path)) c.subscripts.ensures
    ∙ ap value_of (some_object ts c.in-Some.n c.index.result.now path c.in-Some.ensures.lives c.index.ensures)
    ∙ ap (λ i. value_of (at_path (slice_get (map tree_of ts) i) path)) c.in-Some.ensures.is
