use Rattle.std.proofs.Common.{refl}
use Rattle.interp_store.proofs.Trees.{no_object_put, object_changed}
use Rattle.interp_store.specs.View.{path_of}
use Rattle.csem.specs.Store.{with_zeros}
use Rattle.interp_store.proofs.store.Store.zero.Goals as goal

pub returns-in_default : goal.returns-in_default
returns-in_default c = no_object_put c.args.self.now.objects.items _ (path_of c.args.r.now.path) _ c.in_default.ensures.none

pub returns : goal.returns
returns c =
    object_changed with_zeros with_zeros c.zero.result c.args.self.now.objects.items _ c.in-Some.n c.index_mut.result.now c.zero.new.self (path_of c.args.r.now.path) _
    (λ o. refl) c.in-Some.ensures.is c.in-Some.ensures.lives c.index_mut.ensures.value c.subscripts.ensures c.zero.ensures
