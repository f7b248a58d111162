use Rattle.std.proofs.Common.{◌≡◌, ap, sym, [], to_z, of_z, w64}
use Rattle.std.proofs.Math.Facts.{to_z-of_z}
use Rattle.interp_store.proofs.Trees.{no_object_put, object_changed}
use Rattle.interp_store.specs.View.{path_of}
use Rattle.csem.specs.Store.{with_value}
use Rattle.interp_store.proofs.store.Store.set.Goals as goal

pub returns-in_default : goal.returns-in_default
returns-in_default c = no_object_put c.args.self.now.objects.items _ (path_of c.args.r.now.path) _ c.in_default.ensures.none

pub returns-then-is_whole : goal.returns-then-is_whole
returns-then-is_whole c =
    let same : to_z w64 (of_z w64 c.args.v) ≡ c.args.v = to_z-of_z c.ranges.v in
    object_changed (with_value c.args.v) (with_value _) c.set_whole.result c.args.self.now.objects.items _ c.in-Some.n c.index_mut.result.now c.set_whole.new.self (path_of c.args.r.now.path) []
    (λ o. ap (λ v. with_value v o) same) c.in-Some.ensures.is c.in-Some.ensures.lives c.index_mut.ensures.value (sym (c.is_whole.ensures c.if-is_whole.true)) c.set_whole.ensures

pub returns : goal.returns
returns c =
    let same : to_z w64 (of_z w64 c.args.v) ≡ c.args.v = to_z-of_z c.ranges.v in
    object_changed (with_value c.args.v) (with_value _) c.set.result c.args.self.now.objects.items _ c.in-Some.n c.index_mut-2.result.now c.set.new.self (path_of c.args.r.now.path) _
    (λ o. ap (λ v. with_value v o) same) c.in-Some.ensures.is c.in-Some.ensures.lives c.index_mut-2.ensures.value c.subscripts.ensures c.set.ensures
