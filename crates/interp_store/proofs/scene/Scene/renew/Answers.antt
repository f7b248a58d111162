use Rattle.std.proofs.Common.{◌≡◌, ◌≤◌, ◌+◌, length, ap, rules, arith}
use Rattle.std.proofs.lemmas.List.{length-map}
use Rattle.csem.specs.Store.{whole}
use Rattle.interp_store.specs.View.{store_of, tree_of}
use Rattle.interp_store.proofs.Scenes.{renews, renews_nothing}
use Rattle.interp_store.proofs.scene.Scene.renew.Goals as goal

pub returns-in_default-clause-ok : goal.returns-in_default-clause-ok
returns-in_default-clause-ok c = λ o.
    let s = c.args.self.now in
    let ts = s.store.objects in
    let far : 18446744073709551616 ≤ s.base + c.args.n = omega (arith, c.in_default.ensures) in
    let beyond : length (store_of s.store) ≤ s.base + c.args.n = omega (arith, far, length-map ts.items tree_of, ts.ok, ts.small) in
    renews_nothing _ _ c.args.n beyond

pub returns-clause-ok : goal.returns-clause-ok
returns-clause-ok c = λ o.
    let number : c.in-Some.number ≡ c.args.self.now.base + c.args.n = search rules in
    renews _ _ _ _ _ _ c.put.ensures (ap whole number) c.in-Ok.ensures.ok
