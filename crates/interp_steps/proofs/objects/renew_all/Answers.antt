use Rattle.std.proofs.Common.{◌≤◌, ◌+◌, ◌-◌, ◌∙◌, length, map, sym, arith, rules}
use Rattle.std.proofs.lemmas.List.{length-map}
use Rattle.typed_ast.specs.View.{object_type_of}
use Rattle.interp_store.specs.View.{tree_of}
use Rattle.interp_store.specs.layer.Agrees.{state_in}
use Rattle.interp_steps.proofs.Steps.{one_renewed, all_beyond}
use Rattle.interp_steps.proofs.objects.renew_all.Goals as goal

pub loop-i-preserved : goal.loop-i-preserved
loop-i-preserved c = λ o. one_renewed (map object_type_of c.args.objects.now) c.args.first c.loop-i.i c.args.count c.in-Some.n (state_in c.loop-i.scene o) (state_in c.renew.new.self o) _
    c.loop-i-test.true (search rules) (c.in-Ok.ensures.ok o) (c.loop-i.invariant o)

pub returns-in_default-clause-ok : goal.returns-in_default-clause-ok
returns-in_default-clause-ok c = λ o.
    let objects = c.loop-i.scene.store.objects in
    let few : length (map tree_of objects.items) ≤ c.args.first + c.loop-i.i = omega (arith, length-map objects.items tree_of, objects.ok, objects.small, c.in_default.ensures) in
    sym (all_beyond (map object_type_of c.args.objects.now) (c.args.first + c.loop-i.i) (c.args.count - c.loop-i.i) (state_in c.loop-i.scene o) few) ∙ c.loop-i.invariant o
